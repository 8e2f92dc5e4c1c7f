-- What reading a line answers.
use Rattle.std.specs.Prelude.{◌≡◌, ◌≤◌, ℕ, List, ◌∷◌, ◌++◌, decimal, Option, Some, None}
use Rattle.run_rules.specs.declared.event.Event.{Event}
use Rattle.run_rules.specs.Lines.{IsFormed, line_of}

-- the event is formed and has this spelling
abbrev pub IsSpelling : Event → List ℕ → Type 0
IsSpelling e line = IsFormed e × (line_of e ≡ line)

-- the event itself, exactly where this is so
abbrev pub Keeps : Event → List ℕ → Option Event → Type 0
Keeps e line (Some f) = (f ≡ e) × IsSpelling e line
Keeps e line None = IsSpelling e line → ⊥

-- the formed event that has this spelling; none exactly where no formed event has it
abbrev pub Spells : List ℕ → Option Event → Type 0
Spells line (Some e) = IsSpelling e line
Spells line None = (e : Event) → IsSpelling e line → ⊥

-- the line begins with the caller's number and a dot
pub record NamesCaller (line : List ℕ) (caller : ℕ) : Type 0 where
  pub low : caller ≤ 16
  pub rest : List ℕ
  pub begins : line ≡ decimal caller ++ 46 ∷ rest
