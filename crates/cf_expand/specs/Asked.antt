-- Which files were asked for since reading began.
use Rattle.std.specs.Prelude.{◌≡◌, ℕ, ◌-◌, Option, Some, List, Result, Ok, Err}
use Rattle.cf_io.specs.Asked.{Asks, AsksFront}
use Rattle.cf_io.specs.Load.{asked_behind}
use Rattle.config_rules.specs.Reading.{Files, Reading, Statement}
use Rattle.cf_expand.specs.declared.source.Source.{Source}

-- those that are told; or, where the call stopped, a front of those that are due
abbrev pub AsksStep : {A E : Type 0} → List (List ℕ) → List (List ℕ) → Result A E → Option (List (List ℕ)) → Option (List (List ℕ)) → Type 0
AsksStep due told (Ok done) start asked = asked ≡ asked_behind start told
AsksStep due told (Err stop) start asked = AsksFront due start asked

-- the same of an include on this line, of which the whole reading is told
abbrev pub AsksAt : {A E : Type 0} → Option Files → ℕ → Reading → Reading → (Files → ℕ → Statement → Reading) → Result A E → Option (List (List ℕ)) → Option (List (List ℕ)) → Type 0
AsksAt told line old new whole result before after =
    (files : Files) → told ≡ Some files → (start : Option (List (List ℕ))) (around : ℕ) (s : Statement) → s.line ≡ line
    → before ≡ asked_behind start old.asked → AsksStep (whole files around s).asked new.asked result start after

-- a call that reads on in a source asked for what the whole reading tells, behind what was asked for before
abbrev pub AsksIn : {A E : Type 0} → Option Files → Source → Reading → (Files → ℕ → Reading) → Result A E → Option (List (List ℕ)) → Option (List (List ℕ)) → Type 0
AsksIn told source old whole result before after =
    (files : Files) → told ≡ Some files → (start : Option (List (List ℕ))) (around : ℕ) → source.room ≡ 16 - around
    → before ≡ asked_behind start old.asked → Asks (whole files around).asked result start after
