-- Which of the files that are due were asked for.
use Rattle.std.specs.Prelude.{◌≡◌, ℕ, Option, List, ◌++◌, Result, Ok, Err}
use Rattle.cf_io.specs.Load.{asked_behind}

-- a front of the due files was asked for, in their order
pub record AsksFront (due : List (List ℕ)) (old new : Option (List (List ℕ))) : Type 0 where
  pub front : List (List ℕ)
  pub rest : List (List ℕ)
  pub parts : due ≡ front ++ rest
  pub asked : new ≡ asked_behind old front

-- all due files were asked for, in their order, or a front of them where the call stopped
abbrev pub Asks : {A E : Type 0} → List (List ℕ) → Result A E → Option (List (List ℕ)) → Option (List (List ℕ)) → Type 0
Asks due (Ok done) old new = new ≡ asked_behind old due
Asks due (Err stop) old new = AsksFront due old new
