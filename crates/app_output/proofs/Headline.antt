-- The answer to a call, by why the program ended and how the status was told.
use Rattle.std.proofs.Common.{◌≡◌, ℕ, Option, List, subst}
use Rattle.std.specs.Prelude.{◌⊎◌, IfSome}
use Rattle.cf_io.specs.Faults.{Rose}
use Rattle.cf_io.specs.Told.{Takes, Told}
use Rattle.config_rules.specs.Reading.{Files}
use Rattle.app_words.specs.declared.status.Status.{Status}
use Rattle.app_words.specs.declared.status.Status.TheVariants.{Memory}
use Rattle.app_output.specs.Ended.{Faults, OrMemory}
use Rattle.app_output.specs.Headline.{Answers, Does, Seen}
use Rattle.app_output.proofs.Ended.{due_told, err_rises, faults_told}

-- what a program says of its own bears that memory runs out while the status is told
pub record Bears (does : Does) : Type 0 where
  pub explained : (told : Option Files) (old new : Told) (status result : Status) → does.Explains told old new status → (result ≡ status) ⊎ (result ≡ Memory)
      → does.Explains told old new result
  pub asked : (told : Option Files) (status result : Status) (old new : Option (List (List ℕ))) → does.AsksFor told status old new → (result ≡ status) ⊎ (result ≡ Memory)
      → does.AsksFor told result old new

-- the program ended with a status, which is then told
pub record Ends (does : Does) (old new : Seen) (status : Status) : Type 0 where
  pub explained : does.Explains old.files old.out new.out status
  pub faults : Faults old.faults new.faults old.out.faults new.out.faults status
  pub due : IfSome old.files (λ files. ¬ Rose old.faults new.faults → ¬ Rose old.out.faults new.out.faults → OrMemory (does.CallsFor files) status)
  pub asked : does.AsksFor old.files status old.asked new.asked
  pub files : new.files ≡ old.files

told_so : (does : Does) (old new : Seen) (status result : Status) → Bears does → Ends does old new status → (result ≡ status) ⊎ (result ≡ Memory)
    → Takes (does.err_text result) old.err new.err → Answers does old new result
told_so does old new status result bears ends is took = record {
  explained = bears.explained old.files old.out new.out status result ends.explained is;
  faults = faults_told old.faults new.faults old.out.faults new.out.faults status result ends.faults is;
  due = due_told old.files does.CallsFor old.faults new.faults old.out.faults new.out.faults status result ends.due is;
  asked = bears.asked old.files status result old.asked new.asked ends.asked is;
  files = ends.files;
  err = took;
  err_counted = err_rises (does.err_text result) old.err new.err took;
}

pub answers : (does : Does) (old new : Seen) (status given result : Status) → Bears does → Ends does old new status → given ≡ status → (result ≡ given) ⊎ (result ≡ Memory)
    → Takes (does.err_text result) old.err new.err → Answers does old new result
answers does old new status given result bears ends same is took =
    told_so does old new status result bears ends (subst (λ (s : Status). (result ≡ s) ⊎ (result ≡ Memory)) same is) took
