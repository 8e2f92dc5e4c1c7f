-- What every program promises of a call, as one statement: `Answers`. A `Does` has what a program says of its own.
use Rattle.std.specs.Prelude.{◌≡◌, ℕ, ◌≤◌, Option, IfSome, List}
use Rattle.cf_io.specs.Faults.{Rose}
use Rattle.cf_io.specs.Told.{Takes, Told}
use Rattle.config_rules.specs.Reading.{Files}
use Rattle.app_words.specs.declared.status.Status.{Status}
use Rattle.app_output.specs.Ended.{Faults, OrMemory}

-- what a program says of its own, for its words
pub record Does : Type 1 where
  -- why it ends with a status, by the files, and what its output then got, from before to after
  pub Explains : Option Files → Told → Told → Status → Type 0
  -- that the files call for a status
  pub CallsFor : Files → Status → Type 0
  -- which files it asks for, by the files and the status: the names that were asked for, before and after
  pub AsksFor : Option Files → Status → Option (List (List ℕ)) → Option (List (List ℕ)) → Type 0
  -- the line on standard error
  pub err_text : Status → List ℕ

-- what contracts see at a moment: the files by name, and the names that were asked for, if they are told; how often reading has failed;
-- the output, and standard error
pub record Seen : Type 0 where
  pub files : Option Files
  pub asked : Option (List (List ℕ))
  pub faults : ℕ
  pub out : Told
  pub err : Told

abbrev pub seen : Option Files → Option (List (List ℕ)) → ℕ → Told → Told → Seen
seen files asked faults out err = record { files = files; asked = asked; faults = faults; out = out; err = err }

-- what holds of a call that ended with this status, by what contracts see before and after it
pub record Answers (does : Does) (old new : Seen) (status : Status) : Type 0 where
  -- the status has its cause in the words and the files, and the output got what goes with it
  pub explained : does.Explains old.files old.out new.out status
  -- the counts of read faults and of write faults rose as the status says, and not otherwise
  pub faults : Faults old.faults new.faults old.out.faults new.out.faults status
  -- if the files are told and no fault was counted, the status is the one that they call for, or memory ran out
  pub due : IfSome old.files (λ files. ¬ Rose old.faults new.faults → ¬ Rose old.out.faults new.out.faults → OrMemory (does.CallsFor files) status)
  -- the files that are due were asked for, in their order, or a prefix of them if a read failed or memory ran out
  pub asked : does.AsksFor old.files status old.asked new.asked
  -- the files are as before
  pub files : new.files ≡ old.files
  -- standard error got the line of the status, with nothing held back, or a prefix of it if its count of faults rose
  pub err : Takes (does.err_text status) old.err new.err
  -- that count never falls
  pub err_counted : old.err.faults ≤ new.err.faults
