-- How compiling a configuration ends.
use Rattle.std.specs.Prelude.{◌≡◌, ℕ, ◌≤◌, Option, Some, IfSome, Result, Ok, Err, List}
use Rattle.cf_types.specs.declared.tables.Tables.{Tables}
use Rattle.cf_io.specs.Asked.{AsksFront}
use Rattle.cf_io.specs.Faults.{Rose}
use Rattle.cf_io.specs.Load.{asked_behind}
use Rattle.cf_expand.specs.declared.stop.ExpandStop.{ExpandStop}
use Rattle.cf_expand.specs.declared.stop.ExpandStop.TheVariants as read
use Rattle.config_rules.specs.Fault.{first_fault}
use Rattle.config_rules.specs.Meaning.{Means}
use Rattle.config_rules.specs.Reading.{Files}
use Rattle.cf_compile.specs.declared.stop.CompileStop.{CompileStop}
use Rattle.cf_compile.specs.declared.stop.CompileStop.TheVariants.{Refused, ReadFault, Memory}

-- why reading stopped is why compiling does
abbrev pub stop_of : ExpandStop → CompileStop
stop_of read.ReadFault = ReadFault
stop_of read.Memory = Memory

-- where the files are told, the tables are what the configuration means, or the refusal is its first fault; the count of
-- faults of reading rose exactly where a file could not be read, or stands at its last value
abbrev pub Compiles : Option Files → List ℕ → ℕ → ℕ → Result Tables CompileStop → Type 0
Compiles told name before after (Ok tables) = IfSome told (λ files. Means files name tables) × (after ≡ before)
Compiles told name before after (Err (Refused refusal)) = IfSome told (λ files. first_fault files name ≡ Some refusal) × (after ≡ before)
Compiles told name before after (Err ReadFault) = (before ≤ after) × Rose before after
Compiles told name before after (Err Memory) = after ≡ before

-- the due files were asked for, in their order; or a front of them, where a file could not be read or memory ran out
abbrev pub AsksDue : {A : Type 0} → List (List ℕ) → Result A CompileStop → Option (List (List ℕ)) → Option (List (List ℕ)) → Type 0
AsksDue due (Ok done) old new = new ≡ asked_behind old due
AsksDue due (Err (Refused refusal)) old new = new ≡ asked_behind old due
AsksDue due (Err ReadFault) old new = AsksFront due old new
AsksDue due (Err Memory) old new = AsksFront due old new
