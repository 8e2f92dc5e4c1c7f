-- Why a configuration was not compiled, as a status.
use Rattle.std.proofs.Common.{◌≡◌, ℕ, List, Option, subst, sym}
use Rattle.std.specs.Prelude as std
use Rattle.cf_compile.specs.Compiles.{Compiles}
use Rattle.cf_compile.specs.declared.stop.CompileStop.{CompileStop}
use Rattle.cf_compile.specs.declared.stop.CompileStop.TheVariants as stops
use Rattle.config_rules.specs.Reading.{Files}
use Rattle.app_input.specs.Inputs.{ReadsTables}
use Rattle.app_words.specs.Status.{Counts}
use Rattle.app_input.specs.Stop.{status_of_stop}
use Rattle.app_words.specs.declared.status.Status.{Status}

stopped : (told : Option Files) (name : List ℕ) (before after : ℕ) (stop : CompileStop) → Compiles told name before after (std.Err stop) → ReadsTables told name (std.Err (status_of_stop stop))
stopped told name before after (stops.Refused refusal) why = why.0
stopped told name before after stops.ReadFault why = tt
stopped told name before after stops.Memory why = tt

counted : (A : Type 0) (told : Option Files) (name : List ℕ) (before after : ℕ) (stop : CompileStop) → Compiles told name before after (std.Err stop)
    → Counts {A = A} before after (std.Err (status_of_stop stop))
counted A told name before after (stops.Refused refusal) why = why.1
counted A told name before after stops.ReadFault why = why
counted A told name before after stops.Memory why = why

pub stopped_by : (told : Option Files) (name : List ℕ) (before after : ℕ) (stop : CompileStop) (status : Status) → status ≡ status_of_stop stop
    → Compiles told name before after (std.Err stop) → ReadsTables told name (std.Err status)
stopped_by told name before after stop status is why = subst (λ (s : Status). ReadsTables told name (std.Err s)) (sym is) (stopped told name before after stop why)

pub counted_by : (A : Type 0) (told : Option Files) (name : List ℕ) (before after : ℕ) (stop : CompileStop) (status : Status) → status ≡ status_of_stop stop
    → Compiles told name before after (std.Err stop) → Counts {A = A} before after (std.Err status)
counted_by A told name before after stop status is why =
    subst (λ (s : Status). Counts {A = A} before after (std.Err s)) (sym is) (counted A told name before after stop why)
