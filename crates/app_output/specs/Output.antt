-- How putting a text to a sink ended.
use Rattle.std.specs.Prelude.{◌≡◌, ℕ, Result, Ok, Err, List}
use Rattle.cf_io.specs.Faults.{Rises}
use Rattle.cf_io.specs.Put.{Flushes}
use Rattle.cf_io.specs.Told.{Told, Delivers, Grows, TakesFront}
use Rattle.cf_io.specs.declared.sink.Flush.TheVariants as flush
use Rattle.app_output.specs.declared.stop.OutputStop.{OutputStop}
use Rattle.app_output.specs.declared.stop.OutputStop.TheVariants.{WriteFault, Memory}

-- the sink took a front of the text, and the count of faults rose, or memory ran out
abbrev pub Stops : List ℕ → Told → Told → OutputStop → Type 0
Stops text old new WriteFault = TakesFront text old new × Rises old.faults new.faults
Stops text old new Memory = TakesFront text old new × (new.faults ≡ old.faults)

-- the sink took the text, or a front of it
abbrev pub Puts : {A : Type 0} → List ℕ → Told → Told → Result A OutputStop → Type 0
Puts text old new (Ok done) = Grows text old new × (new.faults ≡ old.faults)
Puts text old new (Err stop) = Stops text old new stop

-- the stream got the text, and nothing is held any longer; or the sink took a front of it
abbrev pub Writes : {A : Type 0} → List ℕ → Told → Told → Result A OutputStop → Type 0
Writes text old new (Ok done) = Delivers text old new × (new.faults ≡ old.faults)
Writes text old new (Err stop) = Stops text old new stop

-- what was held was handed on, or a front of it
abbrev pub IsFlushed : {A : Type 0} → Told → Told → Result A OutputStop → Type 0
IsFlushed old new (Ok done) = Flushes flush.All old new
IsFlushed old new (Err WriteFault) = Flushes flush.Failed old new
IsFlushed old new (Err Memory) = ⊥
