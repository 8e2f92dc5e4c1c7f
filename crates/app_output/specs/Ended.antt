-- How a program ended, why, and what its output then got.
use Rattle.std.specs.Prelude.{◌≡◌, ℕ, ◌≤◌, ◌⊎◌, Result, List}
use Rattle.std.specs.Prelude as std
use Rattle.cf_io.specs.Faults.{Rose}
use Rattle.cf_io.specs.Told.{Delivers, TakesFront, Told}
use Rattle.app_words.specs.declared.status.Status.{Status}
use Rattle.app_words.specs.declared.status.Status.TheVariants.{Ok, ReadFault, WriteFault, Memory}
use Rattle.app_output.specs.declared.stop.OutputStop.{OutputStop}
use Rattle.app_output.specs.declared.stop.OutputStop.TheVariants as stops

-- the status behind writing
abbrev pub status_after : {A : Type 0} → Result A OutputStop → Status
status_after (std.Ok done) = Ok
status_after (std.Err stops.WriteFault) = WriteFault
status_after (std.Err stops.Memory) = Memory

-- which counts of faults rose, of the files and of the output
abbrev pub Faults : ℕ → ℕ → ℕ → ℕ → Status → Type 0
Faults reads reads' writes writes' ReadFault = (reads ≤ reads') × Rose reads reads' × (writes' ≡ writes)
Faults reads reads' writes writes' WriteFault = (reads' ≡ reads) × (writes ≤ writes') × Rose writes writes'
Faults reads reads' writes writes' Memory = (reads ≤ reads') × (writes ≤ writes')
Faults reads reads' writes writes' status = (reads' ≡ reads) × (writes' ≡ writes)

-- why a program ends so, and what its output then got, where this says which text is asked for, and this why the words or the
-- files are refused: the stream got the text that is asked for, or the output a front of it, or nothing where memory ran out
-- before the run had ended, or at a refusal
abbrev pub Explains : (List ℕ → Type 0) → (Status → Type 0) → Told → Told → Status → Type 0
Explains IsAsked IsRefused old new Ok = (text : List ℕ) × IsAsked text × Delivers text old new
Explains IsAsked IsRefused old new WriteFault = (text : List ℕ) × IsAsked text × TakesFront text old new
Explains IsAsked IsRefused old new Memory = (new ≡ old) ⊎ ((text : List ℕ) × IsAsked text × TakesFront text old new)
Explains IsAsked IsRefused old new status = IsRefused status × (new ≡ old)

-- the status is one of these, or memory ran out
abbrev pub OrMemory : (Status → Type 0) → Status → Type 0
OrMemory IsDue status = (status ≡ Memory) ⊎ IsDue status
