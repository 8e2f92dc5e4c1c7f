-- How a program ends whose scripts may stand still, why, and what its output then got. `Whole` says which text is asked for where all scripts
-- end; `Still` says which text is, and which lines on standard error, where some of them stand still.
use Rattle.std.specs.Prelude.{◌≡◌, ℕ, ◌⊎◌, ⊤, Result, List}
use Rattle.std.specs.Prelude as std
use Rattle.cf_io.specs.Told.{Told}
use Rattle.app_words.specs.declared.status.Status.{Status}
use Rattle.app_words.specs.declared.status.Status.TheVariants.{Ok, Stuck}
use Rattle.app_output.specs.Ended.{OrMemory, status_after}
use Rattle.app_output.specs.Ended as ended
use Rattle.app_output.specs.declared.stop.OutputStop.{OutputStop}

-- a text of either kind
abbrev pub AsksEither : (List ℕ → Type 0) → (List ℕ → List ℕ → Type 0) → List ℕ → Type 0
AsksEither Whole Still text = Whole text ⊎ ((waits : List ℕ) × Still waits text)

-- the text by the status: at `Ok` that of scripts that all end, at `Stuck` that of scripts that stand still, with these lines, and else one of
-- the two
abbrev pub AsksBy : (List ℕ → Type 0) → (List ℕ → List ℕ → Type 0) → Status → List ℕ → Type 0
AsksBy Whole Still Ok text = Whole text
AsksBy Whole Still (Stuck waits) text = Still waits text
AsksBy Whole Still status text = AsksEither Whole Still text

-- at `Stuck` all was written, as at `Ok`
abbrev pub written_as : Status → Status
written_as (Stuck waits) = Ok
written_as status = status

-- why the program ends so, and what its output then got
abbrev pub Explains : (List ℕ → Type 0) → (List ℕ → List ℕ → Type 0) → (Status → Type 0) → Told → Told → Status → Type 0
Explains Whole Still IsRefused old new status = ended.Explains (AsksBy Whole Still status) IsRefused old new (written_as status)

-- the text that was found is asked for: that of scripts that all ended, or of scripts that stand still
abbrev pub FindsText : (List ℕ → Type 0) → (List ℕ → List ℕ → Type 0) → Type 0 → List ℕ → List ℕ → Type 0
FindsText Whole Still AllEnded waits text = (AllEnded × Whole text) ⊎ ((¬ AllEnded) × Still waits text)

-- the status by how the scripts are left and how writing ended: that all have ended, or the lines of those who wait, or memory ran out for them
abbrev pub EndsWith : {A : Type 0} → Type 0 → List ℕ → Result A OutputStop → Status → Type 0
EndsWith {A} AllEnded waits (std.Ok done) status = (AllEnded × (status ≡ Ok)) ⊎ ((¬ AllEnded) × OrMemory (λ s. s ≡ Stuck waits) status)
EndsWith {A} AllEnded waits (std.Err stop) status = status ≡ status_after {A = A} (std.Err stop)

abbrev pub IsStuckStatus : Status → Type 0
IsStuckStatus (Stuck waits) = ⊤
IsStuckStatus _ = ⊥

-- the status is the one that is called for, or a later one where `Ok` is
abbrev pub IsDueStatus : (Status → Type 0) → (Status → Type 0) → Status → Type 0
IsDueStatus IsLater CallsFor status = CallsFor status ⊎ (IsLater status × CallsFor Ok)
