-- Scripts that pass the test, and scripts that don't.
use Rattle.std.proofs.Common.{◌≡◌, ℕ, true, false, List, [], ◌∷◌, refl}
use Rattle.std.specs.Prelude.{codes}
use Rattle.cf_types.specs.declared.machine.Command.TheVariants.{OpenDev, OpenSole, CloseDev, Io, Detach, Unplug}
use Rattle.progress_laws.specs.Plain.{lets_go_first}

disk : List ℕ
disk = codes "wd0"

uart : List ℕ
uart = codes "com0"

-- what is closed again is let go
closed : lets_go_first (OpenDev disk ∷ Io disk 5 ∷ CloseDev disk ∷ Detach uart ∷ []) ≡ true
unfolding disk uart
closed = refl

-- a detach comes first
before : lets_go_first (Detach uart ∷ OpenDev disk ∷ Io disk 5 ∷ []) ≡ true
before = refl

-- nothing is detached, and what is held at the end is returned then
held : lets_go_first (OpenDev disk ∷ OpenSole uart ∷ []) ≡ true
held = refl

-- one is still open
open_one : lets_go_first (OpenDev disk ∷ OpenDev uart ∷ CloseDev disk ∷ Detach disk ∷ []) ≡ false
unfolding disk uart
open_one = refl

-- as many closes as opens are needed, and behind them
twice : lets_go_first (OpenDev disk ∷ OpenDev disk ∷ CloseDev disk ∷ Unplug uart ∷ []) ≡ false
unfolding disk uart
twice = refl

too_early : lets_go_first (CloseDev disk ∷ OpenSole disk ∷ Unplug uart ∷ []) ≡ false
unfolding disk uart
too_early = refl
