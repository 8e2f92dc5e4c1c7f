-- What reading a whole file answers: with what is left of the file, where that is told. And what a stream of the host is.
use Rattle.std.specs.Prelude.{◌≡◌, ℕ, ◌<◌, ◌≤◌, Option, None, IfSome, List, [], length, ⊤}
use Rattle.cf_io.specs.Told.{Told}
use Rattle.cf_io.specs.declared.files.Load.{Load}
use Rattle.cf_io.specs.declared.files.Load.TheVariants.{Whole, TooLong, Absent, Failed, Memory}
use Rattle.cf_io.specs.declared.files.TheConstants.{MAX_FILE}

-- all that was left, which is no more than a file may have; or it is more
abbrev pub Reads : Option (List ℕ) → List ℕ → Load → Type 0
Reads left into Whole = (length into ≤ MAX_FILE) × IfSome left (λ bytes. into ≡ bytes)
Reads left into TooLong = IfSome left (λ bytes. MAX_FILE < length bytes)
Reads left into Absent = ⊥
Reads left into Failed = ⊤
Reads left into Memory = ⊤

-- what a stream holds, where it tells, and how often writing has failed
pub record Stream : Type 0 where
  pub contents : Option (List ℕ)
  pub faults : ℕ

-- it does not tell what was written, and holds nothing back
abbrev pub told_of : Stream → Told
told_of s = record { stream = None; held = []; faults = s.faults }
