-- What is said of a spot to which no search came is never empty.
use Rattle.std.specs.Prelude.{◌≡◌, ◌<◌, ℕ, length, None, IsSome}
use Rattle.run_rules.specs.declared.world.Setup.{Setup}
use Rattle.run_sound.specs.Kept.{MayRun}
use Rattle.plain_world.specs.Plain.{world_of}
use Rattle.boot_looks.specs.declared.boot.BootLooks.{BootLooks}
use Rattle.boot_looks.specs.Looks.{AreBootLooks, look_at}
use Rattle.why_answers.specs.Answers.{unsearched}

-- of each spot of the machine to which no search of the boot came there is a reason when the boot has ended
abbrev pub UnsearchedHaveReasons : Type 0
UnsearchedHaveReasons =
    (s : Setup) (b : BootLooks) (x : ℕ) → MayRun s → AreBootLooks s b → x < length s.machine.spots → look_at b.looks x ≡ None
    → IsSome (unsearched (world_of s b.end) x)
