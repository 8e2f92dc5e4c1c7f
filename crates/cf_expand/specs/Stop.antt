-- How a call that loads files ended.
use Rattle.std.specs.Prelude.{◌≡◌, ℕ, ◌≤◌, Result, Ok, Err}
use Rattle.cf_io.specs.Faults.{Rose}
use Rattle.cf_expand.specs.declared.stop.ExpandStop.{ExpandStop}
use Rattle.cf_expand.specs.declared.stop.ExpandStop.TheVariants.{ReadFault, Memory}

-- a fault of reading raised the count, and nothing else changed it
abbrev pub Counted : {A : Type 0} → ℕ → ℕ → Result A ExpandStop → Type 0
Counted before after (Ok done) = after ≡ before
Counted before after (Err ReadFault) = (before ≤ after) × Rose before after
Counted before after (Err Memory) = after ≡ before
