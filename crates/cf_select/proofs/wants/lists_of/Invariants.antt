use Rattle.std.proofs.Common.{◌≡◌, ℕ, map, take}
use Rattle.config_rules.specs.Meaning.{inst_of}
use Rattle.cf_select.specs.Wanted.{waits, wants_at}
use Rattle.cf_select.specs.declared.want.Want.{Want}
use Rattle.cf_select.proofs.wants.lists_of.Given as goal

abbrev pub invariant-loop-place : goal.invariant-loop-place
invariant-loop-place l = (q : Want) (x : ℕ) → waits l.lists q x ≡ wants_at (map inst_of (take l.place l.instances)) q x
