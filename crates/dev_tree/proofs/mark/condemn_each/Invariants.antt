use Rattle.std.proofs.Common.{◌≡◌}
use Rattle.run_rules.specs.After.{with_condemner}
use Rattle.dev_tree.proofs.Halves.{half}
use Rattle.dev_tree.proofs.mark.condemn_each.Given as goal

abbrev pub invariant-loop-place : goal.invariant-loop-place
invariant-loop-place l = l.live ≡ half (with_condemner l.initial.live l.caller l.serial) l.place l.initial.live
