use Rattle.std.proofs.Common.{◌≡◌, drop, find}
use Rattle.std.specs.List.{zip}
use Rattle.dev_tree.specs.Tree.{has_name}
use Rattle.dev_tree.proofs.lookup.serial_named.Given as goal

abbrev pub invariant-loop-place : goal.invariant-loop-place
invariant-loop-place l = find (has_name l.device l.unit) (drop l.place (zip l.live l.drivers)) ≡ find (has_name l.device l.unit) (zip l.live l.drivers)
