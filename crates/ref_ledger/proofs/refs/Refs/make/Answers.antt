use Rattle.std.proofs.Common.{◌≡◌, [], false, refl, arith}
use Rattle.std.specs.List.{All}
use Rattle.run_rules.specs.declared.world.Ref.{Ref}
use Rattle.run_rules.specs.World.{has}
use Rattle.ref_ledger.specs.Refs.{IsHolder, IsKept}
use Rattle.ref_ledger.proofs.MaskLaws.{no_masks}
use Rattle.ref_ledger.proofs.refs.Refs.make.Goals as goal

none_kept : IsKept [] []
none_kept = record { callers = λ i r lt. absurd (omega arith); few = λ k s. omega arith; alone = λ s h. absurd cc }

pub invariant_of-result : goal.invariant_of-result
invariant_of-result c = rw (c.new.ensures.items, c.new-2.ensures.items, c.new-3.ensures.items) (record { kept = none_kept; indexed = no_masks })
