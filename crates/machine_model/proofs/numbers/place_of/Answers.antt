use Rattle.std.proofs.Common.{rules}
use Rattle.std.proofs.lemmas.List.Sorted.{IsPartitionPoint-from_clause}
use Rattle.machine_model.specs.NumberedNames.{comes_before}
use Rattle.machine_model.proofs.NumberLemmas.{parted}
use Rattle.machine_model.proofs.numbers.place_of.Goals as goal

pub returns : goal.returns
returns c = rw (← c.deref.ensures.value) (
  c.partition_point.ensures.bound,
  IsPartitionPoint-from_clause (λ x. comes_before x.name.now c.args.name.now) _ _ c.partition_point.ensures.partitioned (rw c.deref.ensures.value (parted c.args.numbers.now.items c.args.name.now c.requires)) (λ a r q k. search rules),
)
