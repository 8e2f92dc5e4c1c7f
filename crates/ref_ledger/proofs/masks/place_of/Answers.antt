use Rattle.std.proofs.Common.{rules}
use Rattle.std.specs.Prelude.{nat_lt}
use Rattle.std.proofs.lemmas.Bool.{ltb-true, ltb-false}
use Rattle.std.proofs.lemmas.List.Sorted.{IsPartitionPoint-from_clause, IsPartitionedBy-ltb}
use Rattle.ref_ledger.proofs.PlaceLaws.{serials_rise}
use Rattle.ref_ledger.proofs.masks.place_of.Goals as goal

pub returns : goal.returns
returns c =
    let masks = c.args.masks.now in
    let parts = IsPartitionPoint-from_clause (λ m. nat_lt m.serial c.args.serial) masks c.partition_point.result c.partition_point.ensures.partitioned (IsPartitionedBy-ltb (λ m. m.serial) masks c.args.serial (serials_rise masks c.requires)) (λ a r f called. search rules) in
    record {
      within = c.partition_point.ensures.bound;
      before = λ k d from lt. ltb-true _ _ (parts.0 k d from lt);
      from = λ k d from end. ltb-false _ _ (parts.1 k d from end);
    }
