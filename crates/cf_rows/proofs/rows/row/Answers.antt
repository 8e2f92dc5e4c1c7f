use Rattle.std.proofs.Common.{ap, length, arith}
use Rattle.std.proofs.lemmas.List.{length-take-le}
use Rattle.cf_types.specs.declared.tables.Row.{Row}
use Rattle.cf_rows.proofs.rows.row.Goals as goal

pub push-requires : goal.push-requires
push-requires c =
    omega (
      arith,
      ap (λ (r : Row). length r.locs) c.loop-value.invariant,
      length-take-le c.loop-value.value-index c.items-value-items.result.now (omega arith),
      ap length c.items-value-items.ensures.items,
      c.items-value-items.ensures.within,
    )
