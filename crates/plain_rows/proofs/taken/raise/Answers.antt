use Rattle.std.proofs.Common.{◌∙◌, ◌+◌, ◌≡◌, ℕ, List, drop, length, sym, ap, arith, slice_index_or}
use Rattle.plain_rows.specs.Taken.{times}
use Rattle.plain_rows.proofs.DriverLaws.{passed_by, raised}
use Rattle.plain_rows.proofs.taken.raise.Goals as goal
use Rattle.plain_rows.proofs.taken.raise.Goals.{then-is_of_unit, else-is_of_unit}

pub loop-row-preserved : goal.loop-row-preserved
loop-row-preserved c = λ r. elim c.if-is_of_unit.branch [
  | then-is_of_unit w ↦
      let size : length c.loop-row.counts ≡ length c.args.rows.now = omega (arith, c.loop-row.auto.counts, c.requires.rows) in
      raised c.args.rows.now c.args.unit c.args.listed.now c.loop-row.row-index c.loop-row.counts c.if-is_of_unit.counts r _ c.loop-row-test.true
      (sym c.is_of_unit.ensures ∙ w.if-is_of_unit.true) size w.counts-is (c.loop-row.invariant r)
  | else-is_of_unit w ↦
      ap (λ (xs : List ℕ). slice_index_or xs r 0 + times c.args.rows.now c.args.unit (drop (c.loop-row.row-index + 1) c.args.listed.now) r) w.counts-is
      ∙ ap (λ (k : ℕ). slice_index_or c.loop-row.counts r 0 + k)
      (passed_by c.args.rows.now c.args.unit c.args.listed.now c.loop-row.row-index 0 r c.loop-row-test.true (sym c.is_of_unit.ensures ∙ w.if-is_of_unit.false))
      ∙ c.loop-row.invariant r
]
