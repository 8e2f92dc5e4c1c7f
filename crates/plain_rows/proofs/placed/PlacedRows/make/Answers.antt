use Rattle.std.proofs.Common.{◌∙◌, ◌++◌, ◌∷◌, [], ap, cond, sym}
use Rattle.run_rules.specs.World.{same_place}
use Rattle.plain_rows.proofs.PlacedLaws.{at_more}
use Rattle.plain_rows.proofs.placed.PlacedRows.make.Goals as goal

pub loop-number-preserved : goal.loop-number-preserved
loop-number-preserved c = λ place.
    let row = c.index-rows-number.result in
    c.in_ok-add_row.ensures place ∙ ap (λ rows. rows ++ cond (same_place row.place place) (c.loop-number.number ∷ []) []) (c.loop-number.invariant place)
    ∙ sym (at_more c.args.rows.now place c.loop-number.number row c.loop-number-test.true c.index-rows-number.is)
