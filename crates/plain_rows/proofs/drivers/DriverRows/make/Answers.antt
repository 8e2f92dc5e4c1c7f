use Rattle.std.proofs.Common.{◌∙◌, ◌==◌, ◌++◌, ◌∷◌, [], ap, cond, sym}
use Rattle.plain_rows.proofs.DriverLaws.{driven_more}
use Rattle.plain_rows.proofs.drivers.DriverRows.make.Goals as goal

pub loop-number-preserved : goal.loop-number-preserved
loop-number-preserved c = λ driver.
    let row = c.index-rows-number.result in
    c.in_ok-add.ensures driver ∙ ap (λ rows. rows ++ cond (row.device == driver) (c.loop-number.number ∷ []) []) (c.loop-number.invariant driver)
    ∙ sym (driven_more c.args.rows.now driver c.loop-number.number row c.loop-number-test.true c.index-rows-number.is)
