use Rattle.std.proofs.Common.{◌∙◌, ◌++◌, ap, sym}
use Rattle.match_search.proofs.PlacedLaws.{if_is, under_more}
use Rattle.match_search.specs.Placed.{is_under}
use Rattle.match_search.proofs.placed.PlacedRows.make.Goals as goal

pub loop-number-preserved : goal.loop-number-preserved
loop-number-preserved c = λ key.
    let row = c.index-rows-number.result in
    c.in_ok-add_row.ensures key ∙ ap (λ rows. rows ++ if_is (is_under key row) c.loop-number.number) (c.loop-number.invariant key)
    ∙ sym (under_more c.args.rows.now key c.loop-number.number row c.loop-number-test.true c.index-rows-number.is)
