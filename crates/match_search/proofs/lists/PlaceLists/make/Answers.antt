use Rattle.std.proofs.Common.{◌≡◌, length, arith}
use Rattle.match_search.proofs.PlaceListLaws.{all_listed, one_listed}
use Rattle.match_search.proofs.lists.PlaceLists.make.Goals as goal

pub loop-number-preserved : goal.loop-number-preserved
loop-number-preserved c =
    one_listed c.args.rows.now c.loop-number.number c.index-rows-number.result c.loop-number.lists c.add_row.new.lists c.loop-number-test.true c.index-rows-number.is
    c.loop-number.invariant c.in_ok-add_row.ensures

pub returns : goal.returns
returns c =
    let end : c.loop-number.number ≡ length c.args.rows.now = omega arith in
    all_listed c.args.rows.now c.loop-number.number c.loop-number.lists end c.loop-number.invariant
