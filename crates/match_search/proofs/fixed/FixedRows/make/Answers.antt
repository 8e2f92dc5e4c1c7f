use Rattle.std.proofs.Common.{◌≡◌, ◌<◌, length, arith}
use Rattle.std.specs.Global.{Global}
use Rattle.std.specs.Prelude.{Vec, ℕ}
use Rattle.std.proofs.lemmas.List.{length-map}
use Rattle.match_search.specs.Fixed.{lists_of}
use Rattle.match_search.proofs.FixedLaws.{all_in, none_in, one_in}
use Rattle.match_search.proofs.fixed.FixedRows.make.Goals as goal

pub loop-number-init : goal.loop-number-init
loop-number-init c =
    let lists = c.in_ok-lists.lists.items in
    let some : 0 < length (lists_of lists) = omega (arith, c.in_ok-lists.ensures, c.max.ensures, length-map lists (λ (v : Vec ℕ Global). v.items)) in
    none_in c.args.rows.now (lists_of lists) some

pub loop-number-preserved : goal.loop-number-preserved
loop-number-preserved c =
    one_in c.args.rows.now c.loop-number.number c.index-rows-number.result (lists_of c.loop-number.lists.items) (lists_of c.add_row.new.lists.items)
    c.loop-number-test.true c.index-rows-number.is c.loop-number.invariant c.in_ok-add_row.ensures

pub returns : goal.returns
returns c =
    let end : c.loop-number.number ≡ length c.args.rows.now = omega (arith, c.loop-number-test.false, c.loop-number.auto.number-end) in
    all_in c.args.rows.now c.loop-number.number (lists_of c.loop-number.lists.items) end c.loop-number.invariant
