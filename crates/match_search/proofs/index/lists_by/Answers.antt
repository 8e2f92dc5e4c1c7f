use Rattle.std.proofs.Common.{rules, ◌≡◌, ◌∙◌, ◌<◌, ◌==◌, ℕ, None, length, get_or, ap, arith}
use Rattle.std.specs.List.{list_any}
use Rattle.run_rules.specs.MatchLines.{last_value}
use Rattle.run_rules.specs.Suits.{AreBestFirst}
use Rattle.run_rules.proofs.SpotLists.{indexed_all, indexed_more}
use Rattle.match_search.proofs.UnnamedLaws.{either}
use Rattle.match_search.proofs.index.lists_by.Goals as goal

pub loop-number-preserved : goal.loop-number-preserved
loop-number-preserved c =
    let spots : c.items-spot-items.result.now ≡ c.args.machine.now.spots = c.items-spot-items.ensures in
    let within : c.loop-number.number < length c.args.machine.now.spots = omega (arith, ap length spots, c.loop-number-test.true) in
    let everywhere : (a : ℕ) → get_or c.set_values.new.values.items a 0 ≡ last_value None c.args.machine.now.matches a 0 = λ a. search rules in
    record {
      indexed = indexed_more (AreBestFirst c.args.tables.now c.args.machine.now) c.args.machine.now c.loop-number.number c.spot-item.result c.loop-number.lists.items c.push.new.self.items c.in_ok-rows.rows within
          (c.spot-item.is ∙ ap (λ xs. get_or xs c.loop-number.number c.spot-item.result) spots) c.in_ok-rows.ensures c.in_ok-push.ensures.items c.loop-number.invariant.indexed;
      everywhere = λ a.
          c.in_ok-unset_own.ensures a
          ∙ either (list_any (λ line. line.attach == a) c.as_slice-own_here.result.now) (get_or c.set_values.new.values.items a 0) (get_or c.set_own.new.values.items a 0) (last_value None c.args.machine.now.matches a 0) (everywhere a) (λ none. c.in_ok-set_own.ensures.kept a none ∙ c.loop-number.invariant.everywhere a);
    }

pub returns : goal.returns
returns c =
    let spots : c.items-spot-items.result.now ≡ c.args.machine.now.spots = c.items-spot-items.ensures in
    let end : c.loop-number.number ≡ length c.args.machine.now.spots =
    omega (arith, ap length spots, c.loop-number-test.false, c.loop-number.auto.number-end) in
    record {
      spots = c.loop-number.invariant.indexed.spots ∙ end;
      rows = indexed_all (AreBestFirst c.args.tables.now c.args.machine.now) c.args.machine.now c.loop-number.number _ end c.loop-number.invariant.indexed;
    }
