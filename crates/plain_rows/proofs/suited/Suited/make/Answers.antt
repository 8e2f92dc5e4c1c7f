use Rattle.std.proofs.Common.{rules, ◌≡◌, ◌∙◌, ◌<◌, ◌==◌, ℕ, List, None, true, length, get_or, ap, arith, subst, sym}
use Rattle.std.specs.List.{list_any}
use Rattle.cf_types.specs.Gather.{is_in}
use Rattle.cf_types.specs.declared.tables.Row.{Row}
use Rattle.run_rules.specs.MatchLines.{last_value}
use Rattle.run_rules.proofs.SpotLists.{indexed_all, indexed_more}
use Rattle.plain_rows.specs.Placed.{ArePlaced}
use Rattle.plain_rows.specs.Suited.{FindsBest}
use Rattle.plain_rows.proofs.PlacedLaws.{suits_there}
use Rattle.plain_rows.proofs.UnnamedLaws.{either}
use Rattle.plain_rows.proofs.suited.Suited.make.Goals as goal

pub best_first-requires-clause-all : goal.best_first-requires-clause-all
best_first-requires-clause-all c = λ r h.
    let t = c.args.tables.now in
    let place = c.spot-item.result.place in
    let placed : ArePlaced t.rows c.in_ok-placed.placed = subst (λ (rows : List Row). ArePlaced rows c.in_ok-placed.placed) c.items-4.ensures c.in_ok-placed.ensures in
    subst (λ (xs : List ℕ). is_in r xs ≡ true) (sym (c.rows.ensures ∙ placed place)) (suits_there t c.args.machine.now place c.loop-number.number r h)

pub loop-number-preserved : goal.loop-number-preserved
loop-number-preserved c =
    let spots : c.items-spot-items.result.now ≡ c.args.machine.now.spots = c.items-spot-items.ensures in
    let within : c.loop-number.number < length c.args.machine.now.spots = omega (arith, ap length spots, c.loop-number-test.true) in
    let everywhere : (a : ℕ) → get_or c.set_values.new.values.items a 0 ≡ last_value None c.args.machine.now.matches a 0 = λ a. search rules in
    record {
      indexed = indexed_more (FindsBest c.args.tables.now c.args.machine.now) c.args.machine.now c.loop-number.number c.spot-item.result c.loop-number.lists.items c.push.new.self.items c.in_ok-rows.rows within
          (c.spot-item.is ∙ ap (λ xs. get_or xs c.loop-number.number c.spot-item.result) spots) c.in_ok-rows.ensures c.in_ok-push.ensures.items c.loop-number.invariant.indexed;
      everywhere = λ a.
          c.in_ok-unset_own.ensures a
          ∙ either (list_any (λ line. line.attach == a) c.as_slice-own_here.result.now) (get_or c.set_values.new.values.items a 0) (get_or c.set_own.new.values.items a 0) (last_value None c.args.machine.now.matches a 0) (everywhere a) (λ none. c.in_ok-set_own.ensures.kept a none ∙ c.loop-number.invariant.everywhere a);
    }

pub returns : goal.returns
returns c =
    let spots : c.items-spot-items.result.now ≡ c.args.machine.now.spots = c.items-spot-items.ensures in
    let end : c.loop-number.number ≡ length c.args.machine.now.spots =
    omega (arith, ap length spots, c.loop-number-test.false, c.loop-number.auto.number-end) in
    record {
      spots = c.loop-number.invariant.indexed.spots ∙ end;
      rows = indexed_all (FindsBest c.args.tables.now c.args.machine.now) c.args.machine.now c.loop-number.number _ end c.loop-number.invariant.indexed;
    }
