use Rattle.std.proofs.Common.{◌≡◌, ◌≤◌, ◌++◌, arith, length, subst, sym}
use Rattle.cf_types.specs.ItemParts.{items_in}
use Rattle.cf_types.proofs.PartLemmas.{from_parts, last_there}
use Rattle.cf_types.proofs.item_list.ItemList.from.Goals as goal

pub returns-clause-items : goal.returns-clause-items
returns-clause-items c =
    let inside = c.self.inside in
    rw (c.self.invariant.1, ← c.self.view_is) (last_there (items_in inside.parts.items) inside.last.items c.deref-2.result.now c.args.place c.deref-2.ensures.value (omega (arith, c.self.invariant.1, c.if-place-self.false)))
