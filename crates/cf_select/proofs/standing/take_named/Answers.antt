use Rattle.std.proofs.Common.{◌∙◌, ◌<◌, Bool, List, false, length, get_or, arith, ap, sym}
use Rattle.std.specs.List.{list_any}
use Rattle.cf_select.proofs.NamingLemmas.{listed_below, listed_without, short_without, takes_listed}
use Rattle.cf_select.proofs.standing.take_named.Goals as goal

pub has_free-found-requires : goal.has_free-found-requires
has_free-found-requires c =
    listed_below c.args.lists.now c.deref.result.now c.args.key.now c.items.result.now (λ q x e. let below : x < length c.args.free.now.items = c.requires q x e in omega (arith, below, ap length c.deref.ensures.value)) (c.items.ensures ∙ c.take_places-places.ensures.list)

pub take_all-requires : goal.take_all-requires
take_all-requires c = listed_below c.args.lists.now c.args.free.now.items c.args.key.now c.items-2.result.now c.requires (c.items-2.ensures ∙ c.take_places-places.ensures.list)

pub returns-clause-short : goal.returns-clause-short
returns-clause-short c = short_without c.args.lists.now c.take_places-places.new.lists c.args.free.now.items c.take_all.new.free.items c.args.key.now c.requires c.take_all.ensures.size c.take_places-places.ensures.rest

pub returns-clause-listed : goal.returns-clause-listed
returns-clause-listed c = λ test listed.
    listed_without test c.args.lists.now c.take_places-places.new.lists c.args.free.now.items c.take_all.new.free.items c.args.key.now c.items-2.result.now
    c.take_places-places.ensures.rest (λ q e. c.take_places-places.ensures.same q e ∙ sym c.items-2.ensures) c.take_all.ensures.left listed

pub returns-clause-takes : goal.returns-clause-takes
returns-clause-takes c = λ test listed.
    takes_listed test c.args.lists.now c.args.free.now.items c.take_all.new.free.items c.args.key.now c.items-2.result.now c.has_free-found.result (c.items-2.ensures ∙ c.take_places-places.ensures.list) c.take_all.ensures.left
    (c.has_free-found.ensures ∙ ap (λ (fs : List Bool). list_any (λ x. get_or fs x false) c.items.result.now) c.deref.ensures.value ∙ ap (list_any (λ x. get_or c.args.free.now.items x false)) (c.items.ensures ∙ sym c.items-2.ensures))
    listed
