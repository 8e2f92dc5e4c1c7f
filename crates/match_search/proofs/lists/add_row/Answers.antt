use Rattle.std.proofs.Common.{◌≡◌, ◌∙◌, ◌<◌, ◌∷◌, ◌++◌, [], ℕ, List, length, get_or, ap, refl, subst, sym, arith}
use Rattle.std.specs.Global.{Global}
use Rattle.std.specs.Prelude.{Vec}
use Rattle.std.specs.Vec.{with_item}
use Rattle.std.proofs.lemmas.List.{get_or-map}
use Rattle.cf_types.specs.declared.tables.Place.{Place}
use Rattle.match_search.specs.declared.lists.PlaceLists.{PlaceLists}
use Rattle.match_search.specs.Fixed.{lists_of}
use Rattle.match_search.specs.Lists.{HasRow}
use Rattle.match_search.proofs.PlaceListLaws.{attr_more}
use Rattle.match_search.proofs.lists.add_row.Goals as goal

pub returns-in_ok-push-in-At : goal.returns-in_ok-push-in-At
returns-in_ok-push-in-At c =
    let old = c.args.lists.now in
    let kept = old.attrs.items in
    let attr = c.in-At.attr in
    let row = c.args.row in
    let items = λ (v : Vec ℕ Global). v.items in
    let lt : attr < length kept = omega (arith, c.if-attr-len.true, c.len.ensures) in
    let at : c.index_mut.result.now.items ≡ get_or (lists_of kept) attr old.root.items = ap items c.index_mut.ensures.value ∙ sym (get_or-map items kept attr c.index_mut.result.now old.root.items lt) in
    let more : c.push.new.self.items ≡ get_or (lists_of kept) attr old.root.items ++ row ∷ [] = c.in_ok-push-in-At.ensures.items ∙ ap (λ (xs : List ℕ). xs ++ row ∷ []) at in
    let new : PlaceLists = record { root = old.root; attrs = with_item old.attrs attr c.push.new.self } in
    subst (λ (p : Place). HasRow old new p row) (sym c.in-At.is) (attr_more old new attr row c.push.new.self lt more refl refl)
