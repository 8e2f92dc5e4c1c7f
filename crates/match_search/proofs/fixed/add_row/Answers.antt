use Rattle.std.proofs.Common.{◌≡◌, ◌∙◌, ◌<◌, ◌∷◌, ◌++◌, [], ℕ, List, length, get_or, slice_set, ap, subst, sym, arith}
use Rattle.std.specs.Global.{Global}
use Rattle.std.specs.Prelude.{Vec}
use Rattle.std.proofs.lemmas.List.{get_or-map, length-map}
use Rattle.match_search.specs.Fixed.{HasToo, lists_of, place_in}
use Rattle.match_search.proofs.FixedLaws.{lists_set, too_pushed}
use Rattle.match_search.proofs.fixed.add_row.Goals as goal

pub returns : goal.returns
returns c =
    let kept = c.args.lists.now.items in
    let lists = lists_of kept in
    let place = c.place_of-place.result in
    let row = c.args.row.now in
    let number = c.args.number in
    let items = λ (v : Vec ℕ Global). v.items in
    let size : c.len.result ≡ length lists = omega (arith, c.len.ensures, length-map kept items) in
    let lt : place < length lists = omega (arith, size, c.place_of-place.ensures.within) in
    let there : place < length kept = omega (arith, lt, length-map kept items) in
    let at : c.index_mut.result.now.items ≡ get_or lists place [] = ap items c.index_mut.ensures.value ∙ sym (get_or-map items kept place c.index_mut.result.now [] there) in
    let more : c.push.new.self.items ≡ get_or lists place [] ++ number ∷ [] = c.in_ok-push.ensures.items ∙ ap (λ (xs : List ℕ). xs ++ number ∷ []) at in
    subst (λ (new : List (List ℕ)). HasToo lists new number row) (sym (lists_set kept place c.push.new.self ∙ ap (slice_set lists place) more))
    (too_pushed lists place number row lt (c.place_of-place.ensures.is ∙ ap (λ (n : ℕ). place_in n row.device row.unit) size))
