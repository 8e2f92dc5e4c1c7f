-- A list of items in parts.
use Rattle.std.proofs.Common.{◌≡◌, ℕ, ◌+◌, ◌-◌, ◌≤◌, ◌<◌, List, [], ◌∷◌, ◌++◌, length, get_or, take, drop, refl, ap, sym, subst, ◌∙◌, arith, append_assoc, append-nil, length-append, inl, inr}
use Rattle.std.proofs.lemmas.List.{drop-append-le, take-append-drop, take-append-le, take_all, take_at, take_more, length-drop, length-take, get_or_append_left}
use Rattle.std.proofs.Math.Nat.{eq-or-lt_of_le}
use Rattle.std.proofs.Math.Seq.{drop-append-add, get_or-append_seam}
use Rattle.std.specs.Prelude.{◌⊎◌}
use Rattle.cf_types.specs.ItemParts.{AreEnds, items_in}
use Rattle.cf_types.specs.declared.item_list.Part.{Part}
use Rattle.cf_types.specs.declared.stmt.Item.{Item}

items_append : (xs ys : List Part) → items_in (xs ++ ys) ≡ items_in xs ++ items_in ys
items_append [] ys = refl
items_append (x ∷ xs) ys = ap (λ (is : List Item). x.items ++ is) (items_append xs ys) ∙ sym (append_assoc x.items (items_in xs) (items_in ys))

-- with one more part
pub items_pushed : (ps : List Part) (p : Part) → items_in (ps ++ p ∷ []) ≡ items_in ps ++ p.items
items_pushed ps p = items_append ps (p ∷ []) ∙ ap (λ (is : List Item). items_in ps ++ is) (append-nil p.items)

-- the part at a place, and those before it
pub items_more : (ps : List Part) (k : ℕ) (d : Part) → k < length ps → items_in (take (k + 1) ps) ≡ items_in (take k ps) ++ (get_or ps k d).items
items_more ps k d h = ap items_in (take_more ps k d h) ∙ items_pushed (take k ps) (get_or ps k d)

-- where it begins
pub part_begins : (ps : List Part) (k : ℕ) (d : Part) → AreEnds ps → k < length ps → (get_or ps k d).end ≡ length (items_in (take k ps)) + length (get_or ps k d).items
part_begins ps k d ends h = ends k d h ∙ ap length (items_more ps k d h) ∙ length-append (items_in (take k ps)) (get_or ps k d).items

-- items of that part, from a place of all items on
pub part_found : (ps : List Part) (k place : ℕ) (d : Part) (found : List Item) → k < length ps → length (items_in (take k ps)) ≤ place → place < length (items_in (take (k + 1) ps))
    → found ≡ drop (place - length (items_in (take k ps))) (get_or ps k d).items → found ≡ take (length found) (drop place (items_in ps))
part_found ps k place d found h from within is =
    let front = items_in (take k ps) in
    let own = (get_or ps k d).items in
    let back = items_in (drop (k + 1) ps) in
    let more = place - length front in
    let grown : items_in (take (k + 1) ps) ≡ front ++ own = items_more ps k d h in
    let inside : more ≤ length own = omega (arith, ap length grown, length-append front own) in
    let there : place ≡ length front + more = omega arith in
    let whole : items_in ps ≡ front ++ (own ++ back) =
    ap items_in (sym (take-append-drop (k + 1) ps)) ∙ items_append (take (k + 1) ps) (drop (k + 1) ps) ∙ ap (λ (is : List Item). is ++ back) grown ∙ append_assoc front own back in
    let left : drop place (items_in ps) ≡ found ++ back =
    ap (drop place) whole ∙ ap (λ n. drop n (front ++ (own ++ back))) there ∙ drop-append-add front (own ++ back) more ∙ drop-append-le more own back inside
    ∙ ap (λ (is : List Item). is ++ back) (sym is) in
    sym (ap (take (length found)) left ∙ take_at found back (length found) refl)

-- items of a part are items of all
pub from_parts : (parts last found : List Item) (place : ℕ) → place < length parts → found ≡ take (length found) (drop place parts) → found ≡ take (length found) (drop place (parts ++ last))
from_parts parts last found place h is =
    let fits : length found ≤ length (drop place parts) = omega (arith, ap length is, length-take (length found) (drop place parts)) in
    is ∙ sym (ap (take (length found)) (drop-append-le place parts last (omega arith)) ∙ take-append-le (length found) (drop place parts) last fits)

-- items behind all parts
pub from_last : (parts last found : List Item) (place behind : ℕ) → place ≡ length parts + behind → found ≡ drop behind last → found ≡ take (length found) (drop place (parts ++ last))
from_last parts last found place behind there is =
    let left : drop place (parts ++ last) ≡ found = ap (λ n. drop n (parts ++ last)) there ∙ drop-append-add parts last behind ∙ sym is in
    sym (ap (take (length found)) left ∙ take_all (length found) found (omega arith))

-- one more part, which says where it ends
pub ends_more : (ps : List Part) (p : Part) → AreEnds ps → p.end ≡ length (items_in (ps ++ p ∷ [])) → AreEnds (ps ++ p ∷ [])
ends_more ps p ends here = λ k d h. by_place k d h
  where
    all : List Part
    all = ps ++ p ∷ []

    early : (k : ℕ) (d : Part) → k < length ps → (get_or all k d).end ≡ length (items_in (take (k + 1) all))
    early k d h =
        ap (λ (x : Part). x.end) (get_or_append_left ps (p ∷ []) d k h) ∙ ends k d h
        ∙ ap (λ (xs : List Part). length (items_in xs)) (sym (take-append-le (k + 1) ps (p ∷ []) (omega arith)))

    late : (k : ℕ) (d : Part) → k ≡ length ps → (get_or all k d).end ≡ length (items_in (take (k + 1) all))
    late k d e =
        ap (λ (x : Part). x.end) (ap (λ n. get_or all n d) e ∙ get_or-append_seam ps p [] d) ∙ here
        ∙ ap (λ (xs : List Part). length (items_in xs)) (sym (take_all (k + 1) all (omega (arith, e, length-append ps (p ∷ [])))))

    by_order : (k : ℕ) (d : Part) → (k ≡ length ps) ⊎ (k < length ps) → (get_or all k d).end ≡ length (items_in (take (k + 1) all))
    by_order k d (inl e) = late k d e
    by_order k d (inr h) = early k d h

    by_place : (k : ℕ) (d : Part) → k < length all → (get_or all k d).end ≡ length (items_in (take (k + 1) all))
    by_place k d h = by_order k d (eq-or-lt_of_le (omega (arith, h, length-append ps (p ∷ []))))

-- where one more part ends
pub ends_there : (ps : List Part) (p : Part) (begun : ℕ) (own : List Item) → begun ≡ length (items_in ps) → own ≡ p.items → begun + length own ≡ length (items_in (ps ++ p ∷ []))
ends_there ps p begun own e is = omega (arith, e, ap length is, ap length (items_pushed ps p), length-append (items_in ps) p.items)

-- the items of a part that was found, from a place of all items on: a part of it is left there, and what it is
pub record Found (ps : List Part) (own : List Item) (end place : ℕ) : Type 0 where
  pub begins : length own ≤ end
  pub from : end - length own ≤ place
  pub items : take (length own - (place - (end - length own))) (drop (place - (end - length own)) own)
      ≡ take (length (take (length own - (place - (end - length own))) (drop (place - (end - length own)) own))) (drop place (items_in ps))
  pub some : 1 ≤ length (take (length own - (place - (end - length own))) (drop (place - (end - length own)) own))

pub found_there : (ps : List Part) (k place : ℕ) (d p : Part) (own : List Item) → AreEnds ps → k < length ps → length (items_in (take k ps)) ≤ place → place < length (items_in (take (k + 1) ps))
    → p ≡ get_or ps k d → own ≡ p.items → Found ps own p.end place
found_there ps k place d p own ends h from within is same =
    let front = items_in (take k ps) in
    let there : own ≡ (get_or ps k d).items = same ∙ ap (λ (x : Part). x.items) is in
    let end : p.end ≡ length front + length own = ap (λ (x : Part). x.end) is ∙ part_begins ps k d ends h ∙ ap (λ (xs : List Item). length front + length xs) (sym there) in
    let begun : p.end - length own ≡ length front = omega (arith, end) in
    let stop : place < length front + length own = omega (arith, within, ends k d h, end, ap (λ (x : Part). x.end) is) in
    let more = place - (p.end - length own) in
    let all : take (length own - more) (drop more own) ≡ drop more own = take_all (length own - more) (drop more own) (omega (arith, length-drop more own)) in
    record {
      begins = omega (arith, end);
      from = omega (arith, begun);
      items = part_found ps k place d (take (length own - more) (drop more own)) h from within (all ∙ ap (λ n. drop (place - n) own) begun ∙ ap (drop (place - length front)) there);
      some = omega (arith, begun, stop, ap length all, length-drop more own);
    }

-- the same of the items behind all parts
pub last_there : (parts last shown : List Item) (place : ℕ) → shown ≡ last → length parts ≤ place
    → take (length shown - (place - length parts)) (drop (place - length parts) shown) ≡ take (length (take (length shown - (place - length parts)) (drop (place - length parts) shown))) (drop place (parts ++ last))
last_there parts last shown place is h =
    let more = place - length parts in
    from_last parts last (take (length shown - more) (drop more shown)) place more (omega arith)
    (take_all (length shown - more) (drop more shown) (omega (arith, length-drop more shown)) ∙ ap (drop more) is)
