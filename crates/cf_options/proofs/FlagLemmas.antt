-- What a map of names has after one more write, and after one more item.
use Rattle.std.proofs.Common.{◌≡◌, ℕ, ◌+◌, ◌<◌, ◌||◌, Bool, true, false, cond, Option, Some, List, [], ◌∷◌, length, get_or, take, map, refl, ap, sym, ◌∙◌}
use Rattle.std.specs.Prelude.{bytes_eq}
use Rattle.std.specs.Option.{unwrap_or}
use Rattle.std.proofs.lemmas.List.{take_more, map-append}
use Rattle.std.proofs.lemmas.List.Folds.{list_any-append}
use Rattle.cf_types.specs.declared.stmt.Item.{Item}
use Rattle.config_rules.specs.Select.{has_name}
use Rattle.std.proofs.lemmas.Slice.Eq.{bytes_eq-Decides}
use Rattle.std.specs.HashMap.{HashMap}
use Rattle.cf_options.specs.Last.{is_dropped}
use Rattle.cf_options.proofs.LastLemmas.{cond_or}
use denote.Ref.{Bor}

pub unwrap_cond : (b v : Bool) (o : Option Bool) → unwrap_or (cond b (Some v) o) false ≡ cond b v (unwrap_or o false)
unwrap_cond true v o = refl
unwrap_cond false v o = refl

-- one more item
pub items_more : (items : List Item) (i : ℕ) (item : Item) (q : List ℕ) (value old now next : Bool) → i < length items → item ≡ get_or items i item
    → now ≡ cond (has_name (map (λ x. x.name) (take i items)) q) value old → next ≡ cond (bytes_eq item.name q) value now → next ≡ cond (has_name (map (λ x. x.name) (take (i + 1) items)) q) value old
items_more items i item q value old now next h is so_far new =
    let first = map (λ (x : Item). x.name) (take i items) in
    let more : has_name (map (λ x. x.name) (take (i + 1) items)) q ≡ (has_name first q || (bytes_eq (get_or items i item).name q || false)) =
    ap (λ (xs : List Item). has_name (map (λ x. x.name) xs) q) (take_more items i item h)
    ∙ ap (λ ns. has_name ns q) (map-append (λ (x : Item). x.name) (take i items) (get_or items i item ∷ []))
    ∙ list_any-append (λ n. bytes_eq n q) first ((get_or items i item).name ∷ []) in
    new ∙ ap (λ o. cond (bytes_eq item.name q) value o) so_far ∙ cond_or (has_name first q) (bytes_eq item.name q) value old
    ∙ ap (λ (x : Item). cond (has_name first q || (bytes_eq x.name q || false)) value old) is ∙ ap (λ b. cond b value old) (sym more)

-- a name that is not negated later is not one that is
pub unnoted : {S : Type 0} (last : HashMap (Bor (List ℕ)) ℕ S) (place : ℕ) (name q : List ℕ) (value old : Bool) → is_dropped last place name ≡ false → is_dropped last place q ≡ true → old ≡ cond (bytes_eq name q) value old
unnoted last place name q value old none some = by_test (bytes_eq name q) refl
  where
    apart : true ≡ false → old ≡ value
    apart e = cc

    by_test : (b : Bool) → bytes_eq name q ≡ b → old ≡ cond b value old
    by_test false e = refl
    by_test true e = apart (sym some ∙ ap (is_dropped last place) (sym ((bytes_eq-Decides name q).0 e)) ∙ none)
