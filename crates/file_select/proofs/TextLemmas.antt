-- Texts in order: what is among them, and that they stay short.
use Rattle.std.proofs.Common.{◌≡◌, ℕ, ◌+◌, ◌<◌, ◌≤◌, arith, drop, length, get_or, take, subst, append_assoc, ◌||◌, Bool, true, false, List, [], ◌∷◌, ◌++◌, map, refl, ap, sym, ◌∙◌}
use Rattle.std.specs.Prelude.{flat_map}
use Rattle.std.specs.List.{All, AllByRecursion, list_any}
use Rattle.std.specs.List.Sorted.{IsStrictlySortedBy}
use Rattle.std.specs.Str.{bytes_eq}
use Rattle.std.specs.BTreeSet.{insert_key}
use Rattle.std.specs.Cmp.Lexicographic.{slice_cmp}
use Rattle.std.specs.Ordering.{is_eq, match_ordering, nat_cmp}
use Rattle.std.specs.declared.cmp.Ordering.{Ordering}
use Rattle.std.specs.declared.cmp.Ordering.TheVariants.{Less, Equal, Greater}
use Rattle.std.proofs.Math.Bool.{or-false}
use Rattle.std.proofs.Math.Seq.{take-add}
use Rattle.std.proofs.lemmas.List.{flat_map_more, length-drop, length-take, map-append, map_more, take_more}
use Rattle.std.proofs.lemmas.List.Elements.{All-tail}
use Rattle.std.proofs.lemmas.List.Folds.{list_any-append}
use Rattle.std.proofs.lemmas.Map.Views.{All-insert_key}
use Rattle.cf_types.proofs.KeyLemmas.{Key, is_key, key_cmp, key_is, same_text}
use Rattle.config_rules.specs.Select.{has_name}
use Rattle.file_select.specs.Texts.{IsShort, with_text, with_texts}

-- ---- tests joined by `or`

pub or_grouped : (a b c : Bool) → (a || (b || c)) ≡ ((a || b) || c)
or_grouped true b c = refl
or_grouped false b c = refl

or_moved : (a b : Bool) → (a || b) ≡ (b || a)
or_moved true true = refl
or_moved true false = refl
or_moved false true = refl
or_moved false false = refl

or_twice : (a b : Bool) → (a || b) ≡ ((a || b) || a)
or_twice true b = refl
or_twice false true = refl
or_twice false false = refl

-- ---- a set and its texts

text_in : Key → List ℕ
text_in k = k.items

-- the texts of a set with one more key
pub texts_inserted : (keys : List Key) (k : Key) → map (λ (x : Key). x.items) (insert_key key_cmp keys k) ≡ with_text (map (λ (x : Key). x.items) keys) k.items
texts_inserted [] k = refl
texts_inserted (x ∷ xs) k = by_order (key_cmp k x) (texts_inserted xs k)
  where
    by_order : (o : Ordering) → map (λ (y : Key). y.items) (insert_key key_cmp xs k) ≡ with_text (map (λ (y : Key). y.items) xs) k.items
        → map (λ (y : Key). y.items) (match_ordering o (k ∷ x ∷ xs) (x ∷ xs) (x ∷ insert_key key_cmp xs k))
        ≡ match_ordering o (k.items ∷ x.items ∷ map (λ (y : Key). y.items) xs) (x.items ∷ map (λ (y : Key). y.items) xs) (x.items ∷ with_text (map (λ (y : Key). y.items) xs) k.items)
    by_order Less e = refl
    by_order Equal e = refl
    by_order Greater e = ap (λ ys. x.items ∷ ys) e

-- a text is a key exactly where it is one of the texts
pub has_key : (text : List ℕ) (keys : List Key) → list_any (is_key text) keys ≡ has_name (map (λ (k : Key). k.items) keys) text
has_key text [] = refl
has_key text (k ∷ ks) =
    ap (λ b. b || list_any (is_key text) ks) (key_is text k.items k refl) ∙ ap (λ b. bytes_eq k.items text || b) (has_key text ks)

below_texts : (x : Key) (ks : List Key) → AllByRecursion (λ y. key_cmp x y ≡ Less) ks → AllByRecursion (λ y. slice_cmp nat_cmp x.items y ≡ Less) (map (λ (k : Key). k.items) ks)
below_texts x [] h = tt
below_texts x (k ∷ ks) h = (h.0, below_texts x ks h.1)

-- keys in order have texts in order
pub texts_ordered : (ks : List Key) → IsStrictlySortedBy key_cmp ks → IsStrictlySortedBy (slice_cmp nat_cmp) (map (λ (k : Key). k.items) ks)
unfolding IsStrictlySortedBy
texts_ordered [] h = tt
texts_ordered (x ∷ xs) h = (below_texts x xs h.0, texts_ordered xs h.1)

-- ---- more texts

-- what is among the texts with one more
pub has-with_text : (texts : List (List ℕ)) (x text : List ℕ) → has_name (with_text texts x) text ≡ (has_name texts text || bytes_eq x text)
has-with_text [] x text = or-false (bytes_eq x text)
has-with_text (y ∷ ys) x text = by_order (slice_cmp nat_cmp x y) refl (has-with_text ys x text)
  where
    by_order : (o : Ordering) → slice_cmp nat_cmp x y ≡ o → has_name (with_text ys x) text ≡ (has_name ys text || bytes_eq x text)
        → has_name (match_ordering o (x ∷ y ∷ ys) (y ∷ ys) (y ∷ with_text ys x)) text ≡ ((bytes_eq y text || has_name ys text) || bytes_eq x text)
    by_order Less e h = or_moved (bytes_eq x text) (bytes_eq y text || has_name ys text)
    by_order Equal e h =
        or_twice (bytes_eq y text) (has_name ys text)
        ∙ ap (λ (t : List ℕ). (bytes_eq y text || has_name ys text) || bytes_eq t text) (sym (same_text x y (ap is_eq e)))
    by_order Greater e h = ap (λ b. bytes_eq y text || b) h ∙ or_grouped (bytes_eq y text) (has_name ys text) (bytes_eq x text)

-- and with several more
pub has-with_texts : (texts xs : List (List ℕ)) (text : List ℕ) → has_name (with_texts texts xs) text ≡ (has_name texts text || has_name xs text)
has-with_texts texts [] text = sym (or-false (has_name texts text))
has-with_texts texts (x ∷ xs) text =
    has-with_texts (with_text texts x) xs text ∙ ap (λ b. b || has_name xs text) (has-with_text texts x text)
    ∙ sym (or_grouped (has_name texts text) (bytes_eq x text) (has_name xs text))

pub with_texts-append : (texts xs ys : List (List ℕ)) → with_texts texts (xs ++ ys) ≡ with_texts (with_texts texts xs) ys
with_texts-append texts [] ys = refl
with_texts-append texts (x ∷ xs) ys = with_texts-append (with_text texts x) xs ys

pub with_texts-one : (texts : List (List ℕ)) (x : List ℕ) → with_texts texts (x ∷ []) ≡ with_text texts x
with_texts-one texts x = refl

pub with_texts-none : (texts : List (List ℕ)) → with_texts texts [] ≡ texts
with_texts-none texts = refl

-- short texts with one more that is short
pub short_more : (texts : List (List ℕ)) (x : List ℕ) → All IsShort texts → IsShort x → All IsShort (with_text texts x)
short_more texts x h s = All-insert_key (slice_cmp nat_cmp) x IsShort texts h s

-- ---- more texts in a loop

-- the texts of one more element
pub inserted_piece : {X : Type 0} (f : X → List (List ℕ)) (xs : List X) (i : ℕ) (x : X) (first now new : List (List ℕ)) → i < length xs → x ≡ get_or xs i x → now ≡ with_texts first (flat_map f (take i xs)) → new ≡ with_texts now (f x) → new ≡ with_texts first (flat_map f (take (i + 1) xs))
inserted_piece f xs i x first now new h is so_far one =
    one ∙ ap (λ ts. with_texts ts (f x)) so_far ∙ sym (with_texts-append first (flat_map f (take i xs)) (f x))
    ∙ ap (with_texts first) (ap (λ y. flat_map f (take i xs) ++ f y) is ∙ flat_map_more f [] (take i xs) (get_or xs i x) ∙ ap (flat_map f) (sym (take_more xs i x h)))

-- the text of one more element
pub inserted_one : {X : Type 0} (f : X → List ℕ) (xs : List X) (i : ℕ) (x : X) (first now new : List (List ℕ)) → i < length xs → x ≡ get_or xs i x → now ≡ with_texts first (map f (take i xs)) → new ≡ with_text now (f x) → new ≡ with_texts first (map f (take (i + 1) xs))
inserted_one f xs i x first now new h is so_far one =
    one ∙ ap (λ ts. with_text ts (f x)) so_far ∙ sym (with_texts-append first (map f (take i xs)) (f x ∷ []))
    ∙ ap (with_texts first) (ap (λ y. map f (take i xs) ++ f y ∷ []) is ∙ sym (map_more f xs i x h))

pub inserted_mapped : {X : Type 0} (g : List ℕ → List ℕ) (f : X → List ℕ) (xs : List X) (i : ℕ) (x : X) (first now new : List (List ℕ)) → i < length xs → x ≡ get_or xs i x → now ≡ with_texts first (map g (map f (take i xs))) → new ≡ with_text now (g (f x)) → new ≡ with_texts first (map g (map f (take (i + 1) xs)))
inserted_mapped g f xs i x first now new h is so_far one =
    one ∙ ap (λ ts. with_text ts (g (f x))) so_far ∙ sym (with_texts-append first (map g (map f (take i xs))) (g (f x) ∷ []))
    ∙ ap (with_texts first) (ap (λ y. map g (map f (take i xs)) ++ g (f y) ∷ []) is ∙ sym (map-append g (map f (take i xs)) (f (get_or xs i x) ∷ [])) ∙ ap (map g) (sym (map_more f xs i x h)))

-- what is among the texts of one more element
pub has_more : {X : Type 0} (f : X → List ℕ) (xs : List X) (i : ℕ) (x : X) (now new : List (List ℕ)) (text : List ℕ) → i < length xs → x ≡ get_or xs i x → has_name now text ≡ has_name (map f (take i xs)) text → new ≡ with_text now (f x) → has_name new text ≡ has_name (map f (take (i + 1) xs)) text
has_more f xs i x now new text h is so_far one =
    ap (λ ts. has_name ts text) one ∙ has-with_text now (f x) text ∙ ap (λ b. b || bytes_eq (f x) text) so_far
    ∙ ap (λ b. has_name (map f (take i xs)) text || b) (sym (or-false (bytes_eq (f x) text)))
    ∙ sym (list_any-append (λ n. bytes_eq n text) (map f (take i xs)) (f x ∷ []))
    ∙ ap (λ ts. has_name ts text) (ap (λ y. map f (take i xs) ++ f y ∷ []) is ∙ sym (map_more f xs i x h))

all_short_tail : (x : List ℕ) (xs : List (List ℕ)) → All IsShort (x ∷ xs) → All IsShort xs
all_short_tail x xs h = All-tail IsShort x xs h

-- a name more
pub named_more : (names : List (List ℕ)) (all rest : List Key) (k : Key) (name : List ℕ) (new : List (List ℕ)) → all ≡ k ∷ rest → new ≡ names ++ name ∷ [] → name ≡ k.items → new ++ map (λ (x : Key). x.items) rest ≡ names ++ map (λ (x : Key). x.items) all
named_more names all rest k name new parts e is =
    ap (λ ns. ns ++ map (λ (x : Key). x.items) rest) e ∙ append_assoc names (name ∷ []) (map (λ (x : Key). x.items) rest)
    ∙ ap (λ t. names ++ t ∷ map (λ (x : Key). x.items) rest) is ∙ ap (λ (ks : List Key). names ++ map (λ (x : Key). x.items) ks) (sym parts)

pub short_rest : (all rest : List Key) (k : Key) → all ≡ k ∷ rest → All IsShort (map (λ (x : Key). x.items) all) → All IsShort (map (λ (x : Key). x.items) rest)
short_rest all rest k parts h =
    all_short_tail k.items (map (λ (x : Key). x.items) rest) (subst (λ (ks : List Key). All IsShort (map (λ (x : Key). x.items) ks)) parts h)

-- texts of the elements of one more part of a list
pub inserted_part : {X : Type 0} (g : List ℕ → List ℕ) (f : X → List ℕ) (xs : List X) (i : ℕ) (part : List X) (first now new : List (List ℕ)) → part ≡ take (length part) (drop i xs) → now ≡ with_texts first (map g (map f (take i xs)))
    → new ≡ with_texts now (map g (map f part)) → new ≡ with_texts first (map g (map f (take (i + length part) xs)))
inserted_part g f xs i part first now new is so_far more =
    let whole : take (i + length part) xs ≡ take i xs ++ part = take-add i (length part) xs ∙ ap (λ ys. take i xs ++ ys) (sym is) in
    let names : map g (map f (take (i + length part) xs)) ≡ map g (map f (take i xs)) ++ map g (map f part) =
    ap (λ ys. map g (map f ys)) whole ∙ ap (map g) (map-append f (take i xs) part) ∙ map-append g (map f (take i xs)) (map f part) in
    more ∙ ap (λ ts. with_texts ts (map g (map f part))) so_far ∙ sym (with_texts-append first (map g (map f (take i xs))) (map g (map f part))) ∙ ap (with_texts first) (sym names)

pub part_within : {X : Type 0} (xs : List X) (i : ℕ) (part : List X) → i ≤ length xs → part ≡ take (length part) (drop i xs) → i + length part ≤ length xs
part_within xs i part within is = omega (arith, within, ap length is, length-take (length part) (drop i xs), length-drop i xs)
