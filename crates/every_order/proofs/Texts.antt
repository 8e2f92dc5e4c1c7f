-- Texts with their orders, as entries of a map.
use Rattle.std.proofs.Common.{◌≡◌, ◌⊎◌, inl, inr, ◌<◌, ◌∙◌, ℕ, zero, suc, Bool, true, false, List, [], ◌∷◌, ◌++◌, Vec, length, map, get_or, refl, sym, ap, subst, arith}
use Rattle.std.specs.Prelude.{All, is_some}
use Rattle.std.specs.BTreeMap.{insert_entry, is_at}
use Rattle.std.specs.Cmp.Lexicographic.{slice_cmp}
use Rattle.std.specs.Global.{Global}
use Rattle.std.specs.List.{AllByRecursion, Contains}
use Rattle.std.specs.List.Sorted.{IsStrictlySortedBy}
use Rattle.std.specs.Map.{keys_of, lookup}
use Rattle.std.proofs.Common.{Ordering, Less, Equal, Greater}
use Rattle.std.specs.Ordering.{match_ordering, nat_cmp}
use Rattle.std.proofs.lemmas.Map.Text.{is_eq-slice_cmp}
use Rattle.std.proofs.lemmas.Slice.Eq.{bytes_eq-Decides}
use Rattle.std.proofs.lemmas.List.Elements.{All-cons, All-head, All-tail}
use Rattle.every_order.specs.declared.ways.Way.{Way}
use Rattle.every_order.specs.Noted.{HasOneMore, way_of}
use Rattle.every_order.specs.Ways.{texts_of}

abbrev pub Bytes : Type 0
Bytes = Vec ℕ Global

abbrev pub bytes_cmp : Bytes → Bytes → Ordering
bytes_cmp a b = slice_cmp nat_cmp a.items b.items

-- keys are equal where their texts are the same
pub same_bytes : (a b : Bytes) → is_at (bytes_cmp a) b ≡ true → b.items ≡ a.items
same_bytes a b is = sym ((bytes_eq-Decides a.items b.items).0 (sym (is_eq-slice_cmp a.items b.items) ∙ is))

pub equal_bytes : (a b : Bytes) → b.items ≡ a.items → is_at (bytes_cmp a) b ≡ true
equal_bytes a b same = is_eq-slice_cmp a.items b.items ∙ (bytes_eq-Decides a.items b.items).1 (sym same)

-- ---- one of a list

head_or_rest : (y : List ℕ) (ys : List (List ℕ)) (t : List ℕ) → Contains (y ∷ ys) t → (y ≡ t) ⊎ Contains ys t
head_or_rest y ys t has = by has.0 has.1 has.2
  where
    by : (k : ℕ) → k < length (y ∷ ys) → get_or (y ∷ ys) k t ≡ t → (y ≡ t) ⊎ Contains ys t
    by zero lt is = inl is
    by (suc k) lt is = inr (k, omega (arith, lt), is)

at_head : (y : List ℕ) (ys : List (List ℕ)) (t : List ℕ) → y ≡ t → Contains (y ∷ ys) t
at_head y ys t is = (0, omega arith, is)

in_rest : (y : List ℕ) (ys : List (List ℕ)) (t : List ℕ) → Contains ys t → Contains (y ∷ ys) t
in_rest y ys t has = (suc has.0, omega (arith, has.1), has.2)

-- ---- a text is among the keys where it is found

pub found_text : (test : Bytes → Bool) (text : List ℕ) → ((k : Bytes) → test k ≡ true → k.items ≡ text) → (es : List (Bytes × Bytes)) → is_some (lookup test es) ≡ true → Contains (texts_of (map way_of es)) text
found_text test text exact [] found = absurd cc
found_text test text exact (e ∷ es) found = by (test e.0) refl (found_text test text exact es)
  where
    by : (b : Bool) → test e.0 ≡ b → (is_some (lookup test es) ≡ true → Contains (texts_of (map way_of es)) text) → Contains (texts_of (map way_of (e ∷ es))) text
    by true is later = at_head e.0.items (texts_of (map way_of es)) text (exact e.0 is)
    by false is later = in_rest e.0.items (texts_of (map way_of es)) text (later (rw is at found))

pub absent_text : (test : Bytes → Bool) (text : List ℕ) → ((k : Bytes) → k.items ≡ text → test k ≡ true) → (es : List (Bytes × Bytes)) → is_some (lookup test es) ≡ false → Contains (texts_of (map way_of es)) text → ⊥
absent_text test text whole [] absent has = let lt = has.1 in absurd (omega (arith, lt))
absent_text test text whole (e ∷ es) absent has = by (test e.0) refl (head_or_rest e.0.items (texts_of (map way_of es)) text has) (absent_text test text whole es)
  where
    never : test e.0 ≡ true → ⊥
    never is = let no : true ≡ false = rw is at absent in absurd cc

    by : (b : Bool) → test e.0 ≡ b → (e.0.items ≡ text) ⊎ Contains (texts_of (map way_of es)) text → (is_some (lookup test es) ≡ false → Contains (texts_of (map way_of es)) text → ⊥) → ⊥
    by true is h later = never is
    by false is (inl same) later = never (whole e.0 same)
    by false is (inr rest) later = later (rw is at absent) rest

-- ---- an entry more

abbrev pub HasEntryMore : List (Bytes × Bytes) → Bytes → Bytes → List (Bytes × Bytes) → Type 0
HasEntryMore es k v new = HasOneMore (map way_of es) (way_of (k, v)) (map way_of new)

later_more : (e : Bytes × Bytes) (es new : List (Bytes × Bytes)) (k v : Bytes) → HasEntryMore es k v new → HasEntryMore (e ∷ es) k v (e ∷ new)
later_more e es new k v more = record {
  before = way_of e ∷ more.before;
  behind = more.behind;
  were = ap (λ (l : List Way). way_of e ∷ l) more.were;
  are = ap (λ (l : List Way). way_of e ∷ l) more.are;
}

pub inserted : (cmp : Bytes → Bytes → Ordering) (es : List (Bytes × Bytes)) (k v : Bytes) → is_some (lookup (is_at (cmp k)) es) ≡ false → HasEntryMore es k v (insert_entry cmp es k v)
inserted cmp [] k v absent = record { before = []; behind = []; were = refl; are = refl }
inserted cmp (e ∷ es) k v absent = by (cmp k e.0) refl (inserted cmp es k v)
  where
    by : (o : Ordering) → cmp k e.0 ≡ o → (is_some (lookup (is_at (cmp k)) es) ≡ false → HasEntryMore es k v (insert_entry cmp es k v)) → HasEntryMore (e ∷ es) k v (insert_entry cmp (e ∷ es) k v)
    by Less is later = subst (λ (o : Ordering). HasEntryMore (e ∷ es) k v (match_ordering o ((k, v) ∷ e ∷ es) ((e.0, v) ∷ es) (e ∷ insert_entry cmp es k v))) (sym is) (record { before = []; behind = map way_of (e ∷ es); were = refl; are = refl })
    by Equal is later = let no : true ≡ false = rw is at absent in absurd cc
    by Greater is later =
        subst (λ (o : Ordering). HasEntryMore (e ∷ es) k v (match_ordering o ((k, v) ∷ e ∷ es) ((e.0, v) ∷ es) (e ∷ insert_entry cmp es k v))) (sym is)
        (later_more e es (insert_entry cmp es k v) k v (later (rw is at absent)))

-- ---- one way more

pub all_more : (P : Way → Type 0) (before behind : List Way) (way : Way) → All P (before ++ behind) → P way → All P (before ++ way ∷ behind)
all_more P [] behind way all here = All-cons P way behind here all
all_more P (b ∷ before) behind way all here =
    All-cons P b (before ++ way ∷ behind) (All-head P b (before ++ behind) all) (all_more P before behind way (All-tail P b (before ++ behind) all) here)

pub contains_more : (before behind : List Way) (way : Way) (t : List ℕ) → Contains (texts_of (before ++ behind)) t → Contains (texts_of (before ++ way ∷ behind)) t
contains_more [] behind way t has = in_rest way.text.items (texts_of behind) t has
contains_more (b ∷ before) behind way t has = by (head_or_rest b.text.items (texts_of (before ++ behind)) t has) (contains_more before behind way t)
  where
    by : (b.text.items ≡ t) ⊎ Contains (texts_of (before ++ behind)) t → (Contains (texts_of (before ++ behind)) t → Contains (texts_of (before ++ way ∷ behind)) t) → Contains (texts_of (b ∷ before ++ way ∷ behind)) t
    by (inl is) later = at_head b.text.items (texts_of (before ++ way ∷ behind)) t is
    by (inr rest) later = in_rest b.text.items (texts_of (before ++ way ∷ behind)) t (later rest)

pub contains_new : (before behind : List Way) (way : Way) (t : List ℕ) → way.text.items ≡ t → Contains (texts_of (before ++ way ∷ behind)) t
contains_new [] behind way t is = at_head way.text.items (texts_of behind) t is
contains_new (b ∷ before) behind way t is = in_rest b.text.items (texts_of (before ++ way ∷ behind)) t (contains_new before behind way t is)

-- ---- in order

later_texts : (k : Bytes) (es : List (Bytes × Bytes)) → AllByRecursion (λ y. bytes_cmp k y ≡ Less) (keys_of es) → AllByRecursion (λ y. slice_cmp nat_cmp k.items y ≡ Less) (texts_of (map way_of es))
later_texts k [] all = tt
later_texts k (e ∷ es) all = (all.0, later_texts k es all.1)

pub sorted_texts : (es : List (Bytes × Bytes)) → IsStrictlySortedBy bytes_cmp (keys_of es) → IsStrictlySortedBy (slice_cmp nat_cmp) (texts_of (map way_of es))
unfolding IsStrictlySortedBy
sorted_texts [] sorted = tt
sorted_texts (e ∷ es) sorted = (later_texts e.0 es sorted.0, sorted_texts es sorted.1)
