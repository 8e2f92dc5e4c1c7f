-- Names in order: where a name stands, one more name, and what differs among names.
use Rattle.std.proofs.Common.{◌≡◌, ℕ, ◌+◌, ◌-◌, ◌<◌, ◌≤◌, ◌||◌, Bool, true, false, not, ◌&&◌, cond, List, [], ◌∷◌, ◌++◌, length, get_or, take, drop, zero, suc, map, filter, refl, ap, sym, ◌∙◌, subst, append_assoc, arith, ◌⊎◌, inl, inr, Option, Some, None, Less, Equal, Greater, Ordering}
use Rattle.std.specs.Prelude.{◌==◌, bytes_eq, find, insert, is_some, option_map, position, slice_get, unwrap_or}
use Rattle.std.specs.Cmp.Lexicographic.{slice_cmp}
use Rattle.std.specs.List.{list_any}
use Rattle.std.specs.List.Sorted.{IsPartitionedBy, ties}
use Rattle.std.specs.Option.{option_map_or, option_or}
use Rattle.std.specs.Ordering.{is_eq, is_lt, nat_cmp, ordering_index, ordering_reverse}
use Rattle.std.proofs.lemmas.Bool.{and_right, cases_lt}
use Rattle.std.proofs.lemmas.Bool.Decides.{nat_tests}
use Rattle.std.proofs.lemmas.Cmp.{nat_list_cmp_total}
use Rattle.std.proofs.lemmas.List.{get_or_default, length-map, length-take-le, map_more, take-append-drop}
use Rattle.std.proofs.lemmas.List.Edits.{get_or-insert_above, get_or-insert_at, get_or-insert_below, length-insert}
use Rattle.std.proofs.lemmas.List.Folds.{find-append, list_any-append}
use Rattle.std.proofs.lemmas.List.Sorted.{ranks_by, searchable_from_sorted}
use Rattle.std.proofs.lemmas.Map.Text.{is_eq-slice_cmp}
use Rattle.std.proofs.lemmas.Slice.Eq.{bytes_eq-Decides}
use Rattle.cf_types.proofs.PlaceLemmas.{position_cons, position_found, position_kept, position_new, position_within}
use Rattle.config_rules.specs.MachineText.{differ, is_one}
use Rattle.config_rules.proofs.MachineLaws.{differ_push}
use Rattle.machine_model.specs.declared.numbers.Numbered.{Numbered}
use Rattle.machine_model.specs.NumberedNames.{AreInOrder, HaveNumbers, IsPlaceOf, IsWith, comes_before, number_in}

-- ---- the place of a name

abbrev name_of : Numbered → List ℕ
name_of x = x.name.now

less_before : (o p : Ordering) → ordering_index o ≤ ordering_index p → is_lt p ≡ true → is_lt o ≡ true
less_before Less p h e = refl
less_before Equal Less h e = absurd (omega arith)
less_before Equal Equal h e = absurd (cc)
less_before Equal Greater h e = absurd (cc)
less_before Greater Less h e = absurd (omega arith)
less_before Greater Equal h e = absurd (omega arith)
less_before Greater Greater h e = absurd (cc)

-- in names in order those that come before another stand at the front
pub parted : (numbers : List Numbered) (q : List ℕ) → AreInOrder numbers → IsPartitionedBy (λ x. comes_before x.name.now q) numbers
parted numbers q order i j d le lt h =
    less_before (slice_cmp nat_cmp (name_of (get_or numbers i d)) q) (slice_cmp nat_cmp (name_of (get_or numbers j d)) q)
    (searchable_from_sorted nat_list_cmp_total name_of numbers q order i j d le lt) h

-- ---- the entry of a name

found_there : {X : Type 0} (p : X → Bool) (xs : List X) (i : ℕ) (x : X) → i < length xs → x ≡ get_or xs i x → p x ≡ true → ((k : ℕ) → k < i → p (get_or xs k x) ≡ false) → find p xs ≡ Some x
found_there p [] i x h is e other_at = absurd (omega arith)
found_there p (y ∷ ys) zero x h is e other_at = ap (λ b. cond b (Some y) (find p ys)) (ap p (sym is) ∙ e) ∙ ap Some (sym is)
found_there p (y ∷ ys) (suc i) x h is e other_at =
    ap (λ b. cond b (Some y) (find p ys)) (other_at 0 (omega arith)) ∙ found_there p ys i x (omega arith) is e (λ k lt. other_at (suc k) (omega arith))

found_nowhere : {X : Type 0} (p : X → Bool) (xs : List X) → ((k : ℕ) (d : X) → k < length xs → p (get_or xs k d) ≡ false) → find p xs ≡ None
found_nowhere p [] other_at = refl
found_nowhere p (y ∷ ys) other_at = ap (λ b. cond b (Some y) (find p ys)) (other_at 0 y (omega arith)) ∙ found_nowhere p ys (λ k d lt. other_at (suc k) d (omega arith))

not_equal : (a b : List ℕ) → comes_before a b ≡ true → bytes_eq a b ≡ false
not_equal a b h = sym (is_eq-slice_cmp a b) ∙ other (slice_cmp nat_cmp a b) h
  where
    other : (o : Ordering) → is_lt o ≡ true → is_eq o ≡ false
    other Less h = refl
    other Equal h = absurd (cc)
    other Greater h = absurd (cc)

later_differ : (o p : Ordering) → ordering_index o ≤ ordering_index p → is_lt o ≡ false → is_eq o ≡ false → is_eq p ≡ false
later_differ Less p h l e = absurd (cc)
later_differ Equal p h l e = absurd (cc)
later_differ Greater Less h l e = refl
later_differ Greater Equal h l e = absurd (omega arith)
later_differ Greater Greater h l e = refl

-- the entry at a name's place has it
pub number_there : (numbers : List Numbered) (place : ℕ) (q : List ℕ) (x : Numbered) → IsPlaceOf q numbers place → place < length numbers → x ≡ get_or numbers place x → bytes_eq x.name.now q ≡ true
    → number_in numbers q ≡ Some x.number
number_there numbers place q x at lt is e =
    ap (λ o. option_map (λ y. y.number) o) (found_there (λ y. bytes_eq y.name.now q) numbers place x lt is e (λ k less. not_equal (name_of (get_or numbers k x)) q (at.1.0 k x (omega arith) less)))

-- it has another, so none has it
pub number_elsewhere : (numbers : List Numbered) (place : ℕ) (q : List ℕ) (x : Numbered) → AreInOrder numbers → IsPlaceOf q numbers place → place < length numbers → x ≡ get_or numbers place x
    → bytes_eq x.name.now q ≡ false → number_in numbers q ≡ None
number_elsewhere numbers place q x order at lt is e = ap (λ o. option_map (λ y. y.number) o) (found_nowhere (λ y. bytes_eq y.name.now q) numbers other_at)
  where
    ord : Numbered → Ordering
    ord y = slice_cmp nat_cmp (name_of y) q

    here : (d : Numbered) → is_eq (ord (get_or numbers place d)) ≡ false
    here d = ap (λ y. is_eq (ord y)) (get_or_default numbers place d x lt ∙ sym is) ∙ is_eq-slice_cmp (name_of x) q ∙ e

    other_at : (k : ℕ) (d : Numbered) → k < length numbers → bytes_eq (name_of (get_or numbers k d)) q ≡ false
    other_at k d less = elim (cases_lt k place) [
      | inl before ↦ not_equal (name_of (get_or numbers k d)) q (at.1.0 k d (omega arith) before)
      | inr behind ↦
          sym (is_eq-slice_cmp (name_of (get_or numbers k d)) q)
          ∙ later_differ (ord (get_or numbers place d)) (ord (get_or numbers k d)) (searchable_from_sorted nat_list_cmp_total name_of numbers q order place k d behind less) (at.1.1 place d (omega arith) lt) (here d)
    ]

-- there is no entry at its place
pub number_past : (numbers : List Numbered) (place : ℕ) (q : List ℕ) → IsPlaceOf q numbers place → length numbers ≤ place → number_in numbers q ≡ None
number_past numbers place q at past =
    ap (λ o. option_map (λ y. y.number) o)
    (found_nowhere (λ y. bytes_eq y.name.now q) numbers (λ k d less. not_equal (name_of (get_or numbers k d)) q (at.1.0 k d (omega arith) (omega arith))))

-- ---- one more name

one_on : (b : Bool) (o : Option ℕ) (n : ℕ) (c : Bool) → cond b (Some 0) (option_map (λ k. k + 1) (option_or o (cond c (Some n) None))) ≡ option_or (cond b (Some 0) (option_map (λ k. k + 1) o)) (cond c (Some (suc n)) None)
one_on true o n c = refl
one_on false (Some k) n c = refl
one_on false None n true = let e : n + 1 ≡ suc n = omega arith in ap Some e
one_on false None n false = refl

-- the place with one more element
pub position_push : {X : Type 0} (p : X → Bool) (xs : List X) (y : X) → position p (xs ++ y ∷ []) ≡ option_or (position p xs) (cond (p y) (Some (length xs)) None)
position_push p [] y = position_cons p y []
position_push p (x ∷ xs) y =
    position_cons p x (xs ++ y ∷ [])
    ∙ ap (λ o. cond (p x) (Some 0) (option_map (λ k. k + 1) o)) (position_push p xs y)
    ∙ one_on (p x) (position p xs) (length xs) (p y)
    ∙ ap (λ o. option_or o (cond (p y) (Some (suc (length xs))) None)) (sym (position_cons p x xs))

abbrev entry_if : Bool → Numbered → Option Numbered
entry_if b x = cond b (Some x) None

mapped_or : (o : Option Numbered) (b : Bool) (x : Numbered) → option_map (λ y. y.number) (option_or o (entry_if b x)) ≡ option_or (option_map (λ y. y.number) o) (cond b (Some x.number) None)
mapped_or None true x = refl
mapped_or None false x = refl
mapped_or (Some y) b x = refl

-- one more entry at the end
pub pushed : (numbers new : List Numbered) (x : Numbered) (name : List ℕ) → new ≡ numbers ++ x ∷ [] → x.name.now ≡ name → IsWith name x.number numbers new
pushed numbers new x name more is q =
    ap (λ xs. number_in xs q) more
    ∙ ap (λ o. option_map (λ y. y.number) o) (find-append (λ y. bytes_eq y.name.now q) numbers (x ∷ []))
    ∙ mapped_or (find (λ y. bytes_eq y.name.now q) numbers) (bytes_eq x.name.now q) x
    ∙ ap (λ n. option_or (number_in numbers q) (cond (bytes_eq n q) (Some x.number) None)) is

-- the next name has one more entry
pub have_with : (numbers new : List Numbered) (name : List ℕ) (number : ℕ) (names : List (List ℕ)) → IsWith name number numbers new → HaveNumbers numbers names → length names ≡ number
    → HaveNumbers new (names ++ name ∷ [])
have_with numbers new name number names also have size q =
    also q
    ∙ ap (λ o. option_or o (cond (bytes_eq name q) (Some number) None)) (have q)
    ∙ ap (λ k. option_or (position (λ m. bytes_eq m q) names) (cond (bytes_eq name q) (Some k) None)) (sym size)
    ∙ sym (position_push (λ m. bytes_eq m q) names name)

-- ---- the next name at its place

front_or : (a b : Option Numbered) (c : Bool) (x : Numbered) → (c ≡ true → option_map (λ y. y.number) (option_or a b) ≡ None)
    → option_map (λ y. y.number) (option_or a (cond c (Some x) b)) ≡ option_or (option_map (λ y. y.number) (option_or a b)) (cond c (Some x.number) None)
front_or (Some y) b c x h = refl
front_or None (Some y) true x h = absurd (some_none (h refl))
  where
    some_none : Some y.number ≡ None → ⊥
    some_none e = absurd (cc)
front_or None (Some y) false x h = refl
front_or None None true x h = refl
front_or None None false x h = refl

-- the number with one more entry in between
number_between : (numbers : List Numbered) (place : ℕ) (x : Numbered) (q : List ℕ) → (bytes_eq x.name.now q ≡ true → number_in numbers q ≡ None)
    → number_in (insert numbers place x) q ≡ option_or (number_in numbers q) (cond (bytes_eq x.name.now q) (Some x.number) None)
number_between numbers place x q new =
    let p : Numbered → Bool = λ y. bytes_eq y.name.now q in
    let whole : find p numbers ≡ option_or (find p (take place numbers)) (find p (drop place numbers)) =
    ap (find p) (sym (take-append-drop place numbers)) ∙ find-append p (take place numbers) (drop place numbers) in
    ap (λ o. option_map (λ y. y.number) o) (find-append p (take place numbers) (x ∷ drop place numbers))
    ∙ front_or (find p (take place numbers)) (find p (drop place numbers)) (bytes_eq x.name.now q) x (λ h. ap (λ o. option_map (λ y. y.number) o) (sym whole) ∙ new h)
    ∙ ap (λ o. option_or (option_map (λ y. y.number) o) (cond (bytes_eq x.name.now q) (Some x.number) None)) (sym whole)

pub added : (numbers new : List Numbered) (place : ℕ) (x : Numbered) (name : List ℕ) → new ≡ insert numbers place x → x.name.now ≡ name → number_in numbers name ≡ None → IsWith name x.number numbers new
added numbers new place x name more is fresh q =
    ap (λ xs. number_in xs q) more
    ∙ number_between numbers place x q (λ h. ap (number_in numbers) (sym ((bytes_eq-Decides x.name.now q).0 h) ∙ is) ∙ fresh)
    ∙ ap (λ n. option_or (number_in numbers q) (cond (bytes_eq n q) (Some x.number) None)) is

-- what comes before another doesn't come behind it
one_way : (a b : List ℕ) → comes_before a b ≡ true → comes_before b a ≡ false
one_way a b h = (ranks_by nat_list_cmp_total (λ (n : List ℕ). n)).one_way a b h

order_between : (numbers : List Numbered) (place : ℕ) (x : Numbered) → AreInOrder numbers → IsPlaceOf x.name.now numbers place → AreInOrder (insert numbers place x)
order_between numbers place x order at k d low high =
    let n : length (insert numbers place x) ≡ length numbers + 1 = length-insert numbers place x at.0 in
    by_place (cases_lt (k + 1) place) (cases_lt k place) (cases_lt place k) (omega (arith, n, high))
  where
    ys : List Numbered
    ys = insert numbers place x

    by_place : (k + 1 < place) ⊎ (place ≤ k + 1) → (k < place) ⊎ (place ≤ k) → (place < k) ⊎ (k ≤ place) → k < length numbers → comes_before (name_of (get_or ys (k + 1) d)) (name_of (get_or ys k d)) ≡ false
    by_place (inl a) b c less =
        ap (λ y. comes_before (name_of y) (name_of (get_or ys k d))) (get_or-insert_below numbers place x d (k + 1) a at.0)
        ∙ ap (λ y. comes_before (name_of (get_or numbers (k + 1) d)) (name_of y)) (get_or-insert_below numbers place x d k (omega arith) at.0)
        ∙ order k d low (omega arith)
    by_place (inr a) (inl b) c less =
        let e : k + 1 ≡ place = omega arith in
        ap (λ y. comes_before (name_of y) (name_of (get_or ys k d))) (ap (λ i. get_or ys i d) e ∙ get_or-insert_at numbers place x d at.0)
        ∙ ap (λ y. comes_before (name_of x) (name_of y)) (get_or-insert_below numbers place x d k b at.0)
        ∙ one_way (name_of (get_or numbers k d)) (name_of x) (at.1.0 k d low b)
    by_place (inr a) (inr b) (inr c) less =
        let e : k ≡ place = omega arith in
        ap (λ y. comes_before (name_of y) (name_of (get_or ys k d))) (get_or-insert_above numbers place x d k b at.0)
        ∙ ap (λ y. comes_before (name_of (get_or numbers k d)) (name_of y)) (ap (λ i. get_or ys i d) e ∙ get_or-insert_at numbers place x d at.0)
        ∙ at.1.1 k d b less
    by_place (inr a) (inr b) (inl c) less =
        let e : k - 1 + 1 ≡ k = omega arith in
        ap (λ y. comes_before (name_of y) (name_of (get_or ys k d))) (get_or-insert_above numbers place x d k b at.0)
        ∙ ap (λ y. comes_before (name_of (get_or numbers k d)) (name_of y)) (ap (λ i. get_or ys i d) (sym e) ∙ get_or-insert_above numbers place x d (k - 1) (omega arith) at.0)
        ∙ ap (λ i. comes_before (name_of (get_or numbers i d)) (name_of (get_or numbers (k - 1) d))) (sym e)
        ∙ order (k - 1) d (omega arith) (omega arith)

pub added_in_order : (numbers new : List Numbered) (place : ℕ) (x : Numbered) (name : List ℕ) → new ≡ insert numbers place x → x.name.now ≡ name → AreInOrder numbers → IsPlaceOf name numbers place → AreInOrder new
added_in_order numbers new place x name more is order at = subst AreInOrder (sym more) (order_between numbers place x order (subst (λ n. IsPlaceOf n numbers place) (sym is) at))

-- ---- names put in order

find_filter : {X : Type 0} (p : X → Bool) (xs : List X) → find p xs ≡ slice_get (filter p xs) 0
find_filter p [] = refl
find_filter p (x ∷ xs) = by_test (p x) (find_filter p xs)
  where
    by_test : (b : Bool) → find p xs ≡ slice_get (filter p xs) 0 → cond b (Some x) (find p xs) ≡ slice_get (cond b (x ∷ filter p xs) (filter p xs)) 0
    by_test true ih = refl
    by_test false ih = ih

filter_same : {X : Type 0} (p q : X → Bool) (xs : List X) → ((x : X) → p x ≡ q x) → filter p xs ≡ filter q xs
filter_same p q [] h = refl
filter_same p q (x ∷ xs) h = ap (λ b. cond b (x ∷ filter p xs) (filter p xs)) (h x) ∙ ap (λ ys. cond (q x) (x ∷ ys) ys) (filter_same p q xs h)

tied : (o : Ordering) → (not (is_lt (ordering_reverse o)) && not (is_lt o)) ≡ is_eq o
tied Less = refl
tied Equal = refl
tied Greater = refl

-- a stable sort keeps the first of each name
pub kept_first : (numbers sorted : List Numbered) → ((x : Numbered) → filter (ties (λ a b. comes_before a.name.now b.name.now) x) sorted ≡ filter (ties (λ a b. comes_before a.name.now b.name.now) x) numbers)
    → (q : List ℕ) → number_in sorted q ≡ number_in numbers q
kept_first numbers sorted stable q = ap (λ o. option_map (λ y. y.number) o) same
  where
    same : find (λ y. bytes_eq y.name.now q) sorted ≡ find (λ y. bytes_eq y.name.now q) numbers
    same =
        let x : Numbered = record { name = record { ref_ptr = (0, 0); now = q }; number = 0 } in
        let p : Numbered → Bool = λ y. bytes_eq y.name.now q in
        let test : Numbered → Bool = ties (λ a b. comes_before a.name.now b.name.now) x in
        let alike : (y : Numbered) → test y ≡ p y = λ y.
        ap (λ o. not (is_lt o) && not (comes_before y.name.now q)) (nat_list_cmp_total.antisymm q y.name.now) ∙ tied (slice_cmp nat_cmp y.name.now q) ∙ is_eq-slice_cmp y.name.now q in
        find_filter p sorted ∙ ap (λ xs. slice_get xs 0) (sym (filter_same test p sorted alike) ∙ stable x ∙ filter_same test p numbers alike) ∙ sym (find_filter p numbers)

pub have_more : {X : Type 0} (f : X → List ℕ) (xs : List X) (i : ℕ) (x : X) (old new : List Numbered) → i < length xs → x ≡ get_or xs i x → HaveNumbers old (map f (take i xs))
    → ((names : List (List ℕ)) → HaveNumbers old names → length names ≡ i → HaveNumbers new (names ++ f x ∷ [])) → HaveNumbers new (map f (take (i + 1) xs))
have_more f xs i x old new h is have step =
    let size : length (map f (take i xs)) ≡ i = length-map (take i xs) f ∙ length-take-le i xs (omega arith) in
    subst (HaveNumbers new) (ap (λ y. map f (take i xs) ++ f y ∷ []) is ∙ sym (map_more f xs i x h)) (step (map f (take i xs)) have size)

-- ---- what differs among names

one_more : (a b c : Bool) → a ≡ true → (b || (a || c)) ≡ true
one_more true true c h = refl
one_more true false c h = refl
one_more false b c h = absurd (cc)

twice_if : (b : Bool) (n name : List ℕ) (names more : List (List ℕ)) → bytes_eq n name ≡ b → (b || list_any (λ m. bytes_eq m name) names) ≡ true
    → (list_any (λ m. bytes_eq m name) names ≡ true → differ (names ++ name ∷ more) ≡ false) → differ (n ∷ names ++ name ∷ more) ≡ false
twice_if true n name names more e h ih =
    ap (λ b. not b && differ (names ++ name ∷ more))
    (list_any-append (λ w. bytes_eq n w) names (name ∷ more) ∙ one_more (bytes_eq n name) (is_one names n) (list_any (λ w. bytes_eq n w) more) e)
twice_if false n name names more e h ih = and_right (not (is_one (names ++ name ∷ more) n)) (differ (names ++ name ∷ more)) (ih h)

-- a name that stands before
differ_twice : (names : List (List ℕ)) (name : List ℕ) (more : List (List ℕ)) → list_any (λ n. bytes_eq n name) names ≡ true → differ (names ++ name ∷ more) ≡ false
differ_twice [] name more h = absurd (cc)
differ_twice (n ∷ names) name more h = twice_if (bytes_eq n name) n name names more refl h (differ_twice names name more)

names_split : {X : Type 0} (f : X → List ℕ) (xs : List X) (i : ℕ) (x : X) → i < length xs → x ≡ get_or xs i x → map f (take i xs) ++ f x ∷ map f (drop (suc i) xs) ≡ map f xs
names_split f [] i x h is = absurd (omega arith)
names_split f (y ∷ xs) zero x h is = ap (λ z. f z ∷ map f xs) is
names_split f (y ∷ xs) (suc i) x h is = ap (λ zs. f y ∷ zs) (names_split f xs i x (omega arith) is)

abbrev is_number : ℕ → Option ℕ → Bool
is_number i o = option_map_or (λ n. n == i) o false

other_number : (o : Option ℕ) (i : ℕ) → is_some o ≡ true → unwrap_or o 0 < i → is_number i o ≡ false
other_number None i h lt = refl
other_number (Some k) i h lt = grind (arith, nat_tests)

is_itself : (i : ℕ) → (i == i) ≡ true
is_itself i = grind (arith, nat_tests)

same_name : (name : List ℕ) → bytes_eq name name ≡ true
same_name name = (bytes_eq-Decides name name).1 refl

-- a name has the number of its place just where none before it is the same
first_there : (front rest : List (List ℕ)) (name : List ℕ) (b : Bool) → list_any (λ n. bytes_eq n name) front ≡ b → is_number (length front) (position (λ n. bytes_eq n name) (front ++ name ∷ rest)) ≡ not b
first_there front rest name true h =
    let p : List ℕ → Bool = λ n. bytes_eq n name in
    let known : is_some (position p front) ≡ true = position_found p front ∙ h in
    ap (is_number (length front)) (position_kept p front (name ∷ rest) known) ∙ other_number (position p front) (length front) known (position_within p front known)
first_there front rest name false h =
    let p : List ℕ → Bool = λ n. bytes_eq n name in
    let new : position p (front ++ name ∷ []) ≡ Some (length front) = position_new p front name (position_found p front ∙ h) (same_name name) in
    ap (λ ns. is_number (length front) (position p ns)) (sym (append_assoc front (name ∷ []) rest))
    ∙ ap (is_number (length front)) (position_kept p (front ++ name ∷ []) rest (ap is_some new) ∙ new)
    ∙ is_itself (length front)

module _ {X : Type 0} (f : X → List ℕ) (xs : List X) (i : ℕ) (x : X) (numbers : List Numbered) (lt : i < length xs) (is : x ≡ get_or xs i x) (have : HaveNumbers numbers (map f xs)) where
  test_is : (b : Bool) → list_any (λ n. bytes_eq n (f x)) (map f (take i xs)) ≡ b → is_number i (number_in numbers (f x)) ≡ not b
  test_is b h =
      let size : length (map f (take i xs)) ≡ i = length-map (take i xs) f ∙ length-take-le i xs (omega arith) in
      ap (is_number i) (have (f x) ∙ ap (position (λ n. bytes_eq n (f x))) (sym (names_split f xs i x lt is)))
      ∙ ap (λ k. is_number k (position (λ n. bytes_eq n (f x)) (map f (take i xs) ++ f x ∷ map f (drop (suc i) xs)))) (sym size)
      ∙ first_there (map f (take i xs)) (map f (drop (suc i) xs)) (f x) b h

  -- the next of a list has the number of one before it
  pub not_apart : is_number i (number_in numbers (f x)) ≡ false → differ (map f xs) ≡ false
  not_apart h =
      ap differ (sym (names_split f xs i x lt is))
      ∙ differ_twice (map f (take i xs)) (f x) (map f (drop (suc i) xs)) (turned (list_any (λ n. bytes_eq n (f x)) (map f (take i xs))) (sym (test_is _ refl) ∙ h))
    where
      turned : (b : Bool) → not b ≡ false → b ≡ true
      turned true e = refl
      turned false e = absurd (cc)

  -- it has its own
  pub apart_more : is_number i (number_in numbers (f x)) ≡ true → differ (map f (take i xs)) ≡ true → differ (map f (take (i + 1) xs)) ≡ true
  apart_more h apart =
      ap differ (map_more f xs i x lt) ∙ ap (λ y. differ (map f (take i xs) ++ f y ∷ [])) (sym is)
      ∙ differ_push (map f (take i xs)) (f x) apart (turned (list_any (λ n. bytes_eq n (f x)) (map f (take i xs))) (sym (test_is _ refl) ∙ h))
    where
      turned : (b : Bool) → not b ≡ true → b ≡ false
      turned false e = refl
      turned true e = absurd (cc)
