-- The numbers of names, with one more name.
use Rattle.std.proofs.Common.{◌≡◌, ℕ, ◌+◌, suc, Bool, true, false, cond, Option, Some, None, List, [], ◌∷◌, ◌++◌, length, map, refl, ap, sym, ◌∙◌, subst, arith}
use Rattle.std.specs.Prelude.{bytes_eq, option_map, position, unwrap_or}
use Rattle.std.specs.Map.{lookup}
use Rattle.std.proofs.lemmas.Bool.{false≢true}
use Rattle.std.proofs.lemmas.List.{length-map, map-append}
use Rattle.std.proofs.lemmas.Slice.Eq.{bytes_eq-Decides}
use Rattle.cf_types.proofs.PlaceLemmas.{position_cons, position-map}
use Rattle.indexmap.specs.IndexMap.{insert_entry}
use Rattle.cf_names.specs.NameNumbers.{AreNumbers, NameNumbers, number_in}

-- ---- one more key of a map

abbrev key_eq : List ℕ → List ℕ → Bool
key_eq a b = bytes_eq a b

abbrev is_key : List ℕ → List ℕ → Bool
is_key q k = bytes_eq q k

over : {X : Type 0} (a b : Bool) (new old more : X) → a ≡ b → cond b new more ≡ cond a new (cond b old more)
over true true new old more h = refl
over false false new old more h = refl
over true false new old more h = absurd (cc)
over false true new old more h = absurd (cc)

-- what is looked up after a number was set
key_set : (q : List ℕ) (es : List (List ℕ × ℕ)) (k : List ℕ) (n : ℕ) → lookup (is_key q) (insert_entry key_eq es k n) ≡ cond (is_key q k) (Some n) (lookup (is_key q) es)
key_set q [] k n = refl
key_set q (e ∷ es) k n = by_equal (key_eq k e.0) refl (key_set q es k n)
  where
    apart : (a b : Bool) → is_key q k ≡ a → is_key q e.0 ≡ b → key_eq k e.0 ≡ false → (rest : Option ℕ) → cond b (Some e.1) (cond a (Some n) rest) ≡ cond a (Some n) (cond b (Some e.1) rest)
    apart true true h k' g rest =
        absurd (false≢true (sym g ∙ (bytes_eq-Decides k e.0).1 (sym ((bytes_eq-Decides q k).0 h) ∙ (bytes_eq-Decides q e.0).0 k')))
    apart true false h k' g rest = refl
    apart false true h k' g rest = refl
    apart false false h k' g rest = refl

    by_equal : (b : Bool) → key_eq k e.0 ≡ b → lookup (is_key q) (insert_entry key_eq es k n) ≡ cond (is_key q k) (Some n) (lookup (is_key q) es)
        → lookup (is_key q) (cond b ((e.0, n) ∷ es) (e ∷ insert_entry key_eq es k n)) ≡ cond (is_key q k) (Some n) (cond (is_key q e.0) (Some e.1) (lookup (is_key q) es))
    by_equal true h rest = over (is_key q k) (is_key q e.0) (Some n) (Some e.1) (lookup (is_key q) es) (ap (bytes_eq q) ((bytes_eq-Decides k e.0).0 h))
    by_equal false h rest = ap (cond (is_key q e.0) (Some e.1)) rest ∙ apart (is_key q k) (is_key q e.0) refl refl h (lookup (is_key q) es)

-- ---- one more name

-- the first, or else another
abbrev first_or : Option ℕ → Option ℕ → Option ℕ
first_or None o = o
first_or (Some n) o = Some n

one_on : (b : Bool) (o : Option ℕ) (n : ℕ) (c : Bool) → cond b (Some 0) (option_map (λ k. k + 1) (first_or o (cond c (Some n) None))) ≡ first_or (cond b (Some 0) (option_map (λ k. k + 1) o)) (cond c (Some (suc n)) None)
one_on true o n c = refl
one_on false (Some k) n c = refl
one_on false None n true = let e : n + 1 ≡ suc n = omega arith in ap Some e
one_on false None n false = refl

-- the place with one more element
position_push : {X : Type 0} (p : X → Bool) (xs : List X) (y : X) → position p (xs ++ y ∷ []) ≡ first_or (position p xs) (cond (p y) (Some (length xs)) None)
position_push p [] y = position_cons p y []
position_push p (x ∷ xs) y =
    position_cons p x (xs ++ y ∷ [])
    ∙ ap (λ o. cond (p x) (Some 0) (option_map (λ k. k + 1) o)) (position_push p xs y)
    ∙ one_on (p x) (position p xs) (length xs) (p y)
    ∙ ap (λ o. first_or o (cond (p y) (Some (suc (length xs))) None)) (sym (position_cons p x xs))

-- the number that stands there already, or else a new one
set_if : (b : Bool) (o : Option ℕ) (n v : ℕ) → (b ≡ true → v ≡ unwrap_or o n) → cond b (Some v) o ≡ first_or o (cond b (Some n) None)
set_if true (Some k) n v h = ap Some (h refl)
set_if true None n v h = ap Some (h refl)
set_if false (Some k) n v h = refl
set_if false None n v h = refl

turned : (a b : Bool) → (a ≡ true → b ≡ true) → (b ≡ true → a ≡ true) → a ≡ b
turned true b f g = sym (f refl)
turned false true f g = g refl
turned false false f g = refl

eq_sym : (a b : List ℕ) → bytes_eq a b ≡ bytes_eq b a
eq_sym a b =
    turned (bytes_eq a b) (bytes_eq b a) (λ h. (bytes_eq-Decides b a).1 (sym ((bytes_eq-Decides a b).0 h)))
    (λ h. (bytes_eq-Decides a b).1 (sym ((bytes_eq-Decides b a).0 h)))

-- a key of a name answers as the name does
key_is : (q name : List ℕ) (k : List ℕ) → k ≡ name → is_key q k ≡ bytes_eq name q
key_is q name k is = ap (bytes_eq q) is ∙ eq_sym q name

-- a name gets the next number, unless one stands there
pub next_name : (old : NameNumbers) (new : List (List ℕ × ℕ)) (k : List ℕ) (name : List ℕ) (number v : ℕ) → v ≡ unwrap_or (number_in old name) number
    → new ≡ insert_entry key_eq old.entries k v → k ≡ name
    → (names : List (List ℕ)) → AreNumbers old names → length names ≡ number → (q : List ℕ) → lookup (is_key q) new ≡ position (λ n. bytes_eq n q) (names ++ name ∷ [])
next_name old new k name number v value entries is names are size q =
    let place : Option ℕ = position (λ n. bytes_eq n q) names in
    ap (lookup (is_key q)) entries
    ∙ key_set q old.entries k v
    ∙ ap (λ b. cond b (Some v) (number_in old q)) (key_is q name k is)
    ∙ ap (cond (bytes_eq name q) (Some v)) (are q)
    ∙ set_if (bytes_eq name q) place (length names) v
    (λ h. value ∙ ap (λ (m : List ℕ). unwrap_or (number_in old m) number) ((bytes_eq-Decides name q).0 h) ∙ ap (λ (o : Option ℕ). unwrap_or o number) (are q) ∙ ap (unwrap_or place) (sym size))
    ∙ sym (position_push (λ n. bytes_eq n q) names name)

-- the number of a name in a list of what has names
pub number_is : {X : Type 0} (name_of : X → List ℕ) (xs : List X) (numbers : NameNumbers) (q : List ℕ) → AreNumbers numbers (map name_of xs) → number_in numbers q ≡ position (λ x. bytes_eq (name_of x) q) xs
number_is name_of xs numbers q are = are q ∙ position-map (λ n. bytes_eq n q) name_of xs

-- the numbers with one more of what has names
pub numbers_push : {X : Type 0} (name_of : X → List ℕ) (xs ys : List X) (x : X) (name : List ℕ) (number : ℕ) (old new : NameNumbers) → AreNumbers old (map name_of xs) → name ≡ name_of x → number ≡ length xs → ys ≡ xs ++ x ∷ []
    → ((names : List (List ℕ)) → AreNumbers old names → length names ≡ number → AreNumbers new (names ++ name ∷ [])) → AreNumbers new (map name_of ys)
numbers_push name_of xs ys x name number old new are is size more step =
    subst (AreNumbers new) (ap (λ (n : List ℕ). map name_of xs ++ n ∷ []) is ∙ sym (map-append name_of xs (x ∷ [])) ∙ ap (map name_of) (sym more))
    (step (map name_of xs) are (length-map xs name_of ∙ sym size))
