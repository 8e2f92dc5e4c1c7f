-- How many references there are, where one is granted and where one is given back.
use Rattle.std.proofs.Common.{◌≡◌, ℕ, ◌+◌, ◌≤◌, ◌<◌, ◌==◌, ◌||◌, ◌&&◌, Bool, true, false, not, cond, nat_lt, List, [], ◌∷◌, ◌++◌, suc, refl, sym, ap, subst, ◌∙◌, inl, inr, arith, zero-add, eq-eqb, eqb-true}
use Rattle.std.specs.Prelude.{count_by}
use Rattle.std.specs.List.{AllByRecursion, list_any, position_or_len, remove}
use Rattle.std.proofs.lemmas.Bool.{and_parts, ne_eqb, or_cases, or_left, or_right}
use Rattle.std.proofs.lemmas.Bool.Decides.{nat_tests}
use Rattle.std.proofs.lemmas.List.Folds.{list_any-append}
use Rattle.std.proofs.lemmas.List.Sums.{sum_by-append, sum_by-cons}
use Rattle.run_rules.specs.declared.world.Ref.{Ref}
use Rattle.run_rules.specs.World.{has, holds_in, refers_to}
use Rattle.run_rules.specs.References.{AreCounted, MayHold, count_in, given_back, is_of, refs_to, shared_again, sole_with, without_first}

-- ---- the first of a list

pub remove_is : {A : Type 0} (p : A → Bool) (xs : List A) → remove xs (position_or_len p xs) ≡ without_first p xs
remove_is p [] = refl
remove_is p (x ∷ xs) = by (p x) (remove_is p xs)
  where
    by : (b : Bool) → remove xs (position_or_len p xs) ≡ without_first p xs → remove (x ∷ xs) (cond (not b) (1 + position_or_len p xs) 0) ≡ cond b xs (x ∷ without_first p xs)
    by true rest = refl
    by false rest = let next : 1 + position_or_len p xs ≡ suc (position_or_len p xs) = omega arith in rw next (ap (λ ys. x ∷ ys) rest)

-- what holds of all holds of those that are left
pub all_left : {A : Type 0} (P : A → Type 0) (p : A → Bool) (xs : List A) → AllByRecursion P xs → AllByRecursion P (without_first p xs)
all_left P p [] all = tt
all_left P p (x ∷ xs) all = by (p x) (all_left P p xs all.1)
  where
    by : (b : Bool) → AllByRecursion P (without_first p xs) → AllByRecursion P (cond b xs (x ∷ without_first p xs))
    by true rest = all.1
    by false rest = (all.0, rest)

abbrev one_if : Bool → ℕ
one_if b = cond b 1 0

count_cons : {A : Type 0} (q : A → Bool) (x : A) (xs : List A) → count_by q (x ∷ xs) ≡ one_if (q x) + count_by q xs
count_cons q x xs = sum_by-cons (λ y. one_if (q y)) x xs

-- one fewer of a kind to which the first belongs
pub one_fewer : {A : Type 0} (p q : A → Bool) (xs : List A) → ((x : A) → p x ≡ true → q x ≡ true) → list_any p xs ≡ true → count_by q (without_first p xs) + 1 ≡ count_by q xs
one_fewer p q [] among some = absurd cc
one_fewer p q (x ∷ xs) among some = by (p x) refl (one_fewer p q xs among)
  where
    by : (b : Bool) → p x ≡ b → (list_any p xs ≡ true → count_by q (without_first p xs) + 1 ≡ count_by q xs) → count_by q (cond b xs (x ∷ without_first p xs)) + 1 ≡ count_by q (x ∷ xs)
    by true here rest = let own : one_if (q x) ≡ 1 = ap one_if (among x here) in omega (arith, count_cons q x xs, own)
    by false other rest =
        let more : list_any p xs ≡ true = rw other at some in
        let e : count_by q (without_first p xs) + 1 ≡ count_by q xs = rest more in
        omega (arith, count_cons q x xs, count_cons q x (without_first p xs), e)

-- as many of a kind to which it does not belong
pub as_many : {A : Type 0} (p q : A → Bool) (xs : List A) → ((x : A) → p x ≡ true → q x ≡ false) → count_by q (without_first p xs) ≡ count_by q xs
as_many p q [] apart = refl
as_many p q (x ∷ xs) apart = by (p x) refl (as_many p q xs apart)
  where
    by : (b : Bool) → p x ≡ b → count_by q (without_first p xs) ≡ count_by q xs → count_by q (cond b xs (x ∷ without_first p xs)) ≡ count_by q (x ∷ xs)
    by true here rest = let own : one_if (q x) ≡ 0 = ap one_if (apart x here) in omega (arith, count_cons q x xs, own)
    by false other rest = omega (arith, count_cons q x xs, count_cons q x (without_first p xs), rest)

-- never more of any kind
pub no_more : {A : Type 0} (p q : A → Bool) (xs : List A) → count_by q (without_first p xs) ≤ count_by q xs
no_more p q [] = omega arith
no_more p q (x ∷ xs) = by (p x) (no_more p q xs)
  where
    by : (b : Bool) → count_by q (without_first p xs) ≤ count_by q xs → count_by q (cond b xs (x ∷ without_first p xs)) ≤ count_by q (x ∷ xs)
    by true rest = omega (arith, count_cons q x xs)
    by false rest = omega (arith, count_cons q x xs, count_cons q x (without_first p xs), rest)

-- ---- references

-- a granted reference counts for its caller and its device
pub count_granted : (refs : List Ref) (r : Ref) (k s : ℕ) → count_in (refs ++ r ∷ []) k s ≡ count_in refs k s + one_if (is_of k s r)
count_granted refs r k s = sum_by-append (λ q. one_if (is_of k s q)) refs (r ∷ []) ∙ ap (λ n. count_in refs k s + n) (zero-add (one_if (is_of k s r)))

-- and one that is given back no longer does
pub count_returned : (refs : List Ref) (k s : ℕ) → holds_in refs k s ≡ true → count_in (given_back refs k s) k s + 1 ≡ count_in refs k s
count_returned refs k s held = one_fewer (is_of k s) (is_of k s) refs (λ r h. h) held

pub count_other : (refs : List Ref) (k s j t : ℕ) → ((r : Ref) → is_of k s r ≡ true → is_of j t r ≡ false) → count_in (given_back refs k s) j t ≡ count_in refs j t
count_other refs k s j t apart = as_many (is_of k s) (is_of j t) refs apart

-- a caller holds a device exactly where it has a reference to it
pub held_counts : (refs : List Ref) (k s : ℕ) → holds_in refs k s ≡ true → 1 ≤ count_in refs k s
held_counts refs k s held = let e = count_returned refs k s held in omega (arith, e)

pub not_held_counts : (refs : List Ref) (k s : ℕ) → holds_in refs k s ≡ false → count_in refs k s ≡ 0
not_held_counts [] k s none = refl
not_held_counts (r ∷ refs) k s none = by (is_of k s r) refl (not_held_counts refs k s)
  where
    by : (b : Bool) → is_of k s r ≡ b → (holds_in refs k s ≡ false → count_in refs k s ≡ 0) → count_in (r ∷ refs) k s ≡ 0
    by true here rest = let never : true ≡ false = rw here at none in absurd cc
    by false other rest =
        let fewer : holds_in refs k s ≡ false = rw other at none in
        let own : one_if (is_of k s r) ≡ 0 = ap one_if other in
        omega (arith, count_cons (is_of k s) r refs, own, rest fewer)

-- a caller holds a device exactly where its references count
pub held_is_counted : (refs : List Ref) (k s : ℕ) → holds_in refs k s ≡ nat_lt 0 (count_in refs k s)
held_is_counted refs k s = by (holds_in refs k s) refl
  where
    by : (b : Bool) → holds_in refs k s ≡ b → b ≡ nat_lt 0 (count_in refs k s)
    by true held = let some : 1 ≤ count_in refs k s = held_counts refs k s held in grind (arith, nat_tests)
    by false none = let no : count_in refs k s ≡ 0 = not_held_counts refs k s none in rw no refl

-- another kind stays as it is
pub any_left : {A : Type 0} (p q : A → Bool) (xs : List A) → ((x : A) → p x ≡ true → q x ≡ false) → list_any q (without_first p xs) ≡ list_any q xs
any_left p q [] apart = refl
any_left p q (x ∷ xs) apart = by (p x) refl (any_left p q xs apart)
  where
    by : (b : Bool) → p x ≡ b → list_any q (without_first p xs) ≡ list_any q xs → list_any q (cond b xs (x ∷ without_first p xs)) ≡ list_any q (x ∷ xs)
    by true here rest = rw (apart x here) refl
    by false other rest = ap (λ b. q x || b) rest

-- ---- what is counted

count_grows : (q : Ref → Bool) (refs : List Ref) (r : Ref) → count_by q (refs ++ r ∷ []) ≡ count_by q refs + one_if (q r)
count_grows q refs r = sum_by-append (λ x. one_if (q x)) refs (r ∷ []) ∙ ap (λ n. count_by q refs + n) (zero-add (one_if (q r)))

-- nobody refers to the device: nobody's references to it count
pub none_refer : (refs : List Ref) (s : ℕ) → refers_to refs s ≡ false → refs_to refs s ≡ 0
none_refer [] s none = refl
none_refer (r ∷ refs) s none = by (r.serial == s) refl (none_refer refs s)
  where
    by : (b : Bool) → (r.serial == s) ≡ b → (refers_to refs s ≡ false → refs_to refs s ≡ 0) → refs_to (r ∷ refs) s ≡ 0
    by true here rest = let never : true ≡ false = rw here at none in absurd cc
    by false other rest =
        let fewer : refers_to refs s ≡ false = rw other at none in
        let own : one_if (r.serial == s) ≡ 0 = ap one_if other in
        omega (arith, sum_by-cons (λ (q : Ref). one_if (q.serial == s)) r refs, own, rest fewer)

-- a caller's references are among all references
pub some_of_all : (refs : List Ref) (k s : ℕ) → count_in refs k s ≤ refs_to refs s
some_of_all [] k s = omega arith
some_of_all (r ∷ refs) k s =
    omega (arith, sum_by-cons (λ (q : Ref). one_if (is_of k s q)) r refs, sum_by-cons (λ (q : Ref). one_if (q.serial == s)) r refs, one (r.serial == s) (r.caller == k), some_of_all refs k s)
  where
    one : (a b : Bool) → one_if (a && b) ≤ one_if a
    one true true = omega arith
    one true false = omega arith
    one false b = omega arith

-- the caller may have one reference more
room_for : (refs : List Ref) (sole : List ℕ) (k s : ℕ) (b : Bool) → MayHold refs sole k s b → count_in refs k s < 15
room_for refs sole k s true none = omega (arith, some_of_all refs k s, none_refer refs s none)
room_for refs sole k s false may = may.1

clash : (b : Bool) → b ≡ true → b ≡ false → ⊥
clash b t f = cc

abbrev with_one : List Ref → ℕ → ℕ → List Ref
with_one refs k s = refs ++ record { serial = s; caller = k } ∷ []

few_granted : (refs : List Ref) (sole : List ℕ) (k s : ℕ) (b : Bool) → AreCounted refs sole → MayHold refs sole k s b → (j t : ℕ) → count_in (with_one refs k s) j t ≤ 15
few_granted refs sole k s b kept may j t = by (s == t && k == j) refl
  where
    by : (c : Bool) → (s == t && k == j) ≡ c → count_in (with_one refs k s) j t ≤ 15
    by true own =
        let parts = and_parts (s == t) (k == j) own in
        let serial : s ≡ t = eqb-true s t parts.0 in
        let caller : k ≡ j = eqb-true k j parts.1 in
        let room : count_in refs j t < 15 = subst (λ x. count_in refs x t < 15) caller (subst (λ y. count_in refs k y < 15) serial (room_for refs sole k s b may)) in
        omega (arith, count_granted refs (record { serial = s; caller = k }) j t, ap one_if own, room)
    by false other = omega (arith, count_granted refs (record { serial = s; caller = k }) j t, ap one_if other, kept.few j t)

-- of another device there are as many as before
other_granted : (refs : List Ref) (k s t : ℕ) → (s == t) ≡ false → refs_to (with_one refs k s) t ≡ refs_to refs t
other_granted refs k s t other = omega (arith, count_grows (λ (r : Ref). r.serial == t) refs (record { serial = s; caller = k }), ap one_if other)

alone_granted : (refs : List Ref) (sole : List ℕ) (k s : ℕ) (b : Bool) → AreCounted refs sole → MayHold refs sole k s b → (t : ℕ) → has (sole_with sole s b) t ≡ true → refs_to (with_one refs k s) t ≡ 1
alone_granted refs sole k s true kept may t solely = by (s == t) refl
  where
    by : (c : Bool) → (s == t) ≡ c → refs_to (with_one refs k s) t ≡ 1
    by true here =
        let none : refs_to refs t ≡ 0 = subst (λ x. refs_to refs x ≡ 0) (eqb-true s t here) (none_refer refs s may) in
        omega (arith, count_grows (λ (r : Ref). r.serial == t) refs (record { serial = s; caller = k }), ap one_if here, none)
    by false there =
        other_granted refs k s t there
        ∙ kept.alone t
        (elim (or_cases (has sole t) (has (s ∷ []) t) (sym (list_any-append (λ x. x == t) sole (s ∷ [])) ∙ solely)) [
          | inl before ↦ before
          | inr now ↦ elim (or_cases (s == t) false now) [ inl here ↦ absurd (clash (s == t) here there) | inr never ↦ absurd cc ]
        ])
alone_granted refs sole k s false kept may t solely = by (s == t) refl
  where
    by : (c : Bool) → (s == t) ≡ c → refs_to (with_one refs k s) t ≡ 1
    by true here = absurd (clash (has sole t) solely (subst (λ x. has sole x ≡ false) (eqb-true s t here) may.0))
    by false there = other_granted refs k s t there ∙ kept.alone t solely

pub counted_granted : (refs : List Ref) (sole : List ℕ) (k s : ℕ) (b : Bool) → AreCounted refs sole → MayHold refs sole k s b → AreCounted (refs ++ record { serial = s; caller = k } ∷ []) (sole_with sole s b)
counted_granted refs sole k s b kept may = record { few = few_granted refs sole k s b kept may; alone = alone_granted refs sole k s b kept may }

-- what is held solely behind a return was so before, and is another device
still_sole : (sole : List ℕ) (s t : ℕ) → has (shared_again sole s) t ≡ true → (has sole t ≡ true) × ((s == t) ≡ false)
still_sole [] s t solely = absurd cc
still_sole (x ∷ sole) s t solely = by (x == s) refl (still_sole sole s t) solely
  where
    by : (b : Bool) → (x == s) ≡ b → (has (shared_again sole s) t ≡ true → (has sole t ≡ true) × ((s == t) ≡ false))
        → has (cond (not b) (x ∷ shared_again sole s) (shared_again sole s)) t ≡ true → (has (x ∷ sole) t ≡ true) × ((s == t) ≡ false)
    by true same rest more = let both = rest more in (or_right (x == t) (has sole t) both.0, both.1)
    by false other rest more = elim (or_cases (x == t) (has (shared_again sole s) t) more) [
      | inl here ↦ (
        or_left (x == t) (has sole t) here,
        ne_eqb s t (λ e. clash (x == s) (eq-eqb x s (eqb-true x t here ∙ sym e)) other),
      )
      | inr there ↦ let both = rest there in (or_right (x == t) (has sole t) both.0, both.1)
    ]

apart_from : (k s t : ℕ) → (s == t) ≡ false → (r : Ref) → is_of k s r ≡ true → (r.serial == t) ≡ false
apart_from k s t other r own = rw (eqb-true r.serial s (and_parts (r.serial == s) (r.caller == k) own).0) other

pub counted_returned : (refs : List Ref) (sole : List ℕ) (k s : ℕ) → AreCounted refs sole → AreCounted (given_back refs k s) (shared_again sole s)
counted_returned refs sole k s kept = record {
  few = λ j t. omega (arith, no_more (is_of k s) (is_of j t) refs, kept.few j t);
  alone = λ t solely.
      let both = still_sole sole s t solely in
      as_many (is_of k s) (λ (r : Ref). r.serial == t) refs (apart_from k s t both.1) ∙ kept.alone t both.0;
}
