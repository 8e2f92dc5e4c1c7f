-- How often something is in a list, with one more and one less.
use Rattle.std.proofs.Common.{◌≡◌, ℕ, ◌+◌, ◌-◌, ◌<◌, ◌≤◌, Bool, true, false, not, ◌&&◌, ◌||◌, ◌==◌, List, [], ◌∷◌, ◌++◌, cond, refl, sym, ap, ◌∙◌, arith, eqb-true}
use Rattle.std.specs.Prelude.{count_by, filter, nat_lt}
use Rattle.std.specs.List.{list_any}
use Rattle.std.proofs.lemmas.Bool.{and_parts}
use Rattle.std.proofs.lemmas.Bool.Decides.{nat_tests}
use Rattle.std.proofs.lemmas.List.Sums.{sum_by-append, sum_by-cons}
use Rattle.run_rules.specs.declared.world.Ref.{Ref}
use Rattle.run_rules.specs.References.{given_back, is_of, refs_to, without_first}
use Rattle.run_rules.specs.World.{holds_in}
use Rattle.run_rules.proofs.References.{as_many, one_fewer}
use Rattle.plain_world.specs.Tallies.{AreTallied, tally_at}
use Rattle.plain_world.proofs.Stands.{one_if}

count_cons : {A : Type 0} (p : A → Bool) (x : A) (xs : List A) → count_by p (x ∷ xs) ≡ one_if (p x) + count_by p xs
count_cons p x xs = sum_by-cons (λ y. one_if (p y)) x xs

-- something is in a list exactly if it is counted there
pub any_counted : {A : Type 0} (p : A → Bool) (xs : List A) → nat_lt 0 (count_by p xs) ≡ list_any p xs
any_counted p [] = refl
any_counted p (x ∷ xs) = ap (nat_lt 0) (count_cons p x xs) ∙ cases (p x) (count_by p xs) (list_any p xs) (any_counted p xs)
  where
    cases : (b : Bool) (n : ℕ) (c : Bool) → nat_lt 0 n ≡ c → nat_lt 0 (one_if b + n) ≡ (b || c)
    cases true n c more = grind (arith, nat_tests)
    cases false n c more = let z : 0 + n ≡ n = omega arith in ap (nat_lt 0) z ∙ more

-- without the first of one kind there is one fewer of a kind to which that one belongs, and as many of the others
pub count_without : {A : Type 0} (p q : A → Bool) (b : Bool) (xs : List A) → list_any p xs ≡ true → ((x : A) → p x ≡ true → q x ≡ b) → count_by q (without_first p xs) ≡ count_by q xs - one_if b
count_without p q true xs some same = let e = one_fewer p q xs same some in omega (arith, e)
count_without p q false xs some same = let e = as_many p q xs same in omega (arith, e)

pub none_without : {A : Type 0} (p : A → Bool) (xs : List A) → list_any p xs ≡ false → xs ≡ without_first p xs
none_without p [] none = refl
none_without {A} p (x ∷ xs) none = by (p x) (none_without p xs) none
  where
    by : (b : Bool) → (list_any p xs ≡ false → xs ≡ without_first p xs) → (b || list_any p xs) ≡ false → x ∷ xs ≡ cond b xs (x ∷ without_first p xs)
    by true rest none = absurd cc
    by false rest none = ap (λ (ys : List A). x ∷ ys) (rest none)

-- ---- references

pub refs_to_more : (refs : List Ref) (r : Ref) (s : ℕ) → refs_to (refs ++ r ∷ []) s ≡ refs_to refs s + one_if (r.serial == s)
refs_to_more refs r s = omega (arith, sum_by-append (λ (q : Ref). cond (q.serial == s) 1 0) refs (r ∷ []))

-- of which device a reference is, and of which caller
pub same_device : (k s t : ℕ) (r : Ref) → is_of k s r ≡ true → (r.serial == t) ≡ (s == t)
same_device k s t r h = ap (λ n. n == t) (eqb-true r.serial s (and_parts (r.serial == s) (r.caller == k) h).0)

pub same_holder : (k s j t : ℕ) (r : Ref) → is_of k s r ≡ true → is_of j t r ≡ (s == t && k == j)
same_holder k s j t r h =
    let both = and_parts (r.serial == s) (r.caller == k) h in
    ap (λ n. n == t && r.caller == j) (eqb-true r.serial s both.0) ∙ ap (λ n. s == t && n == j) (eqb-true r.caller k both.1)

one_of_both : (b c : Bool) → one_if (b && c) ≤ one_if c
one_of_both true true = omega arith
one_of_both true false = omega arith
one_of_both false true = omega arith
one_of_both false false = omega arith

count_both : {A : Type 0} (p q : A → Bool) (xs : List A) → count_by (λ x. q x && p x) xs ≤ count_by p xs
count_both p q [] = omega arith
count_both p q (x ∷ xs) =
    let less : one_if (q x && p x) ≤ one_if (p x) = one_of_both (q x) (p x) in
    let rest : count_by (λ x. q x && p x) xs ≤ count_by p xs = count_both p q xs in
    omega (arith, count_cons p x xs, count_cons (λ x. q x && p x) x xs, rest, less)

-- of those that are left when one kind goes
pub count_kept : {A : Type 0} (p q : A → Bool) (xs : List A) → count_by p (filter (λ x. not (q x)) xs) ≡ count_by p xs - count_by (λ x. q x && p x) xs
count_kept p q [] = refl
count_kept {A} p q (x ∷ xs) = cases (q x) refl (count_kept p q xs) (count_both p q xs)
  where
    cases : (b : Bool) → q x ≡ b → count_by p (filter (λ x. not (q x)) xs) ≡ count_by p xs - count_by (λ x. q x && p x) xs → count_by (λ x. q x && p x) xs ≤ count_by p xs
        → count_by p (cond (not b) (x ∷ filter (λ x. not (q x)) xs) (filter (λ x. not (q x)) xs)) ≡ count_by p (x ∷ xs) - count_by (λ x. q x && p x) (x ∷ xs)
    cases true e rest few =
        let own : one_if (q x && p x) ≡ one_if (p x) = ap (λ b. one_if (b && p x)) e in
        omega (arith, rest, few, own, count_cons p x xs, count_cons (λ x. q x && p x) x xs)
    cases false e rest few =
        let own : one_if (q x && p x) ≡ 0 = ap (λ b. one_if (b && p x)) e in
        omega (arith, rest, few, own, count_cons p x xs, count_cons (λ x. q x && p x) x xs, count_cons p x (filter (λ x. not (q x)) xs))

-- a caller of whom a device is counted holds it
pub held_by_tally : (refs : List Ref) (devices : List ℕ) (callers : List (List ℕ)) (k s : ℕ) → AreTallied refs devices callers → 0 < tally_at callers k s → holds_in refs k s ≡ true
held_by_tally refs devices callers k s h some =
    let counted : tally_at callers k s ≡ count_by (is_of k s) refs = h.by_each k s in
    let positive : nat_lt 0 (count_by (is_of k s) refs) ≡ true = grind (arith, nat_tests) in
    sym (any_counted (is_of k s) refs) ∙ positive

pub none_by_tally : (refs : List Ref) (devices : List ℕ) (callers : List (List ℕ)) (k s : ℕ) → AreTallied refs devices callers → tally_at callers k s ≤ 0 → refs ≡ given_back refs k s
none_by_tally refs devices callers k s h none =
    let counted : tally_at callers k s ≡ count_by (is_of k s) refs = h.by_each k s in
    let nothing : nat_lt 0 (count_by (is_of k s) refs) ≡ false = grind (arith, nat_tests) in
    none_without (is_of k s) refs (sym (any_counted (is_of k s) refs) ∙ nothing)
