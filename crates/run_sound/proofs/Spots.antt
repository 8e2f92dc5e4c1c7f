-- Free spots: a device that comes takes one, and one that goes leaves at most one.
use Rattle.std.proofs.Common.{◌≡◌, ◌<◌, ◌≤◌, ℕ, zero, suc, ◌+◌, Bool, true, false, ◌||◌, ◌==◌, cond, List, [], ◌∷◌, ◌++◌, map, length, sum_by, refl, inl, inr, arith, eq-eqb}
use Rattle.std.specs.Prelude.{filter}
use Rattle.std.proofs.lemmas.Bool.{cases_lt, eqb-true}
use Rattle.std.proofs.lemmas.Bool.Decides.{nat_tests}
use Rattle.std.proofs.lemmas.List.Folds.{list_any-append}
use Rattle.std.proofs.lemmas.List.Sums.{sum_by-append}
use Rattle.cf_types.specs.Numbers.{below}
use Rattle.run_rules.specs.declared.world.Dev.{Dev}
use Rattle.run_rules.specs.Search.{is_occupied}
use Rattle.run_sound.specs.Left.{free_spots}

pub other_way : (a b : ℕ) → (a == b) ≡ false → (b == a) ≡ false
other_way a b h = grind (arith, nat_tests)

-- ---- sums over the numbers below n

abbrev pub total : (ℕ → ℕ) → ℕ → ℕ
total f n = sum_by f (below n)

pub total_suc : (f : ℕ → ℕ) (n : ℕ) → total f (suc n) ≡ total f n + f n
total_suc f n = omega (arith, sum_by-append f (below n) (n ∷ []))

pub total_le : (f g : ℕ → ℕ) (n : ℕ) → ((y : ℕ) → f y ≤ g y) → total f n ≤ total g n
total_le f g zero h = omega arith
total_le f g (suc n) h = omega (arith, total_suc f n, total_suc g n, total_le f g n h, h n)

total_lt : (f g : ℕ → ℕ) (n x : ℕ) → x < n → ((y : ℕ) → f y ≤ g y) → f x < g x → total f n < total g n
total_lt f g zero x lt h strict = absurd (omega arith)
total_lt f g (suc n) x lt h strict =
    elim (cases_lt x n) [
      | inl less ↦ omega (arith, total_suc f n, total_suc g n, total_lt f g n x less h strict, h n)
      | inr more ↦
          let same : x ≡ n = omega arith in
          let here : f n < g n = rw (← same) strict in
          omega (arith, total_suc f n, total_suc g n, total_le f g n h, here)
    ]

differs : (a b : ℕ) → a < b → (a == b) ≡ false
differs a b lt = grind (arith, nat_tests)

total_before : (f g : ℕ → ℕ) (m x : ℕ) → ((y : ℕ) → (y == x) ≡ false → f y ≤ g y) → m ≤ x → total f m ≤ total g m
total_before f g zero x h le = omega arith
total_before f g (suc m) x h le = omega (arith, total_suc f m, total_suc g m, total_before f g m x h (omega arith), h m (differs m x (omega arith)))

-- where two sums differ at one number alone, and by one at most there
total_near : (f g : ℕ → ℕ) (n x : ℕ) → ((y : ℕ) → (y == x) ≡ false → f y ≤ g y) → ((y : ℕ) → f y ≤ g y + 1) → total f n ≤ total g n + 1
total_near f g zero x h near = omega arith
total_near f g (suc n) x h near = cases (total_near f g n x h near) (n == x) refl
  where
    cases : total f n ≤ total g n + 1 → (b : Bool) → (n == x) ≡ b → total f (suc n) ≤ total g (suc n) + 1
    cases less true e = let same : n ≡ x = eqb-true n x e in omega (arith, total_suc f n, total_suc g n, total_before f g n x h (omega arith), near n)
    cases less false e = omega (arith, total_suc f n, total_suc g n, less, h n e)

-- ---- a device comes

fewer : (a b : Bool) → cond (a || b) 0 1 ≤ cond a 0 1
fewer true b = omega arith
fewer false true = omega arith
fewer false false = omega arith

free_more : (live : List Dev) (d : Dev) (y : ℕ) → cond (is_occupied (live ++ d ∷ []) y) 0 1 ≤ cond (is_occupied live y) 0 1
free_more live d y = rw (list_any-append (λ e. e.spot == y) live (d ∷ [])) (fewer (is_occupied live y) (is_occupied (d ∷ []) y))

free_here : (live : List Dev) (d : Dev) → is_occupied live d.spot ≡ false → cond (is_occupied (live ++ d ∷ []) d.spot) 0 1 < cond (is_occupied live d.spot) 0 1
free_here live d bare =
    let here : (d.spot == d.spot) ≡ true = eq-eqb d.spot d.spot refl in
    rw (list_any-append (λ e. e.spot == d.spot) live (d ∷ []), bare, here) (omega arith)

pub free_falls : (live : List Dev) (d : Dev) (n : ℕ) → d.spot < n → is_occupied live d.spot ≡ false → free_spots (live ++ d ∷ []) n < free_spots live n
free_falls live d n lt bare = total_lt _ _ n d.spot lt (free_more live d) (free_here live d bare)

-- ---- devices go

-- the free spots beside some that are taken anyway
abbrev open_spots : (ℕ → Bool) → List Dev → ℕ → ℕ
open_spots other live n = total (λ x. cond (other x || is_occupied live x) 0 1) n

-- without a device at most one more is free
open_less : (other : ℕ → Bool) (d : Dev) (ds : List Dev) (n : ℕ) → open_spots other ds n ≤ open_spots other (d ∷ ds) n + 1
open_less other d ds n = total_near _ _ n d.spot (λ y apart. same (other y) (d.spot == y) (is_occupied ds y) (other_way y d.spot apart)) (λ y. near (other y) (d.spot == y) (is_occupied ds y))
  where
    same : (a b c : Bool) → b ≡ false → cond (a || c) 0 1 ≤ cond (a || (b || c)) 0 1
    same a b c e = rw e (omega arith)

    near : (a b c : Bool) → cond (a || c) 0 1 ≤ cond (a || (b || c)) 0 1 + 1
    near true b c = omega arith
    near false b true = omega arith
    near false true false = omega arith
    near false false false = omega arith

open_moved : (other : ℕ → Bool) (d : Dev) (ds : List Dev) (n : ℕ) → open_spots other (d ∷ ds) n ≡ open_spots (λ x. other x || d.spot == x) ds n
open_moved other d ds n = omega (arith, total_le _ _ n (λ x. there (other x) (d.spot == x) (is_occupied ds x)), total_le _ _ n (λ x. back (other x) (d.spot == x) (is_occupied ds x)))
  where
    there : (a b c : Bool) → cond (a || (b || c)) 0 1 ≤ cond ((a || b) || c) 0 1
    there true b c = omega arith
    there false true c = omega arith
    there false false c = omega arith

    back : (a b c : Bool) → cond ((a || b) || c) 0 1 ≤ cond (a || (b || c)) 0 1
    back true b c = omega arith
    back false true c = omega arith
    back false false c = omega arith

open_filter : (p : Dev → Bool) (other : ℕ → Bool) (live : List Dev) (n : ℕ) → length (filter p live) + open_spots other (filter p live) n ≤ length live + open_spots other live n
open_filter p other [] n = omega arith
open_filter p other (d ∷ ds) n = cases (p d) (open_filter p (λ x. other x || d.spot == x) ds n) (open_filter p other ds n)
  where
    cases : (b : Bool)
        → length (filter p ds) + open_spots (λ x. other x || d.spot == x) (filter p ds) n ≤ length ds + open_spots (λ x. other x || d.spot == x) ds n
        → length (filter p ds) + open_spots other (filter p ds) n ≤ length ds + open_spots other ds n
        → length (cond b (d ∷ filter p ds) (filter p ds)) + open_spots other (cond b (d ∷ filter p ds) (filter p ds)) n ≤ length (d ∷ ds) + open_spots other (d ∷ ds) n
    cases true stays goes = omega (arith, stays, open_moved other d ds n, open_moved other d (filter p ds) n)
    cases false stays goes = omega (arith, goes, open_less other d ds n)

-- as many devices go as spots become free, or more
pub few_filter : (p : Dev → Bool) (live : List Dev) (n : ℕ) → length (filter p live) + free_spots (filter p live) n ≤ length live + free_spots live n
few_filter p live n = open_filter p (λ x. false) live n

-- ---- devices change, but not their spots

pub same_occupied : (f : Dev → Dev) (live : List Dev) (x : ℕ) → ((d : Dev) → (f d).spot ≡ d.spot) → is_occupied (map f live) x ≡ is_occupied live x
same_occupied f [] x k = refl
same_occupied f (d ∷ ds) x k = rw (k d, same_occupied f ds x k) refl

pub free_map : (f : Dev → Dev) (live : List Dev) (n : ℕ) → ((d : Dev) → (f d).spot ≡ d.spot) → free_spots (map f live) n ≡ free_spots live n
free_map f live n k = omega (arith, total_le _ _ n (λ y. there y), total_le _ _ n (λ y. back y))
  where
    there : (y : ℕ) → cond (is_occupied (map f live) y) 0 1 ≤ cond (is_occupied live y) 0 1
    there y = rw (same_occupied f live y k) (omega arith)

    back : (y : ℕ) → cond (is_occupied live y) 0 1 ≤ cond (is_occupied (map f live) y) 0 1
    back y = rw (same_occupied f live y k) (omega arith)
