-- How many devices stand on a spot, with one device more, with one less, and with other marks.
use Rattle.std.proofs.Common.{◌≡◌, ℕ, zero, suc, ◌+◌, ◌-◌, ◌<◌, ◌≤◌, Bool, true, false, ◌==◌, cond, List, [], ◌∷◌, ◌++◌, Some, length, map, get_or, refl, ap, sym, arith}
use Rattle.std.specs.Prelude.{if◌then◌else◌, remove}
use Rattle.std.proofs.lemmas.List.Sums.{sum_by-append}
use Rattle.run_rules.specs.declared.world.Dev.{Dev}
use Rattle.run_rules.specs.After.{with_condemner, with_sleep}
use Rattle.run_rules.specs.World.{is_under}
use Rattle.plain_world.specs.LiveDevices.{standing_on}

abbrev pub one_if : Bool → ℕ
one_if b = if b then 1 else 0

counted_first : (d : Dev) (ds : List Dev) (x : ℕ) → standing_on (d ∷ ds) x ≡ one_if (d.spot == x) + standing_on ds x
counted_first d ds x = omega (arith, sum_by-append (λ (d : Dev). cond (d.spot == x) 1 0) (d ∷ []) ds)

pub counted_more : (ds : List Dev) (e : Dev) (x : ℕ) → standing_on (ds ++ e ∷ []) x ≡ standing_on ds x + one_if (e.spot == x)
counted_more ds e x = omega (arith, sum_by-append (λ (d : Dev). cond (d.spot == x) 1 0) ds (e ∷ []))

pub counted_less : (ds : List Dev) (i : ℕ) (u : Dev) (x : ℕ) → i < length ds → standing_on (remove ds i) x ≡ standing_on ds x - one_if ((get_or ds i u).spot == x)
counted_less [] i u x lt = absurd (omega arith)
counted_less (d ∷ ds) zero u x lt =
    let e : standing_on ds x ≡ standing_on (d ∷ ds) x - one_if (d.spot == x) = omega (arith, counted_first d ds x) in e
counted_less (d ∷ ds) (suc i) u x lt =
    let less : standing_on (remove ds i) x ≡ standing_on ds x - one_if ((get_or ds i u).spot == x) = counted_less ds i u x (omega arith) in
    let there : one_if ((get_or ds i u).spot == x) ≤ standing_on ds x = counted_at ds i u x (omega arith) in
    let e : standing_on (d ∷ remove ds i) x ≡ standing_on (d ∷ ds) x - one_if ((get_or ds i u).spot == x) = omega (arith, counted_first d ds x, counted_first d (remove ds i) x, less, there) in e
  where
    counted_at : (ds : List Dev) (i : ℕ) (u : Dev) (x : ℕ) → i < length ds → one_if ((get_or ds i u).spot == x) ≤ standing_on ds x
    counted_at [] i u x lt = absurd (omega arith)
    counted_at (d ∷ ds) zero u x lt = let e : one_if (d.spot == x) ≤ standing_on (d ∷ ds) x = omega (arith, counted_first d ds x) in e
    counted_at (d ∷ ds) (suc i) u x lt =
        let more : one_if ((get_or ds i u).spot == x) ≤ standing_on ds x = counted_at ds i u x (omega arith) in
        let e : one_if ((get_or ds i u).spot == x) ≤ standing_on (d ∷ ds) x = omega (arith, counted_first d ds x, more) in e

pub counted_as : (f : Dev → Dev) → ((d : Dev) → (f d).spot ≡ d.spot) → (ds : List Dev) (x : ℕ) → standing_on ds x ≡ standing_on (map f ds) x
counted_as f same [] x = refl
counted_as f same (d ∷ ds) x =
    let here : one_if (d.spot == x) ≡ one_if ((f d).spot == x) = ap (λ (n : ℕ). one_if (n == x)) (sym (same d)) in
    let e : standing_on (d ∷ ds) x ≡ standing_on (f d ∷ map f ds) x = omega (arith, counted_first d ds x, counted_first (f d) (map f ds) x, here, counted_as f same ds x) in e

pub rested_spot : (s : ℕ) (asleep : Bool) (d : Dev) → (with_sleep s asleep d).spot ≡ d.spot
rested_spot s asleep d = cases (d.serial == s)
  where
    cases : (b : Bool) → (if b then record d { asleep = asleep } else d).spot ≡ d.spot
    cases true = refl
    cases false = refl

pub condemned_spot : (live : List Dev) (k s : ℕ) (d : Dev) → (with_condemner live k s d).spot ≡ d.spot
condemned_spot live k s d = cases (is_under live s d.serial)
  where
    cases : (b : Bool) → (if b then record d { condemned = Some k } else d).spot ≡ d.spot
    cases true = refl
    cases false = refl
