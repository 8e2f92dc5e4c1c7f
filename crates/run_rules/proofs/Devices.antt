-- The devices stay sound when a device comes.
use Rattle.std.proofs.Common.{◌≡◌, ◌≢◌, ℕ, ◌+◌, ◌<◌, Bool, true, false, ◌&&◌, ◌||◌, ◌==◌, cond, find, Some, List, [], ◌∷◌, ◌++◌, refl, subst, arith, eq-eqb}
use Rattle.std.specs.Prelude.{IsTrue}
use Rattle.std.specs.List.{AllByRecursion, list_any}
use Rattle.std.proofs.lemmas.Bool.{eqb-true, not_from_false}
use Rattle.std.proofs.lemmas.List.Folds.{list_any-append}
use Rattle.run_rules.specs.declared.world.Setup.{Setup}
use Rattle.run_rules.specs.declared.world.Dev.{Dev}
use Rattle.run_rules.specs.World.{is_live, driver_of}
use Rattle.run_rules.specs.Search.{is_taken, is_occupied}
use Rattle.run_rules.specs.Sound.{EachLater, IsApart, IsPlaced, HasSoundDevices}

-- ---- lists

pub all_snoc : {A : Type 0} (P : A → Type 0) (xs : List A) (y : A) → AllByRecursion P xs → P y → AllByRecursion P (xs ++ y ∷ [])
all_snoc P [] y h here = (here, tt)
all_snoc P (x ∷ xs) y h here = (h.0, all_snoc P xs y h.1 here)

pub all_front : {A : Type 0} (P : A → Type 0) (xs : List A) (y : A) → AllByRecursion P (xs ++ y ∷ []) → AllByRecursion P xs × P y
all_front P [] y h = (tt, h.0)
all_front P (x ∷ xs) y h = let rest = all_front P xs y h.1 in ((h.0, rest.0), rest.1)

pub all_imp : {A : Type 0} (P Q : A → Type 0) → ((x : A) → P x → Q x) → (xs : List A) → AllByRecursion P xs → AllByRecursion Q xs
all_imp P Q f [] h = tt
all_imp P Q f (x ∷ xs) h = (f x h.0, all_imp P Q f xs h.1)

pub all_both : {A : Type 0} (P Q R : A → Type 0) → ((x : A) → P x → Q x → R x) → (xs : List A) → AllByRecursion P xs → AllByRecursion Q xs → AllByRecursion R xs
all_both P Q R f [] h k = tt
all_both P Q R f (x ∷ xs) h k = (f x h.0 k.0, all_both P Q R f xs h.1 k.1)

pub later_snoc : {A : Type 0} (R : A → A → Type 0) (xs : List A) (y : A) → EachLater R xs → AllByRecursion (λ x. R x y) xs → EachLater R (xs ++ y ∷ [])
later_snoc R [] y h here = (tt, tt)
later_snoc R (x ∷ xs) y h here = (all_snoc (R x) xs y h.0 here.0, later_snoc R xs y h.1 here.1)

pub or_false : (a b : Bool) → (a || b) ≡ false → (a ≡ false) × (b ≡ false)
or_false true b h = absurd cc
or_false false b h = (refl, h)

pub none_of : {A : Type 0} (p : A → Bool) (xs : List A) → list_any p xs ≡ false → AllByRecursion (λ x. p x ≡ false) xs
none_of p [] h = tt
none_of p (x ∷ xs) h = let parts = or_false (p x) (list_any p xs) h in (parts.0, none_of p xs parts.1)

-- what is found of devices that all have a property has it
pub found_in : (P : Dev → Type 0) (p : Dev → Bool) (xs : List Dev) (d : Dev) → AllByRecursion P xs → find p xs ≡ Some d → P d
found_in P p [] d h e = absurd cc
found_in P p (x ∷ xs) d h e = cases (λ k. found_in P p xs d h.1 k) (p x) e
  where
    some_is : (a b : Dev) → Some a ≡ Some b → a ≡ b
    some_is a b e = cc

    cases : (find p xs ≡ Some d → P d) → (b : Bool) → cond b (Some x) (find p xs) ≡ Some d → P d
    cases more true k = subst P (some_is x d k) h.0
    cases more false k = more k

-- ---- known devices

or_more : (a b c : Bool) → (a || b) ≡ true → (a || (b || c)) ≡ true
or_more true b c h = refl
or_more false true c h = refl
or_more false false c h = absurd cc

pub known_more : (live : List Dev) (e : Dev) (s : ℕ) → IsTrue (s == 0 || is_live live s) → IsTrue (s == 0 || is_live (live ++ e ∷ []) s)
known_more live e s h = rw (list_any-append (λ d. d.serial == s) live (e ∷ [])) (or_more (s == 0) (is_live live s) (is_live (e ∷ []) s) h)

-- a known device has a serial below the next
pub below_next : (live all : List Dev) (next s : ℕ) → AllByRecursion (IsPlaced all next) live → is_live live s ≡ true → s < next
below_next [] all next s h is = absurd cc
below_next (d ∷ ds) all next s h is = cases (λ k. below_next ds all next s h.1 k) (d.serial == s) refl is
  where
    cases : (is_live ds s ≡ true → s < next) → (b : Bool) → (d.serial == s) ≡ b → (b || is_live ds s) ≡ true → s < next
    cases more true e k = omega (arith, eqb-true d.serial s e, h.0.below_next)
    cases more false e k = more k

pub known_below : (s : Setup) (live : List Dev) (next p : ℕ) → HasSoundDevices s live next → 0 < next → IsTrue (p == 0 || is_live live p) → p < next
known_below s live next p h low known = cases (p == 0) refl known
  where
    cases : (b : Bool) → (p == 0) ≡ b → IsTrue (b || is_live live p) → p < next
    cases true e k = omega (arith, eqb-true p 0 e)
    cases false e k = below_next live live next p h.placed k

-- ---- a device comes

other_spot : (d : Dev) (x : ℕ) → (d.spot == x) ≡ false → d.spot ≢ x
other_spot d x h e = clash (d.spot == x) (eq-eqb d.spot x e) h
  where
    clash : (b : Bool) → b ≡ true → b ≡ false → ⊥
    clash b is isnt = absurd cc

pub devices_come : (s : Setup) (live : List Dev) (next : ℕ) (e : Dev) → HasSoundDevices s live next → 0 < next
    → e.serial ≡ next → IsTrue (e.parent == 0 || is_live live e.parent)
    → is_taken s live (driver_of s e.row) e.unit ≡ false → is_occupied live e.spot ≡ false
    → HasSoundDevices s (live ++ e ∷ []) (next + 1)
devices_come s live next e h low named known free bare = record {
  placed = all_snoc (IsPlaced (live ++ e ∷ []) (next + 1)) live e
      (all_imp (IsPlaced live next) (IsPlaced (live ++ e ∷ []) (next + 1)) (λ d p. record { below_next = omega (arith, p.below_next); after_parent = p.after_parent; parent_live = known_more live e d.parent p.parent_live }) live h.placed)
      (record { below_next = omega (arith, named); after_parent = omega (arith, named, known_below s live next e.parent h low known); parent_live = known_more live e e.parent known });
  apart = later_snoc (IsApart s) live e h.apart
      (all_both (IsPlaced live next) (λ d. ((driver_of s d.row == driver_of s e.row && d.unit == e.unit) ≡ false) × ((d.spot == e.spot) ≡ false)) (λ d. IsApart s d e)
      (λ d p q. record { later = omega (arith, named, p.below_next); names = not_from_false (driver_of s d.row == driver_of s e.row && d.unit == e.unit) q.0; spots = other_spot d e.spot q.1 })
      live h.placed
      (all_both (λ d. (driver_of s d.row == driver_of s e.row && d.unit == e.unit) ≡ false) (λ d. (d.spot == e.spot) ≡ false) _ (λ d a b. (a, b)) live
      (none_of (λ d. driver_of s d.row == driver_of s e.row && d.unit == e.unit) live free) (none_of (λ d. d.spot == e.spot) live bare)));
}
