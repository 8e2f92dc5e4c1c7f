-- The laws of what is below what: a chain of parents ends within as many steps as there are devices.
use Rattle.std.proofs.Common.{◌≡◌, ◌≢◌, ◌⊎◌, ℕ, zero, suc, ◌+◌, ◌<◌, ◌≤◌, Bool, true, false, ◌||◌, ◌==◌, nat_le, cond, List, [], ◌∷◌, length, find, get_or, not, ◌-◌, add-zero, add-suc, Option, Some, None, refl, sym, ap, ◌∙◌, inl, inr, arith, eqb-true, eq-eqb}
use Rattle.std.specs.Prelude.{filter}
use Rattle.std.specs.List.{AllByRecursion, Contains, list_any}
use Rattle.std.specs.Option.{option_map_or}
use Rattle.std.proofs.lemmas.Bool.{cases_eq, ne_eqb, le-leb, lt-leb, leb-true, or_cases, or_left, or_right}
use Rattle.std.proofs.lemmas.List.Filters.{length-filter_both}
use Rattle.run_rules.specs.declared.world.Setup.{Setup}
use Rattle.run_rules.specs.declared.world.Dev.{Dev}
use Rattle.run_rules.specs.World.{has, device_at, is_live, parent_of, lineage, is_under}
use Rattle.run_rules.specs.Sound.{EachLater, IsApart, IsPlaced, HasSoundDevices}
use Rattle.run_rules.proofs.Devices.{all_imp}
use Rattle.run_rules.proofs.Free.{find_true}
use Rattle.run_sound.proofs.Callers.{clash}
use Rattle.run_sound.proofs.Members.{of_each, found_contained, contained_live, live_contained, one_serial}

-- ---- how many of a list pass a test

less_pass : {A : Type 0} (p q : A → Bool) (xs : List A) → ((x : A) → p x ≡ true → q x ≡ true) → length (filter p xs) ≤ length (filter q xs)
less_pass p q [] h = omega arith
less_pass p q (x ∷ xs) h = cases (p x) (q x) (h x) (less_pass p q xs h)
  where
    cases : (a b : Bool) → (a ≡ true → b ≡ true) → length (filter p xs) ≤ length (filter q xs) → length (cond a (x ∷ filter p xs) (filter p xs)) ≤ length (cond b (x ∷ filter q xs) (filter q xs))
    cases true true k rest = omega (arith, rest)
    cases true false k rest = absurd (clash false (k refl) refl)
    cases false true k rest = omega (arith, rest)
    cases false false k rest = rest

-- and one that fails the first passes the second
pub fewer_pass : {A : Type 0} (p q : A → Bool) (xs : List A) (i : ℕ) (y : A) → ((x : A) → p x ≡ true → q x ≡ true) → p y ≡ false → q y ≡ true → i < length xs → get_or xs i y ≡ y
    → length (filter p xs) < length (filter q xs)
fewer_pass p q [] i y h out in' lt at = absurd (omega arith)
fewer_pass p q (x ∷ xs) zero y h out in' lt at =
    let off : p x ≡ false = rw at out in
    let on : q x ≡ true = rw at in' in
    rw (off, on) (omega (arith, less_pass p q xs h))
fewer_pass p q (x ∷ xs) (suc i) y h out in' lt at = cases (p x) (q x) (h x) (fewer_pass p q xs i y h out in' (omega arith) at)
  where
    cases : (a b : Bool) → (a ≡ true → b ≡ true) → length (filter p xs) < length (filter q xs) → length (cond a (x ∷ filter p xs) (filter p xs)) < length (cond b (x ∷ filter q xs) (filter q xs))
    cases true true k rest = omega (arith, rest)
    cases true false k rest = absurd (clash false (k refl) refl)
    cases false true k rest = omega (arith, rest)
    cases false false k rest = rest

none_pass : {A : Type 0} (p : A → Bool) (xs : List A) → AllByRecursion (λ x. p x ≡ false) xs → filter p xs ≡ []
none_pass p [] h = refl
none_pass p (x ∷ xs) h = rw (h.0, none_pass p xs h.1) refl

-- ---- parents

-- each device comes after its parent
abbrev pub AreRising : List Dev → Type 0
AreRising live = AllByRecursion (λ d. d.parent < d.serial) live

pub rising : (s : Setup) (live : List Dev) (next : ℕ) → HasSoundDevices s live next → AreRising live
rising s live next h = all_imp (IsPlaced live next) (λ d. d.parent < d.serial) (λ d p. p.after_parent) live h.placed

-- a parent is of a live device, or 0
pub record HasParent (live : List Dev) (x : ℕ) : Type 0 where
  pub child : Dev
  pub there : Contains live child
  pub named : child.serial ≡ x
  pub is : parent_of live x ≡ child.parent

pub none_found : {A : Type 0} (p : A → Bool) (xs : List A) → find p xs ≡ None → list_any p xs ≡ false
none_found p [] e = refl
none_found {A} p (x ∷ xs) e = cases (p x) e (none_found p xs)
  where
    cases : (b : Bool) → cond b (Some x) (find p xs) ≡ None → (find p xs ≡ None → list_any p xs ≡ false) → (b || list_any p xs) ≡ false
    cases true k rest = absurd cc
    cases false k rest = rest k

pub parent_cases : (live : List Dev) (x : ℕ) → HasParent live x ⊎ ((is_live live x ≡ false) × (parent_of live x ≡ 0))
parent_cases live x = cases (device_at live x) refl
  where
    cases : (o : Option Dev) → device_at live x ≡ o → HasParent live x ⊎ ((is_live live x ≡ false) × (parent_of live x ≡ 0))
    cases (Some d) e = inl (record {
      child = d;
      there = found_contained (λ d. d.serial == x) live d e;
      named = eqb-true d.serial x (find_true (λ d. d.serial == x) live d e);
      is = ap (λ (o : Option Dev). option_map_or (λ d. d.parent) o 0) e;
    })
    cases None e = inr (none_found (λ d. d.serial == x) live e, ap (λ (o : Option Dev). option_map_or (λ d. d.parent) o 0) e)

-- a device's parent is earlier
pub child_rises : (live : List Dev) (d : Dev) → AreRising live → Contains live d → d.parent < d.serial
child_rises live d up here = of_each (λ (e : Dev). e.parent < e.serial) live d up here

-- a parent is not above
pub parent_low : (live : List Dev) (x : ℕ) → AreRising live → parent_of live x ≤ x
parent_low live x up = elim (parent_cases live x) [
  | inl h ↦ omega (arith, h.is, h.named, child_rises live h.child up h.there)
  | inr none ↦ omega (arith, none.1)
]

-- the parent of a device of the list
pub parent_is : (s : Setup) (live : List Dev) (d : Dev) → EachLater (IsApart s) live → Contains live d → parent_of live d.serial ≡ d.parent
parent_is s live d apart here = elim (parent_cases live d.serial) [
  | inl h ↦ h.is ∙ ap (λ (e : Dev). e.parent) (one_serial s live h.child d apart h.there here h.named)
  | inr none ↦ clash (is_live live d.serial) (contained_live live d here) none.0
]

-- ---- steps enough

-- how many devices come no later than x
abbrev pub rank : List Dev → ℕ → ℕ
rank live x = length (filter (λ d. nat_le d.serial x) live)

pub rank_parent : (live : List Dev) (x n : ℕ) → AreRising live → rank live x ≤ suc n → rank live (parent_of live x) ≤ n
rank_parent live x n up most = elim (parent_cases live x) [
  | inl h ↦
      let low : h.child.parent < h.child.serial = child_rises live h.child up h.there in
      let fewer : rank live h.child.parent < rank live x =
      fewer_pass (λ d. nat_le d.serial h.child.parent) (λ d. nat_le d.serial x) live h.there.0 h.child
      (λ d k. le-leb d.serial x (omega (arith, leb-true d.serial h.child.parent k, low, h.named)))
      (lt-leb h.child.serial h.child.parent low) (le-leb h.child.serial x (omega (arith, h.named))) h.there.1 h.there.2 in
      rw h.is (omega (arith, fewer, most))
  | inr none ↦
      let zero_rank : filter (λ d. nat_le d.serial 0) live ≡ [] = none_pass (λ d. nat_le d.serial 0) live (all_imp (λ d. d.parent < d.serial) (λ d. nat_le d.serial 0 ≡ false) (λ d k. lt-leb d.serial 0 (omega (arith, k))) live up) in
      rw (none.1, zero_rank) (omega arith)
]

-- with as many steps as there are devices no later one step more finds no more live device
one_more : (live : List Dev) (s n x : ℕ) → AreRising live → is_live live s ≡ true → rank live x ≤ n → has (lineage (suc n) live x) s ≡ has (lineage n live x) s
unfolding lineage
one_more live s zero x up is most = elim (cases_eq x s) [
  | inl same ↦
      let one = live_contained live s is in
      let some : length (filter (λ d. false) live) < rank live x =
      fewer_pass (λ d. false) (λ d. nat_le d.serial x) live one.1.0 one.0 (λ d k. absurd cc) refl (le-leb one.0.serial x (omega (arith, one.2, same))) one.1.1 one.1.2 in
      absurd (omega (arith, some, most))
  | inr other ↦ rw (ne_eqb x s other) refl
]
one_more live s (suc n) x up is most = ap (λ (b : Bool). (x == s) || b) (one_more live s n (parent_of live x) up is (rank_parent live x n up most))

enough : (live : List Dev) (s n m x : ℕ) → AreRising live → is_live live s ≡ true → rank live x ≤ n → has (lineage (n + m) live x) s ≡ has (lineage n live x) s
enough live s n zero x up is most = rw add-zero refl
enough live s n (suc m) x up is most = rw add-suc (one_more live s (n + m) x up is (omega (arith, most)) ∙ enough live s n m x up is most)

pub rank_low : (live : List Dev) (x : ℕ) → rank live x ≤ length live
rank_low live x = omega (arith, length-filter_both (λ (d : Dev). nat_le d.serial x) (λ d. not (nat_le d.serial x)) (λ d. refl) live)

-- any number of steps that is not below the number of devices serves
pub any_steps : (live : List Dev) (s n x : ℕ) → AreRising live → is_live live s ≡ true → length live ≤ n → has (lineage n live x) s ≡ is_under live s x
unfolding is_under
any_steps live s n x up is long =
    let m : ℕ = n - length live in
    let sum : n ≡ length live + m = omega arith in
    rw sum (enough live s (length live) m x up is (rank_low live x))

-- ---- below

-- what is below a live device is that device or has its parent below it
pub under_step : (live : List Dev) (s x : ℕ) → AreRising live → is_live live s ≡ true → is_under live s x ≡ (x == s || is_under live s (parent_of live x))
unfolding lineage
under_step live s x up is =
    sym (any_steps live s (suc (length live)) x up is (omega arith)) ∙ ap (λ (b : Bool). x == s || b) (any_steps live s (length live) (parent_of live x) up is (omega arith))

pub under_itself : (live : List Dev) (s : ℕ) → AreRising live → is_live live s ≡ true → is_under live s s ≡ true
under_itself live s up is = under_step live s s up is ∙ or_left (s == s) (is_under live s (parent_of live s)) (eq-eqb s s refl)

-- a child of what is below is below
pub under_child : (s : Setup) (live : List Dev) (t : ℕ) (d : Dev) → EachLater (IsApart s) live → AreRising live → is_live live t ≡ true → Contains live d → is_under live t d.parent ≡ true → is_under live t d.serial ≡ true
under_child s live t d apart up is here below =
    under_step live t d.serial up is ∙ or_right (d.serial == t) (is_under live t (parent_of live d.serial)) (rw (parent_is s live d apart here) below)

-- the parent of what is below, but is not the device itself, is below
pub under_parent : (s : Setup) (live : List Dev) (t : ℕ) (d : Dev) → EachLater (IsApart s) live → AreRising live → is_live live t ≡ true → Contains live d → is_under live t d.serial ≡ true → d.serial ≢ t → is_under live t d.parent ≡ true
under_parent s live t d apart up is here below other =
    elim (or_cases (d.serial == t) (is_under live t (parent_of live d.serial)) (sym (under_step live t d.serial up is) ∙ below)) [
      | inl same ↦ absurd (other (eqb-true d.serial t same))
      | inr more ↦ rw (parent_is s live d apart here) at more
    ]

pub chain_low : (live : List Dev) (s n x : ℕ) → AreRising live → has (lineage n live x) s ≡ true → s ≤ x
unfolding lineage
chain_low live s zero x up h = absurd cc
chain_low live s (suc n) x up h = elim (or_cases (x == s) (has (lineage n live (parent_of live x)) s) h) [
  | inl same ↦ omega (arith, eqb-true x s same)
  | inr more ↦ omega (arith, chain_low live s n (parent_of live x) up more, parent_low live x up)
]

-- what is below came no earlier
pub under_low : (live : List Dev) (s x : ℕ) → AreRising live → is_under live s x ≡ true → s ≤ x
unfolding is_under
under_low live s x up h = chain_low live s (length live) x up h

chain_up : (live : List Dev) (s n x : ℕ) → has (lineage n live x) s ≡ true → has (lineage (suc n) live x) (parent_of live s) ≡ true
unfolding lineage
chain_up live s zero x h = absurd cc
chain_up live s (suc n) x h = elim (or_cases (x == s) (has (lineage n live (parent_of live x)) s) h) [
  | inl same ↦
      let p : ℕ = parent_of live x in
      let here : x ≡ s = eqb-true x s same in
      or_right (x == parent_of live s) (p == parent_of live s || has (lineage n live (parent_of live p)) (parent_of live s))
      (or_left (p == parent_of live s) (has (lineage n live (parent_of live p)) (parent_of live s)) (eq-eqb p (parent_of live s) (ap (parent_of live) here)))
  | inr more ↦ or_right (x == parent_of live s) (has (lineage (suc n) live (parent_of live x)) (parent_of live s)) (chain_up live s n (parent_of live x) more)
]

-- what is below a device is below its parent
pub under_up : (s : Setup) (live : List Dev) (d : Dev) (x : ℕ) → EachLater (IsApart s) live → AreRising live → Contains live d → is_live live d.parent ≡ true → is_under live d.serial x ≡ true → is_under live d.parent x ≡ true
unfolding is_under
under_up s live d x apart up here is below =
    let above : has (lineage (suc (length live)) live x) d.parent ≡ true = rw (parent_is s live d apart here) at (chain_up live d.serial (length live) x below) in
    sym (any_steps live d.parent (suc (length live)) x up is (omega arith)) ∙ above
