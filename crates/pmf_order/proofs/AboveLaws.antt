-- The first of some sleeping devices, found by serial.
use Rattle.std.proofs.Common.{◌≡◌, ◌≢◌, ◌⊎◌, ℕ, zero, suc, ◌<◌, ◌≤◌, ◌==◌, ◌&&◌, ◌||◌, ◌∙◌, Bool, true, false, Some, None, Option, List, [], ◌∷◌, ap, cond, inl, inr, length, refl, sym, arith, eq-eqb, min}
use Rattle.std.specs.Prelude.{find}
use Rattle.std.specs.List.{AllByRecursion}
use Rattle.std.specs.Option.{option_map_or}
use Rattle.std.proofs.lemmas.Bool.{ne_eqb, eqb-true}
use Rattle.std.proofs.lemmas.Option.{same_Some}
use Rattle.run_rules.specs.declared.world.Dev.{Dev}
use Rattle.run_rules.specs.Sound.{EachLater}
use Rattle.run_rules.specs.World.{device_at, has, is_number, is_under, lineage, parent_of, serial_of}
use Rattle.run_rules.proofs.Devices.{all_both, all_imp}
use Rattle.run_rules.proofs.Chains.{chain_ends, chain_found, chain_more, chain_nothing}
use Rattle.run_rules.proofs.Each.{all_found}
use Rattle.run_rules.proofs.Free.{find_true}
use Rattle.run_rules.proofs.Below.{and_both}

-- in order of serial
abbrev Rises : List Dev → Type 0
Rises = EachLater (λ d e. d.serial < e.serial)

-- ---- who has a serial

past_first : (x : Dev) (xs : List Dev) (s : ℕ) → x.serial < s → device_at (x ∷ xs) s ≡ device_at xs s
past_first x xs s lt = rw (ne_eqb x.serial s (λ e. omega arith)) refl

-- each device is found by its serial
pub own_found : (live : List Dev) → Rises live → AllByRecursion (λ d. device_at live d.serial ≡ Some d) live
own_found [] later = tt
own_found (x ∷ xs) later = (
  rw (eq-eqb x.serial x.serial refl) refl,
  all_both (λ e. x.serial < e.serial) (λ e. device_at xs e.serial ≡ Some e) (λ e. device_at (x ∷ xs) e.serial ≡ Some e)
      (λ e lt own. past_first x xs e.serial lt ∙ own) xs later.0 (own_found xs later.1),
)

own_serial : (live : List Dev) (s : ℕ) (d : Dev) → device_at live s ≡ Some d → d.serial ≡ s
own_serial live s d at = eqb-true d.serial s (find_true (λ e. e.serial == s) live d at)

-- what has a serial is found by it, and passes a test that no device of a lower serial passes: so it is the first that does
pub lowest_first : (p : Dev → Bool) (live : List Dev) (s : ℕ) (d : Dev) → Rises live → device_at live s ≡ Some d → p d ≡ true
    → AllByRecursion (λ e. p e ≡ true → s ≤ e.serial) live → serial_of (find p live) ≡ Some s
lowest_first p [] s d later at passes low = absurd cc
lowest_first p (x ∷ xs) s d later at passes low = here (λ is. lowest_first p xs s d later.1 is passes low.1) (x.serial == s) refl at
  where
    here : (device_at xs s ≡ Some d → serial_of (find p xs) ≡ Some s) → (b : Bool) → (x.serial == s) ≡ b → cond b (Some x) (device_at xs s) ≡ Some d → serial_of (find p (x ∷ xs)) ≡ Some s
    here more true same is = rw (ap p (same_Some x d is) ∙ passes) (ap Some (eqb-true x.serial s same))
    here more false other is = past more is (p x) refl
      where
        past : (device_at xs s ≡ Some d → serial_of (find p xs) ≡ Some s) → device_at xs s ≡ Some d → (b : Bool) → p x ≡ b → serial_of (cond b (Some x) (find p xs)) ≡ Some s
        past more is true px =
            let lt : x.serial < d.serial = all_found (λ e. x.serial < e.serial) (λ e. e.serial == s) xs d later.0 is in
            let its : d.serial ≡ s = own_serial xs s d is in
            let le : s ≤ x.serial = low.0 px in
            absurd (omega (arith, lt, its, le))
        past more is false px = more is

-- no device passes
pub none_first : (p : Dev → Bool) (live : List Dev) → AllByRecursion (λ e. p e ≡ true → ⊥) live → serial_of (find p live) ≡ None
none_first p [] none = refl
none_first p (x ∷ xs) none = cases (none_first p xs none.1) (p x) refl
  where
    cases : serial_of (find p xs) ≡ None → (b : Bool) → p x ≡ b → serial_of (cond b (Some x) (find p xs)) ≡ None
    cases more true px = absurd (none.0 px)
    cases more false px = more

-- ---- a walk up from the target

-- a device that sleeps has the serial
abbrev sleeps_at : List Dev → ℕ → Bool
sleeps_at live s = option_map_or (λ d. d.asleep) (device_at live s) false

-- there is a first one, and it is at most this
abbrev IsFrom : Option ℕ → ℕ → Type 0
IsFrom None s = ⊥
IsFrom (Some f) s = f ≤ s

-- so many links of the chain from here are left: they belong to the chain of the target, and what sleeps on that one is among them
-- or has no lower serial than the first one so far, which is one of these
pub record IsLowest (live : List Dev) (target left current : ℕ) (first : Option ℕ) : Type 0 where
  pub rest : (s : ℕ) → has (lineage left live current) s ≡ true → is_under live s target ≡ true
  pub low : (s : ℕ) → sleeps_at live s ≡ true → is_under live s target ≡ true → (has (lineage left live current) s ≡ true) ⊎ IsFrom first s
  pub there : (f : ℕ) → first ≡ Some f → (sleeps_at live f ≡ true) × (is_under live f target ≡ true)

pub lowest_begins : (live : List Dev) (target : ℕ) → IsLowest live target (length live) target None
unfolding is_under
lowest_begins live target = record {
  rest = λ s on. on;
  low = λ s asleep on. inl on;
  there = λ f e. absurd cc;
}

-- a serial on the chain is the one here, or further up
on_chain : (live : List Dev) (k x s : ℕ) → has (lineage (suc k) live x) s ≡ true → (x ≡ s) ⊎ (has (lineage k live (parent_of live x)) s ≡ true)
on_chain live k x s on = cases (x == s) refl
  where
    cases : (b : Bool) → (x == s) ≡ b → (x ≡ s) ⊎ (has (lineage k live (parent_of live x)) s ≡ true)
    cases true e = inl (eqb-true x s e)
    cases false e = inr (sym (chain_more live k x s (λ same. absurd (cc (e, eq-eqb x s same)))) ∙ on)

-- and what is further up is on the chain
further_up : (live : List Dev) (k x s : ℕ) → has (lineage k live (parent_of live x)) s ≡ true → has (lineage (suc k) live x) s ≡ true
further_up live k x s on = cases (x == s) refl
  where
    cases : (b : Bool) → (x == s) ≡ b → has (lineage (suc k) live x) s ≡ true
    cases true e = chain_found live (suc k) x s (omega arith) (eqb-true x s e)
    cases false e = chain_more live k x s (λ same. absurd (cc (e, eq-eqb x s same))) ∙ on

parent_is : (live : List Dev) (x : ℕ) (d : Dev) → device_at live x ≡ Some d → parent_of live x ≡ d.parent
parent_is live x d at = ap (λ (o : Option Dev). option_map_or (λ d. d.parent) o 0) at

sleeps_is : (live : List Dev) (x : ℕ) (d : Dev) → device_at live x ≡ Some d → sleeps_at live x ≡ d.asleep
sleeps_is live x d at = ap (λ (o : Option Dev). option_map_or (λ d. d.asleep) o false) at

pub lowest_awake : (live : List Dev) (target k x : ℕ) (first : Option ℕ) (d : Dev) → device_at live x ≡ Some d → d.asleep ≡ false
    → IsLowest live target (suc k) x first → IsLowest live target k d.parent first
lowest_awake live target k x first d at awake so = rw (← parent_is live x d at)
    (record {
      rest = λ s on. so.rest s (further_up live k x s on);
      low = λ s asleep under. cases s asleep (so.low s asleep under);
      there = so.there;
    })
  where
    cases : (s : ℕ) → sleeps_at live s ≡ true → (has (lineage (suc k) live x) s ≡ true) ⊎ IsFrom first s
        → (has (lineage k live (parent_of live x)) s ≡ true) ⊎ IsFrom first s
    cases s asleep (inr from) = inr from
    cases s asleep (inl on) = more (on_chain live k x s on)
      where
        more : (x ≡ s) ⊎ (has (lineage k live (parent_of live x)) s ≡ true) → (has (lineage k live (parent_of live x)) s ≡ true) ⊎ IsFrom first s
        more (inl same) = absurd (cc (asleep, same, sleeps_is live x d at, awake))
        more (inr up) = inl up

pub lowest_asleep : (live : List Dev) (target k x : ℕ) (first : Option ℕ) (d : Dev) → device_at live x ≡ Some d → d.asleep ≡ true
    → IsLowest live target (suc k) x first → IsLowest live target k d.parent (Some (option_map_or (λ f. min f x) first x))
lowest_asleep live target k x first d at asleep so = rw (← parent_is live x d at)
    (record {
      rest = λ s on. so.rest s (further_up live k x s on);
      low = λ s sleeps under. cases s (so.low s sleeps under);
      there = λ f e. its f first (λ g h. so.there g h) (same_Some (option_map_or (λ f. min f x) first x) f e);
    })
  where
    here : (sleeps_at live x ≡ true) × (is_under live x target ≡ true)
    here = (sleeps_is live x d at ∙ asleep, so.rest x (chain_found live (suc k) x x (omega arith) refl))

    low_here : (o : Option ℕ) → option_map_or (λ f. min f x) o x ≤ x
    low_here None = omega arith
    low_here (Some f) = omega arith

    low_before : (o : Option ℕ) (s : ℕ) → IsFrom o s → option_map_or (λ f. min f x) o x ≤ s
    low_before None s from = absurd from
    low_before (Some f) s from = omega (arith, from)

    cases : (s : ℕ) → (has (lineage (suc k) live x) s ≡ true) ⊎ IsFrom first s
        → (has (lineage k live (parent_of live x)) s ≡ true) ⊎ (option_map_or (λ f. min f x) first x ≤ s)
    cases s (inr from) = inr (low_before first s from)
    cases s (inl on) = more (on_chain live k x s on)
      where
        more : (x ≡ s) ⊎ (has (lineage k live (parent_of live x)) s ≡ true) → (has (lineage k live (parent_of live x)) s ≡ true) ⊎ (option_map_or (λ f. min f x) first x ≤ s)
        more (inl same) = let le = low_here first in inr (omega (arith, le, same))
        more (inr up) = inl up

    its : (f : ℕ) (o : Option ℕ) → ((g : ℕ) → o ≡ Some g → (sleeps_at live g ≡ true) × (is_under live g target ≡ true)) → option_map_or (λ f. min f x) o x ≡ f
        → (sleeps_at live f ≡ true) × (is_under live f target ≡ true)
    its f None before e = rw (← e) here
    its f (Some g) before e = either (g == f) refl
      where
        either : (b : Bool) → (g == f) ≡ b → (sleeps_at live f ≡ true) × (is_under live f target ≡ true)
        either true same = rw (← eqb-true g f same) (before g refl)
        either false other =
            let ne : g ≢ f = λ h. absurd (cc (other, eq-eqb g f h)) in
            let same : x ≡ f = omega (arith, e, ne) in
            rw (← same) here

-- where nothing that sleeps is left, the first one so far is the first one
pub lowest_is : (live : List Dev) (target left x : ℕ) (first : Option ℕ) → Rises live → IsLowest live target left x first
    → ((s : ℕ) → sleeps_at live s ≡ true → has (lineage left live x) s ≡ false) → first ≡ serial_of (find (λ d. d.asleep && is_under live d.serial target) live)
lowest_is live target left x first later so ended = sym (cases first so.low so.there)
  where
    p : Dev → Bool
    p = λ d. d.asleep && is_under live d.serial target

    from : (o : Option ℕ) → ((s : ℕ) → sleeps_at live s ≡ true → is_under live s target ≡ true → (has (lineage left live x) s ≡ true) ⊎ IsFrom o s)
        → AllByRecursion (λ e. p e ≡ true → IsFrom o e.serial) live
    from o low = all_imp (λ e. device_at live e.serial ≡ Some e) (λ e. p e ≡ true → IsFrom o e.serial)
        (λ e own passes. its e own passes) live (own_found live later)
      where
        its : (e : Dev) → device_at live e.serial ≡ Some e → p e ≡ true → IsFrom o e.serial
        its e own passes =
            let both = and_both e.asleep (is_under live e.serial target) passes in
            let asleep : sleeps_at live e.serial ≡ true = sleeps_is live e.serial e own ∙ both.0 in
            one (low e.serial asleep both.1) (ended e.serial asleep)
          where
            one : (has (lineage left live x) e.serial ≡ true) ⊎ IsFrom o e.serial → has (lineage left live x) e.serial ≡ false → IsFrom o e.serial
            one (inl on) off = absurd cc
            one (inr k) off = k

    cases : (o : Option ℕ) → ((s : ℕ) → sleeps_at live s ≡ true → is_under live s target ≡ true → (has (lineage left live x) s ≡ true) ⊎ IsFrom o s)
        → ((f : ℕ) → o ≡ Some f → (sleeps_at live f ≡ true) × (is_under live f target ≡ true)) → serial_of (find p live) ≡ o
    cases None low there = none_first p live (from None low)
    cases (Some f) low there =
        let its = there f refl in
        found (device_at live f) refl its.0 its.1
      where
        found : (o : Option Dev) → device_at live f ≡ o → option_map_or (λ d. d.asleep) o false ≡ true → is_under live f target ≡ true → serial_of (find p live) ≡ Some f
        found None at asleep under = absurd cc
        found (Some d) at asleep under =
            let same : d.serial ≡ f = own_serial live f d at in
            lowest_first p live f d later at (rw (asleep, same, under) refl) (from (Some f) low)

-- ---- what wakes next

not_named : (p : Dev → Bool) (xs : List Dev) (s : ℕ) → AllByRecursion (λ e. s < e.serial) xs → is_number (serial_of (find p xs)) s ≡ false
not_named p xs s low = cases (find p xs) refl
  where
    cases : (o : Option Dev) → find p xs ≡ o → is_number (serial_of o) s ≡ false
    cases None e = refl
    cases (Some d) e = let lt = all_found (λ f. s < f.serial) p xs d low e in ne_eqb d.serial s (λ same. omega (arith, lt, same))

-- to be the one that is named by the first of some, or another one, is to be one of both
pub above_or_below : (a b : Dev → Bool) (n : Option ℕ) (live : List Dev) → Rises live → n ≡ serial_of (find (λ d. d.asleep && a d) live)
    → find (λ d. d.asleep && (is_number n d.serial || b d)) live ≡ find (λ d. d.asleep && (a d || b d)) live
above_or_below a b n [] later e = refl
above_or_below a b n (x ∷ xs) later e = cases (λ h. above_or_below a b n xs later.1 h) x.asleep (a x) refl refl e
  where
    cases : (n ≡ serial_of (find (λ d. d.asleep && a d) xs) → find (λ d. d.asleep && (is_number n d.serial || b d)) xs ≡ find (λ d. d.asleep && (a d || b d)) xs)
        → (s t : Bool) → x.asleep ≡ s → a x ≡ t → n ≡ serial_of (cond (x.asleep && a x) (Some x) (find (λ d. d.asleep && a d) xs))
        → cond (x.asleep && (is_number n x.serial || b x)) (Some x) (find (λ d. d.asleep && (is_number n d.serial || b d)) xs)
        ≡ cond (x.asleep && (a x || b x)) (Some x) (find (λ d. d.asleep && (a d || b d)) xs)
    cases more true true asleep above e =
        let named : n ≡ Some x.serial = e ∙ ap (λ (t : Bool). serial_of (cond t (Some x) (find (λ d. d.asleep && a d) xs))) (ap (λ (t : Bool). t && a x) asleep ∙ above) in
        ap (λ (t : Bool). cond t (Some x) (find (λ d. d.asleep && (is_number n d.serial || b d)) xs))
        (ap (λ (t : Bool). t && (is_number n x.serial || b x)) asleep ∙ ap (λ (o : Option ℕ). is_number o x.serial || b x) named ∙ ap (λ (t : Bool). t || b x) (eq-eqb x.serial x.serial refl))
        ∙ sym (ap (λ (t : Bool). cond t (Some x) (find (λ d. d.asleep && (a d || b d)) xs)) (ap (λ (t : Bool). t && (a x || b x)) asleep ∙ ap (λ (t : Bool). t || b x) above))
    cases more true false asleep above e =
        let later_one : n ≡ serial_of (find (λ d. d.asleep && a d) xs)
        = e ∙ ap (λ (t : Bool). serial_of (cond t (Some x) (find (λ d. d.asleep && a d) xs))) (ap (λ (t : Bool). t && a x) asleep ∙ above) in
        let other : is_number n x.serial ≡ false = ap (λ (o : Option ℕ). is_number o x.serial) later_one ∙ not_named (λ d. d.asleep && a d) xs x.serial later.0 in
        ap (λ (t : Bool). cond (x.asleep && (t || b x)) (Some x) (find (λ d. d.asleep && (is_number n d.serial || b d)) xs)) (other ∙ sym above)
        ∙ ap (cond (x.asleep && (a x || b x)) (Some x)) (more later_one)
    cases more false t asleep above e =
        let later_one : n ≡ serial_of (find (λ d. d.asleep && a d) xs)
        = e ∙ ap (λ (t : Bool). serial_of (cond (t && a x) (Some x) (find (λ d. d.asleep && a d) xs))) asleep in
        ap (λ (t : Bool). cond (t && (is_number n x.serial || b x)) (Some x) (find (λ d. d.asleep && (is_number n d.serial || b d)) xs)) asleep
        ∙ more later_one
        ∙ sym (ap (λ (t : Bool). cond (t && (a x || b x)) (Some x) (find (λ d. d.asleep && (a d || b d)) xs)) asleep)

-- where no device has the serial, nothing that sleeps is left of the chain from there
pub nothing_left : (live : List Dev) (k x : ℕ) → AllByRecursion (λ d. 0 < d.serial) live → device_at live x ≡ None
    → (s : ℕ) → sleeps_at live s ≡ true → has (lineage k live x) s ≡ false
nothing_left live zero x above none s asleep = chain_nothing live 0 x s refl
nothing_left live (suc k) x above none s asleep =
    chain_more live k x s other
    ∙ ap (λ (y : ℕ). has (lineage k live y) s) (ap (λ (o : Option Dev). option_map_or (λ d. d.parent) o 0) none)
    ∙ chain_ends live k s above (positive (device_at live s) refl asleep)
  where
    other : x ≢ s
    other e = absurd (cc (asleep, ap (λ (y : ℕ). option_map_or (λ d. d.asleep) (device_at live y) false) e, ap (λ (o : Option Dev). option_map_or (λ d. d.asleep) o false) none))

    positive : (o : Option Dev) → device_at live s ≡ o → option_map_or (λ d. d.asleep) o false ≡ true → 0 ≢ s
    positive None at k = absurd cc
    positive (Some d) at k = λ e.
        let lt = all_found (λ f. 0 < f.serial) (λ f. f.serial == s) live d above at in
        let same = own_serial live s d at in
        absurd (omega (arith, lt, same, e))
