-- Soundness as a test to compute with, and that a world which passes it is sound.
use Rattle.std.proofs.Common.{◌≡◌, ◌≢◌, ◌↔◌, ℕ, ◌≤◌, ◌==◌, Bool, true, false, not, ◌&&◌, ◌||◌, List, [], ◌∷◌, length, Option, Some, None, refl, ap, subst, inl, inr, arith}
use Rattle.std.specs.Prelude.{◌⊎◌, IsTrue, nat_le, nat_lt}
use Rattle.std.specs.List.{AllByRecursion, list_all, list_any}
use Rattle.std.specs.Option.{option_map_or}
use Rattle.std.proofs.lemmas.Bool.{ltb-true, leb-true, eqb-true, eq-eqb, eqb-false, not-true, cases_Bool, cases_lt}
use Rattle.std.proofs.lemmas.List.{get_or_past}
use Rattle.cf_types.specs.declared.machine.Ticket.{Ticket}
use Rattle.run_rules.specs.declared.world.Dev.{Dev}
use Rattle.run_rules.specs.declared.world.Frame.{Frame}
use Rattle.run_rules.specs.declared.world.Key.{Key}
use Rattle.run_rules.specs.declared.world.Key.TheVariants as key
use Rattle.run_rules.specs.declared.world.Activity.{Activity}
use Rattle.run_rules.specs.declared.world.Activity.TheVariants as activity
use Rattle.run_rules.specs.declared.world.Setup.{Setup}
use Rattle.run_rules.specs.World.{World, Caller, nobody, is_live, is_under, driver_of, is_number, is_pinned, is_held, caller_at, frame_serial, is_ended}
use Rattle.run_rules.specs.declared.world.Ref.{Ref}
use Rattle.run_rules.specs.References.{AreCounted, count_in, is_of, refs_to}
use Rattle.cf_types.specs.Numbers.{below}
use Rattle.run_rules.specs.Sound.{EachLater, IsApart, IsPlaced, IsSoundlyCondemned, IsSoundlyAsleep, is_scan_of, is_known, IsSoundlyDeferred, is_powering, is_empty, IsSoundCaller, IsSoundBoot, IsUnbegun, others, Sound}
use Rattle.run_rules.specs.Next.{next}
use Rattle.run_rules.specs.Run.{taken}
use Rattle.run_rules.proofs.Below.{and_both, at_below}
use Rattle.worked_runs.proofs.LawsHold.{at_number}

-- ---- the test

abbrev pub each_later : {A : Type 0} → (A → A → Bool) → List A → Bool
each_later r [] = true
each_later r (x ∷ xs) = list_all (r x) xs && each_later r xs

abbrev pub placed_test : List Dev → ℕ → Dev → Bool
placed_test live next d = nat_lt d.serial next && (nat_lt d.parent d.serial && (d.parent == 0 || is_live live d.parent))

abbrev pub apart_test : Setup → Dev → Dev → Bool
apart_test s d e = nat_lt d.serial e.serial && (not (driver_of s d.row == driver_of s e.row && d.unit == e.unit) && not (d.spot == e.spot))

-- each pair stands at most 15 times, and a device that is held solely in one pair, once
abbrev pub counted_test : List Ref → List ℕ → Bool
counted_test refs sole = list_all (λ r. nat_le (count_in refs r.caller r.serial) 15) refs && list_all (λ s. refs_to refs s == 1) sole

abbrev pub frees_above : World → ℕ → Activity → Bool
frees_above w s (activity.Frees target) = is_under w.live target s
frees_above w s _ = false

abbrev pub condemned_by : World → Dev → Option ℕ → Bool
condemned_by w d None = true
condemned_by w d (Some k) =
    not (is_pinned w d.serial) && (list_all (λ e. not (e.parent == d.serial) || is_number e.condemned k) w.live && frees_above w d.serial (caller_at w k).doing)

abbrev pub asleep_test : World → Dev → Bool
asleep_test w d = not d.asleep || (not (is_pinned w d.serial) && list_all (λ e. not (e.parent == d.serial) || e.asleep) w.live)

abbrev pub parent_test : World → Key → Bool
parent_test w key.Interrupts = true
parent_test w (key.Parent p) = list_any (λ c. list_any (is_scan_of p) c.stack) w.callers

abbrev pub same_bool : Bool → Bool → Bool
same_bool true b = b
same_bool false b = not b

abbrev pub holds_transfer : World → ℕ → Activity → Bool
holds_transfer w k (activity.Transfer t) = is_held w k t.serial
holds_transfer w k _ = true

abbrev pub ended_test : World → ℕ → Caller → Bool
ended_test w k c = not (is_ended c.doing) || (is_empty c.stack && list_all (λ r. not (r.caller == k)) w.refs)

abbrev pub is_scanning : Activity → Bool
is_scanning activity.Scans = true
is_scanning _ = false

abbrev pub frames_test : ℕ → Caller → Bool
frames_test k c = (k == 0) || (is_empty c.stack || is_scanning c.doing)

abbrev pub target_test : World → ℕ → Activity → Bool
target_test w k (activity.Frees s) = list_all (λ d. not (d.serial == s) || is_number d.condemned k) w.live && is_live w.live s
target_test w k _ = true

abbrev pub caller_test : World → ℕ → Bool
caller_test w k =
    same_bool (is_number w.power_owner k) (is_powering (caller_at w k).doing)
    && (holds_transfer w k (caller_at w k).doing && (ended_test w k (caller_at w k) && (frames_test k (caller_at w k) && target_test w k (caller_at w k).doing)))

abbrev pub is_idle : Activity → Bool
is_idle activity.Idle = true
is_idle _ = false

abbrev pub is_nobody : Option ℕ → Bool
is_nobody None = true
is_nobody (Some k) = false

abbrev pub unbegun_test : Caller → Bool
unbegun_test c = (c.over == 0) && (is_idle c.doing && is_empty c.stack)

abbrev pub boot_test : World → Bool
boot_test w =
    list_all (λ d. not d.asleep) w.live
    && (list_all (λ d. is_nobody d.condemned) w.live
    && (is_empty w.refs && (is_nobody w.power_owner && (list_all unbegun_test (others w.callers) && list_all (λ s. is_live w.live s) w.finalisers))))

abbrev pub is_parent_key : Key → Bool
is_parent_key key.Interrupts = false
is_parent_key (key.Parent p) = true

-- callers that are named are there
abbrev pub range_test : World → Bool
range_test w = option_map_or (λ j. nat_lt j (length w.callers)) w.power_owner true && list_all (λ r. nat_lt r.caller (length w.callers)) w.refs

abbrev pub sound_test : World → Bool
sound_test w =
    (list_all (placed_test w.live w.next) w.live && each_later (apart_test w.setup) w.live)
    && ((list_all (λ r. is_live w.live r.serial) w.refs && counted_test w.refs w.sole)
    && (list_all (λ d. condemned_by w d d.condemned) w.live
    && (list_all (asleep_test w) w.live
    && (list_all (λ c. list_all (λ f. is_known w (frame_serial f)) c.stack) w.callers
    && (list_all (λ e. is_live w.live e.child && parent_test w e.key) w.deferred
    && ((range_test w && list_all (caller_test w) (below (length w.callers)))
    && ((not w.interrupts_on || list_all (λ e. is_parent_key e.key) w.deferred)
    && (is_ended (caller_at w 0).doing || boot_test w))))))))

-- ---- lists

all_from : {A : Type 0} (p : A → Bool) (P : A → Type 0) → ((x : A) → p x ≡ true → P x) → (xs : List A) → list_all p xs ≡ true → AllByRecursion P xs
all_from p P f [] h = tt
all_from p P f (x ∷ xs) h = let both = and_both (p x) (list_all p xs) h in (f x both.0, all_from p P f xs both.1)

later_from : {A : Type 0} (r : A → A → Bool) (R : A → A → Type 0) → ((x y : A) → r x y ≡ true → R x y) → (xs : List A) → each_later r xs ≡ true → EachLater R xs
later_from r R f [] h = tt
later_from r R f (x ∷ xs) h = let both = and_both (list_all (r x) xs) (each_later r xs) h in (all_from (r x) (R x) (f x) xs both.0, later_from r R f xs both.1)

-- ---- small facts

differ : (a b : ℕ) → not (a == b) ≡ true → a ≢ b
differ a b h = eqb-false a b (not-true (a == b) h)

-- the premise of a test that has one
given : (a b : Bool) → (not a || b) ≡ true → a ≡ true → b ≡ true
given true b h e = h
given false b h e = absurd cc

number_is : (o : Option ℕ) (k : ℕ) → is_number o k ≡ true → o ≡ Some k
number_is None k h = absurd cc
number_is (Some m) k h = ap (λ (x : ℕ). Some x) (eqb-true m k h)

empty_is : {A : Type 0} (xs : List A) → is_empty xs ≡ true → xs ≡ []
empty_is [] h = refl
empty_is (x ∷ xs) h = absurd cc

nobody_is : (o : Option ℕ) → is_nobody o ≡ true → o ≡ None
nobody_is None h = refl
nobody_is (Some k) h = absurd cc

eqb-same : (a b : ℕ) → a ≡ b → (a == b) ≡ true
eqb-same a b e = eq-eqb a b e

-- ---- each part

placed_from : (live : List Dev) (next : ℕ) (d : Dev) → placed_test live next d ≡ true → IsPlaced live next d
placed_from live next d h =
    let a = and_both (nat_lt d.serial next) (nat_lt d.parent d.serial && (d.parent == 0 || is_live live d.parent)) h in
    let b = and_both (nat_lt d.parent d.serial) (d.parent == 0 || is_live live d.parent) a.1 in
    record { below_next = ltb-true d.serial next a.0; after_parent = ltb-true d.parent d.serial b.0; parent_live = b.1 }

apart_from : (s : Setup) (d e : Dev) → apart_test s d e ≡ true → IsApart s d e
apart_from s d e h =
    let a = and_both (nat_lt d.serial e.serial) (not (driver_of s d.row == driver_of s e.row && d.unit == e.unit) && not (d.spot == e.spot)) h in
    let b = and_both (not (driver_of s d.row == driver_of s e.row && d.unit == e.unit)) (not (d.spot == e.spot)) a.1 in
    record { later = ltb-true d.serial e.serial a.0; names = b.0; spots = differ d.spot e.spot b.1 }

few_from : (all refs : List Ref) (k s : ℕ) → list_all (λ r. nat_le (count_in all r.caller r.serial) 15) refs ≡ true
    → (count_in refs k s ≡ 0) ⊎ (count_in all k s ≤ 15)
few_from all [] k s h = inl refl
few_from all (r ∷ rs) k s h =
    let both = and_both (nat_le (count_in all r.caller r.serial) 15) (list_all (λ r. nat_le (count_in all r.caller r.serial) 15) rs) h in
    elim (cases_Bool (is_of k s r)) [
      | inl e ↦
          let same = and_both (r.serial == s) (r.caller == k) e in
          inr (rw (← eqb-true r.serial s same.0, ← eqb-true r.caller k same.1) (leb-true (count_in all r.caller r.serial) 15 both.0))
      | inr e ↦ elim (few_from all rs k s both.1) [ inl z ↦ inl (rw (e, z) refl) | inr few ↦ inr few ]
    ]

counted_from : (refs : List Ref) (sole : List ℕ) → counted_test refs sole ≡ true → AreCounted refs sole
counted_from refs sole h =
    let both = and_both (list_all (λ r. nat_le (count_in refs r.caller r.serial) 15) refs) (list_all (λ s. refs_to refs s == 1) sole) h in
    record {
      few = λ k s. elim (few_from refs refs k s both.0) [ inl z ↦ omega (arith, z) | inr few ↦ few ];
      alone = λ s has. eqb-true (refs_to refs s) 1 (at_number (λ s. refs_to refs s == 1) sole both.1 s has);
    }

frees_is : (w : World) (s : ℕ) (a : Activity) → frees_above w s a ≡ true → (target : ℕ) × (a ≡ activity.Frees target) × IsTrue (is_under w.live target s)
frees_is w s (activity.Frees target) h = (target, refl, h)
frees_is w s _ h = absurd cc

condemned_from : (w : World) (d : Dev) (k : ℕ) → condemned_by w d (Some k) ≡ true → IsSoundlyCondemned w d k
condemned_from w d k h =
    let children : Bool = list_all (λ e. not (e.parent == d.serial) || is_number e.condemned k) w.live in
    let a = and_both (not (is_pinned w d.serial)) (children && frees_above w d.serial (caller_at w k).doing) h in
    let b = and_both children (frees_above w d.serial (caller_at w k).doing) a.1 in
    record {
      unpinned = not-true (is_pinned w d.serial) a.0;
      children = all_from (λ e. not (e.parent == d.serial) || is_number e.condemned k) (λ e. e.parent ≡ d.serial → e.condemned ≡ Some k)
          (λ e t p. number_is e.condemned k (given (e.parent == d.serial) (is_number e.condemned k) t (eqb-same e.parent d.serial p))) w.live b.0;
      below_target = frees_is w d.serial (caller_at w k).doing b.1;
    }

asleep_from : (w : World) (d : Dev) → asleep_test w d ≡ true → IsTrue d.asleep → IsSoundlyAsleep w d
asleep_from w d h s =
    let children : Bool = list_all (λ e. not (e.parent == d.serial) || e.asleep) w.live in
    let a = and_both (not (is_pinned w d.serial)) children (given d.asleep (not (is_pinned w d.serial) && children) h s) in
    record {
      unpinned = not-true (is_pinned w d.serial) a.0;
      children = all_from (λ e. not (e.parent == d.serial) || e.asleep) (λ e. e.parent ≡ d.serial → IsTrue e.asleep)
          (λ e t p. given (e.parent == d.serial) e.asleep t (eqb-same e.parent d.serial p)) w.live a.1;
    }

deferred_from : (w : World) (q : Key) (child : ℕ) → (is_live w.live child && parent_test w q) ≡ true → IsSoundlyDeferred w (record { key = q; child = child })
deferred_from w key.Interrupts child h = ((and_both (is_live w.live child) true h).0, tt)
deferred_from w (key.Parent p) child h = and_both (is_live w.live child) (parent_test w (key.Parent p)) h

-- ---- callers

same_is : (a b : Bool) → same_bool a b ≡ true → IsTrue a ↔ IsTrue b
same_is true b h = (λ e. h, λ e. refl)
same_is false b h = (λ e. absurd cc, λ e. absurd (clash b h e))
  where
    clash : (b : Bool) → not b ≡ true → b ≡ true → ⊥
    clash true x y = cc
    clash false x y = cc

scanning_is : (a : Activity) → is_scanning a ≡ true → a ≡ activity.Scans
scanning_is activity.Scans h = refl
scanning_is _ h = absurd cc

idle_is : (a : Activity) → is_idle a ≡ true → a ≡ activity.Idle
idle_is activity.Idle h = refl
idle_is _ h = absurd cc

ended_is : (a : Activity) → is_ended a ≡ true → a ≡ activity.Ended
ended_is activity.Ended h = refl
ended_is _ h = absurd cc

frames_from : (z : Bool) (stack : List Frame) (a : Activity) → (z || (is_empty stack || is_scanning a)) ≡ true → IsTrue (not z) → stack ≢ [] → a ≡ activity.Scans
frames_from true stack a h z n = absurd cc
frames_from false [] a h z n = absurd (n refl)
frames_from false (f ∷ fs) a h z n = scanning_is a h

caller_in : (w : World) (k : ℕ) → caller_test w k ≡ true → IsSoundCaller w k
caller_in w k h =
    let c : Caller = caller_at w k in
    let e1 : Bool = ended_test w k c && (frames_test k c && target_test w k c.doing) in
    let a = and_both (same_bool (is_number w.power_owner k) (is_powering c.doing)) (holds_transfer w k c.doing && e1) h in
    let b = and_both (holds_transfer w k c.doing) e1 a.1 in
    let d = and_both (ended_test w k c) (frames_test k c && target_test w k c.doing) b.1 in
    let f = and_both (frames_test k c) (target_test w k c.doing) d.1 in
    record {
      turn = same_is (is_number w.power_owner k) (is_powering c.doing) a.0;
      transfer = λ t e. subst (λ (x : Activity). holds_transfer w k x ≡ true) e b.0;
      ended = λ e.
          let left = and_both (is_empty c.stack) (list_all (λ r. not (r.caller == k)) w.refs)
          (given (is_ended c.doing) (is_empty c.stack && list_all (λ r. not (r.caller == k)) w.refs) d.0 (ap is_ended e)) in
          (empty_is c.stack left.0, all_from (λ r. not (r.caller == k)) (λ r. r.caller ≢ k) (λ r t. differ r.caller k t) w.refs left.1);
      frames = frames_from (k == 0) c.stack c.doing f.0;
      target = λ s e.
          let left = and_both (list_all (λ d. not (d.serial == s) || is_number d.condemned k) w.live) (is_live w.live s) (subst (λ (x : Activity). target_test w k x ≡ true) e f.1) in (
            all_from (λ d. not (d.serial == s) || is_number d.condemned k) (λ d. d.serial ≡ s → d.condemned ≡ Some k)
                (λ d t p. number_is d.condemned k (given (d.serial == s) (is_number d.condemned k) t (eqb-same d.serial s p))) w.live left.0,
            left.1,
          );
    }

turn_past : (o : Option ℕ) (n k : ℕ) → option_map_or (λ j. nat_lt j n) o true ≡ true → n ≤ k → is_number o k ≡ true → ⊥
turn_past None n k h le e = cc
turn_past (Some j) n k h le e = omega (arith, ltb-true j n h, eqb-true j k e, le)

no_power : (a : Activity) → a ≡ activity.Ended → is_powering a ≡ true → ⊥
no_power a e p = cc

caller_past : (w : World) (k : ℕ) → range_test w ≡ true → length w.callers ≤ k → IsSoundCaller w k
caller_past w k h le =
    let is : caller_at w k ≡ nobody = get_or_past w.callers k nobody le in
    let doing : (caller_at w k).doing ≡ activity.Ended = ap (λ (c : Caller). c.doing) is in
    let bare : (caller_at w k).stack ≡ [] = ap (λ (c : Caller). c.stack) is in
    let a = and_both (option_map_or (λ j. nat_lt j (length w.callers)) w.power_owner true) (list_all (λ r. nat_lt r.caller (length w.callers)) w.refs) h in
    record {
      turn = (λ e. absurd (turn_past w.power_owner (length w.callers) k a.0 le e), λ e. absurd (no_power (caller_at w k).doing doing e));
      transfer = λ t e. absurd (no_transfer (caller_at w k).doing t doing e);
      ended = λ e. (
        bare,
        all_from (λ r. nat_lt r.caller (length w.callers)) (λ r. r.caller ≢ k)
            (λ r t same. omega (arith, ltb-true r.caller (length w.callers) t, same, le)) w.refs a.1,
      );
      frames = λ z n. absurd (n bare);
      target = λ s e. absurd (no_target (caller_at w k).doing s doing e);
    }
  where
    no_transfer : (a : Activity) (t : Ticket) → a ≡ activity.Ended → a ≡ activity.Transfer t → ⊥
    no_transfer a t x y = cc

    no_target : (a : Activity) (s : ℕ) → a ≡ activity.Ended → a ≡ activity.Frees s → ⊥
    no_target a s x y = cc

caller_from : (w : World) → (range_test w && list_all (caller_test w) (below (length w.callers))) ≡ true → (k : ℕ) → IsSoundCaller w k
caller_from w h k =
    let a = and_both (range_test w) (list_all (caller_test w) (below (length w.callers))) h in
    elim (cases_lt k (length w.callers)) [
      | inl less ↦ caller_in w k (at_below (caller_test w) (length w.callers) a.1 k less)
      | inr le ↦ caller_past w k a.0 le
    ]

-- ---- the boot

unbegun_from : (c : Caller) → unbegun_test c ≡ true → IsUnbegun c
unbegun_from c h =
    let a = and_both (c.over == 0) (is_idle c.doing && is_empty c.stack) h in
    let b = and_both (is_idle c.doing) (is_empty c.stack) a.1 in
    (eqb-true c.over 0 a.0, idle_is c.doing b.0, empty_is c.stack b.1)

boot_from : (w : World) → boot_test w ≡ true → IsSoundBoot w
boot_from w h =
    let d1 : Bool = list_all unbegun_test (others w.callers) && list_all (λ s. is_live w.live s) w.finalisers in
    let a = and_both (list_all (λ d. not d.asleep) w.live) (list_all (λ d. is_nobody d.condemned) w.live && (is_empty w.refs && (is_nobody w.power_owner && d1))) h in
    let b = and_both (list_all (λ d. is_nobody d.condemned) w.live) (is_empty w.refs && (is_nobody w.power_owner && d1)) a.1 in
    let c = and_both (is_empty w.refs) (is_nobody w.power_owner && d1) b.1 in
    let d = and_both (is_nobody w.power_owner) d1 c.1 in
    let e = and_both (list_all unbegun_test (others w.callers)) (list_all (λ s. is_live w.live s) w.finalisers) d.1 in
    record {
      awake = all_from (λ x. not x.asleep) (λ x. IsTrue (not x.asleep)) (λ x t. t) w.live a.0;
      spared = all_from (λ x. is_nobody x.condemned) (λ x. x.condemned ≡ None) (λ x t. nobody_is x.condemned t) w.live b.0;
      no_refs = empty_is w.refs c.0;
      no_turn = nobody_is w.power_owner d.0;
      waiting = all_from unbegun_test IsUnbegun unbegun_from (others w.callers) e.0;
      finalisers = all_from (λ s. is_live w.live s) (λ s. IsTrue (is_live w.live s)) (λ s t. t) w.finalisers e.1;
    }

boot_if : (w : World) (a : Activity) → (is_ended a || boot_test w) ≡ true → a ≢ activity.Ended → IsSoundBoot w
boot_if w activity.Ended h n = absurd (n refl)
boot_if w _ h n = boot_from w h

parent_key_is : (q : Key) → is_parent_key q ≡ true → q ≢ key.Interrupts
parent_key_is key.Interrupts h e = cc
parent_key_is (key.Parent p) h e = cc

-- ---- all of it

pub sound_from : (w : World) → sound_test w ≡ true → Sound w
sound_from w h =
    let h9 : Bool = is_ended (caller_at w 0).doing || boot_test w in
    let h8 : Bool = not w.interrupts_on || list_all (λ e. is_parent_key e.key) w.deferred in
    let h7 : Bool = range_test w && list_all (caller_test w) (below (length w.callers)) in
    let h6 : Bool = list_all (λ e. is_live w.live e.child && parent_test w e.key) w.deferred in
    let h5 : Bool = list_all (λ c. list_all (λ f. is_known w (frame_serial f)) c.stack) w.callers in
    let h4 : Bool = list_all (asleep_test w) w.live in
    let h3 : Bool = list_all (λ d. condemned_by w d d.condemned) w.live in
    let h2 : Bool = list_all (λ r. is_live w.live r.serial) w.refs && counted_test w.refs w.sole in
    let h1 : Bool = list_all (placed_test w.live w.next) w.live && each_later (apart_test w.setup) w.live in
    let a = and_both h1 (h2 && (h3 && (h4 && (h5 && (h6 && (h7 && (h8 && h9))))))) h in
    let b = and_both h2 (h3 && (h4 && (h5 && (h6 && (h7 && (h8 && h9)))))) a.1 in
    let c = and_both h3 (h4 && (h5 && (h6 && (h7 && (h8 && h9))))) b.1 in
    let d = and_both h4 (h5 && (h6 && (h7 && (h8 && h9)))) c.1 in
    let e = and_both h5 (h6 && (h7 && (h8 && h9))) d.1 in
    let f = and_both h6 (h7 && (h8 && h9)) e.1 in
    let g = and_both h7 (h8 && h9) f.1 in
    let i = and_both h8 h9 g.1 in
    let devices = and_both (list_all (placed_test w.live w.next) w.live) (each_later (apart_test w.setup) w.live) a.0 in
    let refs = and_both (list_all (λ r. is_live w.live r.serial) w.refs) (counted_test w.refs w.sole) b.0 in
    record {
      devices = record {
        placed = all_from (placed_test w.live w.next) (IsPlaced w.live w.next) (placed_from w.live w.next) w.live devices.0;
        apart = later_from (apart_test w.setup) (IsApart w.setup) (apart_from w.setup) w.live devices.1;
      };
      refs = record {
        live_ones = all_from (λ r. is_live w.live r.serial) (λ r. IsTrue (is_live w.live r.serial)) (λ r t. t) w.refs refs.0;
        counted = counted_from w.refs w.sole refs.1;
      };
      condemned = all_from (λ d. condemned_by w d d.condemned) (λ d. (k : ℕ) → d.condemned ≡ Some k → IsSoundlyCondemned w d k)
          (λ d t k is. condemned_from w d k (subst (λ (o : Option ℕ). condemned_by w d o ≡ true) is t)) w.live c.0;
      asleep = all_from (asleep_test w) (λ d. IsTrue d.asleep → IsSoundlyAsleep w d) (asleep_from w) w.live d.0;
      frames = all_from (λ c. list_all (λ f. is_known w (frame_serial f)) c.stack) (λ c. AllByRecursion (λ f. IsTrue (is_known w (frame_serial f))) c.stack)
          (λ c t. all_from (λ f. is_known w (frame_serial f)) (λ f. IsTrue (is_known w (frame_serial f))) (λ f u. u) c.stack t) w.callers e.0;
      deferred = all_from (λ e. is_live w.live e.child && parent_test w e.key) (IsSoundlyDeferred w) (λ e t. deferred_from w e.key e.child t) w.deferred f.0;
      callers = caller_from w g.0;
      interrupts_on = λ p. all_from (λ e. is_parent_key e.key) (λ e. e.key ≢ key.Interrupts) (λ e t. parent_key_is e.key t) w.deferred
          (given w.interrupts_on (list_all (λ e. is_parent_key e.key) w.deferred) i.0 p);
      boot = boot_if w (caller_at w 0).doing i.1;
    }

-- ---- along a run

-- each world of the run is sound
abbrev pub AreSound : World → List ℕ → Type 0
AreSound w [] = Sound w
AreSound w (k ∷ ks) = Sound w × AreSound (taken w k (next w k)).1 ks

abbrev pub is_sound_along : World → List ℕ → Bool
is_sound_along w [] = sound_test w
is_sound_along w (k ∷ ks) = sound_test w && is_sound_along (taken w k (next w k)).1 ks

pub sound_along : (w : World) (ks : List ℕ) → is_sound_along w ks ≡ true → AreSound w ks
sound_along w [] h = sound_from w h
sound_along w (k ∷ ks) h =
    let both = and_both (sound_test w) (is_sound_along (taken w k (next w k)).1 ks) h in
    (sound_from w both.0, sound_along (taken w k (next w k)).1 ks both.1)
