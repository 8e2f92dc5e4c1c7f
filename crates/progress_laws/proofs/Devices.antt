-- A device that is freed, put to sleep or woken leaves less.
use Rattle.std.proofs.Common.{◌≡◌, ◌<◌, ◌≤◌, ℕ, ◌+◌, ◌*◌, ◌-◌, ◌==◌, ◌&&◌, ◌||◌, not, Bool, true, false, cond, List, [], ◌∷◌, map, find, length, sum_by, count_by, Option, Some, None, refl, sym, ap, ◌∙◌, arith, eqb-true, eq-eqb, option_map, slice_index_or}
use Rattle.std.specs.Prelude.{filter, reverse, is_some, if◌then◌else◌}
use Rattle.std.specs.List.{AllByRecursion, Contains, list_any}
use Rattle.std.proofs.Math.Nat.{add-mul, mul-add, mul_assoc}
use Rattle.std.proofs.lemmas.Bool.{and_parts}
use Rattle.std.proofs.lemmas.Option.{same_Some}
use Rattle.std.proofs.lemmas.List.Folds.{list_any_at}
use Rattle.std.proofs.lemmas.List.Sums.{count_by-le-length, length-filter}
use Rattle.run_rules.specs.declared.event.PowerKind.{PowerKind}
use Rattle.run_rules.specs.declared.event.PowerKind.TheVariants as kind
use Rattle.run_rules.specs.declared.world.Dev.{Dev}
use Rattle.run_rules.specs.declared.world.Activity.{Activity}
use Rattle.run_rules.specs.declared.world.Activity.TheVariants as activity
use Rattle.run_rules.specs.World.{World, Caller, caller_at, is_condemned, is_live, is_number, is_under, nobody}
use Rattle.run_rules.specs.Sound.{Sound, is_powering}
use Rattle.run_rules.specs.After.{after, freed, freeing_target, marked, over, with_sleep}
use Rattle.run_rules.specs.Next.{next, next_free, next_sleep, next_wake}
use Rattle.run_rules.specs.declared.deed.Deed.TheVariants.{Free, Sleep, Wake}
use Rattle.run_rules.specs.declared.deed.Choice.TheVariants.{Does}
use Rattle.run_rules.proofs.Free.{find_true}
use Rattle.run_sound.proofs.Commands.{FreesLast, Wakes, wakes_below}
use Rattle.run_sound.specs.Kept.{Kept}
use Rattle.run_sound.specs.Left.{free_spots, scan_left, spot_worth}
use Rattle.run_sound.specs.Scripts.{script_of}
use Rattle.run_sound.proofs.Callers.{caller_here, caller_there, doing_there}
use Rattle.run_sound.proofs.Members.{each_of, found_contained, found_from_end, one_serial}
use Rattle.run_sound.proofs.RangesDeeds.{sleep_keeps}
use Rattle.run_sound.proofs.Reasons.{has_command_reason}
use Rattle.run_sound.proofs.Spots.{few_filter, free_map}
use Rattle.run_sound.proofs.Falls.{product_le}
use Rattle.progress_laws.specs.Ahead.{asleep_in, awake_in, condemned_in, frames_of, free_worth, power_left, turn_left, unfinished}
use Rattle.progress_laws.proofs.Own.{own}
use Rattle.progress_laws.proofs.Turns.{Stirs, count_cons, count_less, count_map, turn_stirs}

-- ---- a device is freed

-- where all that go are condemned, as many condemned ones go
gone : (c q : Dev → Bool) (live : List Dev) → AllByRecursion (λ d. q d ≡ false → c d ≡ true) live → count_by c (filter q live) + length live ≤ count_by c live + length (filter q live)
gone c q [] h = omega arith
gone c q (d ∷ ds) h = cases (q d) h.0 (gone c q ds h.1)
  where
    one : Bool → ℕ
    one b = cond b 1 0

    cases : (b : Bool) → (b ≡ false → c d ≡ true) → count_by c (filter q ds) + length ds ≤ count_by c ds + length (filter q ds)
        → count_by c (cond b (d ∷ filter q ds) (filter q ds)) + length (d ∷ ds) ≤ count_by c (d ∷ ds) + length (cond b (d ∷ filter q ds) (filter q ds))
    cases true is le = omega (arith, le, count_cons c d ds, count_cons c d (filter q ds))
    cases false is le = let here : one (c d) ≡ 1 = ap one (is refl) in omega (arith, le, count_cons c d ds, here)

abbrev without : List Dev → ℕ → List Dev
without live s = filter (λ d. not (d.serial == s)) live

shorter : (live : List Dev) (s : ℕ) → is_live live s ≡ true → length (without live s) < length live
shorter [] s h = absurd cc
shorter (d ∷ ds) s h = cases (d.serial == s) (λ k. shorter ds s k) h
  where
    most : length (without ds s) ≤ length ds
    most = omega (arith, length-filter (λ (x : Dev). not (x.serial == s)) ds, count_by-le-length (λ (x : Dev). not (x.serial == s)) ds)

    cases : (b : Bool) → (is_live ds s ≡ true → length (without ds s) < length ds) → (b || is_live ds s) ≡ true → length (cond (not b) (d ∷ without ds s) (without ds s)) < length (d ∷ ds)
    cases true rest k = omega (arith, most)
    cases false rest k = omega (arith, rest k)

found : (o : Option Dev) (s : ℕ) → option_map (λ d. d.serial) o ≡ Some s → (d : Dev) × (o ≡ Some d) × (d.serial ≡ s)
found None s e = absurd cc
found (Some d) s e = (d, refl, same_Some d.serial s e)

number_condemned : (o : Option ℕ) (k : ℕ) → is_number o k ≡ true → is_some o ≡ true
number_condemned None k h = absurd cc
number_condemned (Some j) k h = refl

-- what is freed is condemned
all_condemned : (w : World) (k s : ℕ) → Kept w → next_free w.live k ≡ Some s → AllByRecursion (λ d. not (d.serial == s) ≡ false → is_condemned d ≡ true) w.live
unfolding next_free
all_condemned w k s kept e =
    let one = found (find (λ d. is_number d.condemned k) (reverse w.live)) s e in
    let there = found_from_end (λ d. is_number d.condemned k) w.live one.0 one.1 in
    let is : is_condemned one.0 ≡ true = number_condemned one.0.condemned k (find_true (λ d. is_number d.condemned k) (reverse w.live) one.0 one.1) in
    each_of (λ d. not (d.serial == s) ≡ false → is_condemned d ≡ true) w.live
    (λ d here no. ap is_condemned (one_serial w.setup w.live d one.0 kept.sound.devices.apart here there (eqb-true d.serial s (back (d.serial == s) no) ∙ sym one.2)) ∙ is)
  where
    back : (b : Bool) → not b ≡ false → b ≡ true
    back true h = refl
    back false h = absurd cc

odd_times : (a c : ℕ) → (2 * a + 1) * c ≡ 2 * (a * c) + c
odd_times a c = grind (arith, add-mul, mul_assoc)

free_sum : (sw f f' c c' l l' : ℕ) → l' + f' ≤ l + f → c' + l ≤ c + l' → l' < l → 2 * (sw * f') + (2 * sw + 1) * c' < 2 * (sw * f) + (2 * sw + 1) * c
free_sum sw f f' c c' l l' a b e =
    let both : sw * (f' + c') ≤ sw * (f + c) = product_le sw (f' + c') (f + c) (omega (arith, a, b)) in
    omega (arith, both, mul-add sw f' c', mul-add sw f c, odd_times sw c', odd_times sw c, a, b, e)

freed_stirs : (w : World) (s : ℕ) → Stirs 0 w (freed w s)
freed_stirs w s = record {
  asleep = omega (arith, count_less (λ d. d.asleep) (λ d. not (d.serial == s)) w.live);
  awake = omega (arith, count_less (λ d. not d.asleep) (λ d. not (d.serial == s)) w.live);
}

pub free_lowers : (n : ℕ) (w : World) (k s : ℕ) → Kept w → next w k ≡ Does (Free s) → own n (after w k (Free s)) k < own n w k
unfolding after
free_lowers n w k s kept e = cases (freeing_target (caller_at w k).doing s)
  where
    why : FreesLast w k s
    why = has_command_reason w k (Free s) e

    calm : is_powering (caller_at w k).doing ≡ false
    calm = ap is_powering why.amid

    less : 2 * (spot_worth n * free_spots (without w.live s) n) + free_worth n * condemned_in (without w.live s) < 2 * (spot_worth n * free_spots w.live n) + free_worth n * condemned_in w.live
    less =
        free_sum (spot_worth n) (free_spots w.live n) (free_spots (without w.live s) n) (condemned_in w.live) (condemned_in (without w.live s)) (length w.live) (length (without w.live s))
        (few_filter (λ d. not (d.serial == s)) w.live n) (gone is_condemned (λ d. not (d.serial == s)) w.live (all_condemned w k s kept why.last)) (shorter w.live s why.live)

    c : Caller
    c = record { over = (caller_at w k).over + 1; doing = activity.Idle; stack = (caller_at w k).stack }

    is : caller_at (over (freed w s) k) k ≡ c
    is = caller_here (freed w s) k c (doing_there w k (Free s) e)

    cases : (b : Bool) → own n (if b then over (freed w s) k else freed w s) k < own n w k
    cases true =
        let v : World = over (freed w s) k in
        let turn : turn_left v ≤ turn_left w + 0 = turn_stirs 0 w v k kept.sound calm refl (λ j other. caller_there (freed w s) k j c other) (record { asleep = (freed_stirs w s).asleep; awake = (freed_stirs w s).awake }) in
        let frames : frames_of n v k ≡ frames_of n w k = ap (λ (x : Caller). sum_by (scan_left n) x.stack) is in
        let fewer : unfinished v k ≡ length (script_of w.setup k) - ((caller_at w k).over + 1) = ap (λ (x : Caller). length (script_of w.setup k) - x.over) is in
        omega (arith, turn, frames, fewer, less)
    cases false =
        let turn : turn_left (freed w s) ≤ turn_left w + 0 = turn_stirs 0 w (freed w s) k kept.sound calm refl (λ j other. refl) (freed_stirs w s) in
        omega (arith, turn, less)

-- ---- a device is put to sleep or woken

abbrev one : Bool → ℕ
one b = cond b 1 0

no_more : (a b : Bool) → (a ≡ true → b ≡ true) → one a ≤ one b
no_more true b h = let is : one b ≡ 1 = ap one (h refl) in omega (arith, is)
no_more false true h = omega arith
no_more false false h = omega arith

map_most : (q : Dev → Bool) (f : Dev → Dev) (live : List Dev) → ((d : Dev) → q (f d) ≡ true → q d ≡ true) → count_by q (map f live) ≤ count_by q live
map_most q f [] h = omega arith
map_most q f (d ∷ ds) h = omega (arith, count_cons q d ds, count_cons q (f d) (map f ds), map_most q f ds h, no_more (q (f d)) (q d) (h d))

-- one of them passes no longer
map_less : (q : Dev → Bool) (f : Dev → Dev) (live : List Dev) → ((d : Dev) → q (f d) ≡ true → q d ≡ true) → list_any (λ d. q d && not (q (f d))) live ≡ true
    → count_by q (map f live) < count_by q live
map_less q f [] h some = absurd cc
map_less q f (d ∷ ds) h some = cases (λ k. map_less q f ds h k) (q d) (q (f d)) refl refl some
  where
    more : count_by q (map f ds) < count_by q ds → count_by q (map f (d ∷ ds)) < count_by q (d ∷ ds)
    more less = omega (arith, count_cons q d ds, count_cons q (f d) (map f ds), less, no_more (q (f d)) (q d) (h d))

    cases : (list_any (λ x. q x && not (q (f x))) ds ≡ true → count_by q (map f ds) < count_by q ds) → (a b : Bool) → q d ≡ a → q (f d) ≡ b → ((a && not b) || list_any (λ x. q x && not (q (f x))) ds) ≡ true → count_by q (map f (d ∷ ds)) < count_by q (d ∷ ds)
    cases rest true false x y k =
        let was : one (q d) ≡ 1 = ap one x in
        let now : one (q (f d)) ≡ 0 = ap one y in
        omega (arith, count_cons q d ds, count_cons q (f d) (map f ds), map_most q f ds h, was, now)
    cases rest true true x y k = more (rest k)
    cases rest false b x y k = more (rest k)

abbrev slept_live : World → ℕ → Bool → List Dev
slept_live w s asleep = map (with_sleep s asleep) w.live

some_there : (p : Dev → Bool) (live : List Dev) (d : Dev) → Contains live d → p d ≡ true → list_any p live ≡ true
some_there p live d here is = list_any_at p live here.0 d here.1 (ap p here.2 ∙ is)

slept_condemned : (s : ℕ) (asleep : Bool) (d : Dev) → is_condemned (with_sleep s asleep d) ≡ is_condemned d
slept_condemned s asleep d = at (d.serial == s)
  where
    at : (b : Bool) → is_condemned (if b then record d { asleep = asleep } else d) ≡ is_condemned d
    at true = refl
    at false = refl

slept_is : (s : ℕ) (asleep : Bool) (d : Dev) → d.serial ≡ s → (with_sleep s asleep d).asleep ≡ asleep
slept_is s asleep d same = rw (eq-eqb d.serial s same) refl

-- fewer are awake, or asleep
awake_falls : (w : World) (s : ℕ) (d : Dev) → Contains w.live d → d.serial ≡ s → not d.asleep ≡ true → awake_in (slept_live w s true) < awake_in w.live
awake_falls w s d here same awake =
    map_less (λ x. not x.asleep) (with_sleep s true) w.live keeps
    (some_there (λ x. not x.asleep && not (not (with_sleep s true x).asleep)) w.live d here (both (not d.asleep) (with_sleep s true d).asleep awake (slept_is s true d same)))
  where
    both : (a b : Bool) → a ≡ true → b ≡ true → (a && not (not b)) ≡ true
    both true true x y = refl
    both true false x y = absurd cc
    both false b x y = absurd cc

    keeps : (x : Dev) → not (with_sleep s true x).asleep ≡ true → not x.asleep ≡ true
    keeps x = at (x.serial == s)
      where
        at : (b : Bool) → not (if b then record x { asleep = true } else x).asleep ≡ true → not x.asleep ≡ true
        at true h = absurd cc
        at false h = h

asleep_falls : (w : World) (s : ℕ) (d : Dev) → Contains w.live d → d.serial ≡ s → d.asleep ≡ true → asleep_in (slept_live w s false) < asleep_in w.live
asleep_falls w s d here same asleep =
    map_less (λ x. x.asleep) (with_sleep s false) w.live keeps
    (some_there (λ x. x.asleep && not (with_sleep s false x).asleep) w.live d here (both d.asleep (with_sleep s false d).asleep asleep (slept_is s false d same)))
  where
    both : (a b : Bool) → a ≡ true → b ≡ false → (a && not b) ≡ true
    both true false x y = refl
    both true true x y = absurd cc
    both false b x y = absurd cc

    keeps : (x : Dev) → (with_sleep s false x).asleep ≡ true → x.asleep ≡ true
    keeps x = at (x.serial == s)
      where
        at : (b : Bool) → (if b then record x { asleep = false } else x).asleep ≡ true → x.asleep ≡ true
        at true h = absurd cc
        at false h = h

-- who is in a power command has the turn
pub number_is : (o : Option ℕ) (k : ℕ) → is_number o k ≡ true → o ≡ Some k
number_is None k h = absurd cc
number_is (Some j) k h = ap (λ (i : ℕ). Some i) (eqb-true j k h)

turn_is : (w v : World) (k : ℕ) (a : Activity) → Sound w → (caller_at w k).doing ≡ a → is_powering a ≡ true → v.power_owner ≡ w.power_owner → v.callers ≡ w.callers → turn_left v ≡ power_left v.live a
turn_is w v k a sound amid power owner callers =
    let mine : is_powering (caller_at w k).doing ≡ true = ap is_powering amid ∙ power in
    let has : w.power_owner ≡ Some k = number_is w.power_owner k ((sound.callers k).turn.1 mine) in
    let same : caller_at v k ≡ caller_at w k = ap (λ (cs : List Caller). slice_index_or cs k nobody) callers in
    rw (owner ∙ has) (ap (λ (x : Caller). power_left v.live x.doing) same ∙ ap (power_left v.live) amid)

marked_lowers : (n : ℕ) (w : World) (k s : ℕ) (asleep : Bool) (a : Activity) → Sound w → (caller_at w k).doing ≡ a → is_powering a ≡ true → power_left (slept_live w s asleep) a < power_left w.live a
    → own n (marked w s asleep) k < own n w k
marked_lowers n w k s asleep a sound amid power less =
    let before : turn_left w ≡ power_left w.live a = turn_is w w k a sound amid power refl refl in
    let behind : turn_left (marked w s asleep) ≡ power_left (slept_live w s asleep) a = turn_is w (marked w s asleep) k a sound amid power refl refl in
    let free : spot_worth n * free_spots (slept_live w s asleep) n ≡ spot_worth n * free_spots w.live n = ap (λ (m : ℕ). spot_worth n * m) (free_map (with_sleep s asleep) w.live n (sleep_keeps s asleep).spot) in
    let condemned : free_worth n * condemned_in (slept_live w s asleep) ≡ free_worth n * condemned_in w.live = ap (λ (m : ℕ). free_worth n * m) (count_map is_condemned (with_sleep s asleep) w.live (slept_condemned s asleep)) in
    omega (arith, before, behind, free, condemned, less)

pub sleep_lowers : (n : ℕ) (w : World) (k s : ℕ) → Kept w → next w k ≡ Does (Sleep s) → own n (after w k (Sleep s)) k < own n w k
unfolding after next_sleep
sleep_lowers n w k s kept e =
    let why = has_command_reason w k (Sleep s) e in
    let passes = find_true (λ d. not d.asleep && is_under w.live why.target d.serial) (reverse w.live) why.dev why.last in
    let there = found_from_end (λ d. not d.asleep && is_under w.live why.target d.serial) w.live why.dev why.last in
    marked_lowers n w k s true (activity.Power kind.Suspend why.target) kept.sound why.amid refl
    (awake_falls w s why.dev there why.serial (and_parts (not why.dev.asleep) (is_under w.live why.target why.dev.serial) passes).0)

-- what a power command that wakes has left
wakes_left : (live : List Dev) (what : PowerKind) (target : ℕ) (below : Bool) → wakes_below what ≡ Some below → power_left live (activity.Power what target) ≡ asleep_in live
wakes_left live kind.Suspend target below h = absurd cc
wakes_left live kind.Resume target below h = refl
wakes_left live kind.ResumeTree target below h = refl

pub wake_lowers : (n : ℕ) (w : World) (k s : ℕ) → Kept w → next w k ≡ Does (Wake s) → own n (after w k (Wake s)) k < own n w k
unfolding after next_wake
wake_lowers n w k s kept e =
    let why : Wakes w k s = has_command_reason w k (Wake s) e in
    let test : Dev → Bool = λ d. d.asleep && (is_under w.live d.serial why.target || (why.below && is_under w.live why.target d.serial)) in
    let passes : test why.dev ≡ true = find_true test w.live why.dev why.first in
    let there = found_contained test w.live why.dev why.first in
    let falls = asleep_falls w s why.dev there why.serial (and_parts why.dev.asleep _ passes).0 in
    marked_lowers n w k s false (activity.Power why.kind why.target) kept.sound why.amid refl
    (omega (arith, falls, wakes_left w.live why.kind why.target why.below why.wakes, wakes_left (slept_live w s false) why.kind why.target why.below why.wakes))
