-- A device is listed: the world stays sound where its parent is spared.
use Rattle.std.proofs.Common.{◌≡◌, ℕ, zero, suc, ◌<◌, Bool, true, false, not, ◌||◌, ◌==◌, List, [], ◌∷◌, ◌++◌, length, Option, Some, None, refl, sym, ap, arith, length-append, eqb-true, eq-eqb}
use Rattle.std.proofs.lemmas.Bool.{false_from_ne_true, or_left, or_right}
use Rattle.std.specs.Prelude.{IsTrue}
use Rattle.std.specs.List.{AllByRecursion, Contains}
use Rattle.std.specs.Option.{option_map_or, option_or}
use Rattle.std.proofs.lemmas.List.Folds.{find-append, list_any-append}
use Rattle.run_rules.specs.declared.world.Dev.{Dev}
use Rattle.run_rules.specs.declared.world.Frame.{Frame}
use Rattle.run_rules.specs.declared.world.Arrival.{Arrival}
use Rattle.run_rules.specs.declared.world.Ref.{Ref}
use Rattle.run_rules.specs.World.{World, Caller, device_at, driver_of, frame_serial, has, is_live, is_pinned, is_under, lineage, parent_of}
use Rattle.run_rules.specs.Search.{is_occupied, is_taken}
use Rattle.run_rules.specs.After.{listed, new_device}
use Rattle.run_rules.specs.Sound.{IsFreed, IsPlaced, IsSoundBoot, IsSoundCaller, IsSoundlyAsleep, IsSoundlyCondemned, Sound, is_known}
use Rattle.run_rules.proofs.Devices.{all_imp, all_snoc, devices_come, found_in, known_below, known_more}
use Rattle.run_sound.proofs.Callers.{clash}
use Rattle.run_sound.proofs.Members.{each_of, of_each}
use Rattle.run_sound.proofs.Plain.{deferred_kept}
use Rattle.run_sound.proofs.Restacks.{IsSpared, no_condemner}

-- ---- chains of parents

other : (s n : ℕ) → s < n → (n == s) ≡ false
other s n lt = false_from_ne_true (n == s) (λ e. let same : n ≡ s = eqb-true n s e in absurd (omega (arith, same)))

-- a device of another serial changes no parent
same_device : (live : List Dev) (e : Dev) (s : ℕ) → s < e.serial → device_at (live ++ e ∷ []) s ≡ device_at live s
same_device live e s lt = rw (find-append (λ d. d.serial == s) live (e ∷ []), other s e.serial lt) (nothing_more (device_at live s))
  where
    nothing_more : (o : Option Dev) → option_or o None ≡ o
    nothing_more None = refl
    nothing_more (Some d) = refl

same_parent : (live : List Dev) (e : Dev) (s : ℕ) → s < e.serial → parent_of (live ++ e ∷ []) s ≡ parent_of live s
same_parent live e s lt = ap (λ (o : Option Dev). option_map_or (λ (d : Dev). d.parent) o 0) (same_device live e s lt)

low_parent : (live : List Dev) (next s : ℕ) → AllByRecursion (IsPlaced live next) live → 0 < next → parent_of live s < next
low_parent live next s placed low = cases (device_at live s) refl
  where
    cases : (o : Option Dev) → device_at live s ≡ o → option_map_or (λ (d : Dev). d.parent) o 0 < next
    cases None e = low
    cases (Some d) e = let at : IsPlaced live next d = found_in (IsPlaced live next) (λ d. d.serial == s) live d placed e in omega (arith, at.below_next, at.after_parent)

same_lineage : (live : List Dev) (e : Dev) (n x : ℕ) → AllByRecursion (IsPlaced live e.serial) live → x < e.serial → lineage n (live ++ e ∷ []) x ≡ lineage n live x
unfolding lineage
same_lineage live e zero x placed lt = refl
same_lineage live e (suc n) x placed lt =
    let low : parent_of live x < e.serial = low_parent live e.serial x placed (omega (arith, lt)) in
    rw (same_parent live e x lt) (ap (λ (r : List ℕ). x ∷ r) (same_lineage live e n (parent_of live x) placed low))

has_more : (n : ℕ) (live : List Dev) (x s : ℕ) → has (lineage n live x) s ≡ true → has (lineage (suc n) live x) s ≡ true
unfolding lineage
has_more zero live x s h = absurd cc
has_more (suc n) live x s h = cases (x == s) (λ k. has_more n live (parent_of live x) s k) h
  where
    cases : (b : Bool) → (has (lineage n live (parent_of live x)) s ≡ true → has (lineage (suc n) live (parent_of live x)) s ≡ true)
        → (b || has (lineage n live (parent_of live x)) s) ≡ true → (b || has (lineage (suc n) live (parent_of live x)) s) ≡ true
    cases true more k = refl
    cases false more k = more k

-- who was under a device still is
pub under_more : (live : List Dev) (e : Dev) (s x : ℕ) → AllByRecursion (IsPlaced live e.serial) live → x < e.serial → is_under live s x ≡ true → is_under (live ++ e ∷ []) s x ≡ true
unfolding is_under
under_more live e s x placed lt h =
    let long : length (live ++ e ∷ []) ≡ suc (length live) = omega (arith, length-append live (e ∷ [])) in
    rw (long, same_lineage live e (suc (length live)) x placed lt) (has_more (length live) live x s h)

-- ---- live devices

pub live_more : (live : List Dev) (e : Dev) (s : ℕ) → is_live live s ≡ true → is_live (live ++ e ∷ []) s ≡ true
live_more live e s h = rw (list_any-append (λ d. d.serial == s) live (e ∷ [])) (or_left (is_live live s) (is_live (e ∷ []) s) h)

pub new_live : (live : List Dev) (e : Dev) → is_live (live ++ e ∷ []) e.serial ≡ true
new_live live e = rw (list_any-append (λ d. d.serial == e.serial) live (e ∷ [])) (or_right (is_live live e.serial) (is_live (e ∷ []) e.serial) (or_left (e.serial == e.serial) false (eq-eqb e.serial e.serial refl)))

-- the new one is spared
pub new_spared : (w : World) (a : Arrival) → Sound w → IsSpared (w.live ++ new_device w a ∷ []) w.next
new_spared w a sound =
    all_snoc (λ (d : Dev). d.serial ≡ w.next → (d.condemned ≡ None) × (d.asleep ≡ false)) w.live (new_device w a)
    (all_imp (IsPlaced w.live w.next) (λ d. d.serial ≡ w.next → (d.condemned ≡ None) × (d.asleep ≡ false)) (λ d p same. absurd (omega (arith, p.below_next, same))) w.live sound.devices.placed) (λ same. (refl, refl))

-- ---- the parts

-- a device may be listed: its parent is known and spared, its unit and its spot are free
pub record MayList (w : World) (a : Arrival) : Type 0 where
  pub counted : 0 < w.next
  pub known : IsTrue (is_known w a.parent)
  pub unit : is_taken w.setup w.live (driver_of w.setup a.row) a.unit ≡ false
  pub bare : is_occupied w.live a.spot ≡ false
  pub spared : IsSpared w.live a.parent

spared_parent : (w : World) (a : Arrival) (d : Dev) → MayList w a → Contains w.live d → a.parent ≡ d.serial → (d.condemned ≡ None) × (d.asleep ≡ false)
spared_parent w a d may here same = of_each (λ (e : Dev). e.serial ≡ a.parent → (e.condemned ≡ None) × (e.asleep ≡ false)) w.live d may.spared here (sym same)

abbrev IsCondemnedSo : World → Dev → Type 0
IsCondemnedSo w d = (k : ℕ) → d.condemned ≡ Some k → IsSoundlyCondemned w d k

listed_condemned : (w : World) (a : Arrival) → Sound w → MayList w a → AllByRecursion (IsCondemnedSo (listed w a)) (w.live ++ new_device w a ∷ [])
unfolding listed is_pinned
listed_condemned w a sound may = all_snoc (IsCondemnedSo (listed w a)) w.live (new_device w a) (each_of (IsCondemnedSo (listed w a)) w.live one) (λ k e. absurd (no_condemner None k refl e))
  where
    one : (d : Dev) → Contains w.live d → IsCondemnedSo (listed w a) d
    one d here k e =
        let old : IsSoundlyCondemned w d k = of_each (IsCondemnedSo w) w.live d sound.condemned here k e in
        let at : IsPlaced w.live w.next d = of_each (IsPlaced w.live w.next) w.live d sound.devices.placed here in
        record {
          unpinned = old.unpinned;
          children = all_snoc (λ (x : Dev). x.parent ≡ d.serial → x.condemned ≡ Some k) w.live (new_device w a) old.children (λ same. absurd (no_condemner d.condemned k (spared_parent w a d may here same).0 e));
          below_target = (old.below_target.0, old.below_target.1, under_more w.live (new_device w a) old.below_target.0 d.serial sound.devices.placed at.below_next old.below_target.2);
        }

listed_asleep : (w : World) (a : Arrival) → Sound w → MayList w a → AllByRecursion (λ d. IsTrue d.asleep → IsSoundlyAsleep (listed w a) d) (w.live ++ new_device w a ∷ [])
unfolding listed is_pinned
listed_asleep w a sound may =
    all_snoc (λ (d : Dev). IsTrue d.asleep → IsSoundlyAsleep (listed w a) d) w.live (new_device w a) (each_of (λ (d : Dev). IsTrue d.asleep → IsSoundlyAsleep (listed w a) d) w.live one) (λ e. absurd (awake e))
  where
    awake : IsTrue false → ⊥
    awake e = cc

    one : (d : Dev) → Contains w.live d → IsTrue d.asleep → IsSoundlyAsleep (listed w a) d
    one d here asleep =
        let old : IsSoundlyAsleep w d = of_each (λ (d : Dev). IsTrue d.asleep → IsSoundlyAsleep w d) w.live d sound.asleep here asleep in
        record {
          unpinned = old.unpinned;
          children = all_snoc (λ (x : Dev). x.parent ≡ d.serial → IsTrue x.asleep) w.live (new_device w a) old.children (λ same. clash d.asleep asleep (spared_parent w a d may here same).1);
        }

listed_freed : (w : World) (a : Arrival) (j s : ℕ) → Sound w → 0 < w.next → IsFreed w j s → IsFreed (listed w a) j s
unfolding listed
listed_freed w a j s sound low old =
    let below : s < w.next = known_below w.setup w.live w.next s sound.devices low (or_right (s == 0) (is_live w.live s) old.1) in (
      all_snoc (λ (d : Dev). d.serial ≡ s → d.condemned ≡ Some j) w.live (new_device w a) old.0 (λ same. absurd (omega (arith, same, below))),
      live_more w.live (new_device w a) s old.1,
    )

listed_caller : (w : World) (a : Arrival) (j : ℕ) → Sound w → 0 < w.next → IsSoundCaller (listed w a) j
unfolding listed
listed_caller w a j sound low = record {
  turn = (sound.callers j).turn;
  transfer = (sound.callers j).transfer;
  ended = (sound.callers j).ended;
  frames = (sound.callers j).frames;
  target = λ s e. listed_freed w a j s sound low ((sound.callers j).target s e);
}

listed_boot : (w : World) (a : Arrival) → IsSoundBoot w → IsSoundBoot (listed w a)
unfolding listed
listed_boot w a old = record {
  awake = all_snoc (λ (d : Dev). IsTrue (not d.asleep)) w.live (new_device w a) old.awake refl;
  spared = all_snoc (λ (d : Dev). d.condemned ≡ None) w.live (new_device w a) old.spared refl;
  no_refs = old.no_refs;
  no_turn = old.no_turn;
  waiting = old.waiting;
  finalisers = all_imp (λ s. IsTrue (is_live w.live s)) (λ s. IsTrue (is_live (w.live ++ new_device w a ∷ []) s)) (live_more w.live (new_device w a)) w.finalisers old.finalisers;
}

pub sound_listed : (w : World) (a : Arrival) → Sound w → MayList w a → Sound (listed w a)
unfolding listed
sound_listed w a sound may =
    let d : Dev = new_device w a in
    let live : List Dev = w.live ++ d ∷ [] in
    record {
      devices = devices_come w.setup w.live w.next d sound.devices may.counted refl may.known may.unit may.bare;
      refs = record {
        live_ones = all_imp (λ (r : Ref). IsTrue (is_live w.live r.serial)) (λ (r : Ref). IsTrue (is_live live r.serial)) (λ r. live_more w.live d r.serial) w.refs sound.refs.live_ones;
        counted = sound.refs.counted;
      };
      condemned = listed_condemned w a sound may;
      asleep = listed_asleep w a sound may;
      frames = all_imp (λ (c : Caller). AllByRecursion (λ f. IsTrue (is_known w (frame_serial f))) c.stack) (λ (c : Caller). AllByRecursion (λ f. IsTrue (is_known (listed w a) (frame_serial f))) c.stack)
          (λ c h. all_imp (λ (f : Frame). IsTrue (is_known w (frame_serial f))) (λ (f : Frame). IsTrue (is_known (listed w a) (frame_serial f))) (λ f. known_more w.live d (frame_serial f)) c.stack h) w.callers sound.frames;
      deferred = deferred_kept (listed w a) w (live_more w.live d) (λ p h. h) w.deferred sound.deferred;
      callers = λ j. listed_caller w a j sound may.counted;
      interrupts_on = sound.interrupts_on;
      boot = λ goes. listed_boot w a (sound.boot goes);
    }
