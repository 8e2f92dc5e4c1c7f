-- A pass over the devices in their order, those that come meanwhile too, is one over the serials.
use Rattle.std.proofs.Common.{◌≡◌, ◌≢◌, ◌≤◌, ◌<◌, ◌+◌, ℕ, zero, suc, Bool, true, false, ◌||◌, ◌==◌, List, [], ◌∷◌, ◌++◌, length, get_or, Ok, Err, refl, sym, ap, ◌∙◌, subst, inl, inr, arith, length-append, eqb-true}
use Rattle.std.specs.Prelude.{fold}
use Rattle.std.specs.List.{AllByRecursion, Contains}
use Rattle.std.proofs.lemmas.Bool.{cases_lt, false_from_ne_true, ne_eqb}
use Rattle.cf_types.specs.Numbers.{below}
use Rattle.cf_types.specs.declared.memory.Memory.{Memory}
use Rattle.run_rules.specs.declared.world.Dev.{Dev}
use Rattle.run_rules.specs.World.{is_live}
use Rattle.run_rules.specs.Sound.{EachLater, IsApart, IsPlaced}
use Rattle.run_sound.proofs.Members.{later_at, live_contained}
use Rattle.live_rules.specs.declared.plan.LiveLine.{LiveLine}
use Rattle.live_rules.specs.Laws.{IsSound}
use Rattle.live_rules.specs.Live.{LiveWorld, LiveSite, is_known, pass, search_below}
use Rattle.live_rules.proofs.Settles.{pass_over, unknown_same}
use Rattle.live_rules.proofs.Steps.{fold-snoc}
use Rattle.live_tables.specs.Coming.{Begins, Brings, Searched}
use Rattle.live_tables.specs.Running.{Running}
use Rattle.live_tables.proofs.Comings.{begins_same, begins_trans, below_begins, brings_trans}
use Rattle.live_tables.proofs.Counts.{few_live}

abbrev pub blank : Dev
blank = record { serial = 0; row = 0; unit = 0; parent = 0; spot = 0; asleep = false; condemned = Rattle.std.proofs.Common.None }

-- the serial after those of the first so many devices
abbrev pub serial_after : List Dev → ℕ → ℕ
serial_after live zero = 1
serial_after live (suc i) = suc (get_or live i blank).serial

-- ---- serials that nobody has

skip_unknown : (t : LiveSite) (w v : LiveWorld) (n m : ℕ) → n ≤ m → ((k : ℕ) → n ≤ k → k < m → is_known v k ≡ false) → fold (search_below t) w (below n) ≡ v → fold (search_below t) w (below m) ≡ v
skip_unknown t w v n zero le none e = let same : n ≡ 0 = omega (arith, le) in ap (λ (i : ℕ). fold (search_below t) w (below i)) (sym same) ∙ e
skip_unknown t w v n (suc m) le none e = elim (cases_lt m n) [
  | inl less ↦ let same : n ≡ suc m = omega (arith, le, less) in ap (λ (i : ℕ). fold (search_below t) w (below i)) (sym same) ∙ e
  | inr more ↦
      fold-snoc (search_below t) (below m) w m ∙ ap (λ (u : LiveWorld). search_below t u m) (skip_unknown t w v n m more (λ k a b. none k a (omega (arith, b))) e)
      ∙ unknown_same t v m (none m more (omega arith))
]

unknown : (w : LiveWorld) (k : ℕ) → 0 < k → (is_live w.live k ≡ true → ⊥) → is_known w k ≡ false
unknown w k low none = rw (ne_eqb k 0 (λ e. absurd (omega (arith, low, e)))) (false_from_ne_true (is_live w.live k) (λ e. absurd (none e)))

pub serials_rise : (t : LiveSite) (w : LiveWorld) → IsSound t w → EachLater (λ (d e : Dev). d.serial < e.serial) w.live
serials_rise t w h = rise w.live h.devices.apart
  where
    less : (d : Dev) (ds : List Dev) → AllByRecursion (IsApart t.setup d) ds → AllByRecursion (λ (e : Dev). d.serial < e.serial) ds
    less d [] a = tt
    less d (e ∷ es) a = (a.0.later, less d es a.1)

    rise : (live : List Dev) → EachLater (IsApart t.setup) live → EachLater (λ (d e : Dev). d.serial < e.serial) live
    rise [] a = tt
    rise (d ∷ ds) a = (less d ds a.0, rise ds a.1)

pub any_default : (xs : List Dev) (i : ℕ) (d e : Dev) → i < length xs → get_or xs i d ≡ get_or xs i e
any_default [] i d e lt = absurd (omega (arith, lt))
any_default (x ∷ xs) zero d e lt = refl
any_default (x ∷ xs) (suc i) d e lt = any_default xs i d e (omega (arith, lt))

pub each_at : (P : Dev → Type 0) (xs : List Dev) (i : ℕ) (d : Dev) → AllByRecursion P xs → i < length xs → P (get_or xs i d)
each_at P [] i d h lt = absurd (omega (arith, lt))
each_at P (x ∷ xs) zero d h lt = h.0
each_at P (x ∷ xs) (suc i) d h lt = each_at P xs i d h.1 (omega (arith, lt))

after_next : (t : LiveSite) (w : LiveWorld) (i : ℕ) → IsSound t w → i ≤ length w.live → serial_after w.live i ≤ w.next
after_next t w zero h le = omega (arith, h.low)
after_next t w (suc i) h le = let placed = each_at (IsPlaced w.live w.next) w.live i blank h.devices.placed (omega (arith, le)) in omega (arith, placed.below_next)

after_least : (t : LiveSite) (w : LiveWorld) (i : ℕ) → IsSound t w → i < length w.live → serial_after w.live i ≤ (get_or w.live i blank).serial
after_least t w zero h lt = let placed = each_at (IsPlaced w.live w.next) w.live 0 blank h.devices.placed lt in omega (arith, placed.after_parent)
after_least t w (suc i) h lt = let more = later_at (λ (d e : Dev). d.serial < e.serial) w.live i (suc i) blank blank (serials_rise t w h) (omega arith) lt in omega (arith, more)

-- the device of a serial stands before the place from which on serials are greater
none_between : (t : LiveSite) (w : LiveWorld) (i k : ℕ) → IsSound t w → i ≤ length w.live → serial_after w.live i ≤ k → (i < length w.live → k < (get_or w.live i blank).serial) → is_known w k ≡ false
none_between t w i k h le from to = unknown w k (low i from) (λ live. clash (live_contained w.live k live))
  where
    low : (j : ℕ) → serial_after w.live j ≤ k → 0 < k
    low zero a = omega (arith, a)
    low (suc j) a = omega (arith, a)

    rises : (a b : ℕ) → a < b → b < length w.live → (get_or w.live a blank).serial < (get_or w.live b blank).serial
    rises a b lt there = later_at (λ (d e : Dev). d.serial < e.serial) w.live a b blank blank (serials_rise t w h) lt there

    at_place : (j a : ℕ) → j < a → a ≤ length w.live → (get_or w.live j blank).serial < serial_after w.live a
    at_place j zero lt there = absurd (omega (arith, lt))
    at_place j (suc a) lt there = elim (cases_lt j a) [
      | inl less ↦ let more = rises j a less (omega (arith, there)) in omega (arith, more)
      | inr past ↦ let same : j ≡ a = omega (arith, lt, past) in let e : (get_or w.live j blank).serial ≡ (get_or w.live a blank).serial = ap (λ (m : ℕ). (get_or w.live m blank).serial) same in omega (arith, e)
    ]

    clash : (d : Dev) × Contains w.live d × (d.serial ≡ k) → ⊥
    clash (d, (j, lt, is), same) =
        let its : (get_or w.live j blank).serial ≡ k = ap (λ (e : Dev). e.serial) (any_default w.live j blank d lt ∙ is) ∙ same in
        elim (cases_lt j i) [
          | inl less ↦ let more = at_place j i less le in omega (arith, its, from, more)
          | inr past ↦ elim (cases_lt i j) [
            | inl before ↦ let more = rises i j before lt in let first = to (omega (arith, before, lt)) in omega (arith, its, more, first)
            | inr after ↦
                let same_place : i ≡ j = omega (arith, past, after) in
                let first = to (omega (arith, same_place, lt)) in
                let e : (get_or w.live i blank).serial ≡ (get_or w.live j blank).serial = ap (λ (m : ℕ). (get_or w.live m blank).serial) same_place in omega (arith, its, first, e)
          ]
        ]

get_or-front : (xs ys : List Dev) (i : ℕ) (d : Dev) → i < length xs → get_or (xs ++ ys) i d ≡ get_or xs i d
get_or-front [] ys i d lt = absurd (omega (arith, lt))
get_or-front (x ∷ xs) ys zero d lt = refl
get_or-front (x ∷ xs) ys (suc i) d lt = get_or-front xs ys i d (omega (arith, lt))

-- ---- devices one after the other

-- so many devices were searched below, and the world is that of the pass so far
pub record PassSoFar (r l : Running) (old new : List LiveLine) (i : ℕ) : Type 0 where
  pub sound : IsSound l.site l.world
  pub brings : Brings r l old new
  pub within : i ≤ length l.world.live
  pub so_far : fold (search_below r.site) r.world (below (serial_after l.world.live i)) ≡ l.world

pub root_searched : (r v : Running) (old new : List LiveLine) → IsSound v.site v.world → Brings r v old new → v.world ≡ search_below r.site r.world 0 → PassSoFar r v old new 0
root_searched r v old new h brings is = record { sound = h; brings = brings; within = omega arith; so_far = sym is }

-- a serial that was given out is among those of the pass
given_out : (r l : Running) (old new : List LiveLine) → IsSound l.site l.world → Brings r l old new → l.world.next ≤ r.world.next + length r.site.setup.machine.spots
given_out r l old new h brings =
    let few = subst (λ (t : LiveSite). length l.world.live ≤ length t.setup.machine.spots) brings.site (few_live l.site l.world h) in
    omega (arith, brings.next, few, ap length brings.live, length-append r.world.live brings.came)

-- what the pass goes on with
goes_on : (t : LiveSite) (w : LiveWorld) (n m : ℕ) → n ≤ m → Begins (fold (search_below t) w (below n)) (fold (search_below t) w (below m))
goes_on t w n zero le = let same : n ≡ 0 = omega (arith, le) in subst (λ (k : ℕ). Begins (fold (search_below t) w (below k)) w) (sym same) (begins_same w)
goes_on t w n (suc m) le = elim (cases_lt m n) [
  | inl less ↦ let same : n ≡ suc m = omega (arith, le, less) in
      subst (λ (k : ℕ). Begins (fold (search_below t) w (below k)) (fold (search_below t) w (below (suc m)))) (sym same) (begins_same (fold (search_below t) w (below (suc m))))
  | inr more ↦
      begins_trans (fold (search_below t) w (below n)) (fold (search_below t) w (below m)) (fold (search_below t) w (below (suc m))) (goes_on t w n m more)
      (subst (Begins (fold (search_below t) w (below m))) (sym (fold-snoc (search_below t) (below m) w m)) (below_begins t (fold (search_below t) w (below m)) m))
]

pass_begins : (r : Running) (n : ℕ) → n ≤ r.world.next + length r.site.setup.machine.spots → Begins (fold (search_below r.site) r.world (below n)) (pass r.site r.world)
unfolding pass
pass_begins r n le = goes_on r.site r.world n (r.world.next + length r.site.setup.machine.spots) le

-- up to the serial of the next device
up_to : (r l : Running) (old new : List LiveLine) (i s : ℕ) → i < length l.world.live → s ≡ (get_or l.world.live i blank).serial → PassSoFar r l old new i
    → fold (search_below r.site) r.world (below s) ≡ l.world
up_to r l old new i s lt is h =
    skip_unknown r.site r.world l.world (serial_after l.world.live i) s (let least = after_least l.site l.world i h.sound lt in omega (arith, least, is))
    (λ k from to. none_between l.site l.world i k h.sound h.within from (λ _. omega (arith, to, is))) h.so_far

one_on : (r l : Running) (old new : List LiveLine) (i s : ℕ) → i < length l.world.live → s ≡ (get_or l.world.live i blank).serial → PassSoFar r l old new i
    → fold (search_below r.site) r.world (below (suc s)) ≡ search_below r.site l.world s
one_on r l old new i s lt is h = fold-snoc (search_below r.site) (below s) r.world s ∙ ap (λ (w : LiveWorld). search_below r.site w s) (up_to r l old new i s lt is h)

pub root_cut : (r v : Running) (old new : List LiveLine) (e : Memory) → 0 < r.world.next → Searched r v (search_below r.site r.world 0) old new (Err e) → Searched r v (pass r.site r.world) old new (Err e)
root_cut r v old new e low one = record {
  brings = one.brings;
  ok = tt;
  err = begins_trans v.world (search_below r.site r.world 0) (pass r.site r.world) one.err (pass_begins r 1 (omega (arith, low)));
}

pub device_searched : (r l v : Running) (old mid new : List LiveLine) (i s : ℕ) → i < length l.world.live → s ≡ (get_or l.world.live i blank).serial → IsSound v.site v.world
    → PassSoFar r l old mid i → Brings l v mid new → v.world ≡ search_below l.site l.world s → PassSoFar r v old new (i + 1)
device_searched r l v old mid new i s lt is sound h brings done = record {
  sound = sound;
  brings = brings_trans r l v old mid new h.brings brings;
  within = omega (arith, lt, ap length brings.live, length-append l.world.live brings.came);
  so_far =
      let here : (get_or v.world.live i blank).serial ≡ s = ap (λ (live : List Dev). (get_or live i blank).serial) brings.live ∙ ap (λ (d : Dev). d.serial) (get_or-front l.world.live brings.came i blank lt) ∙ sym is in
      let next : i + 1 ≡ suc i = omega arith in
      ap (λ (k : ℕ). fold (search_below r.site) r.world (below (serial_after v.world.live k))) next ∙ ap (λ (k : ℕ). fold (search_below r.site) r.world (below (suc k))) here
      ∙ one_on r l old mid i s lt is h ∙ ap (λ (t : LiveSite). search_below t l.world s) (sym h.brings.site) ∙ sym done;
}

pub device_stopped : (r l v : Running) (old mid new : List LiveLine) (i s : ℕ) (e : Memory) → i < length l.world.live → s ≡ (get_or l.world.live i blank).serial
    → PassSoFar r l old mid i → Searched l v (search_below l.site l.world s) mid new (Err e) → Searched r v (pass r.site r.world) old new (Err e)
device_stopped r l v old mid new i s e lt is h one = record {
  brings = brings_trans r l v old mid new h.brings one.brings;
  ok = tt;
  err =
      let placed = each_at (IsPlaced l.world.live l.world.next) l.world.live i blank h.sound.devices.placed lt in
      let most = given_out r l old mid h.sound h.brings in
      let some : Begins v.world (fold (search_below r.site) r.world (below (suc s))) =
      subst (Begins v.world) (ap (λ (t : LiveSite). search_below t l.world s) h.brings.site ∙ sym (one_on r l old mid i s lt is h)) one.err in
      begins_trans v.world (fold (search_below r.site) r.world (below (suc s))) (pass r.site r.world) some (pass_begins r (suc s) (omega (arith, is, placed.below_next, most)));
}

pub all_searched : (r l : Running) (old new : List LiveLine) (i : ℕ) → length l.world.live ≤ i → PassSoFar r l old new i → Searched r l (pass r.site r.world) old new (Ok tt)
all_searched r l old new i past h = record {
  brings = h.brings;
  ok =
      let whole : fold (search_below r.site) r.world (below l.world.next) ≡ l.world =
      skip_unknown r.site r.world l.world (serial_after l.world.live i) l.world.next (after_next l.site l.world i h.sound h.within)
      (λ k from to. none_between l.site l.world i k h.sound h.within from (λ lt. absurd (omega (arith, lt, past)))) h.so_far in
      sym (pass_over r.site r.world l.world l.world.next (subst (λ (t : LiveSite). IsSound t l.world) h.brings.site h.sound) (omega arith) (given_out r l old new h.sound h.brings) whole);
  err = tt;
}
