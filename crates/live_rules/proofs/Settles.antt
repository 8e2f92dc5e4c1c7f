-- A pass leaves no spot that a row would take.
use Rattle.std.proofs.Common.{◌≡◌, ◌≢◌, ◌<◌, ◌≤◌, ◌+◌, ℕ, zero, suc, Bool, true, false, not, ◌&&◌, ◌||◌, ◌==◌, cond, List, [], ◌∷◌, ◌++◌, length, Option, Some, None, refl, sym, ap, ◌∙◌, subst, inl, inr, arith, slice_get, eq-eqb}
use Rattle.std.specs.Prelude.{fold}
use Rattle.std.specs.List.{AllByRecursion, Contains}
use Rattle.std.specs.Option.{option_map_or}
use Rattle.std.proofs.lemmas.Bool.{cases_lt, false_from_ne_true, ne_eqb}
use Rattle.std.proofs.lemmas.List.Folds.{list_any-append}
use Rattle.cf_types.specs.Numbers.{below}
use Rattle.cf_types.specs.declared.machine.Spot.{Spot}
use Rattle.cf_types.specs.declared.tables.Place.{Place}
use Rattle.run_rules.specs.declared.world.Dev.{Dev}
use Rattle.run_rules.specs.World.{device_at, has, is_live}
use Rattle.run_rules.specs.Search.{is_candidate, is_occupied, parent_ref}
use Rattle.run_rules.specs.Sound.{EachLater, IsApart}
use Rattle.run_rules.proofs.Devices.{all_imp}
use Rattle.run_sound.proofs.Callers.{clash}
use Rattle.run_sound.proofs.Members.{each_of, of_each}
use Rattle.live_rules.specs.declared.plan.LiveReply.TheVariants as reply
use Rattle.live_rules.specs.Live.{Answer, IsBare, LiveWorld, Settled, LiveSite, add, after, attach, is_candidate_on, is_free, is_known, is_on, new_device, opening, pass, places_below, scan, search_below, search_place, search_spot, spots_below, turned_on, winner_on}
use Rattle.live_rules.specs.Laws.{AddsSettle, IsSound, ScansSettle}
use Rattle.run_sound.proofs.Candidates.{fewer_candidates}
use Rattle.live_rules.proofs.Candidates.{no_candidate}
use Rattle.live_rules.proofs.Kept.{bare_spot, numbered, sound_comes, sound_kept, stays_sound, turned_sound}
use Rattle.live_rules.proofs.Lists.{few_keys, one_longer}
use Rattle.live_rules.proofs.Steps.{Comes, IsAt, IsKept, below_keeps, device_more, fold-snoc, fold_does, fold_keeps, known_below, pass_keeps, place_keeps, places, spot_keeps, spots}

-- ---- one spot

-- where the spot is still bare no row would take it
abbrev pub IsDone : LiveSite → LiveWorld → ℕ → Place → ℕ → Type 0
IsDone t w q place y = IsBare t w q place y → (r : ℕ) → is_candidate_on t w q place y r ≡ false

abbrev pub KeepsDone : LiveSite → ℕ → Place → ℕ → LiveWorld → Type 0
KeepsDone t q place y w = IsSound t w × (q < w.next) × IsDone t w q place y

known_before : (a b c : Bool) → c ≡ false → (a || (b || (c || false))) ≡ true → (a || b) ≡ true
known_before true b c e h = refl
known_before false true c e h = refl
known_before false false c e h = clash (c || false) h (rw e refl)

pub bare_before : (a b c : Bool) → (a && not (b || c)) ≡ true → (a && not b) ≡ true
bare_before true true c h = absurd cc
bare_before true false c h = refl
bare_before false b c h = absurd cc

free_before : (t : LiveSite) (w : LiveWorld) (p x r y : ℕ) → is_free t (attach t w p x r) y ≡ true → is_free t w y ≡ true
unfolding is_free
free_before t w p x r y h =
    bare_before (option_map_or (λ (spot : Spot). not spot.absent && not spot.late) (slice_get t.setup.machine.spots y) false) (is_occupied w.live y) (is_occupied (new_device t w p x r ∷ []) y)
    (rw (list_any-append (λ (d : Dev). d.spot == y) w.live (new_device t w p x r ∷ [])) at h)

-- another parent's spot that is bare once a device has come was bare before
pub was_bare : (t : LiveSite) (w : LiveWorld) (p x r q : ℕ) (place : Place) (y : ℕ) → q < w.next → IsBare t (attach t w p x r) q place y → IsBare t w q place y
was_bare t w p x r q place y less bare =
    let d : Dev = new_device t w p x r in
    let same : device_at (w.live ++ d ∷ []) q ≡ device_at w.live q = device_more w.live d q (λ e. absurd (omega (arith, less, e))) in
    record {
      known = known_before (q == 0) (is_live w.live q) (w.next == q) (ne_eqb w.next q (λ e. absurd (omega (arith, less, e)))) (rw (list_any-append (λ (e : Dev). e.serial == q) w.live (d ∷ [])) at bare.known);
      offered = subst (λ (o : Option Dev). Contains (places t o) place) same bare.offered;
      child = subst (λ (o : Option Dev). Contains (spots t o place) y) same bare.child;
      free = free_before t w p x r y bare.free;
    }

fewer_on : (a b c : Bool) → (b ≡ true → c ≡ true) → (a && c) ≡ false → (a && b) ≡ false
fewer_on false b c more h = refl
fewer_on true false c more h = refl
fewer_on true true c more h = clash c (more refl) h

done_comes : (t : LiveSite) (w : LiveWorld) (p : ℕ) (other : Place) (x r q : ℕ) (place : Place) (y : ℕ) → KeepsDone t q place y w → Comes t w p other x r → KeepsDone t q place y (attach t w p x r)
done_comes t w p other x r q place y h comes =
    let d : Dev = new_device t w p x r in
    let less : q < w.next = h.1 in
    let same : device_at (w.live ++ d ∷ []) q ≡ device_at w.live q = device_more w.live d q (λ e. absurd (omega (arith, less, e))) in (
      sound_comes t w p other x r h.0 comes,
      omega (arith, less),
      λ bare c. rw same
          (fewer_on (is_on t w.on c) (is_candidate t.setup (w.live ++ d ∷ []) (parent_ref t.setup w.live q) place y c) (is_candidate t.setup w.live (parent_ref t.setup w.live q) place y c)
          (fewer_candidates t.setup w.live (d ∷ []) (parent_ref t.setup w.live q) place y c) (h.2 (was_bare t w p x r q place y less bare) c)),
    )

done_kept : (t : LiveSite) (q : ℕ) (place : Place) (y : ℕ) → IsKept t (KeepsDone t q place y)
done_kept t q place y = record { numbered = λ w h. numbered t w h.0; step = λ w p other x r h comes. done_comes t w p other x r q place y h comes }

-- ---- a search

occupied_now : (a b : Bool) → b ≡ true → (a || (b || false)) ≡ true
occupied_now true b e = refl
occupied_now false b e = rw e refl

spot_does : (t : LiveSite) (p : ℕ) (o : Option Dev) (place : Place) (w : LiveWorld) (x : ℕ) → IsSound t w × IsAt p o w → Contains (spots t o place) x → IsDone t (search_spot t p place w x) p place x
unfolding search_spot
spot_does t p o place w x h child = cases (is_free t w x) refl (winner_on t w p place x) refl
  where
    cases : (b : Bool) → is_free t w x ≡ b → (got : Option ℕ) → winner_on t w p place x ≡ got → IsDone t (cond b (option_map_or (attach t w p x) got w) w) p place x
    cases false e got k bare r = clash (is_free t w x) bare.free e
    cases true e None k bare r = no_candidate t w p place x k r
    cases true e (Some c) k bare r =
        clash (is_occupied (w.live ++ new_device t w p x c ∷ []) x)
        (list_any-append (λ (d : Dev). d.spot == x) w.live (new_device t w p x c ∷ []) ∙ occupied_now (is_occupied w.live x) (x == x) (eq-eqb x x refl))
        (bare_spot t (attach t w p x c) x bare.free)

place_does : (t : LiveSite) (p : ℕ) (o : Option Dev) (w : LiveWorld) (place : Place) → IsSound t w × IsAt p o w → Contains (places t o) place
    → (x : ℕ) → Contains (spots t o place) x → IsDone t (search_place t p w place) p place x
unfolding search_place
place_does t p o w place h offered x here =
    of_each (λ (y : ℕ). IsDone t (fold (search_spot t p place) w (spots_below t w p place)) p place y) (spots_below t w p place) x
    (fold_does (λ (v : LiveWorld). IsSound t v × IsAt p o v) (Contains (spots t o place)) (λ v y. IsDone t v p place y) (search_spot t p place)
    (spot_keeps t (IsSound t) (sound_kept t) p o place offered)
    (spot_does t p o place)
    (λ v z y k at done. (spot_keeps t (KeepsDone t p place y) (done_kept t p place y) p o place offered v z ((k.0, known_below v p (numbered t v k.0) k.1.known, done), k.1) at).0.2)
    (spots_below t w p place) w
    (subst (λ (u : Option Dev). AllByRecursion (Contains (spots t o place)) (spots t u place)) (sym h.1.found) (each_of (Contains (spots t o place)) (spots t o place) (λ y at. at)))
    h)
    (subst (λ (u : Option Dev). Contains (spots t u place) x) (sym h.1.found) here)

-- after the search below p no row would take a bare spot below it
below_does : (t : LiveSite) (w : LiveWorld) (p : ℕ) → IsSound t w → is_known w p ≡ true → (place : Place) (x : ℕ) → IsDone t (search_below t w p) p place x
unfolding search_below
below_does t w p h known place x = rw known done
  where
    o : Option Dev
    o = device_at w.live p

    start : IsSound t w × IsAt p o w
    start = (h, record { found = refl; known = known })

    v : LiveWorld
    v = fold (search_place t p) w (places_below t w p)

    at_end : IsSound t v × IsAt p o v
    at_end =
        fold_keeps (λ (u : LiveWorld). IsSound t u × IsAt p o u) (Contains (places t o)) (search_place t p) (place_keeps t (IsSound t) (sound_kept t) p o) (places_below t w p) w
        (each_of (Contains (places t o)) (places t o) (λ y at. at)) start

    all : AllByRecursion (λ (a : Place). (y : ℕ) → Contains (spots t o a) y → IsDone t v p a y) (places_below t w p)
    all =
        fold_does (λ (u : LiveWorld). IsSound t u × IsAt p o u) (Contains (places t o)) (λ u a. (y : ℕ) → Contains (spots t o a) y → IsDone t u p a y) (search_place t p)
        (place_keeps t (IsSound t) (sound_kept t) p o)
        (place_does t p o)
        (λ u b a k at done y child. (place_keeps t (KeepsDone t p a y) (done_kept t p a y) p o u b ((k.0, known_below u p (numbered t u k.0) k.1.known, done y child), k.1) at).0.2)
        (places_below t w p) w (each_of (Contains (places t o)) (places t o) (λ y at. at)) start

    done : IsDone t v p place x
    done bare r =
        of_each (λ (a : Place). (y : ℕ) → Contains (spots t o a) y → IsDone t v p a y) (places t o) place all (subst (λ (u : Option Dev). Contains (places t u) place) at_end.1.found bare.offered)
        x (subst (λ (u : Option Dev). Contains (spots t u place) x) at_end.1.found bare.child) bare r

-- ---- a pass

abbrev AreDone : LiveSite → ℕ → LiveWorld → Type 0
AreDone t n v = IsSound t v × ((q : ℕ) → q < n → (place : Place) (y : ℕ) → IsDone t v q place y)

pub unknown_same : (t : LiveSite) (v : LiveWorld) (n : ℕ) → is_known v n ≡ false → search_below t v n ≡ v
unfolding search_below
unknown_same t v n e = rw e refl

one_more : (t : LiveSite) (v : LiveWorld) (n : ℕ) → AreDone t n v → AreDone t (suc n) (search_below t v n)
one_more t v n h = (
  below_keeps t (IsSound t) (sound_kept t) v n h.0,
  λ q lt place y. elim (cases_lt q n) [
    | inl less ↦ earlier q less place y (is_known v n) refl
    | inr past ↦ let same : q ≡ n = omega (arith, lt, past) in subst (λ (m : ℕ). IsDone t (search_below t v n) m place y) (sym same) (now place y (is_known v n) refl)
  ],
)
  where
    earlier : (q : ℕ) → q < n → (place : Place) (y : ℕ) → (b : Bool) → is_known v n ≡ b → IsDone t (search_below t v n) q place y
    earlier q less place y false e = subst (λ (u : LiveWorld). IsDone t u q place y) (sym (unknown_same t v n e)) (h.1 q less place y)
    earlier q less place y true e =
        let here : n < v.next = known_below v n (numbered t v h.0) e in
        (below_keeps t (KeepsDone t q place y) (done_kept t q place y) v n (h.0, omega (arith, less, here), h.1 q less place y)).2

    now : (place : Place) (y : ℕ) → (b : Bool) → is_known v n ≡ b → IsDone t (search_below t v n) n place y
    now place y false e = subst (λ (u : LiveWorld). IsDone t u n place y) (sym (unknown_same t v n e)) (λ bare r. clash (is_known v n) bare.known e)
    now place y true e = below_does t v n h.0 e place y

all_done : (t : LiveSite) (w : LiveWorld) → IsSound t w → (n : ℕ) → AreDone t n (fold (search_below t) w (below n))
all_done t w h zero = (h, λ q lt place y. absurd (omega (arith, lt)))
all_done t w h (suc n) = subst (AreDone t (suc n)) (sym (fold-snoc (search_below t) (below n) w n)) (one_more t (fold (search_below t) w (below n)) n (all_done t w h n))

-- ---- no serial is left

abbrev IsCounted : LiveSite → LiveWorld → LiveWorld → Type 0
IsCounted t w v = IsSound t v × (v.next + length w.live ≡ w.next + length v.live)

counted_kept : (t : LiveSite) (w : LiveWorld) → IsKept t (IsCounted t w)
counted_kept t w = record {
  numbered = λ v h. numbered t v h.0;
  step = λ v p place x r h comes. (sound_comes t v p place x r h.0 comes, omega (arith, h.1, one_longer v.live (new_device t v p x r)));
}

apart_spots : (t : LiveSite) (live : List Dev) → EachLater (IsApart t.setup) live → EachLater (λ (d e : Dev). d.spot ≢ e.spot) live
apart_spots t [] h = tt
apart_spots t (d ∷ ds) h = (all_imp (IsApart t.setup d) (λ (e : Dev). d.spot ≢ e.spot) (λ e a. a.spots) ds h.0, apart_spots t ds h.1)

last_serial : (t : LiveSite) (w : LiveWorld) → IsSound t w → (pass t w).next ≤ w.next + length t.setup.machine.spots
last_serial t w h =
    let v : LiveWorld = pass t w in
    let counted : IsCounted t w v = pass_keeps t (IsCounted t w) (counted_kept t w) w (h, refl) in
    omega (arith, counted.1, few_keys (λ (d : Dev). d.spot) (length t.setup.machine.spots) v.live (apart_spots t v.live counted.0.devices.apart) counted.0.spots)

-- ---- a pass that has come to the last serial is over

past_known : (t : LiveSite) (v : LiveWorld) (n : ℕ) → IsSound t v → v.next ≤ n → is_known v n ≡ false
past_known t v n h past = false_from_ne_true (is_known v n) (λ e. absurd (omega (arith, past, known_below v n (numbered t v h) e)))

past_last : (t : LiveSite) (w v : LiveWorld) (n m : ℕ) → IsSound t v → v.next ≤ n → n ≤ m → fold (search_below t) w (below n) ≡ v → fold (search_below t) w (below m) ≡ v
past_last t w v n zero h past le e = let same : n ≡ 0 = omega (arith, le) in ap (λ (i : ℕ). fold (search_below t) w (below i)) (sym same) ∙ e
past_last t w v n (suc m) h past le e = elim (cases_lt m n) [
  | inl less ↦ let same : n ≡ suc m = omega (arith, le, less) in ap (λ (i : ℕ). fold (search_below t) w (below i)) (sym same) ∙ e
  | inr more ↦ fold-snoc (search_below t) (below m) w m ∙ ap (λ (u : LiveWorld). search_below t u m) (past_last t w v n m h past more e) ∙ unknown_same t v m (past_known t v m h (omega (arith, past, more)))
]

-- as many numbers as there are serials serve
pub pass_over : (t : LiveSite) (w v : LiveWorld) (n : ℕ) → IsSound t v → v.next ≤ n → n ≤ w.next + length t.setup.machine.spots → fold (search_below t) w (below n) ≡ v → pass t w ≡ v
unfolding pass
pass_over t w v n h past le e = past_last t w v n (w.next + length t.setup.machine.spots) h past le e

-- ---- no bare spot is left

pass_done : (t : LiveSite) (w : LiveWorld) → IsSound t w → AreDone t (w.next + length t.setup.machine.spots) (pass t w)
unfolding pass
pass_done t w h = all_done t w h (w.next + length t.setup.machine.spots)

pub pass_settles : (t : LiveSite) (w : LiveWorld) → IsSound t w → Settled t (pass t w)
pass_settles t w h p place x r bare =
    let done = pass_done t w h in
    (done.1 p (omega (arith, known_below (pass t w) p (numbered t (pass t w) done.0) bare.known, last_serial t w h)) place x) bare r

-- ---- commands

pub scan_settles : (t : LiveSite) (w : LiveWorld) → IsSound t w → Settled t (scan t w).world
unfolding scan
scan_settles t w h = pass_settles t w h

pub add_settles : (t : LiveSite) (w : LiveWorld) (g : ℕ) → IsSound t w → (add t w g).reply ≡ reply.Ok → Settled t (add t w g).world
unfolding add
add_settles t w g h = cases (has w.on g)
  where
    on : Answer
    on = record { reply = reply.OnAlready; lines = []; world = w }

    cases : (b : Bool) → (cond b on (scan t (turned_on w g))).reply ≡ reply.Ok → Settled t (cond b on (scan t (turned_on w g))).world
    cases true k = absurd cc
    cases false k = scan_settles t (turned_on w g) (turned_sound t w g h)

pub adds_settle : AddsSettle
adds_settle t cs g k = add_settles t (after t opening cs) g (stays_sound t cs) k

pub scans_settle : ScansSettle
scans_settle t cs = scan_settles t (after t opening cs) (stays_sound t cs)
