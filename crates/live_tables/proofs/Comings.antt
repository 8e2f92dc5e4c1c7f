-- What searches bring, one after the other.
use Rattle.std.proofs.Common.{◌≡◌, ℕ, Bool, true, false, ◌||◌, ◌&&◌, ◌==◌, cond, slice_get, List, [], ◌∷◌, ◌++◌, length, Option, Some, None, option_map, Ok, Err, refl, sym, ap, ◌∙◌, arith, length-append}
use Rattle.std.specs.Prelude.{fold, Result, OnOk, OnErr, ⊤}
use Rattle.std.specs.Option.{option_map_or, option_or}
use Rattle.std.proofs.lemmas.Bool.{eqb-true}
use Rattle.std.proofs.lemmas.List.Folds.{find-append, list_any-append}
use Rattle.cf_types.specs.declared.machine.Machine.{Machine}
use Rattle.cf_types.specs.declared.machine.Spot.{Spot}
use Rattle.cf_types.specs.declared.memory.Memory.{Memory}
use Rattle.run_rules.specs.Suits.{hangs_at}
use Rattle.cf_types.specs.declared.tables.Place.{Place}
use Rattle.run_rules.specs.declared.world.Dev.{Dev}
use Rattle.run_rules.specs.declared.world.ParentRef.TheVariants as under
use Rattle.run_rules.specs.World.{device_at, driver_of, is_live, same_place}
use Rattle.run_rules.proofs.Below.{and_both}
use Rattle.run_rules.specs.Search.{is_candidate, is_child, parent_offers, parent_ref, same_spot, spot_of}
use Rattle.live_rules.specs.declared.plan.LiveLine.{LiveLine}
use Rattle.live_rules.specs.Laws.{IsSound}
use Rattle.live_rules.specs.Live.{LiveWorld, LiveSite, attach, attached_line, is_free, is_known, is_on, new_device, places_below, search_below, search_place, search_spot, spots_below, winner_on}
use Rattle.live_rules.proofs.Appends.{append-assoc, append_nil}
use Rattle.run_rules.proofs.Units.{candidate_free}
use Rattle.live_rules.proofs.Candidates.{winner_candidate, winner_there}
use Rattle.live_rules.proofs.Doomed.{after_parents, no_root}
use Rattle.live_tables.specs.Coming.{Begins, Brings, IsParent, MayCome, Searched, lines_as_they_come, with_device}
use Rattle.live_tables.specs.Running.{HasSerials, Running}

-- ---- beginnings

pub begins_same : (w : LiveWorld) → Begins w w
begins_same w = record { rest = []; live = append_nil w.live }

pub begins_trans : (u v w : LiveWorld) → Begins u v → Begins v w → Begins u w
begins_trans u v w a b = record { rest = a.rest ++ b.rest; live = b.live ∙ ap (λ (l : List Dev). l ++ b.rest) a.live ∙ append-assoc u.live a.rest b.rest }

pub spot_begins : (t : LiveSite) (p : ℕ) (place : Place) (w : LiveWorld) (x : ℕ) → Begins w (search_spot t p place w x)
unfolding search_spot
spot_begins t p place w x = cases (is_free t w x) (winner_on t w p place x)
  where
    cases : (b : Bool) (got : Option ℕ) → Begins w (cond b (option_map_or (attach t w p x) got w) w)
    cases false got = begins_same w
    cases true None = begins_same w
    cases true (Some r) = record { rest = new_device t w p x r ∷ []; live = refl }

pub fold_begins : {A : Type 0} (f : LiveWorld → A → LiveWorld) → ((w : LiveWorld) (x : A) → Begins w (f w x)) → (xs : List A) (w : LiveWorld) → Begins w (fold f w xs)
fold_begins f one [] w = begins_same w
fold_begins f one (x ∷ xs) w = begins_trans w (f w x) (fold f (f w x) xs) (one w x) (fold_begins f one xs (f w x))

pub place_begins : (t : LiveSite) (p : ℕ) (w : LiveWorld) (place : Place) → Begins w (search_place t p w place)
unfolding search_place
place_begins t p w place = fold_begins (search_spot t p place) (spot_begins t p place) (spots_below t w p place) w

pub below_begins : (t : LiveSite) (w : LiveWorld) (p : ℕ) → Begins w (search_below t w p)
unfolding search_below
below_begins t w p = cases (is_known w p)
  where
    cases : (b : Bool) → Begins w (cond b (fold (search_place t p) w (places_below t w p)) w)
    cases false = begins_same w
    cases true = fold_begins (search_place t p) (place_begins t p) (places_below t w p) w

-- ---- what came

lines_append : (t : LiveSite) (live xs ys : List Dev) → lines_as_they_come t live (xs ++ ys) ≡ lines_as_they_come t live xs ++ lines_as_they_come t (live ++ xs) ys
unfolding lines_as_they_come
lines_append t live [] ys = ap (λ (l : List Dev). lines_as_they_come t l ys) (append_nil live)
lines_append t live (x ∷ xs) ys =
    ap (λ (l : List LiveLine). attached_line t live x ∷ l)
    (lines_append t (live ++ x ∷ []) xs ys ∙ ap (λ (l : List Dev). lines_as_they_come t (live ++ x ∷ []) xs ++ lines_as_they_come t l ys) (append-assoc live (x ∷ []) xs))

pub brings_same : (r : Running) (lines : List LiveLine) → Brings r r lines lines
unfolding lines_as_they_come
brings_same r lines = record { came = []; site = refl; live = append_nil r.world.live; next = omega arith; on = refl; lines = append_nil lines }

pub brings_trans : (r u v : Running) (a b c : List LiveLine) → Brings r u a b → Brings u v b c → Brings r v a c
brings_trans r u v a b c h k = record {
  came = h.came ++ k.came;
  site = k.site ∙ h.site;
  live = k.live ∙ ap (λ (l : List Dev). l ++ k.came) h.live ∙ append-assoc r.world.live h.came k.came;
  next = omega (arith, k.next, h.next, length-append h.came k.came);
  on = k.on ∙ h.on;
  lines = k.lines ∙ ap (λ (l : List LiveLine). l ++ lines_as_they_come u.site u.world.live k.came) h.lines
      ∙ append-assoc a (lines_as_they_come r.site r.world.live h.came) (lines_as_they_come u.site u.world.live k.came)
      ∙ ap (λ (l : List LiveLine). a ++ (lines_as_they_come r.site r.world.live h.came ++ l))
      (ap (λ (t : LiveSite). lines_as_they_come t u.world.live k.came) h.site ∙ ap (λ (l : List Dev). lines_as_they_come r.site l k.came) h.live)
      ∙ ap (λ (l : List LiveLine). a ++ l) (sym (lines_append r.site r.world.live h.came k.came));
}

-- ---- a parent stays what it is

or_more : (a b c : Bool) → (a || b) ≡ true → (a || (b || c)) ≡ true
or_more true b c h = refl
or_more false true c h = refl
or_more false false c h = absurd cc

some_first : (o p : Option Dev) (b : Bool) → b ≡ true → (b ≡ true → (d : Dev) × (o ≡ Some d)) → option_or o p ≡ o
some_first None p b h f = absurd (clash (f h).1)
  where
    clash : {d : Dev} → None ≡ Some d → ⊥
    clash e = cc
some_first (Some d) p b h f = refl

live_found : (live : List Dev) (s : ℕ) → is_live live s ≡ true → (d : Dev) × (device_at live s ≡ Some d)
live_found [] s h = absurd cc
live_found (d ∷ ds) s h = cases (λ k. live_found ds s k) (d.serial == s) h
  where
    cases : (is_live ds s ≡ true → (e : Dev) × (device_at ds s ≡ Some e)) → (b : Bool) → (b || is_live ds s) ≡ true → (e : Dev) × (cond b (Some d) (device_at ds s) ≡ Some e)
    cases more true k = (d, refl)
    cases more false k = more k

-- the root is no device, and a live one is found as before
pub at_same : (r v : Running) (old new : List LiveLine) (p : ℕ) → IsSound r.site r.world → IsSound v.site v.world → Brings r v old new → is_known r.world p ≡ true
    → device_at v.world.live p ≡ device_at r.world.live p
at_same r v old new p h k brings known = cases (p == 0) refl known
  where
    cases : (b : Bool) → (p == 0) ≡ b → (b || is_live r.world.live p) ≡ true → device_at v.world.live p ≡ device_at r.world.live p
    cases true e there =
        let root : p ≡ 0 = eqb-true p 0 e in
        ap (device_at v.world.live) root ∙ no_root v.world.live (after_parents v.site.setup v.world.live v.world.next k.devices)
        ∙ sym (ap (device_at r.world.live) root ∙ no_root r.world.live (after_parents r.site.setup r.world.live r.world.next h.devices))
    cases false e there =
        ap (λ (l : List Dev). device_at l p) brings.live ∙ find-append (λ (d : Dev). d.serial == p) r.world.live brings.came
        ∙ some_first (device_at r.world.live p) (device_at brings.came p) (is_live r.world.live p) there (live_found r.world.live p)

pub known_stays : (r v : Running) (old new : List LiveLine) (p : ℕ) → Brings r v old new → is_known r.world p ≡ true → is_known v.world p ≡ true
known_stays r v old new p brings known =
    ap (λ (l : List Dev). p == 0 || is_live l p) brings.live ∙ ap (λ (b : Bool). p == 0 || b) (list_any-append (λ (d : Dev). d.serial == p) r.world.live brings.came)
    ∙ or_more (p == 0) (is_live r.world.live p) (is_live brings.came p) known

pub serials_stay : (r v : Running) (old new : List LiveLine) → Brings r v old new → HasSerials r.world → HasSerials v.world
serials_stay r v old new brings h = omega (arith, h, brings.next, ap length brings.live, length-append r.world.live brings.came)

-- ---- a spot

pub may_come : (r : Running) (p : ℕ) (place : Place) (x row : ℕ) → IsParent r p place → is_free r.site r.world x ≡ true → winner_on r.site r.world p place x ≡ Some row → MayCome r p x row
may_come r p place x row parent free wins =
    let both = and_both (is_on r.site r.world.on row) (is_candidate r.site.setup r.world.live (parent_ref r.site.setup r.world.live p) place x row) (winner_candidate r.site r.world p place x row wins) in
    record {
      known = parent.known;
      free = free;
      unit = candidate_free r.site.setup r.world.live (parent_ref r.site.setup r.world.live p) place x row both.1;
      on = both.0;
      row = winner_there r.site r.world p place x row wins;
      serials = parent.serials;
    }

pub spot_same : (r : Running) (p : ℕ) (place : Place) (x : ℕ) (lines : List LiveLine) → (is_free r.site r.world x ≡ true → winner_on r.site r.world p place x ≡ None)
    → Searched r r (search_spot r.site p place r.world x) lines lines (Ok tt)
unfolding search_spot
spot_same r p place x lines none = record { brings = brings_same r lines; ok = cases (is_free r.site r.world x) (winner_on r.site r.world p place x) none; err = tt }
  where
    cases : (b : Bool) (got : Option ℕ) → (b ≡ true → got ≡ None) → r.world ≡ cond b (option_map_or (attach r.site r.world p x) got r.world) r.world
    cases false got h = refl
    cases true got h = ap (λ (o : Option ℕ). option_map_or (attach r.site r.world p x) o r.world) (sym (h refl))

one_comes : (r : Running) (p x row : ℕ) (old : List LiveLine) → Brings r (with_device r p x row) old (old ++ attached_line r.site r.world.live (new_device r.site r.world p x row) ∷ [])
unfolding lines_as_they_come
one_comes r p x row old = record { came = new_device r.site r.world p x row ∷ []; site = refl; live = refl; next = refl; on = refl; lines = refl }

pub spot_came : (r v : Running) (p : ℕ) (place : Place) (x row : ℕ) (old new : List LiveLine) (done : Result ⊤ Memory) → is_free r.site r.world x ≡ true → winner_on r.site r.world p place x ≡ Some row
    → OnOk done (v ≡ with_device r p x row) → OnOk done (new ≡ old ++ attached_line r.site r.world.live (new_device r.site r.world p x row) ∷ []) → OnErr done (v ≡ r) → OnErr done (new ≡ old)
    → Searched r v (search_spot r.site p place r.world x) old new done
unfolding search_spot
spot_came r v p place x row old new (Ok done) free wins is line same none =
    rw (is, line) (record { brings = one_comes r p x row old; ok = rw (free, wins) refl; err = tt })
spot_came r v p place x row old new (Err e) free wins is line same none =
    rw (same, none) (record { brings = brings_same r old; ok = tt; err = rw (free, wins) (record { rest = new_device r.site r.world p x row ∷ []; live = refl }) })

-- a spot below a parent at a place hangs there
pub child_hangs : (m : Machine) (parent : Option ℕ) (place : Place) (x : ℕ) → is_child m parent place x ≡ true → hangs_at m x place ≡ true
child_hangs m parent place x = cases (slice_get m.spots x)
  where
    cases : (o : Option Spot) → option_map_or (λ spot. same_spot spot.parent parent && same_place spot.place place) o false ≡ true → option_map_or (λ spot. same_place spot.place place) o false ≡ true
    cases None h = h
    cases (Some spot) h = (and_both (same_spot spot.parent parent) (same_place spot.place place) h).1

pub spot_stays : (r v : Running) (old new : List LiveLine) (p : ℕ) → IsSound r.site r.world → IsSound v.site v.world → Brings r v old new → is_known r.world p ≡ true
    → spot_of v.world.live p ≡ spot_of r.world.live p
spot_stays r v old new p h k brings known = ap (option_map (λ (d : Dev). d.spot)) (at_same r v old new p h k brings known)

pub parent_stays : (r v : Running) (old new : List LiveLine) (p : ℕ) (place : Place) → IsSound r.site r.world → IsSound v.site v.world → Brings r v old new → IsParent r p place → IsParent v p place
parent_stays r v old new p place h k brings parent = record {
  known = known_stays r v old new p brings parent.known;
  offered = ap (λ (t : LiveSite). parent_offers t.setup.tables (parent_ref t.setup v.world.live p) place) brings.site
      ∙ ap (λ (o : Option Dev). parent_offers r.site.setup.tables (option_map_or (λ d. under.Dev (driver_of r.site.setup d.row) d.unit) o under.Root) place) (at_same r v old new p h k brings parent.known)
      ∙ parent.offered;
  serials = serials_stay r v old new brings parent.serials;
}
