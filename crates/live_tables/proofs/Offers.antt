-- What a device offers, place by place.
use Rattle.std.proofs.Common.{◌≡◌, ◌≤◌, ◌<◌, ◌+◌, ℕ, zero, suc, Bool, true, false, ◌||◌, ◌==◌, cond, List, [], ◌∷◌, length, map, drop, get_or, Option, Some, None, option_map, Ok, Err, refl, sym, ap, ◌∙◌, subst, arith, eq-eqb}
use Rattle.std.specs.Prelude.{fold}
use Rattle.std.specs.List.{list_any}
use Rattle.std.specs.Option.{option_map_or}
use Rattle.std.proofs.Math.Seq.{drop-cons}
use Rattle.std.proofs.lemmas.List.{drop_all, get_or-map, length-map}
use Rattle.cf_types.specs.Offers.{offers}
use Rattle.cf_types.specs.declared.memory.Memory.{Memory}
use Rattle.cf_types.specs.declared.tables.Place.{Place}
use Rattle.cf_types.specs.declared.tables.Place.TheVariants.{Root, At}
use Rattle.run_rules.specs.declared.world.Dev.{Dev}
use Rattle.run_rules.specs.declared.world.ParentRef.TheVariants as under
use Rattle.run_rules.specs.Search.{driver_at, parent_offers, parent_ref, places_of}
use Rattle.run_rules.specs.World.{device_at, driver_of, is_live}
use Rattle.live_rules.specs.declared.plan.LiveLine.{LiveLine}
use Rattle.live_rules.specs.Laws.{IsSound}
use Rattle.live_rules.specs.Live.{LiveWorld, LiveSite, is_known, search_below, search_place}
use Rattle.live_tables.specs.Coming.{Begins, Brings, IsParent, Searched}
use Rattle.live_tables.specs.Running.{HasSerials, Running, offered_of}
use Rattle.live_tables.proofs.Comings.{at_same, begins_trans, brings_same, brings_trans, fold_begins, known_stays, place_begins, serials_stay}

-- what came so far, and what comes of the places from here on is what comes of all
pub record DeviceSoFar (r l : Running) (old new : List LiveLine) (p driver i : ℕ) : Type 0 where
  pub sound : IsSound l.site l.world
  pub brings : Brings r l old new
  pub rest : fold (search_place r.site p) l.world (drop i (map At (offered_of r driver))) ≡ search_below r.site r.world p

pub device_begun : (r : Running) (lines : List LiveLine) (p driver : ℕ) → IsSound r.site r.world → is_known r.world p ≡ true → driver_at r.site.setup r.world.live p ≡ Some driver
    → DeviceSoFar r r lines lines p driver 0
unfolding search_below places_of
device_begun r lines p driver h known at = record { sound = h; brings = brings_same r lines; rest = rw (known, at) refl }

at_mapped : (xs : List ℕ) (i : ℕ) → i < length xs → drop i (map At xs) ≡ At (get_or xs i 0) ∷ drop (i + 1) (map At xs)
at_mapped xs i lt =
    let next : suc i ≡ i + 1 = omega arith in
    drop-cons (map At xs) i (At 0) (omega (arith, lt, length-map xs At)) ∙ ap (λ (p : Place). p ∷ drop (suc i) (map At xs)) (get_or-map At xs i 0 (At 0) lt)
    ∙ ap (λ (k : ℕ). At (get_or xs i 0) ∷ drop k (map At xs)) next

pub device_more : (r l v : Running) (old mid new : List LiveLine) (p driver i : ℕ) (place : Place) → i < length (offered_of r driver) → place ≡ At (get_or (offered_of r driver) i 0) → IsSound v.site v.world
    → DeviceSoFar r l old mid p driver i → Brings l v mid new → v.world ≡ search_place l.site p l.world place → DeviceSoFar r v old new p driver (i + 1)
device_more r l v old mid new p driver i place lt at sound h brings is = record {
  sound = sound;
  brings = brings_trans r l v old mid new h.brings brings;
  rest = ap (λ (w : LiveWorld). fold (search_place r.site p) w (drop (i + 1) (map At (offered_of r driver))))
      (is ∙ ap (λ (t : LiveSite). search_place t p l.world place) h.brings.site ∙ ap (search_place r.site p l.world) at)
      ∙ ap (fold (search_place r.site p) l.world) (sym (at_mapped (offered_of r driver) i lt)) ∙ h.rest;
}

pub device_cut : (r l v : Running) (old mid new : List LiveLine) (p driver i : ℕ) (place : Place) (e : Memory) → i < length (offered_of r driver) → place ≡ At (get_or (offered_of r driver) i 0)
    → DeviceSoFar r l old mid p driver i → Searched l v (search_place l.site p l.world place) mid new (Err e) → Searched r v (search_below r.site r.world p) old new (Err e)
device_cut r l v old mid new p driver i place e lt at h one = record {
  brings = brings_trans r l v old mid new h.brings one.brings;
  ok = tt;
  err =
      let some : Begins v.world (search_place r.site p l.world (At (get_or (offered_of r driver) i 0))) =
      subst (λ (q : Place). Begins v.world (search_place r.site p l.world q)) at (subst (λ (t : LiveSite). Begins v.world (search_place t p l.world place)) h.brings.site one.err) in
      let first : LiveWorld = search_place r.site p l.world (At (get_or (offered_of r driver) i 0)) in
      subst (Begins v.world) (ap (fold (search_place r.site p) l.world) (sym (at_mapped (offered_of r driver) i lt)) ∙ h.rest)
      (begins_trans v.world first (fold (search_place r.site p) first (drop (i + 1) (map At (offered_of r driver)))) some
      (fold_begins (search_place r.site p) (place_begins r.site p) (drop (i + 1) (map At (offered_of r driver))) first));
}

pub device_whole : (r l : Running) (old new : List LiveLine) (p driver i : ℕ) → length (offered_of r driver) ≤ i → DeviceSoFar r l old new p driver i
    → Searched r l (search_below r.site r.world p) old new (Ok tt)
device_whole r l old new p driver i past h = record {
  brings = h.brings;
  ok = ap (fold (search_place r.site p) l.world) (sym (drop_all i (map At (offered_of r driver)) (omega (arith, past, length-map (offered_of r driver) At)))) ∙ h.rest;
  err = tt;
}

-- ---- a device offers what is listed

any_there : (xs : List ℕ) (i : ℕ) → i < length xs → list_any (λ x. x == get_or xs i 0) xs ≡ true
any_there [] i lt = absurd (omega (arith, lt))
any_there (x ∷ xs) zero lt = ap (λ (b : Bool). b || list_any (λ y. y == x) xs) (eq-eqb x x refl)
any_there (x ∷ xs) (suc i) lt = or_true (x == get_or xs i 0) (any_there xs i (omega (arith, lt)))
  where
    or_true : (b : Bool) {c : Bool} → c ≡ true → (b || c) ≡ true
    or_true true e = refl
    or_true false e = e

pub is_parent : (r l : Running) (old new : List LiveLine) (p driver i : ℕ) (place : Place) → IsSound r.site r.world → IsSound l.site l.world → Brings r l old new → is_known r.world p ≡ true → HasSerials r.world
    → driver_at r.site.setup r.world.live p ≡ Some driver → i < length (offered_of r driver) → place ≡ At (get_or (offered_of r driver) i 0) → IsParent l p place
unfolding offers
is_parent r l old new p driver i place h k brings known serials at lt is = record {
  known = known_stays r l old new p brings known;
  offered =
      ap (λ (q : Place). parent_offers l.site.setup.tables (parent_ref l.site.setup l.world.live p) q) is
      ∙ ap (λ (t : LiveSite). parent_offers t.setup.tables (parent_ref t.setup l.world.live p) (At (get_or (offered_of r driver) i 0))) brings.site
      ∙ ap (λ (o : Option Dev). parent_offers r.site.setup.tables (option_map_or (λ d. under.Dev (driver_of r.site.setup d.row) d.unit) o under.Root) (At (get_or (offered_of r driver) i 0))) (at_same r l old new p h k brings known)
      ∙ offered (device_at r.world.live p) at;
  serials = serials_stay r l old new brings serials;
}
  where
    some_same : (a b : ℕ) → Some a ≡ Some b → a ≡ b
    some_same a b e = cc

    offered : (o : Option Dev) → option_map (λ d. driver_of r.site.setup d.row) o ≡ Some driver
        → parent_offers r.site.setup.tables (option_map_or (λ d. under.Dev (driver_of r.site.setup d.row) d.unit) o under.Root) (At (get_or (offered_of r driver) i 0)) ≡ true
    offered None e = absurd cc
    offered (Some d) e =
        ap (λ (k : ℕ). list_any (λ x. x == get_or (offered_of r driver) i 0) (offered_of r k)) (some_same (driver_of r.site.setup d.row) driver e) ∙ any_there (offered_of r driver) i lt

-- ---- below the root, and below nothing

pub live_at : (r : Running) (p driver : ℕ) → driver_at r.site.setup r.world.live p ≡ Some driver → is_known r.world p ≡ true
live_at r p driver e = known (p == 0) (found r.world.live e)
  where
    found : (live : List Dev) → option_map (λ d. driver_of r.site.setup d.row) (device_at live p) ≡ Some driver → is_live live p ≡ true
    found [] k = absurd cc
    found (d ∷ ds) k = cases (λ j. found ds j) (d.serial == p) k
      where
        cases : (option_map (λ d. driver_of r.site.setup d.row) (device_at ds p) ≡ Some driver → is_live ds p ≡ true) → (b : Bool)
            → option_map (λ d. driver_of r.site.setup d.row) (cond b (Some d) (device_at ds p)) ≡ Some driver → (b || is_live ds p) ≡ true
        cases more true j = refl
        cases more false j = more j

    known : (b : Bool) → is_live r.world.live p ≡ true → (b || is_live r.world.live p) ≡ true
    known true k = refl
    known false k = k

none_live : (s : LiveSite) (live : List Dev) (p : ℕ) → driver_at s.setup live p ≡ None → is_live live p ≡ false
none_live s [] p e = refl
none_live s (d ∷ ds) p e = cases (λ k. none_live s ds p k) (d.serial == p) e
  where
    cases : (driver_at s.setup ds p ≡ None → is_live ds p ≡ false) → (b : Bool) → option_map (λ e. driver_of s.setup e.row) (cond b (Some d) (device_at ds p)) ≡ None → (b || is_live ds p) ≡ false
    cases more true k = absurd cc
    cases more false k = more k

-- the root is searched at its one place
pub root_below : (r : Running) → driver_at r.site.setup r.world.live 0 ≡ None → search_place r.site 0 r.world Root ≡ search_below r.site r.world 0
unfolding search_below places_of
root_below r e = rw e refl

pub root_parent : (r : Running) → driver_at r.site.setup r.world.live 0 ≡ None → HasSerials r.world → IsParent r 0 Root
root_parent r e serials = record { known = refl; offered = offered (device_at r.world.live 0) e; serials = serials }
  where
    offered : (o : Option Dev) → option_map (λ d. driver_of r.site.setup d.row) o ≡ None → parent_offers r.site.setup.tables (option_map_or (λ d. under.Dev (driver_of r.site.setup d.row) d.unit) o under.Root) Root ≡ true
    offered None k = refl
    offered (Some d) k = absurd cc

pub none_below : (r : Running) (p : ℕ) (lines : List LiveLine) → driver_at r.site.setup r.world.live p ≡ None → (p == 0) ≡ false → Searched r r (search_below r.site r.world p) lines lines (Ok tt)
unfolding search_below
none_below r p lines e other = record { brings = brings_same r lines; ok = rw (other, none_live r.site r.world.live p e) refl; err = tt }
