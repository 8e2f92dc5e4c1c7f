-- No spot that a boot may come to is missed: where a spot is still awaited the boot goes on.
use Rattle.std.proofs.Common.{◌≡◌, ◌⊎◌, ◌<◌, ℕ, zero, suc, Bool, true, false, ◌||◌, ◌==◌, List, [], ◌∷◌, map, length, Option, Some, None, IsSome, refl, sym, ap, ◌∙◌, subst, inl, inr, arith, slice_get, eqb-true, eq-eqb}
use Rattle.std.specs.Prelude.{IsTrue}
use Rattle.std.specs.List.{Contains}
use Rattle.std.specs.Option.{option_map_or}
use Rattle.std.proofs.lemmas.Bool.{false_from_ne_true}
use Rattle.std.proofs.lemmas.Option.{get_or_from_slice_get, slice_get_within}
use Rattle.std.proofs.lemmas.List.Elements.{All-contains, Contains-get_or}
use Rattle.cf_types.specs.declared.machine.Spot.{Spot}
use Rattle.cf_types.specs.declared.tables.Place.{Place}
use Rattle.cf_types.specs.declared.tables.Place.TheVariants.{Root, At}
use Rattle.config_rules.specs.Formed.{FittingSpot}
use Rattle.config_rules.specs.Select.{is_root_place}
use Rattle.run_rules.specs.declared.deed.Choice.{Choice}
use Rattle.run_rules.specs.declared.deed.Choice.TheVariants.{Does}
use Rattle.run_rules.specs.declared.deed.Deed.{Deed}
use Rattle.run_rules.specs.declared.deed.Deed.TheVariants.{EndCaller}
use Rattle.run_rules.specs.declared.world.Dev.{Dev}
use Rattle.run_rules.specs.declared.world.Setup.{Setup}
use Rattle.run_rules.specs.After.{after}
use Rattle.run_rules.specs.Next.{next, offers_place}
use Rattle.run_rules.specs.Search.{attach_at, driver_at, is_bus_indirect, is_child, is_open, places_of, same_spot, spot_of, turns}
use Rattle.run_rules.specs.Sound.{is_known}
use Rattle.run_rules.specs.World.{World, attach_of, caller_at, device_at, device_on, has, has_ended, is_live, is_number, offered_by, opening, same_place}
use Rattle.run_rules.proofs.Below.{and_both}
use Rattle.run_rules.proofs.Order.{device_missed}
use Rattle.run_rules.proofs.Setups.{after_setup}
use Rattle.run_sound.specs.Kept.{Kept, MayRun}
use Rattle.run_sound.proofs.Callers.{clash, doing_there}
use Rattle.run_sound.proofs.Members.{contained_live, found_contained, live_contained, of_each}
use Rattle.run_sound.proofs.Opening.{opening_kept}
use Rattle.run_sound.proofs.RangesCallers.{boot_deed}
use Rattle.run_sound.proofs.Steps.{kept_after}
use Rattle.history_laws.proofs.Names.{at_is}
use Rattle.boot_laws.proofs.Boots.{bare_end, goes_or_ends, has_now_ended, nothing_to_come, opening_goes, opening_to_come}
use Rattle.boot_laws.proofs.Scans.{Among, HasTurn, among, among_map, has_turn}
use Rattle.boot_laws.proofs.Unwanted.{open_so}
use Rattle.boot_looks.specs.declared.boot.BootLooks.{BootLooks}
use Rattle.boot_looks.specs.declared.visit.Look.{Look}
use Rattle.boot_looks.specs.Laws.{is_below_bus}
use Rattle.boot_looks.specs.Looks.{AreBootLooks, IsEnd, IsLastLook, behind, is_on_bus, is_passed, look_at, turned, visit_at, visit_next, world_at}
use Rattle.plain_world.specs.Plain.{world_of}
use Rattle.boot_looks.proofs.Awaited.{IsAwaited, IsScanned, passed}
use Rattle.progress_laws.proofs.Boots.{goes_on}
use Rattle.boot_looks.proofs.Turns.{stays, turned_is}
use Rattle.boot_looks.proofs.Unvisited.{awaited_after}

-- ---- where nothing is left to come, no spot that a search would come to is awaited

-- a spot is not below a bus, or it is absent or hidden
abbrev IsOut : World → ℕ → Type 0
IsOut w x = is_below_bus w x ≡ true → has w.absent x ≡ false → has w.hidden x ≡ false → ⊥

member : (xs : List ℕ) (a : ℕ) → has xs a ≡ true → Among a xs
member [] a h = absurd cc
member (y ∷ ys) a h = cases (member ys a) (y == a) refl h
  where
    cases : (has ys a ≡ true → Among a ys) → (b : Bool) → (y == a) ≡ b → (b || has ys a) ≡ true → Among a (y ∷ ys)
    cases more true e k = inl (eqb-true y a e)
    cases more false e k = inr (more k)

offered_place : (offered : List ℕ) (place : Place) → offers_place offered place ≡ true → Among place (map At offered)
offered_place offered Root h = absurd cc
offered_place offered (At a) h = among_map At offered a (member offered a h)

module _ (w : World) (x : ℕ) (kept : Kept w) (may : MayRun w.setup) (so : IsAwaited w x) (stack : (caller_at w 0).stack ≡ []) (none : w.deferred ≡ []) where
  abbrev bare_now : Type 0
  bare_now = is_open w.setup.machine w.live w.absent w.hidden [] x ≡ true

  -- a search spot by spot below p comes to the spot
  no_turn : (p : ℕ) (place : Place) → IsTrue (is_known w p) → Among place (places_of w.setup.tables (driver_at w.setup w.live p) None) → is_bus_indirect w.setup.machine (attach_at w.setup w.live p) place ≡ false
      → is_child w.setup.machine (spot_of w.live p) place x ≡ true → bare_now → ⊥
  no_turn p place known offered style child bare =
      let at : HasTurn (turns w.setup w.live p None) place x false 0 =
      has_turn w.setup.tables w.setup.machine (driver_at w.setup w.live p) (attach_at w.setup w.live p) (spot_of w.live p) place x 0 false offered style child (λ h. absurd cc) in
      nothing_to_come w p at.turn stack none (so.turns p at.turn (record { known = known; among = at.among; bare = rw at.at bare }) at.at at.style)

  no_end : (p : ℕ) → is_passed w p x ≡ true → ⊥
  no_end p h = let scan : IsScanned w p = so.ends p h in nothing_to_come w p scan.0 stack none scan.1

  -- ---- below a device

  own_place : (place : Place) → same_place place place ≡ true
  own_place Root = refl
  own_place (At a) = eq-eqb a a refl

  below_spot : (o : Option ℕ) (y : ℕ) → is_number o y ≡ true → same_spot o (Some y) ≡ true
  below_spot None y h = absurd cc
  below_spot (Some z) y h = h

  below_device : (spot : Spot) (d : Dev) → slice_get w.setup.machine.spots x ≡ Some spot → Contains w.live d → is_on_bus w.setup d x ≡ true → bare_now → ⊥
  unfolding places_of
  below_device spot d there live on bare = cases (is_bus_indirect w.setup.machine (Some (attach_of w.setup d.row)) spot.place) refl
    where
      found : device_at w.live d.serial ≡ Some d
      found = at_is w.setup w.live d kept.sound.devices.apart live

      hangs : (is_number spot.parent d.spot ≡ true) × (offers_place (offered_by w.setup d.row) spot.place ≡ true)
      hangs = and_both (is_number spot.parent d.spot) _ (rw there at on)

      cases : (b : Bool) → is_bus_indirect w.setup.machine (Some (attach_of w.setup d.row)) spot.place ≡ b → ⊥
      cases true style = no_end d.serial (passed w d.serial x (record { device = d; found = found; on = rw (on, there, style) refl; bare = bare }))
      cases false style =
          no_turn d.serial spot.place (known (d.serial == 0)) (rw found (offered_place (offered_by w.setup d.row) spot.place hangs.1)) (rw found style)
          (rw (there, found, below_spot spot.parent d.spot hangs.0, own_place spot.place) refl) bare
        where
          known : (b : Bool) → (b || is_live w.live d.serial) ≡ true
          known true = refl
          known false = contained_live w.live d live

  -- ---- below the root

  no_root : device_at w.live 0 ≡ None
  no_root =
      device_missed w.live 0 (false_from_ne_true (is_live w.live 0) (λ h.
      let one = live_contained w.live 0 h in
      let placed = of_each _ w.live one.0 kept.sound.devices.placed one.1 in
      absurd (omega (arith, one.2, placed.after_parent))))

  fitting : (spot : Spot) → slice_get w.setup.machine.spots x ≡ Some spot → FittingSpot w.setup.tables w.setup.machine.spots spot
  fitting spot there =
      All-contains (FittingSpot w.setup.tables w.setup.machine.spots) w.setup.machine.spots spot may.machine.spots
      (subst (Contains w.setup.machine.spots) (get_or_from_slice_get w.setup.machine.spots x spot spot there) (Contains-get_or w.setup.machine.spots x spot (slice_get_within w.setup.machine.spots x spot there)))

  root_place : (place : Place) → is_root_place place ≡ true → place ≡ Root
  root_place Root h = refl
  root_place (At a) h = absurd cc

  below_root : (spot : Spot) → slice_get w.setup.machine.spots x ≡ Some spot → spot.parent ≡ None → bare_now → ⊥
  unfolding is_bus_indirect places_of
  below_root spot there top bare =
      let rooted : spot.place ≡ Root = root_place spot.place (sym (rw top at (fitting spot there).rooted)) in
      no_turn 0 Root refl (rw no_root (inl refl)) refl (rw (there, no_root, top, rooted) refl) bare

  unawaited : IsOut w x
  unawaited h present seen = cases (slice_get w.setup.machine.spots x) refl h
    where
      bare : bare_now
      bare = open_so w x present seen so.free

      cases : (o : Option Spot) → slice_get w.setup.machine.spots x ≡ o → option_map_or (λ spot. option_map_or (λ above. option_map_or (λ d. is_on_bus w.setup d x) (device_on w.live above) false) spot.parent true) o false ≡ true → ⊥
      cases None there k = absurd cc
      cases (Some spot) there k = above spot.parent refl k
        where
          above : (o : Option ℕ) → spot.parent ≡ o → option_map_or (λ above. option_map_or (λ d. is_on_bus w.setup d x) (device_on w.live above) false) o true ≡ true → ⊥
          above None top j = below_root spot there top bare
          above (Some y) under j = on (device_on w.live y) refl j
            where
              on : (o : Option Dev) → device_on w.live y ≡ o → option_map_or (λ d. is_on_bus w.setup d x) o false ≡ true → ⊥
              on None e i = absurd cc
              on (Some d) e i = below_device spot d there (found_contained (λ (d : Dev). d.spot == y) w.live d e) i bare

-- ---- turn by turn

-- the boot goes on, and the spot is awaited
record IsGoing (s : Setup) (w : World) (x : ℕ) : Type 0 where
  setup : w.setup ≡ s
  goes : has_ended w 0 ≡ false
  kept : Kept w
  awaited : IsAwaited w x

-- so it is, or the boot has ended and the spot is out
abbrev IsNotMissed : Setup → World → ℕ → Type 0
IsNotMissed s w x = IsGoing s w x ⊎ ((has_ended w 0 ≡ true) × IsOut w x)

first_awaited : (s : Setup) (x : ℕ) → IsAwaited (opening s) x
unfolding opening
first_awaited s x = record { free = refl; turns = λ p t at is direct. opening_to_come s p t at; ends = λ p h. absurd (never h) }
  where
    never : false ≡ true → ⊥
    never h = cc

opening_setup : (s : Setup) → (opening s).setup ≡ s
unfolding opening
opening_setup s = refl

ended_out : (w : World) (x : ℕ) → IsOut w x → IsOut (after w 0 EndCaller) x
unfolding after
ended_out w x out = out

-- a turn that does not come to the spot
one_more : (s : Setup) (w : World) (x : ℕ) → MayRun s → IsGoing s w x → visit_next w (next w 0) x ≡ None → IsNotMissed s (turned w) x
one_more s w x may at none =
    elim (goes_or_ends w d at.kept chosen) [
      | inl on ↦ inl (subst (λ (v : World). IsGoing s v x) (sym step) (record {
        setup = after_setup w 0 d ∙ at.setup;
        goes = on.0;
        kept = kept_after w 0 d may_now at.kept chosen;
        awaited = awaited_after w d x at.kept chosen on.1 (boot_deed w d at.kept.ranges.callers.booting chosen) (ap (λ (c : Choice). visit_next w c x) (sym chosen) ∙ none) at.awaited;
      }))
      | inr is ↦ inr (subst (λ (v : World). (has_ended v 0 ≡ true) × IsOut v x) (sym (step ∙ ap (after w 0) is)) (has_now_ended w (doing_there w 0 d chosen), ended_out w x (out (chosen ∙ ap Does is))))
    ]
  where
    acts : (d : Deed) × (next w 0 ≡ Does d)
    acts = goes_on w at.kept at.goes

    d : Deed
    d = acts.0

    chosen : next w 0 ≡ Does d
    chosen = acts.1

    step : turned w ≡ after w 0 d
    step = turned_is w d chosen

    may_now : MayRun w.setup
    may_now = subst MayRun (sym at.setup) may

    out : next w 0 ≡ Does EndCaller → IsOut w x
    out e = let bare = bare_end w at.kept e in unawaited w x at.kept may_now at.awaited bare.0 bare.1

so_far : (s : Setup) (x : ℕ) → MayRun s → ((n : ℕ) → visit_at s n x ≡ None) → (n : ℕ) → IsNotMissed s (world_at s n) x
unfolding behind
so_far s x may none zero = inl (record { setup = opening_setup s; goes = opening_goes s; kept = opening_kept s may; awaited = first_awaited s x })
so_far s x may none (suc n) = cases (so_far s x may none n)
  where
    cases : IsNotMissed s (world_at s n) x → IsNotMissed s (turned (world_at s n)) x
    cases (inl at) = one_more s (world_at s n) x may at (none n)
    cases (inr (over, out)) = inr (subst (λ (w : World). (has_ended w 0 ≡ true) × IsOut w x) (sym (stays (world_at s n) 1 over)) (over, out))

-- ---- the whole boot

out_at_end : (s : Setup) (w : World) (x : ℕ) → MayRun s → IsEnd s w → ((n : ℕ) → visit_at s n x ≡ None) → IsOut w x
out_at_end s w x may end none =
    elim (so_far s x may none end.turns) [
      | inl at ↦ clash (has_ended w 0) end.over (ap (λ (v : World). has_ended v 0) (sym end.world) ∙ at.goes)
      | inr over ↦ subst (λ (v : World). IsOut v x) end.world over.1
    ]

pub none_missed : (s : Setup) (b : BootLooks) (x : ℕ) → MayRun s → AreBootLooks s b → is_below_bus (world_of s b.end) x ≡ true → has (world_of s b.end).absent x ≡ false → has (world_of s b.end).hidden x ≡ false
    → IsSome (look_at b.looks x)
none_missed s b x may are below present seen = cases (look_at b.looks x) (are.looks x (inside (slice_get s.machine.spots x) refl below))
  where
    inside : (o : Option Spot) → slice_get s.machine.spots x ≡ o
        → option_map_or (λ spot. option_map_or (λ above. option_map_or (λ d. is_on_bus s d x) (device_on (world_of s b.end).live above) false) spot.parent true) o false ≡ true → x < length s.machine.spots
    inside None there h = absurd cc
    inside (Some spot) there h = slice_get_within s.machine.spots x spot there

    cases : (o : Option Look) → IsLastLook s x o → IsSome o
    cases (Some look) last = refl
    cases None none = absurd (out_at_end s (world_of s b.end) x may are.end none below present seen)
