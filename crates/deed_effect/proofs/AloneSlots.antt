-- The slot of a device without children is condemned, and those of all others stay.
use Rattle.std.proofs.Common.{◌≡◌, ◌≢◌, ◌<◌, ◌≤◌, ◌==◌, ℕ, Bool, true, false, cond, List, [], ◌∷◌, map, length, Option, Some, None, slice_get, slice_set, refl, sym, ◌∙◌, ap, eq-eqb, arith}
use Rattle.std.specs.Option.{option_map_or}
use Rattle.std.proofs.lemmas.Bool.{eqb-true, ne_eqb}
use Rattle.std.proofs.lemmas.Option.{same_Some}
use Rattle.cf_types.specs.Numbers.{below}
use Rattle.run_rules.specs.declared.world.Dev.{Dev}
use Rattle.run_rules.specs.declared.world.Setup.{Setup}
use Rattle.run_rules.specs.World.{device_at, device_on, is_under}
use Rattle.run_rules.specs.Sound.{EachLater}
use Rattle.run_rules.proofs.Devices.{found_in}
use Rattle.run_rules.proofs.Free.{find_true}
use Rattle.run_sound.proofs.Callers.{clash}
use Rattle.ref_ledger.specs.declared.state.SlotState.{SlotState}
use Rattle.ref_ledger.specs.declared.state.SlotState.TheVariants.{Live, Condemned}
use Rattle.dev_tree.specs.Tree.{AreSound, Devices}
use Rattle.dev_tree.proofs.BareLaws.{under_alone}
use Rattle.dev_tree.proofs.Kept.{order_of}
use Rattle.deed_effect.specs.Agreement.{state_at}
use Rattle.deed_effect.specs.SlotDeeds.{IsAlone, LatelyCondemned}
use Rattle.deed_effect.proofs.Agree.{get_map_below, map_below_same, set_map_below}
use Rattle.deed_effect.proofs.GoneLaws.{serial_found}
use Rattle.deed_effect.proofs.GoneSpots.{found_on}
use Rattle.deed_effect.proofs.SlotLaws.{below_on, same_below, spot_condemned, spot_live, spot_spared}

-- who has the serial of a device is that device
one_of : (live : List Dev) (of y : ℕ) (x e : Dev) → EachLater (λ a b. a.serial < b.serial) live → device_at live of ≡ Some x → device_on live y ≡ Some e → e.serial ≡ of → e ≡ x
one_of [] of y x e later at on same = absurd cc
one_of (d ∷ ds) of y x e later at on same = cases (λ a b. one_of ds of y x e later.1 a b same) (d.serial == of) refl at (d.spot == y) on
  where
    cases : (device_at ds of ≡ Some x → device_on ds y ≡ Some e → e ≡ x) → (b : Bool) → (d.serial == of) ≡ b → cond b (Some d) (device_at ds of) ≡ Some x
        → (c : Bool) → cond c (Some d) (device_on ds y) ≡ Some e → e ≡ x
    cases more true is at true on = sym (same_Some d e on) ∙ same_Some d x at
    cases more true is at false on =
        let up : d.serial < e.serial = found_in (λ b. d.serial < b.serial) (λ b. b.spot == y) ds e later.0 on in
        absurd (omega (arith, up, same, eqb-true d.serial of is))
    cases more false is at true on =
        clash (d.serial == of) (eq-eqb d.serial of (ap (λ (b : Dev). b.serial) (same_Some d e on) ∙ same)) is
    cases more false is at false on = more at on

module _ (t : Devices) (s : ℕ) (x : Dev) (sound : AreSound t) (alone : IsAlone t.live s) (at : device_at t.live s ≡ Some x) where
  under_is : (y : ℕ) → is_under t.live s y ≡ (y == s)
  under_is y = under_alone t.live s y (order_of t sound).above alone.0 alone.1

  -- it stands on its spot
  pub here_below : below_on t.live s x.spot ≡ true
  here_below = rw (found_on (λ d e. d.spot ≢ e.spot) (λ d e apart. apart) t.live s x sound.spots at) (under_is x.serial ∙ eq-eqb x.serial s (serial_found t.live s x at))

  -- on all other spots nothing is below it
  pub none_elsewhere : (y : ℕ) → y ≢ x.spot → below_on t.live s y ≡ false
  none_elsewhere y ne = cases (device_on t.live y) refl
    where
      cases : (o : Option Dev) → device_on t.live y ≡ o → option_map_or (λ d. is_under t.live s d.serial) o false ≡ false
      cases None on = refl
      cases (Some e) on =
          under_is e.serial
          ∙ ne_eqb e.serial s (λ same.
          ne (sym (eqb-true e.spot y (find_true (λ d. d.spot == y) t.live e on)) ∙ ap (λ (d : Dev). d.spot) (one_of t.live s y x e sound.later at on same)))

  module _ (setup : Setup) (states : List SlotState) (late : LatelyCondemned setup t.live s states) where
    abbrev n : ℕ
    n = length setup.machine.spots

    on_were : (y : ℕ) → below_on late.were s y ≡ below_on t.live s y
    on_were y = sym (same_below late.were late.caller s y) ∙ ap (λ (ds : List Dev). below_on ds s y) (sym late.marked)

    others_stay : (y : ℕ) → y ≢ x.spot → state_at late.were y ≡ state_at t.live y
    others_stay y ne = spot_spared late.were late.caller s y (on_were y ∙ none_elsewhere y ne) ∙ ap (λ (ds : List Dev). state_at ds y) (sym late.marked)

    -- its slot is live yet
    pub slot_live : x.spot < n → slice_get states x.spot ≡ Some Live
    slot_live inside =
        ap (λ (xs : List SlotState). slice_get xs x.spot) late.agree
        ∙ get_map_below (state_at late.were) n x.spot inside
        ∙ ap Some (spot_live late.were s x.spot late.spared (on_were x.spot ∙ here_below))

    -- once it is condemned, all slots agree
    pub slot_set : x.spot < n → slice_set states x.spot Condemned ≡ map (state_at t.live) (below n)
    slot_set inside =
        let now : state_at t.live x.spot ≡ Condemned =
        ap (λ (ds : List Dev). state_at ds x.spot) late.marked ∙ spot_condemned late.were late.caller s x.spot (on_were x.spot ∙ here_below) in
        ap (λ (xs : List SlotState). slice_set xs x.spot Condemned) late.agree
        ∙ ap (λ (v : SlotState). slice_set (map (state_at late.were) (below n)) x.spot v) (sym now)
        ∙ set_map_below (state_at late.were) (state_at t.live) n x.spot inside others_stay

    -- without a slot all agree as they are
    pub no_slot : n ≤ x.spot → states ≡ map (state_at t.live) (below n)
    no_slot beyond = late.agree ∙ map_below_same (state_at late.were) (state_at t.live) n (λ y lt. others_stay y (λ is. omega (arith, is, lt, beyond)))
