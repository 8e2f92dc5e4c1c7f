-- The spots of devices where one is gone.
use Rattle.std.proofs.Common.{◌≡◌, ◌≢◌, ◌<◌, ◌==◌, ℕ, Bool, true, false, not, cond, List, [], ◌∷◌, find, reverse, length, Option, Some, None, is_some, map, slice_get, slice_set, refl, sym, ◌∙◌, ap, subst, eq-eqb}
use Rattle.std.specs.List.{AllByRecursion}
use Rattle.std.specs.Option.{option_map_or}
use Rattle.std.proofs.lemmas.Bool.{ne_eqb}
use Rattle.std.proofs.lemmas.Option.{same_Some}
use Rattle.cf_types.specs.Numbers.{below}
use Rattle.run_rules.specs.declared.world.Dev.{Dev}
use Rattle.run_rules.specs.declared.world.Setup.{Setup}
use Rattle.run_rules.specs.World.{World, caller_at, device_at, device_on, is_condemned, is_number, serial_of}
use Rattle.run_rules.specs.After.{after, freed, freeing_target, over}
use Rattle.run_rules.specs.declared.deed.Deed.TheVariants.{Free as FreeDeed}
use Rattle.run_rules.specs.Next.{next_free}
use Rattle.run_rules.specs.Search.{is_occupied}
use Rattle.run_rules.specs.Sound.{EachLater, IsApart}
use Rattle.run_rules.proofs.Devices.{found_in}
use Rattle.run_rules.proofs.Free.{find_true}
use Rattle.run_sound.proofs.Members.{found_contained, found_from_end, one_serial}
use Rattle.ref_ledger.specs.declared.state.SlotState.{SlotState}
use Rattle.ref_ledger.specs.declared.state.SlotState.TheVariants.{Free, Live, Condemned}
use Rattle.deed_effect.specs.Agreement.{state_at, slots_of}
use Rattle.deed_effect.proofs.Agree.{get_map_below, set_map_below, state_free}
use Rattle.deed_effect.proofs.GoneLaws.{later_stay, serial_found, without}

-- on its spot it is found, as no other device stands there
pub found_on : (R : Dev → Dev → Type 0) → ((d e : Dev) → R d e → d.spot ≢ e.spot) → (live : List Dev) (of : ℕ) (x : Dev) → EachLater R live → device_at live of ≡ Some x → device_on live x.spot ≡ Some x
found_on R spots [] of x h e = absurd cc
found_on R spots (d ∷ ds) of x h e = cases (λ k. found_on R spots ds of x h.1 k) (d.serial == of) refl e
  where
    cases : (device_at ds of ≡ Some x → device_on ds x.spot ≡ Some x) → (b : Bool) → (d.serial == of) ≡ b → cond b (Some d) (device_at ds of) ≡ Some x → cond (d.spot == x.spot) (Some d) (device_on ds x.spot) ≡ Some x
    cases more true k found = let same : d ≡ x = same_Some d x found in rw (eq-eqb d.spot x.spot (ap (λ (y : Dev). y.spot) same)) (ap (λ (y : Dev). Some y) same)
    cases more false k found =
        let apart : R d x = found_in (R d) (λ e. e.serial == of) ds x h.0 found in
        rw (ne_eqb d.spot x.spot (spots d x apart)) (more found)

none_on : (s : Setup) (d : Dev) (ds : List Dev) → AllByRecursion (IsApart s d) ds → is_occupied ds d.spot ≡ false
none_on s d [] h = refl
none_on s d (e ∷ es) h = rw (ne_eqb e.spot d.spot (λ k. h.0.spots (sym k)), none_on s d es h.1) refl

-- its spot is bare once it is gone
gone_bare : (s : Setup) (live : List Dev) (x : Dev) → EachLater (IsApart s) live → device_at live x.serial ≡ Some x → is_occupied (without live x.serial) x.spot ≡ false
gone_bare s [] x h e = absurd cc
gone_bare s (d ∷ ds) x h e = cases (λ k. gone_bare s ds x h.1 k) (d.serial == x.serial) refl e
  where
    cases : (device_at ds x.serial ≡ Some x → is_occupied (without ds x.serial) x.spot ≡ false) → (b : Bool) → (d.serial == x.serial) ≡ b → cond b (Some d) (device_at ds x.serial) ≡ Some x
        → is_occupied (cond (not b) (d ∷ without ds x.serial) (without ds x.serial)) x.spot ≡ false
    cases more true k found =
        subst (λ (y : Dev). is_occupied (without ds y.serial) y.spot ≡ false) (same_Some d x found) (ap (λ (es : List Dev). is_occupied es d.spot) (later_stay s d ds h.0) ∙ none_on s d ds h.0)
    cases more false k found =
        let apart : IsApart s d x = found_in (IsApart s d) (λ e. e.serial == x.serial) ds x h.0 found in
        rw (ne_eqb d.spot x.spot apart.spots) (more found)

-- and all other spots are as before
gone_others : (s : Setup) (live : List Dev) (x : Dev) (y : ℕ) → EachLater (IsApart s) live → device_at live x.serial ≡ Some x → y ≢ x.spot → device_on (without live x.serial) y ≡ device_on live y
gone_others s [] x y h e ne = absurd cc
gone_others s (d ∷ ds) x y h e ne = cases (λ k. gone_others s ds x y h.1 k ne) (d.serial == x.serial) refl e
  where
    cases : (device_at ds x.serial ≡ Some x → device_on (without ds x.serial) y ≡ device_on ds y) → (b : Bool) → (d.serial == x.serial) ≡ b → cond b (Some d) (device_at ds x.serial) ≡ Some x
        → device_on (cond (not b) (d ∷ without ds x.serial) (without ds x.serial)) y ≡ cond (d.spot == y) (Some d) (device_on ds y)
    cases more true k found =
        let same : d ≡ x = same_Some d x found in
        rw (ne_eqb d.spot y (λ is. ne (sym is ∙ ap (λ (z : Dev). z.spot) same)))
        (subst (λ (z : Dev). device_on (without ds z.serial) y ≡ device_on ds y) same (ap (λ (es : List Dev). device_on es y) (later_stay s d ds h.0)))
    cases more false k found = ap (λ (o : Option Dev). cond (d.spot == y) (Some d) o) (more found)

own_serial : (live : List Dev) (of : ℕ) (x : Dev) → device_at live of ≡ Some x → device_at live x.serial ≡ Some x
own_serial live of x e = ap (device_at live) (serial_found live of x e) ∙ e

-- ---- slots

-- the slot of a condemned device
pub slot_condemned : (w : World) (of : ℕ) (x : Dev) → EachLater (IsApart w.setup) w.live → device_at w.live of ≡ Some x → is_condemned x ≡ true → x.spot < length w.setup.machine.spots
    → slice_get (slots_of w) x.spot ≡ Some Condemned
unfolding slots_of
slot_condemned w of x apart at marked inside =
    get_map_below (state_at w.live) (length w.setup.machine.spots) x.spot inside ∙ ap Some (rw (found_on (IsApart w.setup) (λ d e h. h.spots) w.live of x apart at, marked) refl)

-- it is free once the device is gone
pub slot_freed : (w : World) (of : ℕ) (x : Dev) → EachLater (IsApart w.setup) w.live → device_at w.live of ≡ Some x → x.spot < length w.setup.machine.spots → slice_set (slots_of w) x.spot Free ≡ slots_of (freed w of)
unfolding slots_of
slot_freed w of x apart at inside =
    let live = w.live in
    let n = length w.setup.machine.spots in
    let own : device_at live x.serial ≡ Some x = own_serial live of x at in
    subst (λ (s : ℕ). slice_set (map (state_at live) (below n)) x.spot Free ≡ map (state_at (without live s)) (below n)) (serial_found live of x at)
    (ap (λ (v : SlotState). slice_set (map (state_at live) (below n)) x.spot v) (sym (state_free (without live x.serial) x.spot (gone_bare w.setup live x apart own)))
    ∙ set_map_below (state_at live) (state_at (without live x.serial)) n x.spot inside
    (λ y ne. ap (λ (o : Option Dev). option_map_or (λ d. cond (is_condemned d) Condemned Live) o Free) (sym (gone_others w.setup live x y apart own ne))))

-- whether the command of the caller is over or not
pub slots_free : (w : World) (k of : ℕ) → slots_of (freed w of) ≡ slots_of (after w k (FreeDeed of))
unfolding after slots_of
slots_free w k of = cases (freeing_target (caller_at w k).doing of)
  where
    cases : (b : Bool) → slots_of (freed w of) ≡ slots_of (cond b (over (freed w of) k) (freed w of))
    cases true = refl
    cases false = refl

-- who is freed next is condemned
by_caller : (o : Option ℕ) (k : ℕ) → is_number o k ≡ true → is_some o ≡ true
by_caller None k h = absurd cc
by_caller (Some j) k h = refl

pub next_condemned : (s : Setup) (live : List Dev) (k of : ℕ) (x : Dev) → EachLater (IsApart s) live → next_free live k ≡ Some of → device_at live of ≡ Some x → is_condemned x ≡ true
unfolding next_free
next_condemned s live k of x apart e at = cases (find (λ d. is_number d.condemned k) (reverse live)) refl e
  where
    cases : (o : Option Dev) → find (λ d. is_number d.condemned k) (reverse live) ≡ o → serial_of o ≡ Some of → is_condemned x ≡ true
    cases None f is = absurd cc
    cases (Some d) f is =
        let named : d.serial ≡ of = same_Some d.serial of is in
        let same : d ≡ x = one_serial s live d x apart (found_from_end (λ d. is_number d.condemned k) live d f) (found_contained (λ e. e.serial == of) live x at) (named ∙ sym (serial_found live of x at)) in
        rw (← same) (by_caller d.condemned k (find_true (λ d. is_number d.condemned k) (reverse live) d f))
