-- What deeds leave of the states of slots.
use Rattle.std.proofs.Common.{◌≡◌, ◌≢◌, ◌<◌, ◌≤◌, ◌+◌, ◌==◌, ℕ, Bool, true, false, cond, List, [], ◌∷◌, map, Option, Some, None, option_map, nat_lt, slice_get, slice_set, refl, sym, ◌∙◌, ap, inl, inr, arith}
use Rattle.std.specs.Prelude.{IsTrue}
use Rattle.std.specs.List.{AllByRecursion}
use Rattle.std.specs.Option.{option_map_or}
use Rattle.std.proofs.lemmas.Bool.{cases_lt}
use Rattle.std.proofs.lemmas.Bool.Decides.{nat_tests}
use Rattle.cf_types.specs.Numbers.{below}
use Rattle.run_rules.specs.declared.world.Dev.{Dev}
use Rattle.run_rules.specs.World.{device_on, is_condemned, is_under}
use Rattle.run_rules.specs.After.{with_condemner}
use Rattle.run_rules.proofs.Devices.{found_in}
use Rattle.run_sound.proofs.Marks.{condemner_keeps_tree, under_mapped}
use Rattle.ref_ledger.specs.declared.state.SlotState.{SlotState}
use Rattle.ref_ledger.specs.declared.state.SlotState.TheVariants.{Free, Live, Condemned}
use Rattle.deed_effect.specs.Agreement.{state_at}
use Rattle.deed_effect.proofs.Agree.{get_map_below, map_below_same, set_map_below}

-- ---- a subtree is condemned, spot by spot

-- the state of a spot, where those before one are as afterwards
abbrev pub amid : List Dev → List Dev → ℕ → ℕ → SlotState
amid old new i y = cond (nat_lt y i) (state_at new y) (state_at old y)

low_test : (y i : ℕ) → y < i → nat_lt y i ≡ true
low_test y i h = grind (arith, nat_tests)

high_test : (y i : ℕ) → i ≤ y → nat_lt y i ≡ false
high_test y i h = grind (arith, nat_tests)

amid_low : (old new : List Dev) (i y : ℕ) → y < i → amid old new i y ≡ state_at new y
amid_low old new i y h = rw (low_test y i h) refl

amid_high : (old new : List Dev) (i y : ℕ) → i ≤ y → amid old new i y ≡ state_at old y
amid_high old new i y h = rw (high_test y i h) refl

amid_other : (old new : List Dev) (i y : ℕ) → y ≢ i → amid old new i y ≡ amid old new (i + 1) y
amid_other old new i y ne = elim (cases_lt y i) [
  | inl less ↦ amid_low old new i y less ∙ sym (amid_low old new (i + 1) y (omega (arith, less)))
  | inr more ↦ amid_high old new i y more ∙ sym (amid_high old new (i + 1) y (omega (arith, more, ne)))
]

abbrev pub Amid : List SlotState → List Dev → List Dev → ℕ → ℕ → Type 0
Amid states old new n i = states ≡ map (amid old new i) (below n)

pub amid_first : (old new : List Dev) (n : ℕ) → map (state_at old) (below n) ≡ map (amid old new 0) (below n)
amid_first old new n = map_below_same (state_at old) (amid old new 0) n (λ y lt. sym (amid_high old new 0 y (omega arith)))

pub amid_last : (old new : List Dev) (n i : ℕ) → n ≤ i → map (amid old new i) (below n) ≡ map (state_at new) (below n)
amid_last old new n i high = map_below_same (amid old new i) (state_at new) n (λ y lt. amid_low old new i y (omega (arith, lt, high)))

pub amid_same : (old new : List Dev) (n i : ℕ) (states : List SlotState) → state_at old i ≡ state_at new i → Amid states old new n i → Amid states old new n (i + 1)
amid_same old new n i states same h =
    h ∙ map_below_same (amid old new i) (amid old new (i + 1)) n (λ y lt. elim (cases_lt y i) [
      | inl less ↦ amid_other old new i y (λ e. omega (arith, less, e))
      | inr more ↦ elim (cases_lt i y) [
        | inl less ↦ amid_other old new i y (λ e. omega (arith, less, e))
        | inr ge ↦
            let here : y ≡ i = omega (arith, more, ge) in
            rw here (amid_high old new i i (omega arith) ∙ same ∙ sym (amid_low old new (i + 1) i (omega arith)))
      ]
    ])

pub amid_set : (old new : List Dev) (n i : ℕ) (states : List SlotState) → i < n → state_at new i ≡ Condemned → Amid states old new n i → slice_set states i Condemned ≡ map (amid old new (i + 1)) (below n)
amid_set old new n i states lt now h =
    ap (λ (xs : List SlotState). slice_set xs i Condemned) h
    ∙ ap (λ (v : SlotState). slice_set (map (amid old new i) (below n)) i v) (sym now ∙ sym (amid_low old new (i + 1) i (omega arith)))
    ∙ set_map_below (amid old new i) (amid old new (i + 1)) n i lt (λ y ne. amid_other old new i y ne)

pub amid_live : (old new : List Dev) (n i : ℕ) (states : List SlotState) → i < n → state_at old i ≡ Live → Amid states old new n i → slice_get states i ≡ Some Live
amid_live old new n i states lt now h = ap (λ (xs : List SlotState). slice_get xs i) h ∙ get_map_below (amid old new i) n i lt ∙ ap Some (amid_high old new i i (omega arith) ∙ now)

-- ---- the devices that are marked

spot_stays : (live : List Dev) (k s : ℕ) (d : Dev) → (with_condemner live k s d).spot ≡ d.spot
spot_stays live k s d = cases (is_under live s d.serial)
  where
    cases : (b : Bool) → (cond b (record d { condemned = Some k }) d).spot ≡ d.spot
    cases true = refl
    cases false = refl

pub marked_on : (f : Dev → Dev) → ((d : Dev) → (f d).spot ≡ d.spot) → (live : List Dev) (x : ℕ) → device_on (map f live) x ≡ option_map f (device_on live x)
marked_on f same [] x = refl
marked_on f same (d ∷ ds) x = ap (λ (n : ℕ). cond (n == x) (Some (f d)) (device_on (map f ds) x)) (same d) ∙ cases (marked_on f same ds x) (d.spot == x)
  where
    cases : device_on (map f ds) x ≡ option_map f (device_on ds x) → (b : Bool) → cond b (Some (f d)) (device_on (map f ds) x) ≡ option_map f (cond b (Some d) (device_on ds x))
    cases more true = refl
    cases more false = more

-- whether the device on a spot is below another
abbrev pub below_on : List Dev → ℕ → ℕ → Bool
below_on live s x = option_map_or (λ d. is_under live s d.serial) (device_on live x) false

pub spot_condemned : (live : List Dev) (k s x : ℕ) → below_on live s x ≡ true → state_at (map (with_condemner live k s) live) x ≡ Condemned
spot_condemned live k s x h = rw (marked_on (with_condemner live k s) (spot_stays live k s) live x) (cases (device_on live x) h)
  where
    cases : (o : Option Dev) → option_map_or (λ d. is_under live s d.serial) o false ≡ true
        → option_map_or (λ d. cond (is_condemned d) Condemned Live) (option_map (with_condemner live k s) o) Free ≡ Condemned
    cases None e = absurd cc
    cases (Some d) e = rw e refl

pub spot_spared : (live : List Dev) (k s x : ℕ) → below_on live s x ≡ false → state_at live x ≡ state_at (map (with_condemner live k s) live) x
spot_spared live k s x h = rw (marked_on (with_condemner live k s) (spot_stays live k s) live x) (cases (device_on live x) h)
  where
    cases : (o : Option Dev) → option_map_or (λ d. is_under live s d.serial) o false ≡ false
        → option_map_or (λ d. cond (is_condemned d) Condemned Live) o Free ≡ option_map_or (λ d. cond (is_condemned d) Condemned Live) (option_map (with_condemner live k s) o) Free
    cases None e = refl
    cases (Some d) e = rw e refl

pub spot_live : (live : List Dev) (s x : ℕ) → AllByRecursion (λ d. IsTrue (is_under live s d.serial) → is_condemned d ≡ false) live → below_on live s x ≡ true → state_at live x ≡ Live
spot_live live s x spared h = cases (device_on live x) refl h
  where
    cases : (o : Option Dev) → device_on live x ≡ o → option_map_or (λ d. is_under live s d.serial) o false ≡ true → option_map_or (λ d. cond (is_condemned d) Condemned Live) o Free ≡ Live
    cases None at e = absurd cc
    cases (Some d) at e = rw (found_in (λ d. IsTrue (is_under live s d.serial) → is_condemned d ≡ false) (λ d. d.spot == x) live d spared at e) refl

-- ---- below a device are the same ones after it was condemned

pub same_below : (live : List Dev) (k s x : ℕ) → below_on (map (with_condemner live k s) live) s x ≡ below_on live s x
same_below live k s x = rw (marked_on (with_condemner live k s) (spot_stays live k s) live x) (cases (device_on live x))
  where
    cases : (o : Option Dev) → option_map_or (λ d. is_under (map (with_condemner live k s) live) s d.serial) (option_map (with_condemner live k s) o) false ≡ option_map_or (λ d. is_under live s d.serial) o false
    cases None = refl
    cases (Some d) = under_mapped (with_condemner live k s) live s (with_condemner live k s d).serial (condemner_keeps_tree live k s) ∙ ap (is_under live s) ((condemner_keeps_tree live k s).serial d)
