-- Where nothing is condemned, no slot is.
use Rattle.std.proofs.Common.{◌≡◌, ◌≢◌, ◌<◌, ◌≤◌, ◌==◌, ℕ, zero, suc, Bool, true, false, cond, List, [], ◌∷◌, map, length, find, Option, Some, None, slice_get, refl, sym, ap, ◌∙◌, inl, inr, arith}
use Rattle.std.specs.Prelude.{is_some}
use Rattle.std.specs.List.{AllByRecursion}
use Rattle.std.specs.Option.{option_map_or}
use Rattle.std.proofs.lemmas.Bool.{cases_lt}
use Rattle.cf_types.specs.Numbers.{below}
use Rattle.ref_ledger.specs.declared.state.SlotState.{SlotState}
use Rattle.ref_ledger.specs.declared.state.SlotState.TheVariants.{Free, Live, Condemned}
use Rattle.run_rules.specs.declared.world.Dev.{Dev}
use Rattle.run_rules.specs.World.{World, is_condemned}
use Rattle.deed_effect.specs.Agreement.{slots_of, state_at}
use Rattle.deed_effect.proofs.Agree.{get_map_below, length_map_below}

abbrev code : SlotState → ℕ
code Free = 0
code Live = 1
code Condemned = 2

abbrev there : Option SlotState → ℕ
there None = 0
there (Some s) = 1

abbrev the : Option SlotState → SlotState
the None = Free
the (Some s) = s

differ : (s : SlotState) → code s < 2 → s ≢ Condemned
differ s low e = let same = ap code e in absurd (omega arith)

spared_state : (p : Dev → Bool) (live : List Dev) → AllByRecursion (λ (d : Dev). d.condemned ≡ None) live → option_map_or (λ (d : Dev). cond (is_condemned d) Condemned Live) (find p live) Free ≢ Condemned
spared_state p [] spared = differ Free (omega arith)
spared_state p (d ∷ ds) spared = cases (spared_state p ds spared.1) (p d)
  where
    live : cond (is_condemned d) Condemned Live ≡ Live
    live = ap (λ (o : Option ℕ). cond (is_some o) Condemned Live) spared.0

    cases : option_map_or (λ (x : Dev). cond (is_condemned x) Condemned Live) (find p ds) Free ≢ Condemned → (b : Bool)
        → option_map_or (λ (x : Dev). cond (is_condemned x) Condemned Live) (cond b (Some d) (find p ds)) Free ≢ Condemned
    cases more true = λ e. differ Live (omega arith) (sym live ∙ e)
    cases more false = more

get_past : (xs : List SlotState) (x : ℕ) → length xs ≤ x → slice_get xs x ≡ None
get_past [] x past = refl
get_past (s ∷ xs) zero past = absurd (omega arith)
get_past (s ∷ xs) (suc x) past = get_past xs x (omega arith)

pub spared_slots : (w : World) → AllByRecursion (λ (d : Dev). d.condemned ≡ None) w.live → (x : ℕ) → slice_get (slots_of w) x ≢ Some Condemned
unfolding slots_of
spared_slots w spared x =
    let n : ℕ = length w.setup.machine.spots in
    elim (cases_lt x n) [
      | inl less ↦ λ e. spared_state (λ (d : Dev). d.spot == x) w.live spared (ap the (sym (get_map_below (state_at w.live) n x less) ∙ e))
      | inr more ↦ λ e. let same = ap there (sym (get_past (map (state_at w.live) (below n)) x (omega (arith, length_map_below (state_at w.live) n))) ∙ e) in absurd (omega arith)
    ]
