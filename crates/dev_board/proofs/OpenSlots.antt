-- The slots of a machine before its boot.
use Rattle.std.proofs.Common.{◌≡◌, ℕ, zero, suc, ◌+◌, [], ◌∷◌, ◌++◌, List, length, map, refl, ap, sym, ◌∙◌, arith}
use Rattle.std.specs.Prelude.{replicate}
use Rattle.std.proofs.lemmas.List.{replicate_more, map-append}
use Rattle.cf_types.specs.Numbers.{below}
use Rattle.ref_ledger.specs.declared.state.SlotState.{SlotState}
use Rattle.ref_ledger.specs.declared.state.SlotState.TheVariants.{Free}
use Rattle.run_rules.specs.World.{World, opening}
use Rattle.run_rules.specs.declared.world.Setup.{Setup}
use Rattle.deed_effect.specs.Agreement.{slots_of, state_at}

free_states : (n : ℕ) → map (state_at []) (below n) ≡ replicate n Free
free_states zero = refl
free_states (suc n) =
    let e : n + 1 ≡ suc n = omega arith in
    map-append (state_at []) (below n) (n ∷ []) ∙ ap (λ (xs : List SlotState). xs ++ Free ∷ []) (free_states n) ∙ replicate_more n Free ∙ ap (λ k. replicate k Free) e

-- nothing stands on a spot yet
pub slots_opening : (w : World) (s : Setup) (slots : List SlotState) (n : ℕ) → w ≡ opening s → n ≡ length w.setup.machine.spots → slots ≡ replicate n Free → slots ≡ slots_of w
unfolding slots_of opening
slots_opening w s slots n is size free =
    free ∙ ap (λ k. replicate k Free) (size ∙ ap (λ (x : World). length x.setup.machine.spots) is)
    ∙ sym (free_states (length s.machine.spots))
    ∙ ap (λ (x : World). map (state_at x.live) (below (length x.setup.machine.spots))) (sym is)
