use Rattle.std.proofs.Common.{◌≡◌, ◌∙◌, ℕ, false, find, Option, MatchOption, ap, sym, subst}
use Rattle.std.specs.Prelude.{option_map}
use Rattle.run_rules.specs.World.{holds_in}
use Rattle.ref_ledger.specs.declared.masks.Mask.{Mask}
use Rattle.ref_ledger.specs.Masks.{has_caller}
use Rattle.ref_ledger.specs.Refs.{IsLeastHeld, Ledger}
use Rattle.ref_ledger.proofs.MaskLaws.{first_is_least, least_held}
use Rattle.ref_ledger.proofs.refs.Refs.first_held.Goals as goal

pub returns : goal.returns
returns c =
    let masks = c.self.inside.masks.items in
    let k : ℕ = c.args.caller in
    let found : c.first_with.result ≡ option_map (λ (m : Mask). m.serial) (find (λ (m : Mask). has_caller m.callers k) masks) =
    c.first_with.ensures ∙ ap (λ ms. option_map (λ (m : Mask). m.serial) (find (λ (m : Mask). has_caller m.callers k) ms)) c.deref.ensures.value in
    let least = least_held c.self.inside.refs.items masks k _ c.self.invariant.kept.callers c.self.invariant.indexed (first_is_least masks k c.self.invariant.indexed.order) in
    subst (λ (l : Ledger). MatchOption c.first_with.result ((s : ℕ) → holds_in l.refs k s ≡ false) (IsLeastHeld l.refs k)) c.self.view_is
    (subst (λ (o : Option ℕ). MatchOption o ((s : ℕ) → holds_in c.self.inside.refs.items k s ≡ false) (IsLeastHeld c.self.inside.refs.items k)) (sym found) least)
