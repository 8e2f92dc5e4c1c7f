use Rattle.std.proofs.Common.{◌≡◌, ◌==◌, ◌∙◌, ℕ, false, Option, ap, sym, subst}
use Rattle.std.specs.Prelude.{find, option_map, MatchOption}
use Rattle.run_rules.specs.declared.world.Ref.{Ref}
use Rattle.run_rules.specs.World.{has}
use Rattle.ref_ledger.specs.Refs.{IsSoleHolder, Ledger}
use Rattle.ref_ledger.proofs.LedgerLaws.{IsKeptLedger, sole_is}
use Rattle.ref_ledger.proofs.refs.Refs.sole.Goals as goal

pub returns-then-is_sole : goal.returns-then-is_sole
returns-then-is_sole c =
    let P : Option ℕ → Type 0 = λ o. MatchOption o (has c.args.self.now.sole c.args.serial ≡ false) (IsSoleHolder c.args.self.now c.args.serial) in
    let refs = c.deref.ensures.value ∙ ap (λ (l : Ledger). l.refs) c.self.view_is in
    subst P (sym (c.first_caller.ensures ∙ ap (λ rs. option_map (λ (r : Ref). r.caller) (find (λ (r : Ref). r.serial == c.args.serial) rs)) refs))
    (sole_is c.args.self.now c.args.serial (subst IsKeptLedger c.self.view_is c.self.invariant.kept) (sym c.is_sole.ensures ∙ c.if-is_sole.true))
