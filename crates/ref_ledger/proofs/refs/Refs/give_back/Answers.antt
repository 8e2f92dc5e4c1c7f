use Rattle.std.proofs.Common.{◌≡◌, ◌∙◌, ℕ, List, true, false, ap, sym, arith}
use Rattle.run_rules.specs.declared.world.Ref.{Ref}
use Rattle.run_rules.specs.World.{holds_in}
use Rattle.run_rules.specs.References.{given_back}
use Rattle.ref_ledger.specs.Refs.{IsHolder, Ledger}
use Rattle.ref_ledger.proofs.LedgerLaws.{kept_returned}
use Rattle.ref_ledger.proofs.MaskLaws.{holder_of, masks_kept, masks_returned}
use Rattle.ref_ledger.proofs.refs.Refs.give_back.Goals as goal

pub remove_caller-requires-clause-caller : goal.remove_caller-requires-clause-caller
remove_caller-requires-clause-caller c =
    holder_of c.self.inside.refs.items c.args.caller c.args.serial c.self.invariant.kept.callers
    (ap (λ (l : Ledger). holds_in l.refs c.args.caller c.args.serial) c.self.view_is ∙ c.requires)

pub invariant_of-self : goal.invariant_of-self
invariant_of-self c =
    let refs : List Ref = c.self.inside.refs.items in
    let k : ℕ = c.args.caller in
    let s : ℕ = c.args.serial in
    let held : holds_in refs k s ≡ true = ap (λ (l : Ledger). holds_in l.refs k s) c.self.view_is ∙ c.requires in
    let holder : IsHolder k = holder_of refs k s c.self.invariant.kept.callers held in
    let gone : holds_in (given_back refs k s) k s ≡ false =
    sym (c.refers_still.ensures ∙ ap (λ rs. holds_in rs k s) (c.deref.ensures.value ∙ c.take_out.ensures)) ∙ c.if-not-refers_still.true in
    rw (c.take_out.ensures, c.share_again.ensures)
    (record {
      kept = kept_returned (record { refs = refs; sole = c.self.inside.sole.items }) s k c.self.invariant.kept;
      indexed = masks_returned refs c.self.inside.masks.items c.remove_caller.new.masks.items s k c.self.invariant.indexed holder gone c.remove_caller.ensures;
    })

pub invariant_of-self-else-not-refers_still : goal.invariant_of-self-else-not-refers_still
invariant_of-self-else-not-refers_still c =
    let refs : List Ref = c.self.inside.refs.items in
    let k : ℕ = c.args.caller in
    let s : ℕ = c.args.serial in
    let held : holds_in refs k s ≡ true = ap (λ (l : Ledger). holds_in l.refs k s) c.self.view_is ∙ c.requires in
    let still : holds_in (given_back refs k s) k s ≡ true =
    sym (c.refers_still.ensures ∙ ap (λ rs. holds_in rs k s) (c.deref.ensures.value ∙ c.take_out.ensures)) ∙ c.if-not-refers_still.false in
    rw (c.take_out.ensures, c.share_again.ensures)
    (record {
      kept = kept_returned (record { refs = refs; sole = c.self.inside.sole.items }) s k c.self.invariant.kept;
      indexed = masks_kept refs c.self.inside.masks.items s k c.self.invariant.indexed held still;
    })
