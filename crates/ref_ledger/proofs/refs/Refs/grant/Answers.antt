use Rattle.std.proofs.Common.{◌≡◌, ◌∷◌, ◌++◌, [], ap, sym, subst, ◌∙◌}
use Rattle.run_rules.specs.References.{sole_with}
use Rattle.ref_ledger.specs.Masks.{IsWritten, mask_in, with_caller}
use Rattle.ref_ledger.specs.Refs.{Ledger, MayGrant, ref_of}
use Rattle.ref_ledger.proofs.LedgerLaws.{kept_granted}
use Rattle.ref_ledger.proofs.MaskLaws.{masks_granted}
use Rattle.ref_ledger.proofs.refs.Refs.grant.Goals as goal

pub invariant_of-self-2 : goal.invariant_of-self-2
invariant_of-self-2 c =
    let l : Ledger = record { refs = c.self.inside.refs.items; sole = c.self.inside.sole.items } in
    let may : MayGrant l c.args.serial c.args.caller c.args.sole = subst (λ m. MayGrant m c.args.serial c.args.caller c.args.sole) (sym c.self.view_is) c.requires.free in
    let pushed : c.push.new.self.items ≡ l.refs ++ ref_of c.args.serial c.args.caller ∷ [] = c.in_ok-push.ensures.items in
    let marked : c.mark_sole.new.marked.items ≡ sole_with l.sole c.args.serial c.args.sole = c.mark_sole.ensures ∙ ap (λ xs. sole_with xs c.args.serial c.args.sole) c.reserve-2.ensures.items in
    let written : IsWritten c.self.inside.masks.items c.args.serial (with_caller (mask_in c.self.inside.masks.items c.args.serial) c.args.caller) c.add_caller.new.masks.items =
    rw (← c.reserve.ensures.items) c.add_caller.ensures in
    rw (pushed, marked)
    (record {
      kept = kept_granted l c.args.serial c.args.caller c.args.sole c.self.invariant.kept c.requires.caller may;
      indexed = masks_granted l.refs c.self.inside.masks.items c.add_caller.new.masks.items c.args.serial c.args.caller c.self.invariant.indexed c.requires.caller written;
    })
