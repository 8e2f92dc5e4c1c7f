use Rattle.std.proofs.Common.{◌≡◌, ◌==◌, ◌∙◌, not, ap, sym}
use Rattle.run_rules.specs.World.{refers_to}
use Rattle.ref_ledger.specs.Masks.{mask_in}
use Rattle.ref_ledger.specs.Refs.{Ledger}
use Rattle.ref_ledger.proofs.MaskLaws.{refers_is}
use Rattle.ref_ledger.proofs.refs.Refs.refers.Goals as goal

pub returns : goal.returns
returns c =
    ap (λ m. not (m == 0)) (c.mask_of.ensures ∙ ap (λ ms. mask_in ms c.args.serial) c.deref.ensures.value ∙ c.self.invariant.indexed.told c.args.serial)
    ∙ sym (refers_is c.self.inside.refs.items c.args.serial c.self.invariant.kept.callers) ∙ ap (λ (l : Ledger). refers_to l.refs c.args.serial) c.self.view_is
