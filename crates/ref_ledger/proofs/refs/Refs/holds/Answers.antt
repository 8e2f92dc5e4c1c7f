use Rattle.std.proofs.Common.{◌≡◌, ◌∙◌, ap, List}
use Rattle.run_rules.specs.World.{holds_in}
use Rattle.ref_ledger.specs.Masks.{has_caller, mask_in}
use Rattle.ref_ledger.specs.Refs.{Ledger}
use Rattle.ref_ledger.proofs.MaskLaws.{tells}
use Rattle.ref_ledger.proofs.refs.Refs.holds.Goals as goal

pub returns : goal.returns
returns c =
    c.has_bit.ensures ∙ ap (λ m. has_caller m c.args.caller) (c.mask_of.ensures ∙ ap (λ ms. mask_in ms c.args.serial) c.deref.ensures.value ∙ c.self.invariant.indexed.told c.args.serial)
    ∙ tells c.self.inside.refs.items c.args.caller c.args.serial c.self.invariant.kept.callers ∙ ap (λ (l : Ledger). holds_in l.refs c.args.caller c.args.serial) c.self.view_is
