use Rattle.std.proofs.Common.{◌∙◌, ap}
use Rattle.run_rules.specs.References.{holder_mask}
use Rattle.ref_ledger.specs.Masks.{mask_in}
use Rattle.ref_ledger.specs.Refs.{Ledger}
use Rattle.ref_ledger.proofs.refs.Refs.holders.Goals as goal

pub returns : goal.returns
returns c =
    c.mask_of.ensures ∙ ap (λ ms. mask_in ms c.args.serial) c.deref.ensures.value ∙ c.self.invariant.indexed.told c.args.serial
    ∙ ap (λ (l : Ledger). holder_mask l.refs c.args.serial) c.self.view_is
