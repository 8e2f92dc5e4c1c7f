use Rattle.std.proofs.Common.{◌≡◌, sym, ap, ◌∙◌, rules, map, length}
use Rattle.std.specs.Prelude.{replicate, None}
use Rattle.std.proofs.lemmas.List.{length-replicate}
use Rattle.lease_table.specs.Holding.{claim_of}
use Rattle.lease_table.proofs.Held.{none_held}
use Rattle.lease_table.proofs.holding.Leases.make.Goals as goal

pub invariant_of-result : goal.invariant_of-result
invariant_of-result c =
    let items : c.in_ok-held.held.items ≡ replicate c.args.slots None = search rules in (
      c.requires.fresh ∙ (sym (none_held c.args.slots) ∙ ap (map claim_of) (sym items)),
      ap length items ∙ length-replicate c.args.slots None,
      c.requires.slots,
    )
