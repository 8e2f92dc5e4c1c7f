use Rattle.std.proofs.Common.{◌∙◌, ap, sym, arith}
use Rattle.run_rules.specs.References.{count_in}
use Rattle.run_rules.proofs.References.{not_held_counts}
use Rattle.ref_ledger.proofs.refs.Refs.count.Goals as goal

pub overflow_cast-result : goal.overflow_cast-result
overflow_cast-result c =
    let is = c.count_of.ensures ∙ ap (λ rs. count_in rs c.args.caller c.args.serial) c.deref.ensures.value in
    omega (arith, is, c.self.invariant.kept.few c.args.caller c.args.serial)

pub returns-then-holds-clause-few : goal.returns-then-holds-clause-few
returns-then-holds-clause-few c =
    let is = c.count_of.ensures ∙ ap (λ rs. count_in rs c.args.caller c.args.serial) c.deref.ensures.value in
    omega (arith, is, c.self.invariant.kept.few c.args.caller c.args.serial)

pub returns-else-holds-clause-count : goal.returns-else-holds-clause-count
returns-else-holds-clause-count c = sym (not_held_counts c.args.self.now.refs c.args.caller c.args.serial (sym c.holds.ensures ∙ c.if-holds.false))
