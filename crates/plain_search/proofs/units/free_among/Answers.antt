use Rattle.std.proofs.Common.{◌+◌, ◌∙◌, false, ap, arith, sym}
use Rattle.std.proofs.lemmas.List.{get_or-replicate}
use Rattle.run_rules.proofs.Units.{free_after_is, free_after_none}
use Rattle.plain_search.proofs.units.free_among.Goals as goal

pub mark_taken-requires : goal.mark_taken-requires
mark_taken-requires c = λ k lt. get_or-replicate 1025 k false false lt

pub returns-then-not-marks-tried : goal.returns-then-not-marks-tried
returns-then-not-marks-tried c =
    ap (λ k. c.args.first + k)
    (sym (free_after_is c.args.rules.now c.args.devices.now c.args.driver c.args.first c.loop-tried.tried (omega arith)
    (sym (c.mark_taken.ensures c.loop-tried.tried (omega arith)) ∙ c.if-not-marks-tried.true) c.loop-tried.invariant))

pub returns : goal.returns
returns c = rw (free_after_none c.args.rules.now c.args.devices.now c.args.driver c.args.first (λ q lt. c.loop-tried.invariant q (omega arith))) (omega arith)
