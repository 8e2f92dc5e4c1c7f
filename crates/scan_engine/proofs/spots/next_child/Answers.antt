use Rattle.std.proofs.Common.{arith, length, sym, ◌∙◌, inl, inr}
use Rattle.std.proofs.lemmas.Bool.{cases_lt}
use Rattle.run_rules.specs.Search.{is_child}
use Rattle.run_rules.proofs.Below.{find-is, find-none}
use Rattle.scan_engine.proofs.BusLaws.{child_from}
use Rattle.scan_engine.proofs.SpanLaws.{before_span, behind_span}
use Rattle.scan_engine.proofs.spots.next_child.Goals as goal

pub loop-spot-init : goal.loop-spot-init
loop-spot-init c = λ x lt. before_span c.args.machine.now c.args.parent c.args.span c.args.place c.args.from x c.requires.span (omega (arith, lt))

pub returns-then-is_child : goal.returns-then-is_child
returns-then-is_child c =
    find-is _ (length c.args.machine.now.spots) c.loop-spot.spot (omega arith)
    (child_from (is_child c.args.machine.now c.args.parent c.args.place c.loop-spot.spot) c.loop-spot.spot c.args.from (sym c.is_child.ensures ∙ c.if-is_child.true) (omega arith))
    c.loop-spot.invariant

pub returns : goal.returns
returns c = find-none _ (length c.args.machine.now.spots) (λ x lt. elim (cases_lt x c.loop-spot.spot) [
  | inl less ↦ c.loop-spot.invariant x less
  | inr le ↦ behind_span c.args.machine.now c.args.parent c.args.span c.args.place c.args.from x c.requires.span (omega arith)
])
