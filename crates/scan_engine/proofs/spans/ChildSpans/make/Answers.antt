use Rattle.std.proofs.Common.{◌≡◌, ◌∙◌, length, get_or, ap, arith}
use Rattle.std.proofs.lemmas.Option.{slice_get_read}
use Rattle.run_rules.proofs.Spans.{spans_all, spans_more}
use Rattle.scan_engine.proofs.spans.ChildSpans.make.Goals as goal

pub loop-number-preserved : goal.loop-number-preserved
loop-number-preserved c =
    let spots : c.items-spot-items.result.now ≡ c.args.machine.now.spots = c.items-spot-items.ensures in
    let at = slice_get_read c.args.machine.now.spots _ c.loop-number.number c.spot-item.result (ap length spots) c.loop-number-test.true
    (c.spot-item.is ∙ ap (λ xs. get_or xs c.loop-number.number c.spot-item.result) spots) in
    spans_more c.args.machine.now c.loop-number.number c.spot-item.result c.loop-number.spans c.put.new.self at c.put.ensures.here (λ p x lt covers. c.put.ensures.rest p x covers) c.loop-number.invariant

pub returns : goal.returns
returns c =
    let spots : c.items-spot-items.result.now ≡ c.args.machine.now.spots = c.items-spot-items.ensures in
    spans_all c.args.machine.now c.loop-number.number c.loop-number.spans (omega (arith, ap length spots, c.loop-number-test.false, c.loop-number.auto.number-end)) c.loop-number.invariant
