use Rattle.std.proofs.Common.{◌+◌, ◌∙◌, refl, arith, ap, subst, sym}
use Rattle.plain_world.specs.declared.world.Plain.{Plain}
use Rattle.plain_world.specs.Plain.{world_of}
use Rattle.run_rules.specs.Reread.{history_lines, reread_lines}
use Rattle.history_replay.specs.Going.{IsGoing}
use Rattle.history_replay.specs.Stops.{IsRead}
use Rattle.history_replay.proofs.Readings.{all_passed, head_met, line_passed, none_passed, not_some}
use Rattle.history_replay.proofs.reader.read_history.Goals as goal

pub loop-line-init : goal.loop-line-init
loop-line-init c = record { same = refl; passed = none_passed (world_of c.args.rules.now c.args.plain.now) c.args.text.now }

pub read_behind_head-requires-clause-going : goal.read_behind_head-requires-clause-going
read_behind_head-requires-clause-going c = subst (IsGoing c.args.rules.now) (sym c.loop-line.invariant.same) c.requires.going

pub read_behind_head-requires-clause-none : goal.read_behind_head-requires-clause-none
read_behind_head-requires-clause-none c = ap (λ (p : Plain). p.live.devices) c.loop-line.invariant.same ∙ c.requires.none

pub read_behind_head-requires-clause-next : goal.read_behind_head-requires-clause-next
read_behind_head-requires-clause-next c = omega (arith, c.requires.next, c.loop-line.invariant.passed.counted, ap (λ (p : Plain). p.live.next) c.loop-line.invariant.same)

pub returns-in-Some-format_of-clause-read : goal.returns-in-Some-format_of-clause-read
returns-in-Some-format_of-clause-read c =
    let head =
    head_met (world_of c.args.rules.now c.args.plain.now) c.args.text.now c.loop-line.number c.loop-line.left.now c.in-Some.line.now c.in-Some.rest.now c.in-Some-format_of.format c.loop-line.invariant.passed
    c.in-Some.ensures (sym c.format_of.ensures ∙ c.in-Some-format_of.is) in
    let here = ap (λ (p : Plain). reread_lines c.in-Some-format_of.format (world_of c.args.rules.now p) (c.loop-line.number + 1) (history_lines c.in-Some.rest.now)) (sym c.loop-line.invariant.same) in
    subst (λ r. IsRead r c.read_behind_head.result (world_of c.args.rules.now c.read_behind_head.new.plain)) (sym (head ∙ here)) c.read_behind_head.ensures.read

pub loop-line-preserved : goal.loop-line-preserved
loop-line-preserved c = record {
  same = c.loop-line.invariant.same;
  passed =
      line_passed (world_of c.args.rules.now c.args.plain.now) c.args.text.now c.loop-line.number c.loop-line.left.now c.in-Some.line.now c.in-Some.rest.now c.loop-line.invariant.passed c.in-Some.ensures
      (sym c.format_of.ensures ∙ not_some _ c.in_default-format_of.not-Some);
}

pub returns-clause-read : goal.returns-clause-read
returns-clause-read c = all_passed (world_of c.args.rules.now c.args.plain.now) c.args.text.now c.loop-line.number c.loop-line.left.now c.loop-line.invariant.passed c.in_default.ensures
