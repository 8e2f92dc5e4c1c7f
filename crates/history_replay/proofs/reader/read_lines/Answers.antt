use Rattle.std.proofs.Common.{rules, ◌≡◌, ◌∙◌, List, ◌∷◌, ◌++◌, [], subst, sym}
use Rattle.run_rules.specs.declared.event.Event.{Event}
use Rattle.history_replay.specs.Readers.{setup_in, world_in}
use Rattle.history_replay.proofs.Readers.{going_still, same_first, same_later, step_still}
use Rattle.history_replay.proofs.Readings.{HasRead, line_bad, lines_gone, none_read, none_taken, one_more, some_taken, tree_met}
use Rattle.history_replay.proofs.reader.read_lines.Goals as goal

pub loop-line-init : goal.loop-line-init
loop-line-init c =
    let s = setup_in c.args.reader.now in
    let f = c.args.reader.now.format in
    let p = c.args.plain.now in
    record {
      read =
          subst (λ (es : List Event). HasRead s f (world_in c.args.reader.now p) c.args.first c.args.text.now es p c.args.first c.args.text.now) (sym c.in-Ok.ensures)
          (none_read s f p c.args.first c.args.text.now c.requires.going c.requires.next c.requires.few);
      same = same_first c.args.reader.now;
      follows = c.requires.follows;
    }

pub step-requires-clause-going : goal.step-requires-clause-going
step-requires-clause-going c = going_still c.args.reader.now c.loop-line.reader c.loop-line.plain c.loop-line.invariant.same c.loop-line.invariant.read.going

pub returns-then-is-clause-read : goal.returns-then-is-clause-read
returns-then-is-clause-read c =
    tree_met (setup_in c.args.reader.now) c.args.reader.now.format (world_in c.args.reader.now c.args.plain.now) c.args.first c.args.text.now c.loop-line.events c.loop-line.plain c.loop-line.number c.loop-line.left.now
    c.in-Some.line.now c.in-Some.rest.now c.loop-line.invariant.read c.in-Some.ensures (sym c.is.ensures ∙ c.if-is.true)

pub returns-in_default-told-clause-read : goal.returns-in_default-told-clause-read
returns-in_default-told-clause-read c =
    let told = step_still c.args.reader.now c.loop-line.reader c.loop-line.plain c.in-Some.line.now c.step.new.plain c.in-Ok-step.told c.loop-line.invariant.same c.in-Ok-step.ensures.told in
    line_bad (setup_in c.args.reader.now) c.args.reader.now.format (world_in c.args.reader.now c.args.plain.now) c.args.first c.args.text.now c.loop-line.events c.loop-line.plain c.loop-line.number c.loop-line.left.now
    c.in-Some.line.now c.in-Some.rest.now c.loop-line.invariant.read c.in-Some.ensures (sym c.is.ensures ∙ c.if-is.false)
    (none_taken (setup_in c.args.reader.now) c.step.new.plain c.in-Ok-step.told _ c.in_default-told.not-Some told.told)

pub loop-line-preserved : goal.loop-line-preserved
loop-line-preserved c =
    let pushed : c.push.new.self ≡ c.loop-line.events ++ c.in-Some-told.event ∷ [] = search rules in
    let told = step_still c.args.reader.now c.loop-line.reader c.loop-line.plain c.in-Some.line.now c.step.new.plain c.in-Ok-step.told c.loop-line.invariant.same c.in-Ok-step.ensures.told in
    record {
      read =
          one_more (setup_in c.args.reader.now) c.args.reader.now.format (world_in c.args.reader.now c.args.plain.now) c.args.first c.args.text.now c.loop-line.events c.loop-line.plain c.loop-line.number c.loop-line.left.now
          c.in-Some.line.now c.in-Some.rest.now c.in-Some-told.event c.step.new.plain c.push.new.self c.loop-line.invariant.read c.in-Some.ensures (sym c.is.ensures ∙ c.if-is.false)
          (some_taken (setup_in c.args.reader.now) c.step.new.plain c.in-Ok-step.told _ c.in-Some-told.event c.in-Some-told.is told.told)
          told.going told.next pushed;
      same = same_later c.args.reader.now c.loop-line.reader c.step.new.reader c.loop-line.invariant.same c.step.ensures.same;
      follows = c.in-Ok-step.ensures.follows;
    }

pub returns-clause-read : goal.returns-clause-read
returns-clause-read c =
    lines_gone (setup_in c.args.reader.now) c.args.reader.now.format (world_in c.args.reader.now c.args.plain.now) c.args.first c.args.text.now c.loop-line.events c.loop-line.plain c.loop-line.number c.loop-line.left.now
    c.loop-line.invariant.read c.in_default-first_line.ensures
