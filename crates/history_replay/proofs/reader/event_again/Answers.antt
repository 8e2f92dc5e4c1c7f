use Rattle.std.proofs.Common.{◌∙◌, Bool, Some, ap, refl, sym}
use Rattle.run_rules.specs.declared.event.Event.{Event}
use Rattle.plain_event.specs.Told.{event_with}
use Rattle.plain_world.specs.Plain.{world_of}
use Rattle.history_replay.specs.Steps.{given}
use Rattle.history_replay.proofs.Joined.{line_same}
use Rattle.history_replay.proofs.reader.event_again.Goals as goal

pub returns-then-not-branch : goal.returns-then-not-branch
returns-then-not-branch c = λ s.
    let w = world_of s c.args.plain.now in
    let same = line_same w c.args.caller c.number_of-number.result c.args.kept.now.act c.deref.result.now c.args.line.now (c.number_of-number.ensures s) (c.deref.ensures.value ∙ c.args.kept.now.spelled) in
    ap (λ (b : Bool). given b (event_with w c.args.caller c.args.kept.now.act)) (sym same ∙ sym c.in_ok-is_line.ensures ∙ c.if-not-branch.true)

pub returns : goal.returns
returns c = λ s.
    let w = world_of s c.args.plain.now in
    let same = line_same w c.args.caller c.number_of-number.result c.args.kept.now.act c.deref.result.now c.args.line.now (c.number_of-number.ensures s) (c.deref.ensures.value ∙ c.args.kept.now.spelled) in
    ap (λ (b : Bool). given b (event_with w c.args.caller c.args.kept.now.act)) (sym same ∙ sym c.in_ok-is_line.ensures ∙ c.if-not-branch.false)
    ∙ ap (λ (e : Event). Some e) (rw (c.in_ok-act.ensures, c.number_of-number.ensures s) refl)
