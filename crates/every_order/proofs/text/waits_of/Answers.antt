use Rattle.std.proofs.Common.{◌++◌, ◌+◌, ◌∙◌, ℕ, List, sym, ap, arith}
use Rattle.cf_types.specs.Lines.{text_of}
use Rattle.plain_world.specs.Plain.{world_of}
use Rattle.wait_lines.specs.Waits.{lines_at}
use Rattle.plain_world.proofs.RulesLaws.{scripts_are}
use Rattle.every_order.proofs.Waiting.{all_lines, one_more_line}
use Rattle.every_order.proofs.text.waits_of.Goals as goal

pub loop-place-preserved : goal.loop-place-preserved
loop-place-preserved c =
    let w = world_of c.args.seeker.now.rules.now c.args.plain.now in
    c.in_ok-put_caller.ensures ∙ ap (λ (t : List ℕ). t ++ text_of (lines_at w (c.loop-place.place + 1))) c.loop-place.invariant ∙ sym (one_more_line w c.loop-place.place)

pub returns : goal.returns
returns c =
    let w = world_of c.args.seeker.now.rules.now c.args.plain.now in
    c.loop-place.invariant ∙ ap text_of (all_lines w c.loop-place.place (omega (arith, scripts_are c.rules.inside c.args.seeker.now.rules.now c.rules.view_is, c.loop-place-test.false, c.loop-place.auto.place-end)))
