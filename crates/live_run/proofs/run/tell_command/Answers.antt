use Rattle.std.proofs.Common.{List, subst}
use Rattle.live_rules.specs.declared.plan.LiveLine.{LiveLine}
use Rattle.live_rules.specs.Live.{answer}
use Rattle.live_tables.specs.Answers.{Answers}
use Rattle.live_run.proofs.Tellings.{tells_if}
use Rattle.live_run.proofs.run.tell_command.Goals as goal

pub returns : goal.returns
returns c =
    tells_if c.push_answer.result c.args.live.now c.run_command.new.live c.args.command c.run_command.new.lines c.items.result.now c.in_ok-reply.reply c.groups.result.now c.args.out.now c.push_answer.new.lines
    c.stands.ensures.sound c.stands-2.ensures.sound c.stands.ensures.bounded.few_spots
    (subst (λ (lines : List LiveLine). Answers c.args.live.now c.run_command.new.live lines c.run_command.new.lines (answer c.args.live.now.site c.args.live.now.world c.args.command) c.in_ok-reply.reply) c.make-lines.ensures c.in_ok-reply.ensures)
    c.groups.ensures c.items.ensures c.push_answer.ensures
