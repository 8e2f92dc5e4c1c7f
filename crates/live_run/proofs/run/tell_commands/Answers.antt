use Rattle.std.proofs.Common.{◌≡◌, ◌≤◌, ◌∙◌, ap, arith, sym, subst}
use Rattle.live_run.proofs.Tellings.{after_more, all_done, all_told, one_more}
use Rattle.live_tables.specs.Running.{Running}
use Rattle.live_run.proofs.run.tell_commands.Goals as goal

pub loop-command-preserved : goal.loop-command-preserved
loop-command-preserved c =
    let told = c.in_ok-tell_command.ensures in
    let so_far = c.loop-command.invariant in
    record {
      site = ap (λ (x : Running). x.site) told.running ∙ so_far.site;
      next = omega (arith, told.serials, so_far.next);
      lines = one_more c.args.live.now.site c.loop-command.live c.tell_command.new.live c.args.commands.now c.loop-command.command-index _ c.loop-command.out c.tell_command.new.out _
          so_far.site c.loop-command-test.true told so_far.lines;
      world = after_more c.args.live.now.site c.loop-command.live c.tell_command.new.live c.args.commands.now c.loop-command.command-index _ c.loop-command.out c.tell_command.new.out _
          so_far.site c.loop-command-test.true told so_far.world;
    }

pub returns-clause-text : goal.returns-clause-text
returns-clause-text c = all_told c.args.live.now.site c.loop-command.live.world c.args.commands.now c.loop-command.command-index _ _ c.loop-command-test.false c.loop-command.invariant.lines

pub returns-clause-world : goal.returns-clause-world
returns-clause-world c = all_done c.args.live.now.site c.loop-command.live.world _ c.args.commands.now c.loop-command.command-index c.loop-command-test.false c.loop-command.invariant.world
