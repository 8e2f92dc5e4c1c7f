use Rattle.std.proofs.Common.{get_or, length, subst, sym}
use Rattle.run_rules.specs.declared.world.Setup.{Setup}
use Rattle.run_rules.specs.World.{setup_of}
use Rattle.script_text.specs.WatchText.{FormedWatchLine}
use Rattle.app_tasks.specs.Watching.{IsReady}
use Rattle.app_tasks.proofs.WatchedLaws.{itself_ready, watch_of}
use Rattle.app_tasks.proofs.watch.watched.Goals as goal

pub take_lines-requires-clause-ready : goal.take_lines-requires-clause-ready
take_lines-requires-clause-ready c = itself_ready (setup_of c.args.tables c.args.machine c.args.scripts) c.in_ok-watch.watch c.in_ok-watch.ensures.ready

pub take_lines-requires-clause-formed : goal.take_lines-requires-clause-formed
take_lines-requires-clause-formed c = λ k d within.
    subst (λ (s : Setup). FormedWatchLine (length s.scripts) (get_or c.args.lines.now k d)) (sym c.in_ok-watch.ensures.ready.setup) (c.requires.lines k d within)

pub returns-in-Ok : goal.returns-in-Ok
returns-in-Ok c =
    let s : Setup = setup_of c.args.tables c.args.machine c.args.scripts in
    watch_of s c.args.lines.now c.in_ok-watch.watch c.take_lines.new.watch c.in_ok-watch.ensures.world c.in_ok-watch.ensures.at c.in_ok-watch.ensures.none
    (subst (λ (t : Setup). IsReady t c.take_lines.new.watch) c.in_ok-watch.ensures.ready.setup c.in-Ok.ensures.ready) c.in-Ok.ensures.takes c.stands.ensures.reliable c.stands.ensures.thorough
