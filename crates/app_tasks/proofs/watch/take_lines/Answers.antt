use Rattle.std.proofs.Common.{◌+◌, ◌∷◌, [], ◌++◌, List, get_or, length, subst, sym, take}
use Rattle.std.proofs.lemmas.List.{take_all, take_more}
use Rattle.run_rules.specs.declared.world.Setup.{Setup}
use Rattle.script_text.specs.declared.watch_line.WatchLine.{WatchLine}
use Rattle.script_text.specs.declared.watch_line.WatchLine.TheVariants.{Boot}
use Rattle.script_text.specs.WatchText.{FormedWatchLine}
use Rattle.app_tasks.specs.Watching.{IsReady, TakesLines}
use Rattle.app_tasks.proofs.WatchedLaws.{itself_ready, line_more, no_lines}
use Rattle.app_tasks.proofs.watch.take_lines.Goals as goal

pub loop-line-init : goal.loop-line-init
loop-line-init c = record { ready = c.requires.ready; takes = no_lines c.args.watch.now }

pub loop-line-preserved : goal.loop-line-preserved
loop-line-preserved c =
    let i = c.loop-line.line-index in
    let line : WatchLine = get_or c.args.lines.now i Boot in
    record {
      ready = subst (λ (s : Setup). IsReady s c.take_line.new.watch) c.loop-line.invariant.ready.setup c.in_ok-take_line.ensures.ready;
      takes = subst (λ (ls : List WatchLine). TakesLines ls c.args.watch.now c.take_line.new.watch) (sym (take_more c.args.lines.now i Boot c.loop-line-test.true))
          (line_more (take i c.args.lines.now) line c.args.watch.now c.loop-line.watch c.take_line.new.watch c.loop-line.invariant.takes c.in_ok-take_line.ensures.takes);
    }

pub returns-clause-takes : goal.returns-clause-takes
returns-clause-takes c =
    subst (λ (ls : List WatchLine). TakesLines ls c.args.watch.now c.loop-line.watch) (take_all c.loop-line.line-index c.args.lines.now c.loop-line-test.false) c.loop-line.invariant.takes

pub returns-clause-ready : goal.returns-clause-ready
returns-clause-ready c = c.loop-line.invariant.ready

pub take_line-requires-clause-formed : goal.take_line-requires-clause-formed
take_line-requires-clause-formed c =
    subst (λ (s : Setup). FormedWatchLine (length s.scripts) (get_or c.args.lines.now c.loop-line.line-index Boot)) (sym c.loop-line.invariant.ready.setup)
    (c.requires.formed c.loop-line.line-index Boot c.loop-line-test.true)

pub take_line-requires-clause-ready : goal.take_line-requires-clause-ready
take_line-requires-clause-ready c = itself_ready c.args.watch.now.board.world.setup c.loop-line.watch c.loop-line.invariant.ready
