use Rattle.run_rules.specs.World.{setup_of}
use Rattle.history_replay.proofs.Told.{may_replay}
use Rattle.app_tasks.proofs.ReplayLaws.{line_fits, retells}
use Rattle.app_tasks.proofs.replay.reread_history.Goals as goal

pub returns-in-Ok : goal.returns-in-Ok
returns-in-Ok c =
    retells (setup_of c.args.tables.now c.args.machine.now c.args.scripts.now) c.args.history.now c.in-Ok.told
    (may_replay c.args.tables.now c.args.machine.now c.args.scripts.now c.requires.formed c.requires.fits c.requires.few_scripts c.requires.scripts) c.in-Ok.ensures.rereads

pub overflow_cast-result : goal.overflow_cast-result
overflow_cast-result c =
    line_fits (setup_of c.args.tables.now c.args.machine.now c.args.scripts.now) c.args.history.now c.in-Err-Bad.line c.in-Err-Bad.field-0 c.requires.short c.in-Err-Bad.field-0-is
    c.in-Err-Bad.ensures.rereads
