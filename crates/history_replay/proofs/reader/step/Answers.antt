use Rattle.replay_laws.proofs.Callers.{caller_is, caller_none}
use Rattle.history_replay.specs.Readers.{setup_in}
use Rattle.history_replay.proofs.Readings.{nobody_tells, ok_more, step_tells}
use Rattle.history_replay.proofs.reader.step.Goals as goal

pub returns-in-None-clause-told : goal.returns-in-None-clause-told
returns-in-None-clause-told c =
    nobody_tells (setup_in c.args.reader.now) c.args.reader.now.format c.args.plain.now c.args.line.now c.requires.going (caller_none c.args.line.now c.in-None.ensures)

pub returns-in-Some-clause-told : goal.returns-in-Some-clause-told
returns-in-Some-clause-told c =
    ok_more c.told_by.result c.told_by.ensures.told (λ e.
    step_tells (setup_in c.args.reader.now) c.args.reader.now.format c.args.plain.now c.in-Some.caller c.args.line.now c.told_by.new.plain e (caller_is c.args.line.now c.in-Some.caller c.in-Some.ensures))
