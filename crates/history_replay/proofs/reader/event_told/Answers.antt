use Rattle.plain_world.proofs.Ready.{few_devices, has_caller}
use Rattle.run_sound.proofs.Told.{may_be_told}
use Rattle.history_replay.specs.Readers.{setup_in, world_in}
use Rattle.history_replay.proofs.Readings.{ok_more, same_act, same_event}
use Rattle.history_replay.proofs.reader.event_told.Goals as goal

pub event_again-requires : goal.event_again-requires
event_again-requires c =
    has_caller (setup_in c.args.reader.now) c.args.plain.now c.args.caller c.args.deed.now c.stands.ensures c.requires.going.kept c.requires.due.chosen

pub returns-in-Some-clause-told : goal.returns-in-Some-clause-told
returns-in-Some-clause-told c =
    ok_more c.event_again.result (c.event_again.ensures (setup_in c.args.reader.now)) (λ e told.
    same_act c.args.reader.now.format (world_in c.args.reader.now c.args.plain.now) c.args.caller c.args.deed.now c.in-Some.kept.now.act c.args.line.now e
    c.in-Some.ensures.format (c.in-Some.ensures.act c.args.caller) told)

pub event_of-requires : goal.event_of-requires
event_of-requires c =
    let s = setup_in c.args.reader.now in
    record {
      few = few_devices s c.args.plain.now c.stands.ensures c.requires.going.kept;
      caller = has_caller s c.args.plain.now c.args.caller c.args.deed.now c.stands.ensures c.requires.going.kept c.requires.due.chosen;
      may = may_be_told (world_in c.args.reader.now c.args.plain.now) c.args.caller c.args.deed.now c.requires.going.kept c.requires.going.calls c.requires.due.chosen;
    }

pub returns-in-Ok-clause-told : goal.returns-in-Ok-clause-told
returns-in-Ok-clause-told c =
    ok_more c.event_if.result c.event_if.ensures (λ e told.
    same_event c.args.reader.now.format (world_in c.args.reader.now c.args.plain.now) c.args.caller c.args.deed.now c.args.line.now c.in-Ok.event e c.in-Ok.ensures.event told)
