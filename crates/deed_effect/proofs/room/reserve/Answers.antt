use Rattle.std.proofs.Common.{ap, refl}
use Rattle.run_world.specs.View.{world_of}
use Rattle.run_world.proofs.CallerLaws.{room_made, with_callers}
use Rattle.deed_effect.proofs.room.reserve.Goals as goal

pub returns-in_err-reserve-clause-world : goal.returns-in_err-reserve-clause-world
returns-in_err-reserve-clause-world c = λ s.
    ap (with_callers (world_of s c.args.core.now))
    (room_made c.args.core.now.callers.items c.args.caller c.index_mut.result.now c.reserve.new.self c.requires c.index_mut.ensures.value c.in_err-reserve.ensures.frames)

pub returns-in_err-make_room-clause-world : goal.returns-in_err-make_room-clause-world
returns-in_err-make_room-clause-world c = λ s.
    rw (
      room_made c.args.core.now.callers.items c.args.caller c.index_mut.result.now c.reserve.new.self c.requires c.index_mut.ensures.value c.in_ok-reserve.ensures.frames,
      c.in_err-make_room.ensures.items,
    ) refl

pub returns-clause-world : goal.returns-clause-world
returns-clause-world c = λ s.
    rw (
      room_made c.args.core.now.callers.items c.args.caller c.index_mut.result.now c.reserve.new.self c.requires c.index_mut.ensures.value c.in_ok-reserve.ensures.frames,
      c.in_ok-make_room.ensures.items,
    ) refl
