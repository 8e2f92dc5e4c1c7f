use Rattle.std.proofs.Common.{vec_len, vec_capacity}
use Rattle.drv_workers.proofs.Rooms.{room}
use Rattle.drv_workers.proofs.run.run_all.Goals as goal

pub run_scope-done-requires-clause-room : goal.run_scope-done-requires-clause-room
run_scope-done-requires-clause-room g c = λ κs bounds. (
  c.in_ok-done.ensures.len,
  room (vec_capacity c.in_ok-done.done) c.len.result (vec_len c.values_of-seats.result) c.in_ok-done.ensures.capacity c.len.ensures,
)
