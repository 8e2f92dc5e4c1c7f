use Rattle.std.proofs.Common.{◌≡◌, take}
use Rattle.dev_monitor.specs.Queues.{IsOf}
use Rattle.dev_monitor.specs.Subscribers.{IsFront, Watched, with_all}
use Rattle.dev_monitor.proofs.monitor.Monitor.take_in.Given as goal

-- the events up to this place were taken in
abbrev pub invariant-loop-place : goal.invariant-loop-place
invariant-loop-place l = record {
  taken : l.self.taken ≡ l.place;
  stands : (w : Watched) → IsOf w l.initial.self → IsFront w.events l.board.events → IsOf (with_all w (take l.place l.board.events)) l.self;
}
