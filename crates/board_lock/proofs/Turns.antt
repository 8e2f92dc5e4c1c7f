-- The turns of one call, one after the other.
use Rattle.std.proofs.Common.{◌≡◌, ◌∙◌, ◌≤◌, ℕ, Option, Some, None, List, [], ◌∷◌, ◌++◌, refl, sym, ap, subst, arith, length-append, ◌+◌}
use Rattle.std.specs.List.{AllByRecursion}
use Rattle.run_rules.specs.World.{World}
use Rattle.run_sound.proofs.Callers.{all_append}
use Rattle.board_lock.specs.declared.turn.LockAnswer.{LockAnswer}
use Rattle.board_lock.specs.declared.turn.LockAnswer.TheVariants as turn
use Rattle.board_lock.specs.Seats.{SeatShown}
use Rattle.board_lock.specs.Turning.{EventsAre, IsEvent, LastIs, RestIs, StepsAre, TriesAre, TryIs, TurnIs, TurnsAre}

event_keeps : (w : World) (s : SeatShown) (x : LockAnswer) (t : SeatShown) → IsEvent x → TurnIs w s x t → (t.caller ≡ s.caller) × (t.stops ≡ s.stops)
event_keeps w s (turn.Did p told) t is done = (ap (λ (x : SeatShown). x.caller) done.2, ap (λ (x : SeatShown). x.stops) done.2)
event_keeps w s (turn.Transfer ticket told) t is done = absurd is
event_keeps w s turn.Closed t is done = absurd is
event_keeps w s (turn.Stale kept told) t is done = absurd is
event_keeps w s (turn.Stopped j told) t is done = absurd is
event_keeps w s turn.Stuck t is done = absurd is
event_keeps w s turn.Memory t is done = absurd is

-- what a caller that has to wait is answered is a turn
pub rest_turn : (w : World) (s : SeatShown) (x : LockAnswer) (t : SeatShown) → RestIs w (Some x) → t ≡ s → TurnIs w s x t
rest_turn w s turn.Stuck t stuck same = (same, stuck)
rest_turn w s turn.Memory t rest same = same
rest_turn w s (turn.Did p told) t rest same = absurd rest
rest_turn w s (turn.Transfer ticket told) t rest same = absurd rest
rest_turn w s turn.Closed t rest same = absurd rest
rest_turn w s (turn.Stale kept told) t rest same = absurd rest
rest_turn w s (turn.Stopped j told) t rest same = absurd rest

-- events leave the caller and its stops
events_keep : (w : World) (s : SeatShown) (xs : List LockAnswer) (t : SeatShown) → AllByRecursion IsEvent xs → TurnsAre w s xs t → (t.caller ≡ s.caller) × (t.stops ≡ s.stops)
events_keep w s [] t each same = (ap (λ (x : SeatShown). x.caller) same, ap (λ (x : SeatShown). x.stops) same)
events_keep w s (x ∷ xs) t each (middle, one, more) =
    let first = event_keeps w s x middle each.0 one in
    let rest = events_keep w middle xs t each.1 more in
    (rest.0 ∙ first.0, rest.1 ∙ first.1)

-- one turn more
turns_then : (w : World) (s : SeatShown) (xs : List LockAnswer) (m : SeatShown) (x : LockAnswer) (t : SeatShown) → TurnsAre w s xs m → TurnIs w m x t → TurnsAre w s (xs ++ x ∷ []) t
turns_then w s [] m x t same one = (t, subst (λ (u : SeatShown). TurnIs w u x t) same one, refl)
turns_then w s (y ∷ ys) m x t (middle, first, more) one = (middle, first, turns_then w middle ys m x t more one)

-- the last turn
last_turn : (w : World) (s : SeatShown) (xs : List LockAnswer) (x : LockAnswer) (t : SeatShown) → TurnsAre w s (xs ++ x ∷ []) t → (m : SeatShown) × TurnsAre w s xs m × TurnIs w m x t
last_turn w s [] x t (middle, one, same) = (s, refl, subst (λ (u : SeatShown). TurnIs w s x u) (sym same) one)
last_turn w s (y ∷ ys) x t (middle, first, more) = let rest = last_turn w middle ys x t more in (rest.0, (middle, first, rest.1), rest.2)

-- no turn yet
pub none_yet : (w : World) (s : SeatShown) → EventsAre w s 1 s
none_yet w s = record { events = []; few = omega arith; each = tt; turns = refl }

pub event_more : (w : World) (s m : SeatShown) (n : ℕ) (x : LockAnswer) (t : SeatShown) → EventsAre w s n m → IsEvent x → TurnIs w m x t → EventsAre w s (n + 1) t
event_more w s m n x t so is one = record {
  events = so.events ++ x ∷ [];
  few = let few = so.few in let long = length-append so.events (x ∷ []) in omega arith;
  each = all_append IsEvent so.events (x ∷ []) so.each (is, tt);
  turns = turns_then w s so.events m x t so.turns one;
}

few_events : (w : World) (s t : SeatShown) (n m : ℕ) → n ≤ m → EventsAre w s n t → EventsAre w s m t
few_events w s t n m most so = record { events = so.events; few = let few = so.few in omega arith; each = so.each; turns = so.turns }

-- an answer after some events
pub answered : (w : World) (s m : SeatShown) (n : ℕ) (x : LockAnswer) (t : SeatShown) → n ≤ 32 → EventsAre w s n m → TurnIs w m x t → StepsAre w s x t
answered w s m n x t most so one = record { events = so.events; few = let few = so.few in omega arith; each = so.each; turns = turns_then w s so.events m x t so.turns one }

-- an answer, or none
pub tried : (w : World) (s m : SeatShown) (n : ℕ) (r : Option LockAnswer) (t : SeatShown) → n ≤ 32 → EventsAre w s n m → TryIs w m r t → TriesAre w s r t
tried w s m n None t most so same = subst (EventsAre w s 32) (sym same) (few_events w s m n 32 most so)
tried w s m n (Some x) t most so one = answered w s m n x t most so one

pub last_is : (w : World) (s : SeatShown) (x : LockAnswer) (t : SeatShown) → StepsAre w s x t → LastIs w s x t
last_is w s x t so =
    let parts = last_turn w s so.events x t so.turns in
    let keeps = events_keep w s so.events parts.0 so.each parts.1 in
    record { middle = parts.0; caller = keeps.0; stops = keeps.1; last = parts.2 }
