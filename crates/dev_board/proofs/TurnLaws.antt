-- What turns do, one after the other.
use Rattle.std.proofs.Common.{◌≡◌, ℕ, true, List, [], ◌∷◌, ◌++◌, None, refl, sym, ◌∙◌, ap, append_assoc, arith}
use Rattle.std.proofs.lemmas.List.{append-nil}
use Rattle.run_rules.specs.declared.event.Event.{Event}
use Rattle.run_rules.specs.declared.world.Dev.{Dev}
use Rattle.run_rules.specs.declared.world.Wait.{Wait}
use Rattle.run_rules.specs.declared.world.Wait.TheVariants as wait
use Rattle.run_rules.specs.World.{World, has_ended}
use Rattle.run_rules.specs.After.{after}
use Rattle.run_rules.specs.declared.deed.Choice.{Choice}
use Rattle.run_rules.specs.declared.deed.Deed.{Deed}
use Rattle.run_rules.specs.declared.deed.Choice.TheVariants.{Does, Ended, Waits}
use Rattle.run_rules.specs.Next.{next}
use Rattle.run_rules.specs.Run.{event_of, played, taken}
use Rattle.run_rules.proofs.Setups.{after_setup}
use Rattle.dev_board.specs.Playing.{Plays}
use Rattle.dev_board.specs.Shown.{Shown}
use Rattle.dev_board.specs.Stepping.{DenialsAre, DoesNext, WaitIs}
use Rattle.dev_board.specs.Witness.{Witness}
use Rattle.dev_board.specs.declared.stepped.Stepped.TheVariants as stepped
use Rattle.dev_board.proofs.NextLaws.{ended_next}

-- ---- one turn

taken_does : (w : World) (k : ℕ) (d : Deed) → next w k ≡ Does d → played w (k ∷ []) ≡ (event_of w k d ∷ [], after w k d)
unfolding played
taken_does w k d e = rw e refl

taken_waits : (w : World) (k : ℕ) (why : Wait) → next w k ≡ Waits why → played w (k ∷ []) ≡ ([], w)
unfolding played
taken_waits w k why e = rw e refl

taken_ended : (w : World) (k : ℕ) → next w k ≡ Ended → played w (k ∷ []) ≡ ([], w)
unfolding played
taken_ended w k e = rw e refl

pub did_plays : (b n : Shown) (k place : ℕ) (told : Witness) → DoesNext b k place told n → Plays b (k ∷ []) n
did_plays b n k place told did =
    let is = taken_does b.world k did.deed did.chosen in
    record {
      world = rw is (ap (λ (s : Shown). s.world) did.board);
      events = rw is (ap (λ (s : Shown). s.events) did.board);
      stops = ap (λ (s : Shown). s.stops) did.board;
      stopped = ap (λ (s : Shown). s.stopped) did.board;
    }

passed : (b n : Shown) (k : ℕ) → played b.world (k ∷ []) ≡ ([], b.world) → n ≡ b → Plays b (k ∷ []) n
passed b n k none same = record {
  world = rw none (ap (λ (s : Shown). s.world) same);
  events = rw none (ap (λ (s : Shown). s.events) same ∙ sym (append-nil b.events));
  stops = ap (λ (s : Shown). s.stops) same;
  stopped = ap (λ (s : Shown). s.stopped) same;
}

pub closed_plays : (b n : Shown) (k : ℕ) → has_ended b.world k ≡ true → n ≡ b → Plays b (k ∷ []) n
closed_plays b n k over same = passed b n k (taken_ended b.world k (ended_next b.world k over)) same

-- over slots that nobody holds no caller waits for leases
pub waits_plays : (b n : Shown) (k : ℕ) (why : Wait) (live : List Dev) → WaitIs b.world k why → DenialsAre live 0 None (stepped.Waits why) 0 None → n ≡ b → Plays b (k ∷ []) n
waits_plays b n k wait.Boot live is quiet same = passed b n k (taken_waits b.world k wait.Boot is) same
waits_plays b n k (wait.Power other) live is quiet same = passed b n k (taken_waits b.world k (wait.Power other) is) same
waits_plays b n k (wait.Refs s) live is quiet same = passed b n k (taken_waits b.world k (wait.Refs s) is) same
waits_plays b n k (wait.Scan s) live is quiet same = passed b n k (taken_waits b.world k (wait.Scan s) is) same
waits_plays b n k (wait.Leases of mask) live is quiet same = absurd (omega (arith, quiet.denied_so.more))

-- ---- one turn more

played_append : (w : World) (xs ys : List ℕ) → played w (xs ++ ys) ≡ ((played w xs).0 ++ (played (played w xs).1 ys).0, (played (played w xs).1 ys).1)
unfolding played
played_append w [] ys = refl
played_append w (x ∷ xs) ys =
    let one = taken w x (next w x) in
    let more = played_append one.1 xs ys in
    let first = played one.1 xs in
    let last = played first.1 ys in
    rw more (ap (λ (h : List Event). (h, last.1)) (sym (append_assoc one.0 first.0 last.0)))

pub turn_more : (b m n : Shown) (xs ys : List ℕ) → Plays b xs m → Plays m ys n → Plays b (xs ++ ys) n
turn_more b m n xs ys so did =
    let is = played_append b.world xs ys in
    record {
      world = rw is (did.world ∙ ap (λ (w : World). (played w ys).1) so.world);
      events = rw is
          (did.events ∙ ap (λ (w : World). m.events ++ (played w ys).0) so.world ∙ ap (λ (h : List Event). h ++ (played (played b.world xs).1 ys).0) so.events
          ∙ append_assoc b.events (played b.world xs).0 (played (played b.world xs).1 ys).0);
      stops = did.stops ∙ so.stops;
      stopped = did.stopped ∙ so.stopped;
    }

pub none_played : (b : Shown) → Plays b [] b
unfolding played
none_played b = record { world = refl; events = sym (append-nil b.events); stops = refl; stopped = refl }

-- ---- the setup stays

taken_setup : (w : World) (k : ℕ) (c : Choice) → (taken w k c).1.setup ≡ w.setup
taken_setup w k (Does d) = after_setup w k d
taken_setup w k (Waits why) = refl
taken_setup w k Ended = refl

played_setup : (w : World) (order : List ℕ) → (played w order).1.setup ≡ w.setup
unfolding played
played_setup w [] = refl
played_setup w (k ∷ ks) = played_setup (taken w k (next w k)).1 ks ∙ taken_setup w k (next w k)

pub plays_setup : (b n : Shown) (order : List ℕ) → Plays b order n → n.world.setup ≡ b.world.setup
plays_setup b n order did = ap (λ (w : World). w.setup) did.world ∙ played_setup b.world order
