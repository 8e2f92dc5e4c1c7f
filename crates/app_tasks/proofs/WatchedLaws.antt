-- What the lines of a watch file do to a run that is watched.
use Rattle.std.proofs.Common.{◌≡◌, ◌≤◌, ◌<◌, ℕ, zero, suc, ◌+◌, ◌-◌, Bool, true, false, cond, List, [], ◌∷◌, ◌++◌, length, append_assoc, append-nil, arith, refl, sym, ap, ◌∙◌, subst, Option, Some, None}
use Rattle.std.specs.Prelude.{is_some, replicate, OnOk, Result, Ok, Err, ⊤}
use Rattle.cf_types.specs.declared.machine.Command.{Command}
use Rattle.boot_laws.specs.Thorough.{IsThorough}
use Rattle.dev_board.specs.Booting.{Boots}
use Rattle.dev_board.specs.Playing.{Plays}
use Rattle.dev_board.specs.Shown.{Shown}
use Rattle.dev_board.proofs.Began.{opening_setup}
use Rattle.dev_board.proofs.OpenSlots.{slots_opening}
use Rattle.dev_board.proofs.TurnLaws.{plays_setup}
use Rattle.ref_ledger.specs.declared.state.SlotState.TheVariants.{Free}
use Rattle.deed_effect.specs.Agreement.{slots_of}
use Rattle.dev_monitor.specs.Queues.{Becomes, IsOf, TakesAll}
use Rattle.dev_monitor.specs.Subscribers.{IsFront, Watched, after_read, read_by, unwatched, with_all, with_events, with_reader}
use Rattle.dev_monitor.specs.declared.note.Note.{Note}
use Rattle.dev_monitor.specs.declared.reading.Reading.{Reading}
use Rattle.history_laws.specs.Reliable.{IsReliable}
use Rattle.run_rules.specs.declared.event.Event.{Event}
use Rattle.run_rules.specs.declared.world.Setup.{Setup}
use Rattle.run_rules.specs.Run.{played}
use Rattle.run_rules.specs.World.{World, opening}
use Rattle.run_rules.proofs.Setups.{run_setup}
use Rattle.script_text.specs.declared.watch_line.WatchLine.{WatchLine}
use Rattle.script_text.specs.declared.watch_line.WatchLine.TheVariants.{Boot, Read, Sub, Turn}
use Rattle.app_tasks.specs.declared.watch.Watch.{Watch}
use Rattle.app_tasks.specs.Watched.{IsWatchOf, LineDoes, LinesDo, after_readings, readings}
use Rattle.app_tasks.specs.Watching.{DidLine, DidLines, IsAt, IsReady, TakesLine, TakesLines}

-- what an answer says where it is no stop
pub where_ok : {A E : Type 0} (P Q : Type 0) (r : Result A E) → OnOk r P → (P → Q) → OnOk r Q
where_ok P Q (Ok x) p f = f p
where_ok P Q (Err e) p f = tt

pub also_ok : {A E : Type 0} (Q : Type 0) (r : Result A E) → Q → OnOk r Q
also_ok Q (Ok x) q = q
also_ok Q (Err e) q = tt

both_ok : {A E : Type 0} (P Q R : Type 0) (r : Result A E) → OnOk r P → OnOk r Q → (P → Q → R) → OnOk r R
both_ok P Q R (Ok x) p q f = f p q
both_ok P Q R (Err e) p q f = tt

-- ---- reads

abbrev reading : ℕ → Option Note → Reading
reading who note = record { who = who; note = note }

-- what was told and what is left to tell is what was to be told
pub record IsLeft (who left most : ℕ) (g v : Watched) (before told : List Reading) : Type 0 where
  pub tells : told ++ readings left who v ≡ before ++ readings most who g
  pub after : after_readings left who v ≡ after_readings most who g

pub all_left : (who left most : ℕ) (g : Watched) (before : List Reading) → left ≡ most → IsLeft who left most g g before before
all_left who left most g before same = record {
  tells = ap (λ (n : ℕ). before ++ readings n who g) same;
  after = ap (λ (n : ℕ). after_readings n who g) same;
}

-- a read that tells something
one_told : (who n : ℕ) (v : Watched) (note : Option Note) → note ≡ read_by v who → is_some note ≡ true
    → (readings (suc n) who v ≡ reading who note ∷ readings n who (after_read v who)) × (after_readings (suc n) who v ≡ after_readings n who (after_read v who))
one_told who n v note is some = (
  ap (λ (o : Option Note). reading who o ∷ cond (is_some o) (readings n who (after_read v who)) []) (sym is) ∙ ap (λ (b : Bool). reading who note ∷ cond b (readings n who (after_read v who)) []) some,
  ap (λ (o : Option Note). cond (is_some o) (after_readings n who (after_read v who)) (after_read v who)) (sym is) ∙ ap (λ (b : Bool). cond b (after_readings n who (after_read v who)) (after_read v who)) some,
)

pub told_more : (who left n most : ℕ) (g v : Watched) (before told new : List Reading) (note : Option Note) → left ≡ suc n → note ≡ read_by v who → is_some note ≡ true → new ≡ told ++ reading who note ∷ []
    → IsLeft who left most g v before told → IsLeft who n most g (after_read v who) before new
told_more who left n most g v before told new note many is some grew so =
    let one = one_told who n v note is some in
    record {
      tells = ap (λ (rs : List Reading). rs ++ readings n who (after_read v who)) grew ∙ append_assoc told (reading who note ∷ []) (readings n who (after_read v who))
          ∙ ap (λ (rs : List Reading). told ++ rs) (sym one.0) ∙ ap (λ (k : ℕ). told ++ readings k who v) (sym many) ∙ so.tells;
      after = sym one.1 ∙ ap (λ (k : ℕ). after_readings k who v) (sym many) ∙ so.after;
    }

-- a read that tells nothing
none_told : (who n : ℕ) (v : Watched) (note : Option Note) → note ≡ read_by v who → is_some note ≡ false
    → (readings (suc n) who v ≡ reading who note ∷ []) × (after_readings (suc n) who v ≡ after_read v who)
none_told who n v note is none = (
  ap (λ (o : Option Note). reading who o ∷ cond (is_some o) (readings n who (after_read v who)) []) (sym is) ∙ ap (λ (b : Bool). reading who note ∷ cond b (readings n who (after_read v who)) []) none,
  ap (λ (o : Option Note). cond (is_some o) (after_readings n who (after_read v who)) (after_read v who)) (sym is) ∙ ap (λ (b : Bool). cond b (after_readings n who (after_read v who)) (after_read v who)) none,
)

pub record AllTold (who most : ℕ) (g v : Watched) (before told : List Reading) : Type 0 where
  pub tells : told ≡ before ++ readings most who g
  pub after : v ≡ after_readings most who g

pub told_last : (who left n most : ℕ) (g v : Watched) (before told new : List Reading) (note : Option Note) → left ≡ suc n → note ≡ read_by v who → is_some note ≡ false → new ≡ told ++ reading who note ∷ []
    → IsLeft who left most g v before told → AllTold who most g (after_read v who) before new
told_last who left n most g v before told new note many is none grew so =
    let last = none_told who n v note is none in
    record {
      tells = grew ∙ ap (λ (rs : List Reading). told ++ rs) (sym last.0) ∙ ap (λ (k : ℕ). told ++ readings k who v) (sym many) ∙ so.tells;
      after = sym last.1 ∙ ap (λ (k : ℕ). after_readings k who v) (sym many) ∙ so.after;
    }

pub told_all : (who left most : ℕ) (g v : Watched) (before told : List Reading) → left ≡ 0 → IsLeft who left most g v before told → AllTold who most g v before told
told_all who left most g v before told none so = record {
  tells = sym (append-nil told) ∙ ap (λ (k : ℕ). told ++ readings k who v) (sym none) ∙ so.tells;
  after = ap (λ (k : ℕ). after_readings k who v) (sym none) ∙ so.after;
}

-- ---- one line

-- the monitor took in what came
came : (g : Watched) (h : List Event) (old new : Watch) → IsAt g old → new.board.events ≡ old.board.events ++ h → TakesAll old.monitor new.board.events new.monitor → IsAt (with_events g h) new
came g h old new at more takes =
    let is : new.board.events ≡ g.events ++ h = more ∙ ap (λ (es : List Event). es ++ h) (sym at.events) in
    record { events = sym is; stands = subst (λ (es : List Event). IsOf (with_all g es) new.monitor) is (takes g at.stands (h, is)) }

pub did_boot : (old new : Watch) → Boots old.board new.board → TakesAll old.monitor new.board.events new.monitor → new.readings ≡ old.readings → TakesLine Boot old new
did_boot old new boots takes same g at = record {
  watched = with_events g boots.0;
  said = [];
  does = (boots.0, boots.2, refl, refl);
  at = came g boots.0 old new at boots.1.events takes;
  readings = same ∙ sym (append-nil old.readings);
}

pub did_turn : (k : ℕ) (old new : Watch) → Plays old.board (k ∷ []) new.board → TakesAll old.monitor new.board.events new.monitor → new.readings ≡ old.readings → TakesLine (Turn k) old new
did_turn k old new plays takes same g at = record {
  watched = with_events g (played old.board.world (k ∷ [])).0;
  said = [];
  does = (plays.world, refl, refl);
  at = came g (played old.board.world (k ∷ [])).0 old new at plays.events takes;
  readings = same ∙ sym (append-nil old.readings);
}

pub did_sub : (who room : ℕ) (old new : Watch) → Becomes old.monitor (λ g. with_reader g who room) new.monitor → new.board ≡ old.board → new.readings ≡ old.readings → TakesLine (Sub who room) old new
did_sub who room old new becomes board same g at = record {
  watched = with_reader g who room;
  said = [];
  does = (ap (λ (b : Shown). b.world) board, refl, refl);
  at = record { events = at.events ∙ ap (λ (b : Shown). b.events) (sym board); stands = becomes g at.stands };
  readings = same ∙ sym (append-nil old.readings);
}

after_events : (n who : ℕ) (g : Watched) → (after_readings n who g).events ≡ g.events
after_events zero who g = refl
after_events (suc n) who g = events_of (is_some (read_by g who)) (after_readings n who (after_read g who)) (after_read g who) (after_events n who (after_read g who))
  where
    events_of : (b : Bool) (f e : Watched) → f.events ≡ e.events → (cond b f e).events ≡ e.events
    events_of true f e same = same
    events_of false f e same = refl

pub did_read : (who most : ℕ) (old new : Watch) → ((g : Watched) → IsOf g old.monitor → new.readings ≡ old.readings ++ readings most who g) → ((g : Watched) → IsOf g old.monitor → IsOf (after_readings most who g) new.monitor)
    → new.board ≡ old.board → TakesLine (Read who most) old new
did_read who most old new told left board g at = record {
  watched = after_readings most who g;
  said = readings most who g;
  does = (ap (λ (b : Shown). b.world) board, refl, refl);
  at = record { events = after_events most who g ∙ at.events ∙ ap (λ (b : Shown). b.events) (sym board); stands = left g at.stands };
  readings = told g at.stands;
}

-- the same as the code has it
pub sub_taken : {E : Type 0} (line : WatchLine) (who room : ℕ) (old new : Watch) (r : Result ⊤ E) → line ≡ Sub who room → OnOk r (Becomes old.monitor (λ g. with_reader g who room) new.monitor) → new.board ≡ old.board
    → new.readings ≡ old.readings → OnOk r (TakesLine line old new)
sub_taken line who room old new r is becomes board same =
    where_ok (Becomes old.monitor (λ g. with_reader g who room) new.monitor) (TakesLine line old new) r becomes
    (λ so. subst (λ (l : WatchLine). TakesLine l old new) (sym is) (did_sub who room old new so board same))

pub read_taken : {E : Type 0} (line : WatchLine) (who most : ℕ) (old new : Watch) (r : Result ⊤ E) → line ≡ Read who most → OnOk r ((g : Watched) → IsOf g old.monitor → new.readings ≡ old.readings ++ readings most who g)
    → OnOk r ((g : Watched) → IsOf g old.monitor → IsOf (after_readings most who g) new.monitor) → new.board ≡ old.board → OnOk r (TakesLine line old new)
read_taken line who most old new r is told left board =
    both_ok ((g : Watched) → IsOf g old.monitor → new.readings ≡ old.readings ++ readings most who g) ((g : Watched) → IsOf g old.monitor → IsOf (after_readings most who g) new.monitor) (TakesLine line old new) r told left
    (λ tells leaves. subst (λ (l : WatchLine). TakesLine l old new) (sym is) (did_read who most old new tells leaves board))

-- ---- all lines

lines_on : (w : World) (g : Watched) (lines : List WatchLine) (said : List Reading) (v : World) (f : Watched) (line : WatchLine) (now : List Reading) (u : World) (k : Watched)
    → LinesDo w g lines said v f → LineDoes v f line now u k → LinesDo w g (lines ++ line ∷ []) (said ++ now) u k
lines_on w g [] said v f line now u k (same, stays, none) does =
    (u, k, now, [], subst (λ (x : World). LineDoes x g line now u k) same (subst (λ (x : Watched). LineDoes v x line now u k) stays does), (refl, refl, refl), ap (λ (rs : List Reading). rs ++ now) none ∙ sym (append-nil now))
lines_on w g (l ∷ lines) said v f line now u k (m, n, first, later, did, rest, is) does =
    (m, n, first, later ++ now, did, lines_on m n lines later v f line now u k rest does, ap (λ (rs : List Reading). rs ++ now) is ∙ append_assoc first later now)

pub no_lines : (x : Watch) → TakesLines [] x x
no_lines x g at = record { watched = g; said = []; does = (refl, refl, refl); at = at; readings = sym (append-nil x.readings) }

pub line_more : (lines : List WatchLine) (line : WatchLine) (old mid new : Watch) → TakesLines lines old mid → TakesLine line mid new → TakesLines (lines ++ line ∷ []) old new
line_more lines line old mid new before takes g at =
    let so = before g at in
    let one = takes so.watched so.at in
    record {
      watched = one.watched;
      said = so.said ++ one.said;
      does = lines_on old.board.world g lines so.said mid.board.world so.watched line one.said new.board.world one.watched so.does one.does;
      at = one.at;
      readings = one.readings ∙ ap (λ (rs : List Reading). rs ++ one.said) so.readings ∙ append_assoc old.readings so.said one.said;
    }

-- ---- a run that is ready

pub boot_ready : (s : Setup) (old new : Watch) → IsReady s old → Boots old.board new.board → new.slots ≡ slots_of new.board.world → IsReady s new
boot_ready s old new ready boots agree = record {
  setup = run_setup old.board.world boots.0 new.board.world boots.2.run ∙ ready.setup;
  agree = agree;
  goes_on = boots.1.stopped ∙ ready.goes_on;
}

pub turn_ready : (s : Setup) (k : ℕ) (old new : Watch) → IsReady s old → Plays old.board (k ∷ []) new.board → new.slots ≡ slots_of new.board.world → IsReady s new
turn_ready s k old new ready plays agree = record {
  setup = plays_setup old.board new.board (k ∷ []) plays ∙ ready.setup;
  agree = agree;
  goes_on = plays.stopped ∙ ready.goes_on;
}

pub still_ready : (s : Setup) (old new : Watch) → IsReady s old → new.board ≡ old.board → new.slots ≡ old.slots → IsReady s new
still_ready s old new ready board slots = record {
  setup = ap (λ (b : Shown). b.world.setup) board ∙ ready.setup;
  agree = slots ∙ ready.agree ∙ ap (λ (b : Shown). slots_of b.world) (sym board);
  goes_on = ap (λ (b : Shown). b.stopped) board ∙ ready.goes_on;
}

pub itself_ready : (s : Setup) (x : Watch) → IsReady s x → IsReady x.board.world.setup x
itself_ready s x ready = record { setup = refl; agree = ready.agree; goes_on = ready.goes_on }

pub begins_ready : (s : Setup) (x : Watch) (n : ℕ) → x.board.world ≡ opening s → x.board.stopped ≡ None → n ≡ length x.board.world.setup.machine.spots → x.slots ≡ replicate n Free → IsReady s x
begins_ready s x n begun goes size free = record {
  setup = ap (λ (w : World). w.setup) begun ∙ opening_setup s;
  agree = slots_opening x.board.world s x.slots n begun size free;
  goes_on = goes;
}

-- ---- the whole

pub watch_of : (s : Setup) (lines : List WatchLine) (old new : Watch) → old.board.world ≡ opening s → IsAt unwatched old → old.readings ≡ [] → IsReady s new → TakesLines lines old new → IsReliable new.board.events new.board.world → IsThorough new.board.events new.board.world
    → IsWatchOf s lines new.readings new.board
watch_of s lines old new begun at none ready takes reliable thorough =
    let did = takes unwatched at in
    let told : new.readings ≡ did.said = did.readings ∙ ap (λ (rs : List Reading). rs ++ did.said) none in
    let does : LinesDo (opening s) unwatched lines did.said new.board.world did.watched = subst (λ (w : World). LinesDo w unwatched lines did.said new.board.world did.watched) begun did.does in
    record {
      watched = (did.watched, subst (λ (rs : List Reading). LinesDo (opening s) unwatched lines rs new.board.world did.watched) (sym told) does, sym did.at.events);
      made = ready.setup;
      reliable = reliable;
      thorough = thorough;
    }
