-- The start of a transfer is the last event of its caller while the transfer goes on.
use Rattle.std.proofs.Common.{◌≡◌, ◌≢◌, ◌⊎◌, ℕ, zero, suc, ◌+◌, ◌==◌, Bool, true, false, cond, List, [], ◌∷◌, ◌++◌, map, Option, Some, None, refl, sym, ap, ◌∙◌, subst, inl, inr, eqb-true, eq-eqb, slice_index_or}
use Rattle.std.specs.Prelude.{if◌then◌else◌}
use Rattle.std.specs.Option.{option_map_or}
use Rattle.std.proofs.lemmas.Bool.{ne_eqb}
use Rattle.std.proofs.lemmas.List.{reverse-append}
use Rattle.cf_types.specs.declared.machine.Command.{Command}
use Rattle.cf_types.specs.declared.machine.Command.TheVariants as command
use Rattle.cf_types.specs.declared.machine.Ticket.{Ticket}
use Rattle.run_rules.specs.declared.event.Event.{Event}
use Rattle.run_rules.specs.declared.event.Act.{Act}
use Rattle.run_rules.specs.declared.event.Act.TheVariants as act
use Rattle.run_rules.specs.declared.event.IoAnswer.{IoAnswer}
use Rattle.run_rules.specs.declared.event.Reply.{Reply}
use Rattle.run_rules.specs.declared.event.Reply.TheVariants as reply
use Rattle.run_rules.specs.declared.world.Activity.{Activity}
use Rattle.run_rules.specs.declared.world.Activity.TheVariants as activity
use Rattle.run_rules.specs.declared.world.Frame.{Frame}
use Rattle.run_rules.specs.declared.world.Setup.{Setup}
use Rattle.run_rules.specs.declared.deed.Deed.{Deed}
use Rattle.run_rules.specs.declared.deed.Deed.TheVariants.{Search, EndScan, BeginInterrupts, Finalise, EndCaller, Drop, Refuse, Open, Close, Start, Done, Detach, Free, Rescan, BeginPower, Sleep, Wake, Plug, Unplug, Tell}
use Rattle.run_rules.specs.declared.deed.Choice.TheVariants.{Does}
use Rattle.run_rules.specs.Laws.{last_that}
use Rattle.run_rules.specs.World.{World, Caller, beginning, caller_at, device_at, is_live, nobody, opening, parent_name}
use Rattle.run_rules.specs.Next.{by_activity, command_of, name_at, next}
use Rattle.run_rules.specs.After.{after, doing, freed, freeing_target, over, settled}
use Rattle.run_rules.specs.Run.{Step, answer_of, answered, event_of, number_of, printed, told}
use Rattle.run_rules.proofs.Setups.{after_setup}
use Rattle.run_sound.proofs.Commands.{StartsHeld}
use Rattle.run_sound.specs.Kept.{Kept, MayRun}
use Rattle.run_sound.proofs.Callers.{caller_here, clash, doing_so, doing_there}
use Rattle.run_sound.proofs.Members.{live_contained}
use Rattle.run_sound.proofs.OwnCaller.{Stays, own_after, own_set, own_stack}
use Rattle.run_sound.proofs.RangesCallers.{others_stay}
use Rattle.run_sound.proofs.Reasons.{has_command_reason}
use Rattle.history_laws.specs.Always.{OfEveryEvent}
use Rattle.history_laws.proofs.Acts.{answered_is}
use Rattle.history_laws.proofs.Kept.{called_name}
use Rattle.history_laws.proofs.Names.{HasNames, at_is, named_so, parent_named, world_names}
use Rattle.history_laws.proofs.Stands.{Stands, stands_on}
use Rattle.run_sound.proofs.Unheld.{held_live}
use Rattle.whole_laws.specs.Transfers.{DoneAfterStarted, StartedLast}
use Rattle.history_laws.proofs.Carried.{IsCarried, at_event}
use Rattle.whole_laws.proofs.Changes.{change_of, name_stays}
use Rattle.run_rules.proofs.Runs.{event_caller}
use Rattle.whole_laws.proofs.Commands.{event_act}

-- ---- who is in the middle of a transfer

abbrev pub is_transfer : Activity → Bool
is_transfer (activity.Transfer t) = true
is_transfer _ = false

abbrev Quiet : Caller → Type 0
Quiet c = is_transfer c.doing ≡ false

settled_quiet : (over : ℕ) (doing : Activity) (stack : List Frame) → is_transfer doing ≡ false → Quiet (settled (record { over = over; doing = doing; stack = stack }))
settled_quiet over activity.Idle stack h = h
settled_quiet over activity.Ended stack h = h
settled_quiet over (activity.Transfer ticket) stack h = h
settled_quiet over (activity.Frees s) stack h = h
settled_quiet over (activity.Power kind s) stack h = h
settled_quiet over activity.Scans (f ∷ fs) h = h
settled_quiet over activity.Scans [] h = refl

stays_quiet : Stays Quiet
stays_quiet = record { stacked = λ c stack h. settled_quiet c.over c.doing stack h; ended = λ c h. refl }

module _ (w : World) (k : ℕ) (old : Quiet (caller_at w k)) where
  over_quiet : Quiet (caller_at (over w k) k)
  over_quiet = own_set Quiet w.callers k _ refl old

  turns_quiet : (a : Activity) → is_transfer a ≡ false → Quiet (caller_at (doing w k a) k)
  turns_quiet a own = own_set Quiet w.callers k _ own old

  freed_quiet : (s : ℕ) (last : Bool) → Quiet (caller_at (if last then over (freed w s) k else freed w s) k)
  freed_quiet s true = over_quiet
  freed_quiet s false = old

  -- no other deed starts one
  own_quiet : (d : Deed) → ((t : Ticket) → d ≢ Start t) → Quiet (caller_at (after w k d) k)
  unfolding after
  own_quiet (Search p spot to got) apart = own_after Quiet stays_quiet w k (Search p spot to got) tt old
  own_quiet (EndScan p) apart = own_after Quiet stays_quiet w k (EndScan p) tt old
  own_quiet BeginInterrupts apart = own_after Quiet stays_quiet w k BeginInterrupts tt old
  own_quiet (Finalise s shown got listed anew) apart = own_after Quiet stays_quiet w k (Finalise s shown got listed anew) tt old
  own_quiet EndCaller apart = own_after Quiet stays_quiet w k EndCaller tt old
  own_quiet (Drop s) apart = old
  own_quiet (Start t) apart = absurd (apart t refl)
  own_quiet (Detach s) apart = turns_quiet (activity.Frees s) refl
  own_quiet (Free s) apart = freed_quiet s (freeing_target (caller_at w k).doing s)
  own_quiet (Rescan s only) apart = own_stack Quiet stays_quiet (doing w k activity.Scans) k _ (turns_quiet activity.Scans refl)
  own_quiet (BeginPower kind s) apart = turns_quiet (activity.Power kind s) refl
  own_quiet (Sleep s) apart = old
  own_quiet (Wake s) apart = old
  own_quiet (Unplug x None) apart = over_quiet
  own_quiet (Unplug x (Some s)) apart = turns_quiet (activity.Frees s) refl
  own_quiet d apart = over_quiet

-- one that ends is over
done_quiet : (w : World) (k : ℕ) (t : Ticket) → next w k ≡ Does (Done t) → Quiet (caller_at (after w k (Done t)) k)
unfolding after
done_quiet w k t e = ap (λ (c : Caller). is_transfer c.doing) (caller_here w k _ (doing_there w k (Done t) e))

-- in the middle of a transfer nothing else is done
pub amid_done : (w : World) (k : ℕ) (d : Deed) → next w k ≡ Does d → (t : Ticket) → (caller_at w k).doing ≡ activity.Transfer t → d ≡ Done t
amid_done w k d e t amid = one (sym (ap (by_activity w k) amid) ∙ (doing_so w k d e).does)
  where
    one : Does (Done t) ≡ Does d → d ≡ Done t
    one same = sym cc

after_quiet : (w : World) (k : ℕ) (d : Deed) → next w k ≡ Does d → ((t : Ticket) → d ≢ Start t) → Quiet (caller_at (after w k d) k)
after_quiet w k d e apart = cases (caller_at w k).doing refl
  where
    cases : (a : Activity) → (caller_at w k).doing ≡ a → Quiet (caller_at (after w k d) k)
    cases (activity.Transfer t) is = let done : d ≡ Done t = amid_done w k d e t is in subst (λ (x : Deed). Quiet (caller_at (after w k x) k)) (sym done) (done_quiet w k t (subst (λ (x : Deed). next w k ≡ Does x) done e))
    cases activity.Idle is = own_quiet w k (ap is_transfer is) d apart
    cases activity.Ended is = own_quiet w k (ap is_transfer is) d apart
    cases (activity.Frees s) is = own_quiet w k (ap is_transfer is) d apart
    cases activity.Scans is = own_quiet w k (ap is_transfer is) d apart
    cases (activity.Power kind s) is = own_quiet w k (ap is_transfer is) d apart

starts : (d : Deed) → ((t : Ticket) × (d ≡ Start t)) ⊎ ((t : Ticket) → d ≢ Start t)
starts (Start t) = inl (t, refl)
starts (Done t) = inr (λ t e. absurd cc)
starts d = inr (λ t e. absurd cc)

-- ---- its start is the caller's last event

abbrev pub Started : List Event → World → Type 0
Started h w = (k : ℕ) (t : Ticket) → (caller_at w k).doing ≡ activity.Transfer t → StartedLast h k (number_of w k) (parent_name w.setup w.live t.serial)

pub last_on : (p : Event → Bool) (h : List Event) (e : Event) → last_that p (h ++ e ∷ []) ≡ cond (p e) (Some e) (last_that p h)
last_on p h e = rw (reverse-append h (e ∷ [])) refl

-- what a transfer is on lives
pub amid_lives : (w : World) (k : ℕ) (t : Ticket) → Kept w → (caller_at w k).doing ≡ activity.Transfer t → is_live w.live t.serial ≡ true
amid_lives w k t kept amid = held_live w.refs w.live k t.serial kept.sound.refs.live_ones ((kept.sound.callers k).transfer t amid)

pub number_is : (w : World) (k : ℕ) (d : Deed) → (event_of w k d).number ≡ number_of w k
unfolding event_of
number_is w k d = refl

start_line : (w : World) (k : ℕ) (t : Ticket) → printed w k (Start t) ≡ answered w k reply.Ok
unfolding printed
start_line w k t = refl

-- a transfer starts
start_last : (h : List Event) (w : World) (k : ℕ) (t u : Ticket) → MayRun w.setup → Kept w → next w k ≡ Does (Start t) → (caller_at (after w k (Start t)) k).doing ≡ activity.Transfer u
    → StartedLast (h ++ event_of w k (Start t) ∷ []) k (number_of (after w k (Start t)) k) (parent_name w.setup (after w k (Start t)).live u.serial)
unfolding after
start_last h w k t u may kept e amid =
    let why : StartsHeld w k t = has_command_reason w k (Start t) e in
    let names : HasNames w.setup w.live w.next = world_names w may kept in
    let now : caller_at (after w k (Start t)) k ≡ record { over = (caller_at w k).over; doing = activity.Transfer t; stack = (caller_at w k).stack } = caller_here w k _ (doing_there w k (Start t) e) in
    let same : t ≡ u = one (sym (ap (λ (c : Caller). c.doing) now) ∙ amid) in
    let found : device_at w.live t.serial ≡ Some why.named.dev = subst (λ (n : ℕ). device_at w.live n ≡ Some why.named.dev) why.named.serial (at_is w.setup w.live why.named.dev names.apart why.named.there) in
    let name : parent_name w.setup w.live u.serial ≡ why.name =
    ap (λ (x : Ticket). parent_name w.setup w.live x.serial) (sym same) ∙ parent_named w.setup w.live t.serial why.named.dev found ∙ named_so w.setup w.live why.name why.named.dev why.named.found in
    record {
      start = event_of w k (Start t);
      value = why.value;
      last = last_on (λ d. d.caller == k) h (event_of w k (Start t)) ∙ ap (λ (b : Bool). cond b (Some (event_of w k (Start t))) (last_that (λ d. d.caller == k) h)) (own w k t);
      number = number_is w k (Start t) ∙ sym (ap (λ (c : Caller). if k == 0 then 0 else c.over + 1) now);
      line = event_act w k (Start t) ∙ start_line w k t ∙ answered_is w k reply.Ok (command.Io why.name why.value) (why.begins.command ∙ ap Some why.words) ∙ ap (λ (x : List ℕ). act.IoStart x why.value reply.Ok) (sym name);
    }
  where
    one : {t u : Ticket} → activity.Transfer t ≡ activity.Transfer u → t ≡ u
    one same = cc

    own : (w : World) (k : ℕ) (t : Ticket) → ((event_of w k (Start t)).caller == k) ≡ true
    own w k t = eq-eqb _ k (event_caller w k (Start t))

-- another caller does something
other_last : (h : List Event) (w : World) (k j : ℕ) (d : Deed) (t : Ticket) → k ≢ j → MayRun w.setup → Kept w → Kept (after w k d) → next w k ≡ Does d → Started h w → (caller_at (after w k d) j).doing ≡ activity.Transfer t
    → StartedLast (h ++ event_of w k d ∷ []) j (number_of (after w k d) j) (parent_name w.setup (after w k d).live t.serial)
other_last h w k j d t other may kept later e at amid =
    let stays : caller_at (after w k d) j ≡ caller_at w j = others_stay w k j d (λ same. other (sym same)) in
    let before : (caller_at w j).doing ≡ activity.Transfer t = sym (ap (λ (c : Caller). c.doing) stays) ∙ amid in
    let old : StartedLast h j (number_of w j) (parent_name w.setup w.live t.serial) = at j t before in
    let name = name_stays w k d t.serial (change_of w k d may kept e) (amid_lives w j t kept before) (amid_lives (after w k d) j t later amid) in
    let number : number_of (after w k d) j ≡ number_of w j = ap (λ (c : Caller). if j == 0 then 0 else c.over + 1) stays in
    record {
      start = old.start;
      value = old.value;
      last = last_on (λ x. x.caller == j) h (event_of w k d) ∙ ap (λ (b : Bool). cond b (Some (event_of w k d)) (last_that (λ x. x.caller == j) h)) (ne_eqb _ j (λ same. other (sym (event_caller w k d) ∙ same))) ∙ old.last;
      number = old.number ∙ sym number;
      line = old.line ∙ ap (λ (x : List ℕ). act.IoStart x old.value reply.Ok) (sym name);
    }

started_on : (h : List Event) (w : World) (k : ℕ) (d : Deed) → MayRun w.setup → Kept w → Kept (after w k d) → next w k ≡ Does d → Started h w → Started (h ++ event_of w k d ∷ []) (after w k d)
started_on h w k d may kept later e at j t amid =
    subst (λ (s : Setup). StartedLast (h ++ event_of w k d ∷ []) j (number_of (after w k d) j) (parent_name s (after w k d).live t.serial)) (sym (after_setup w k d)) (cases (k == j) refl)
  where
    own : (caller_at (after w k d) k).doing ≡ activity.Transfer t → StartedLast (h ++ event_of w k d ∷ []) k (number_of (after w k d) k) (parent_name w.setup (after w k d).live t.serial)
    own here = elim (starts d) [
      | inl start ↦
          subst (λ (x : Deed). next w k ≡ Does x → (caller_at (after w k x) k).doing ≡ activity.Transfer t → StartedLast (h ++ event_of w k x ∷ []) k (number_of (after w k x) k) (parent_name w.setup (after w k x).live t.serial))
          (sym start.1) (λ does amids. start_last h w k start.0 t may kept does amids) e here
      | inr apart ↦ clash (is_transfer (caller_at (after w k d) k).doing) (ap is_transfer here) (after_quiet w k d e apart)
    ]

    cases : (b : Bool) → (k == j) ≡ b → StartedLast (h ++ event_of w k d ∷ []) j (number_of (after w k d) j) (parent_name w.setup (after w k d).live t.serial)
    cases true is =
        let same : k ≡ j = eqb-true k j is in
        subst (λ (i : ℕ). (caller_at (after w k d) i).doing ≡ activity.Transfer t → StartedLast (h ++ event_of w k d ∷ []) i (number_of (after w k d) i) (parent_name w.setup (after w k d).live t.serial)) same own amid
    cases false is = other_last h w k j d t (λ same. clash (k == j) (eq-eqb k j same) is) may kept later e at amid

opens_quiet : (scripts : List (List Command)) (k : ℕ) → Quiet (slice_index_or (map (λ (script : List Command). beginning []) scripts) k nobody)
opens_quiet [] k = refl
opens_quiet (x ∷ xs) zero = refl
opens_quiet (x ∷ xs) (suc k) = opens_quiet xs k

started_open : (s : Setup) → Started [] (opening s)
unfolding opening
started_open s zero t amid = absurd cc
started_open s (suc k) t amid = clash _ (ap is_transfer amid) (opens_quiet s.scripts k)

pub started : IsCarried Started
started = record {
  opens = λ s may. started_open s;
  goes = λ h w e v at has step.
      let after_it : Stands (h ++ e ∷ []) v = stands_on h w e.caller e v at step in
      subst (λ (f : Event). Started (h ++ f ∷ []) v) (sym step.event)
      (subst (Started (h ++ event_of w e.caller step.deed ∷ [])) (sym step.world)
      (started_on h w e.caller step.deed at.may at.kept (subst Kept step.world after_it.kept) step.chosen has));
}

-- ---- where it ends

abbrev is_done_line : Act → Bool
is_done_line (act.IoDone device a) = true
is_done_line _ = false

told_no_done : (w : World) (said : Command) (r : Reply) → is_done_line (told w said r) ≡ false
told_no_done w (command.OpenDev name) r = refl
told_no_done w said r = refl

no_done : (w : World) (k : ℕ) (r : Reply) → is_done_line (answered w k r) ≡ true → ⊥
no_done w k r h = cases (command_of w k) h
  where
    cases : (o : Option Command) → is_done_line (option_map_or (λ said. told w said r) o act.End) ≡ true → ⊥
    cases None h = absurd cc
    cases (Some said) h = clash (is_done_line (told w said r)) h (told_no_done w said r)

done_deed : (w : World) (k : ℕ) (d : Deed) → is_done_line (printed w k d) ≡ true → (t : Ticket) × (d ≡ Done t)
unfolding printed
done_deed w k (Done t) h = (t, refl)
done_deed w k (Refuse why) h = absurd (no_done w k _ h)
done_deed w k (Open s sole) h = absurd (no_done w k _ h)
done_deed w k (Close s) h = absurd (no_done w k _ h)
done_deed w k (Start t) h = absurd (no_done w k _ h)
done_deed w k (Detach s) h = absurd (no_done w k _ h)
done_deed w k (Rescan s only) h = absurd (no_done w k _ h)
done_deed w k (BeginPower kind s) h = absurd (no_done w k _ h)
done_deed w k (Plug x) h = absurd (no_done w k _ h)
done_deed w k (Unplug x of) h = absurd (no_done w k _ h)
done_deed w k Tell h = absurd (no_done w k _ h)
done_deed w k d h = absurd cc

pub done_line : (w : World) (k : ℕ) (t : Ticket) → printed w k (Done t) ≡ act.IoDone (name_at w t.serial) (answer_of t)
unfolding printed
done_line w k t = refl

name_of_line : {x y : List ℕ} {a b : IoAnswer} → act.IoDone x a ≡ act.IoDone y b → x ≡ y
name_of_line e = cc

done_started : (h : List Event) (w : World) (e : Event) (v : World) → Stands h w → Started h w → Step w e.caller e v → DoneAfterStarted h e
done_started h w e v at has step x a is =
    let k : ℕ = e.caller in
    let line : e.act ≡ printed w k step.deed = ap (λ (f : Event). f.act) step.event ∙ event_act w k step.deed in
    let done = done_deed w k step.deed (sym (ap is_done_line line) ∙ ap is_done_line is) in
    let t : Ticket = done.0 in
    let does : next w k ≡ Does (Done t) = subst (λ (d : Deed). next w k ≡ Does d) done.1 step.chosen in
    let amid : (caller_at w k).doing ≡ activity.Transfer t = has_command_reason w k (Done t) does in
    let shown : act.IoDone (name_at w t.serial) (answer_of t) ≡ act.IoDone x a = sym (done_line w k t) ∙ sym (ap (printed w k) done.1) ∙ sym line ∙ is in
    let one = live_contained w.live t.serial (amid_lives w k t at.kept amid) in
    let names : HasNames w.setup w.live w.next = world_names w at.may at.kept in
    let found : device_at w.live t.serial ≡ Some one.0 = subst (λ (n : ℕ). device_at w.live n ≡ Some one.0) one.2 (at_is w.setup w.live one.0 names.apart one.1) in
    let name : parent_name w.setup w.live t.serial ≡ x = sym (called_name w t.serial one.0 found) ∙ name_of_line shown in
    let number : e.number ≡ number_of w k = ap (λ (f : Event). f.number) step.event ∙ number_is w k step.deed in
    subst (StartedLast h k e.number) name (subst (λ (n : ℕ). StartedLast h k n (parent_name w.setup w.live t.serial)) (sym number) (has k t amid))

pub always_done_started : OfEveryEvent DoneAfterStarted
always_done_started = at_event Started DoneAfterStarted started done_started
