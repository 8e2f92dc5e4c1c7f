-- Whose last event starts a transfer is in the middle of it.
use Rattle.std.proofs.Common.{◌≡◌, ◌≢◌, ℕ, ◌==◌, ◌&&◌, Bool, true, false, cond, List, [], ◌∷◌, ◌++◌, Some, None, refl, sym, ap, ◌∙◌, subst, inl, inr, eqb-true, eq-eqb}
use Rattle.std.proofs.lemmas.Bool.{ne_eqb}
use Rattle.std.proofs.lemmas.Option.{same_Some}
use Rattle.cf_types.specs.declared.machine.Command.{Command}
use Rattle.cf_types.specs.declared.machine.Command.TheVariants as command
use Rattle.cf_types.specs.declared.machine.Ticket.{Ticket}
use Rattle.run_rules.specs.declared.event.Event.{Event}
use Rattle.run_rules.specs.declared.event.Act.{Act}
use Rattle.run_rules.specs.declared.event.Act.TheVariants as act
use Rattle.run_rules.specs.declared.event.PowerKind.{PowerKind}
use Rattle.run_rules.specs.declared.event.PowerKind.TheVariants as kind
use Rattle.run_rules.specs.declared.event.Reply.{Reply}
use Rattle.run_rules.specs.declared.event.Reply.TheVariants as reply
use Rattle.run_rules.specs.declared.world.Activity.{Activity}
use Rattle.run_rules.specs.declared.world.Activity.TheVariants as activity
use Rattle.run_rules.specs.declared.deed.Deed.{Deed}
use Rattle.run_rules.specs.declared.deed.Deed.TheVariants.{Refuse, Open, Close, Start, Done, Detach, Rescan, BeginPower, Plug, Unplug, Tell}
use Rattle.run_rules.specs.declared.deed.Choice.TheVariants.{Does}
use Rattle.run_rules.specs.Laws.{is_ok, last_that}
use Rattle.run_rules.specs.World.{World, Caller, caller_at, device_at, parent_name}
use Rattle.run_rules.specs.Next.{name_at, next}
use Rattle.run_rules.specs.After.{after}
use Rattle.run_rules.specs.Run.{Step, answer_of, answered, event_of, number_of, printed, reply_of, told}
use Rattle.run_sound.specs.Scripts.{power_command}
use Rattle.run_sound.proofs.Commands.{Begins, OpensFree, open_command}
use Rattle.run_sound.proofs.Callers.{caller_here, clash, doing_there}
use Rattle.run_sound.proofs.Members.{live_contained}
use Rattle.run_sound.proofs.RangesCallers.{others_stay}
use Rattle.run_sound.proofs.Reasons.{has_command_reason}
use Rattle.history_laws.specs.Always.{OfEveryEvent}
use Rattle.history_laws.proofs.Acts.{answered_is, refused}
use Rattle.history_laws.proofs.Kept.{called_name}
use Rattle.history_laws.proofs.Names.{HasNames, at_is, world_names}
use Rattle.history_laws.proofs.Stands.{Stands}
use Rattle.whole_laws.specs.Transfers.{DoneNext, StartedLast}
use Rattle.history_laws.proofs.Carried.{IsCarried, at_event, both}
use Rattle.run_rules.proofs.Runs.{event_caller}
use Rattle.whole_laws.proofs.Commands.{event_act}
use Rattle.whole_laws.proofs.Transfers.{Started, amid_done, amid_lives, done_line, is_transfer, last_on, number_is, started}

-- ---- a line that starts a transfer is of a deed that does

abbrev starts_line : Act → Bool
starts_line (act.IoStart x value r) = is_ok r
starts_line _ = false

abbrev is_io : Command → Bool
is_io (command.Io name value) = true
is_io _ = false

off : (b c : Bool) → b ≡ false → (b && c) ≡ false
off true c e = absurd cc
off false c e = refl

never : (b : Bool) → (b && true) ≡ false → b ≡ false
never true h = absurd cc
never false h = refl

told_apart : (w : World) (said : Command) (r : Reply) → (is_ok r && is_io said) ≡ false → starts_line (told w said r) ≡ false
told_apart w (command.Io name value) r e = never (is_ok r) e
told_apart w said r e = refl

open_apart : (sole : Bool) (name : List ℕ) → is_io (open_command sole name) ≡ false
open_apart true name = refl
open_apart false name = refl

power_apart : (what : PowerKind) (name : List ℕ) → is_io (power_command what name) ≡ false
power_apart kind.Suspend name = refl
power_apart kind.Resume name = refl
power_apart kind.ResumeTree name = refl

abbrev Begun : Deed → Type 0
Begun d = (t : Ticket) × (d ≡ Start t)

answer_apart : (w : World) (k : ℕ) (d : Deed) (b : Begins w k d) (said : Command) (r : Reply) → b.said ≡ said → (is_ok r && is_io said) ≡ false → starts_line (answered w k r) ≡ true → Begun d
answer_apart w k d b said r is e on = clash (starts_line (answered w k r)) on (ap starts_line (answered_is w k r said (b.command ∙ ap Some is)) ∙ told_apart w said r e)

start_deed : (w : World) (k : ℕ) (d : Deed) → next w k ≡ Does d → starts_line (printed w k d) ≡ true → Begun d
unfolding printed
start_deed w k (Start t) e on = (t, refl)
start_deed w k (Refuse why) e on =
    let b : Begins w k (Refuse why) = has_command_reason w k (Refuse why) e in
    answer_apart w k (Refuse why) b b.said (reply_of w why) refl (off (is_ok (reply_of w why)) (is_io b.said) (refused w why)) on
start_deed w k (Open s sole) e on =
    let why : OpensFree w k s sole = has_command_reason w k (Open s sole) e in
    answer_apart w k (Open s sole) why.begins (open_command sole why.name) reply.Ok why.words (open_apart sole why.name) on
start_deed w k (Close s) e on = let why = has_command_reason w k (Close s) e in answer_apart w k (Close s) why.begins _ reply.Ok why.words refl on
start_deed w k (Detach s) e on = let why = has_command_reason w k (Detach s) e in answer_apart w k (Detach s) why.begins _ reply.Ok why.words refl on
start_deed w k (Rescan s only) e on = let why = has_command_reason w k (Rescan s only) e in answer_apart w k (Rescan s only) why.begins _ reply.Ok why.words refl on
start_deed w k (BeginPower what s) e on =
    let why = has_command_reason w k (BeginPower what s) e in
    answer_apart w k (BeginPower what s) why.begins (power_command what why.name) reply.Ok why.words (power_apart what why.name) on
start_deed w k (Plug x) e on = let why = has_command_reason w k (Plug x) e in answer_apart w k (Plug x) why.begins _ reply.Ok why.words refl on
start_deed w k (Unplug x None) e on = let why = has_command_reason w k (Unplug x None) e in answer_apart w k (Unplug x None) why.begins _ reply.Ok why.words refl on
start_deed w k (Unplug x (Some s)) e on = let why = has_command_reason w k (Unplug x (Some s)) e in answer_apart w k (Unplug x (Some s)) why.begins _ reply.Ok why.words refl on
start_deed w k Tell e on =
    let why = has_command_reason w k Tell e in
    elim why.words [ inl list ↦ answer_apart w k Tell why.begins _ reply.Ok list refl on | inr tree ↦ answer_apart w k Tell why.begins _ reply.Ok tree refl on ]
start_deed w k d e on = absurd cc

started_amid : (w : World) (k : ℕ) (t : Ticket) → next w k ≡ Does (Start t) → is_transfer (caller_at (after w k (Start t)) k).doing ≡ true
unfolding after
started_amid w k t e = ap (λ (c : Caller). is_transfer c.doing) (caller_here w k _ (doing_there w k (Start t) e))

-- ---- carried on

-- whose last event starts a transfer is in the middle of one
abbrev Amid : List Event → World → Type 0
Amid h w = (k : ℕ) (d : Event) → last_that (λ e. e.caller == k) h ≡ Some d → starts_line d.act ≡ true → is_transfer (caller_at w k).doing ≡ true

amid_on : (h : List Event) (w : World) (k : ℕ) (d : Deed) → next w k ≡ Does d → Amid h w → Amid (h ++ event_of w k d ∷ []) (after w k d)
amid_on h w k d e at j f last on = cases (k == j) refl
  where
    seen : cond ((event_of w k d).caller == j) (Some (event_of w k d)) (last_that (λ x. x.caller == j) h) ≡ Some f
    seen = sym (last_on (λ x. x.caller == j) h (event_of w k d)) ∙ last

    own : k ≡ j → is_transfer (caller_at (after w k d) j).doing ≡ true
    own same =
        let is : event_of w k d ≡ f = same_Some (event_of w k d) f (sym (ap (λ (b : Bool). cond b (Some (event_of w k d)) (last_that (λ x. x.caller == j) h)) (eq-eqb _ j (event_caller w k d ∙ same))) ∙ seen) in
        let begun = start_deed w k d e (sym (ap starts_line (sym (ap (λ (x : Event). x.act) is) ∙ event_act w k d)) ∙ on) in
        subst (λ (i : ℕ). is_transfer (caller_at (after w k d) i).doing ≡ true) same
        (subst (λ (x : Deed). is_transfer (caller_at (after w k x) k).doing ≡ true) (sym begun.1) (started_amid w k begun.0 (subst (λ (x : Deed). next w k ≡ Does x) begun.1 e)))

    cases : (b : Bool) → (k == j) ≡ b → is_transfer (caller_at (after w k d) j).doing ≡ true
    cases true is = own (eqb-true k j is)
    cases false is =
        let differs : k ≢ j = λ same. clash (k == j) (eq-eqb k j same) is in
        let old : last_that (λ x. x.caller == j) h ≡ Some f =
        sym (ap (λ (b : Bool). cond b (Some (event_of w k d)) (last_that (λ x. x.caller == j) h)) (ne_eqb _ j (λ same. differs (sym (event_caller w k d) ∙ same)))) ∙ seen in
        ap (λ (c : Caller). is_transfer c.doing) (others_stay w k j d (λ same. differs (sym same))) ∙ at j f old on

amid : IsCarried Amid
amid = record {
  opens = λ s may k d last on. absurd cc;
  goes = λ h w e v at has step.
      subst (λ (f : Event). Amid (h ++ f ∷ []) v) (sym step.event)
      (subst (Amid (h ++ event_of w e.caller step.deed ∷ [])) (sym step.world) (amid_on h w e.caller step.deed step.chosen has));
}

-- ---- so the end comes next

the_ticket : (a : Activity) → is_transfer a ≡ true → (t : Ticket) × (a ≡ activity.Transfer t)
the_ticket (activity.Transfer t) h = (t, refl)
the_ticket activity.Idle h = absurd cc
the_ticket activity.Ended h = absurd cc
the_ticket (activity.Frees s) h = absurd cc
the_ticket activity.Scans h = absurd cc
the_ticket (activity.Power kind s) h = absurd cc

name_of_start : {x y : List ℕ} {a b : ℕ} {r s : Reply} → act.IoStart x a r ≡ act.IoStart y b s → x ≡ y
name_of_start e = cc

done_next : (h : List Event) (w : World) (e : Event) (v : World) → Stands h w → Started h w × Amid h w → Step w e.caller e v → DoneNext h e
done_next h w e v at has step start x value last line =
    let k : ℕ = e.caller in
    let one = the_ticket (caller_at w k).doing (has.1 k start last (ap starts_line line)) in
    let t : Ticket = one.0 in
    let by : StartedLast h k (number_of w k) (parent_name w.setup w.live t.serial) = has.0 k t one.1 in
    let same : by.start ≡ start = same_Some by.start start (sym by.last ∙ last) in
    let name : parent_name w.setup w.live t.serial ≡ x = name_of_start (sym by.line ∙ ap (λ (f : Event). f.act) same ∙ line) in
    let done : step.deed ≡ Done t = amid_done w k step.deed step.chosen t one.1 in
    let dev = live_contained w.live t.serial (amid_lives w k t at.kept one.1) in
    let names : HasNames w.setup w.live w.next = world_names w at.may at.kept in
    let found : device_at w.live t.serial ≡ Some dev.0 = subst (λ (n : ℕ). device_at w.live n ≡ Some dev.0) dev.2 (at_is w.setup w.live dev.0 names.apart dev.1) in
    let told : e.act ≡ act.IoDone (name_at w t.serial) (answer_of t) = ap (λ (f : Event). f.act) step.event ∙ event_act w k step.deed ∙ ap (printed w k) done ∙ done_line w k t in (
      answer_of t,
      told ∙ ap (λ (y : List ℕ). act.IoDone y (answer_of t)) (called_name w t.serial dev.0 found ∙ name),
      ap (λ (f : Event). f.number) step.event ∙ number_is w k step.deed ∙ sym by.number ∙ ap (λ (f : Event). f.number) same,
    )

pub always_done_next : OfEveryEvent DoneNext
always_done_next = at_event (λ h w. Started h w × Amid h w) DoneNext (both Started Amid started amid) done_next
