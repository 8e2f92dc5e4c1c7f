-- What the line of a deed tells of names and of references.
use Rattle.std.proofs.Common.{◌≡◌, ℕ, Bool, true, false, ◌&&◌, List, bytes_eq, Option, Some, None, refl, sym, ap, ◌∙◌, subst, inl, inr}
use Rattle.std.specs.Option.{option_map_or}
use Rattle.cf_types.specs.declared.machine.Command.{Command}
use Rattle.cf_types.specs.declared.machine.Command.TheVariants as command
use Rattle.run_rules.specs.declared.event.Act.{Act}
use Rattle.run_rules.specs.declared.event.Act.TheVariants as act
use Rattle.run_rules.specs.declared.event.Reply.{Reply}
use Rattle.run_rules.specs.declared.event.Reply.TheVariants as reply
use Rattle.run_rules.specs.declared.event.PowerKind.{PowerKind}
use Rattle.run_rules.specs.declared.event.PowerKind.TheVariants as kind
use Rattle.run_rules.specs.declared.deed.Deed.{Deed}
use Rattle.run_rules.specs.declared.deed.Deed.TheVariants.{Search, EndScan, BeginInterrupts, Finalise, EndCaller, Drop, Refuse, Open, Close, Start, Done, Detach, Free, Rescan, BeginPower, Sleep, Wake, EndPower, Plug, Unplug, Tell}
use Rattle.run_rules.specs.declared.deed.CommandRefusal.{CommandRefusal}
use Rattle.run_rules.specs.declared.deed.CommandRefusal.TheVariants as refusal
use Rattle.run_rules.specs.declared.deed.Choice.TheVariants.{Does}
use Rattle.run_rules.specs.World.{World}
use Rattle.run_rules.specs.Laws.{attached_name, freed_name, is_ok, opens, opens_sole, returns, slept_name, woken_name}
use Rattle.run_rules.specs.Next.{command_of, name_at, next}
use Rattle.run_rules.specs.Run.{answered, printed, reply_of, shown_of, told}
use Rattle.run_sound.specs.Scripts.{power_command}
use Rattle.run_sound.proofs.Commands.{Begins}
use Rattle.run_sound.proofs.Reasons.{has_command_reason}
use Rattle.history_laws.specs.Counted.{gives_back, grants}
use Rattle.history_laws.proofs.Grown.{LeavesRefs, LeavesSleep, LeavesTree}

-- no device comes, goes, sleeps or wakes, and no reference is granted or comes back
pub record IsPlain (a : Act) : Type 0 where
  pub tree : (x : List ℕ) → LeavesTree a x
  pub sleep : (x : List ℕ) → LeavesSleep a x
  pub refs : (x : List ℕ) → LeavesRefs a x
  pub grants : grants a ≡ false
  pub gives_back : gives_back a ≡ false

pub plainly : {a : Act} → attached_name a ≡ None → freed_name a ≡ None → slept_name a ≡ None → woken_name a ≡ None → ((x : List ℕ) → LeavesRefs a x) → grants a ≡ false → gives_back a ≡ false → IsPlain a
plainly {a} come go sleep wake refs grant back = record {
  tree = λ x. record { attached = rw come refl; freed = rw go refl };
  sleep = λ x. record { slept = rw sleep refl; woken = rw wake refl };
  refs = refs;
  grants = grant;
  gives_back = back;
}

-- ---- replies

pub refused : (w : World) (why : CommandRefusal) → is_ok (reply_of w why) ≡ false
refused w refusal.NoDevice = refl
refused w refusal.Gone = refl
refused w refusal.Exclusive = refl
refused w refusal.TooMany = refl
refused w refusal.Shared = refl
refused w refusal.NotHeld = refl
refused w refusal.Asleep = refl
refused w (refusal.Busy s) = refl
refused w refusal.NoRescan = refl
refused w refusal.BadAttribute = refl
refused w refusal.BadLocator = refl
refused w refusal.NoSpot = refl

off : (b c : Bool) → b ≡ false → (b && c) ≡ false
off true c e = absurd cc
off false c e = refl

no_refs : {a : Act} → ((x : List ℕ) → opens a x ≡ false) → ((x : List ℕ) → opens_sole a x ≡ false) → ((x : List ℕ) → returns a x ≡ false) → (x : List ℕ) → LeavesRefs a x
no_refs o s r x = record { opens = o x; sole = s x; returns = r x }

-- a command on references
abbrev pub is_of_refs : Command → Bool
is_of_refs (command.OpenDev name) = true
is_of_refs (command.OpenSole name) = true
is_of_refs (command.CloseDev name) = true
is_of_refs _ = false

-- the line of a command that is refused, and that of any other command
plain_told : (w : World) (said : Command) (r : Reply) → (is_ok r && is_of_refs said) ≡ false → IsPlain (told w said r)
plain_told w (command.OpenDev name) r nay =
    let bad : is_ok r ≡ false = never (is_ok r) nay in
    plainly refl refl refl refl (no_refs (λ x. off (is_ok r) (bytes_eq name x) bad) (λ x. refl) (λ x. refl)) bad refl
  where
    never : (b : Bool) → (b && true) ≡ false → b ≡ false
    never true h = absurd cc
    never false h = refl
plain_told w (command.OpenSole name) r nay =
    let bad : is_ok r ≡ false = never (is_ok r) nay in
    plainly refl refl refl refl (no_refs (λ x. off (is_ok r) (bytes_eq name x) bad) (λ x. off (is_ok r) (bytes_eq name x) bad) (λ x. refl)) bad refl
  where
    never : (b : Bool) → (b && true) ≡ false → b ≡ false
    never true h = absurd cc
    never false h = refl
plain_told w (command.CloseDev name) r nay =
    let bad : is_ok r ≡ false = never (is_ok r) nay in
    plainly refl refl refl refl (no_refs (λ x. refl) (λ x. refl) (λ x. off (is_ok r) (bytes_eq name x) bad)) refl bad
  where
    never : (b : Bool) → (b && true) ≡ false → b ≡ false
    never true h = absurd cc
    never false h = refl
plain_told w (command.Io name value) r nay = plainly refl refl refl refl (no_refs (λ x. refl) (λ x. refl) (λ x. refl)) refl refl
plain_told w (command.Detach name) r nay = plainly refl refl refl refl (no_refs (λ x. refl) (λ x. refl) (λ x. refl)) refl refl
plain_told w (command.Rescan name attr given) r nay = plainly refl refl refl refl (no_refs (λ x. refl) (λ x. refl) (λ x. refl)) refl refl
plain_told w (command.ListDev name) r nay = plainly refl refl refl refl (no_refs (λ x. refl) (λ x. refl) (λ x. refl)) refl refl
plain_told w (command.TreeDev name) r nay = plainly refl refl refl refl (no_refs (λ x. refl) (λ x. refl) (λ x. refl)) refl refl
plain_told w (command.Suspend name) r nay = plainly refl refl refl refl (no_refs (λ x. refl) (λ x. refl) (λ x. refl)) refl refl
plain_told w (command.Resume name) r nay = plainly refl refl refl refl (no_refs (λ x. refl) (λ x. refl) (λ x. refl)) refl refl
plain_told w (command.ResumeTree name) r nay = plainly refl refl refl refl (no_refs (λ x. refl) (λ x. refl) (λ x. refl)) refl refl
plain_told w (command.Plug name) r nay = plainly refl refl refl refl (no_refs (λ x. refl) (λ x. refl) (λ x. refl)) refl refl
plain_told w (command.Unplug name) r nay = plainly refl refl refl refl (no_refs (λ x. refl) (λ x. refl) (λ x. refl)) refl refl

pub answered_is : (w : World) (k : ℕ) (r : Reply) (said : Command) → command_of w k ≡ Some said → answered w k r ≡ told w said r
answered_is w k r said e = ap (λ (o : Option Command). option_map_or (λ said. told w said r) o act.End) e

plain_answer : (w : World) (k : ℕ) (r : Reply) (said : Command) → command_of w k ≡ Some said → (is_ok r && is_of_refs said) ≡ false → IsPlain (answered w k r)
plain_answer w k r said e nay = subst IsPlain (sym (answered_is w k r said e)) (plain_told w said r nay)

-- ---- deeds

power_apart : (what : PowerKind) (name : List ℕ) → is_of_refs (power_command what name) ≡ false
power_apart kind.Suspend name = refl
power_apart kind.Resume name = refl
power_apart kind.ResumeTree name = refl

-- a deed whose line is a plain one
abbrev pub is_plain : Deed → Bool
is_plain (Search p spot to (Some a)) = false
is_plain (Finalise s shown (Some a) listed anew) = false
is_plain (Drop s) = false
is_plain (Open s sole) = false
is_plain (Close s) = false
is_plain (Free s) = false
is_plain (Sleep s) = false
is_plain (Wake s) = false
is_plain _ = true

-- a command that does what it was asked to
plain_done : (w : World) (k : ℕ) (d : Deed) (b : Begins w k d) (said : Command) → b.said ≡ said → is_of_refs said ≡ false → IsPlain (answered w k reply.Ok)
plain_done w k d b said is nay = plain_answer w k reply.Ok said (b.command ∙ ap Some is) nay

bare : {a : Act} → attached_name a ≡ None → freed_name a ≡ None → slept_name a ≡ None → woken_name a ≡ None → ((x : List ℕ) → opens a x ≡ false) → ((x : List ℕ) → opens_sole a x ≡ false) → ((x : List ℕ) → returns a x ≡ false)
    → grants a ≡ false → gives_back a ≡ false → IsPlain a
bare come go sleep wake o s r grant back = plainly come go sleep wake (no_refs o s r) grant back

none_shown : (w : World) (s : ℕ) (shown : Option ℕ) → IsPlain (act.Final (name_at w s) (shown_of w.setup shown None))
none_shown w s None = bare refl refl refl refl (λ x. refl) (λ x. refl) (λ x. refl) refl refl
none_shown w s (Some x) = bare refl refl refl refl (λ x. refl) (λ x. refl) (λ x. refl) refl refl

pub plain_line : (w : World) (k : ℕ) (d : Deed) → next w k ≡ Does d → is_plain d ≡ true → IsPlain (printed w k d)
unfolding printed
plain_line w k (Search p spot to None) e h = bare refl refl refl refl (λ x. refl) (λ x. refl) (λ x. refl) refl refl
plain_line w k (Search p spot to (Some a)) e h = absurd cc
plain_line w k (EndScan p) e h = bare refl refl refl refl (λ x. refl) (λ x. refl) (λ x. refl) refl refl
plain_line w k BeginInterrupts e h = bare refl refl refl refl (λ x. refl) (λ x. refl) (λ x. refl) refl refl
plain_line w k (Finalise s shown None listed anew) e h = none_shown w s shown
plain_line w k (Finalise s shown (Some a) listed anew) e h = absurd cc
plain_line w k EndCaller e h = bare refl refl refl refl (λ x. refl) (λ x. refl) (λ x. refl) refl refl
plain_line w k (Refuse why) e h =
    let b : Begins w k (Refuse why) = has_command_reason w k (Refuse why) e in
    plain_answer w k (reply_of w why) b.said b.command (off (is_ok (reply_of w why)) (is_of_refs b.said) (refused w why))
plain_line w k (Start ticket) e h = let why = has_command_reason w k (Start ticket) e in plain_done w k (Start ticket) why.begins _ why.words refl
plain_line w k (Done ticket) e h = bare refl refl refl refl (λ x. refl) (λ x. refl) (λ x. refl) refl refl
plain_line w k (Detach s) e h = let why = has_command_reason w k (Detach s) e in plain_done w k (Detach s) why.begins _ why.words refl
plain_line w k (Rescan s only) e h = let why = has_command_reason w k (Rescan s only) e in plain_done w k (Rescan s only) why.begins _ why.words refl
plain_line w k (BeginPower what s) e h =
    let why = has_command_reason w k (BeginPower what s) e in
    plain_done w k (BeginPower what s) why.begins (power_command what why.name) why.words (power_apart what why.name)
plain_line w k (EndPower end) e h = bare refl refl refl refl (λ x. refl) (λ x. refl) (λ x. refl) refl refl
plain_line w k (Plug x) e h = let why = has_command_reason w k (Plug x) e in plain_done w k (Plug x) why.begins _ why.words refl
plain_line w k (Unplug x None) e h = let why = has_command_reason w k (Unplug x None) e in plain_done w k (Unplug x None) why.begins _ why.words refl
plain_line w k (Unplug x (Some s)) e h = let why = has_command_reason w k (Unplug x (Some s)) e in plain_done w k (Unplug x (Some s)) why.begins _ why.words refl
plain_line w k Tell e h =
    let why = has_command_reason w k Tell e in
    elim why.words [ inl list ↦ plain_done w k Tell why.begins _ list refl | inr tree ↦ plain_done w k Tell why.begins _ tree refl ]
plain_line w k d e h = absurd cc
