-- What holds where an event stands: what is freed, what comes, and what is transferred.
use Rattle.std.proofs.Common.{◌≡◌, ◌≢◌, ◌⊎◌, ℕ, ◌==◌, Bool, true, false, ◌&&◌, List, [], ◌∷◌, ◌++◌, Option, Some, None, refl, sym, ap, ◌∙◌, inl, inr, eqb-true}
use Rattle.std.specs.Prelude.{IsTrue}
use Rattle.std.specs.Option.{option_map_or}
use Rattle.std.specs.List.{AllByRecursion, Contains}
use Rattle.std.proofs.lemmas.Bool.{and_parts, or_cases}
use Rattle.std.proofs.lemmas.Option.{same_Some}
use Rattle.cf_types.specs.declared.machine.Command.{Command}
use Rattle.cf_types.specs.declared.machine.Command.TheVariants as command
use Rattle.run_rules.specs.declared.event.Act.{Act}
use Rattle.run_rules.specs.declared.event.Act.TheVariants as act
use Rattle.run_rules.specs.declared.event.Reply.{Reply}
use Rattle.run_rules.specs.declared.event.Reply.TheVariants as reply
use Rattle.run_rules.specs.declared.event.PowerKind.{PowerKind}
use Rattle.run_rules.specs.declared.event.PowerKind.TheVariants as kind
use Rattle.run_rules.specs.declared.world.Arrival.{Arrival}
use Rattle.run_rules.specs.declared.world.Dev.{Dev}
use Rattle.run_rules.specs.declared.world.Frame.TheVariants.{Scan}
use Rattle.run_rules.specs.declared.world.Activity.TheVariants as activity
use Rattle.run_rules.specs.declared.world.Ref.{Ref}
use Rattle.run_rules.specs.World.{World, caller_at, device_at, device_named, holds_in, is_live, name_of, parent_name, root_name}
use Rattle.run_rules.specs.declared.deed.Deed.{Deed}
use Rattle.run_rules.specs.declared.deed.Deed.TheVariants.{Search, Finalise, Refuse, Open, Close, Start, Done, Detach, Free, Rescan, BeginPower, Plug, Unplug, Tell}
use Rattle.run_rules.specs.declared.deed.Choice.TheVariants.{Does}
use Rattle.run_rules.specs.After.{after, new_device}
use Rattle.run_rules.specs.Laws.{attached_below, attached_name, freed_name, is_name, is_ok, transfers}
use Rattle.run_rules.specs.Next.{command_of, name_at, next}
use Rattle.run_rules.specs.Run.{answered, printed, reply_of, told}
use Rattle.run_sound.proofs.Coming.{IsCall, IsTurn}
use Rattle.run_sound.specs.Scripts.{power_command}
use Rattle.run_sound.proofs.Commands.{Begins, StartsHeld, open_command}
use Rattle.run_sound.specs.Holding.{GoesUnheld}
use Rattle.run_sound.specs.Kept.{Kept, MayRun}
use Rattle.run_sound.proofs.Arrivals.{none_shown}
use Rattle.run_sound.proofs.Attached.{pinned_spared}
use Rattle.run_sound.proofs.Callers.{clash, doing_so}
use Rattle.run_sound.proofs.FrameDeeds.{called_spared, topped_pinned}
use Rattle.run_sound.proofs.Holding.{goes_unheld, refs_same}
use Rattle.run_sound.proofs.Members.{live_contained, of_each}
use Rattle.run_sound.proofs.Reasons.{has_command_reason, has_reason}
use Rattle.run_sound.proofs.Restacks.{IsSpared}
use Rattle.history_laws.proofs.Acts.{answered_is, refused}
use Rattle.history_laws.proofs.Grown.{LeavesTree}
use Rattle.history_laws.proofs.Kept.{called_device, called_name, name_is, names_after, newcomer}
use Rattle.history_laws.proofs.Names.{HasNames, at_serial, at_there, bytes_same, named_is, parent_named, parent_root, same_bytes, world_names}
use Rattle.history_laws.proofs.Told.{name_fresh}
use Rattle.run_sound.proofs.Beside.{live_found, live_same, live_shown}

-- ---- lines with which no device comes or goes

told_leaves : (w : World) (said : Command) (r : Reply) (x : List ℕ) → LeavesTree (told w said r) x
told_leaves w (command.OpenDev name) r x = record { attached = refl; freed = refl }
told_leaves w said r x = record { attached = refl; freed = refl }

answered_leaves : (w : World) (k : ℕ) (r : Reply) (x : List ℕ) → LeavesTree (answered w k r) x
answered_leaves w k r x = cases (command_of w k)
  where
    cases : (o : Option Command) → LeavesTree (option_map_or (λ said. told w said r) o act.End) x
    cases None = record { attached = refl; freed = refl }
    cases (Some said) = told_leaves w said r x

-- no device comes, and none goes
abbrev pub leaves_tree : Deed → Bool
leaves_tree (Search p spot to (Some a)) = false
leaves_tree (Finalise s shown (Some a) listed anew) = false
leaves_tree (Free s) = false
leaves_tree _ = true

tree_left : (w : World) (k : ℕ) (d : Deed) (x : List ℕ) → leaves_tree d ≡ true → LeavesTree (printed w k d) x
unfolding printed
tree_left w k (Search p spot to None) x h = record { attached = refl; freed = refl }
tree_left w k (Search p spot to (Some a)) x h = absurd cc
tree_left w k (Finalise s None None listed anew) x h = record { attached = refl; freed = refl }
tree_left w k (Finalise s (Some y) None listed anew) x h = record { attached = refl; freed = refl }
tree_left w k (Finalise s shown (Some a) listed anew) x h = absurd cc
tree_left w k (Refuse why) x h = answered_leaves w k (reply_of w why) x
tree_left w k (Open s sole) x h = answered_leaves w k reply.Ok x
tree_left w k (Close s) x h = answered_leaves w k reply.Ok x
tree_left w k (Start t) x h = answered_leaves w k reply.Ok x
tree_left w k (Detach s) x h = answered_leaves w k reply.Ok x
tree_left w k (Free s) x h = absurd cc
tree_left w k (Rescan s only) x h = answered_leaves w k reply.Ok x
tree_left w k (BeginPower what s) x h = answered_leaves w k reply.Ok x
tree_left w k (Plug y) x h = answered_leaves w k reply.Ok x
tree_left w k (Unplug y None) x h = answered_leaves w k reply.Ok x
tree_left w k (Unplug y (Some s)) x h = answered_leaves w k reply.Ok x
tree_left w k Tell x h = answered_leaves w k reply.Ok x
tree_left w k d x h = record { attached = refl; freed = refl }

never : {A : Type 0} (o : Option (List ℕ)) (x : List ℕ) → is_name o x ≡ false → o ≡ Some x → A
never o x off is = clash (is_name o x) (rw is (same_bytes x x refl)) off

-- ---- what is freed

-- the device of this name lived, and its name is not the root's
pub record Lived (w : World) (x : List ℕ) : Type 0 where
  pub dev : Dev
  pub found : device_named w.setup w.live x ≡ Some dev
  pub name : x ≢ root_name

pub freed_lived : (w : World) (k : ℕ) (d : Deed) (x : List ℕ) → MayRun w.setup → Kept w → next w k ≡ Does d → freed_name (printed w k d) ≡ Some x → Lived w x
unfolding printed
freed_lived w k (Free s) x may kept e is =
    let goes : GoesUnheld w k (Free s) s = goes_unheld w k s e in
    let one = live_contained w.live s goes.live in
    let names : HasNames w.setup w.live w.next = world_names w may kept in
    let name : name_of w.setup one.0 ≡ x = sym (name_is w s one.0 names.apart one.1 one.2) ∙ same_Some (name_at w s) x is in
    record { dev = one.0; found = named_is w.setup w.live x one.0 names.own one.1 name; name = λ root. names.unlike_root one.0 one.1 (name ∙ root) }
freed_lived w k (Search p spot to (Some a)) x may kept e is = absurd cc
freed_lived w k (Finalise s shown (Some a) listed anew) x may kept e is = absurd cc
freed_lived w k d x may kept e is = never (freed_name (printed w k d)) x (tree_left w k d x refl).freed is

-- ---- what comes

-- its name was free, and it comes below the root or below a device that lives and is awake
pub record ComesFree (w : World) (x below : List ℕ) : Type 0 where
  pub fresh : device_named w.setup w.live x ≡ None
  pub parent : (below ≡ root_name) ⊎ ((d : Dev) × (device_named w.setup w.live below ≡ Some d) × (d.asleep ≡ false))

-- a spared device of that name is awake
parent_awake : (w : World) (p : ℕ) → HasNames w.setup w.live w.next → IsSpared w.live p
    → (parent_name w.setup w.live p ≡ root_name) ⊎ ((d : Dev) × (device_named w.setup w.live (parent_name w.setup w.live p) ≡ Some d) × (d.asleep ≡ false))
parent_awake w p names spared = cases (device_at w.live p) refl
  where
    cases : (o : Option Dev) → device_at w.live p ≡ o → (parent_name w.setup w.live p ≡ root_name) ⊎ ((d : Dev) × (device_named w.setup w.live (parent_name w.setup w.live p) ≡ Some d) × (d.asleep ≡ false))
    cases None e = inl (parent_root w.setup w.live p e)
    cases (Some d) e =
        let here : Contains w.live d = at_there w.live p d e in
        inr (
          d,
          named_is w.setup w.live (parent_name w.setup w.live p) d names.own here (sym (parent_named w.setup w.live p d e)),
          (of_each (λ (c : Dev). c.serial ≡ p → (c.condemned ≡ None) × (c.asleep ≡ false)) w.live d spared here (at_serial w.live p d e)).1,
        )

fresh_name : (w : World) (k : ℕ) (d : Deed) (a : Arrival) → MayRun w.setup → Kept w → next w k ≡ Does d → (after w k d).live ≡ w.live ++ new_device w a ∷ [] → device_named w.setup w.live (name_of w.setup (new_device w a)) ≡ None
fresh_name w k d a may kept e live =
    let new : HasNames w.setup (w.live ++ new_device w a ∷ []) (after w k d).next = rw live at (names_after w k d may kept e) in
    name_fresh w.setup w.live w.refs (new_device w a) (newcomer w a (after w k d).next kept (world_names w may kept) new)

pub comes_free : (w : World) (k : ℕ) (d : Deed) (x : List ℕ) → MayRun w.setup → Kept w → next w k ≡ Does d → attached_name (printed w k d) ≡ Some x → ComesFree w x (attached_below (printed w k d))
unfolding printed
comes_free w k (Search p spot to (Some a)) x may kept e is =
    let t : IsTurn w k p spot to (Some a) = has_reason w k (Search p spot to (Some a)) e in
    let name : name_of w.setup (new_device w a) ≡ x = same_Some _ x is in
    record {
      fresh = ap (device_named w.setup w.live) (sym name) ∙ fresh_name w k (Search p spot to (Some a)) a may kept e (live_found w k p spot to a);
      parent = parent_awake w p (world_names w may kept) (pinned_spared w p kept.sound (topped_pinned w k (Scan p t.only t.wanted t.from) t.rest t.stack));
    }
comes_free w k (Finalise s None (Some a) listed anew) x may kept e is = absurd (none_shown w k s a listed anew e)
comes_free w k (Finalise s (Some y) (Some a) listed anew) x may kept e is =
    let call : IsCall w k s (Some y) (Some a) listed anew = has_reason w k (Finalise s (Some y) (Some a) listed anew) e in
    let of = called_device w k s y (Some a) listed anew call in
    let name : name_of w.setup (new_device w a) ≡ x = same_Some _ x is in
    let spared : IsSpared w.live s = called_spared w k s listed anew kept.sound (doing_so w k (Finalise s (Some y) (Some a) listed anew) e).unended call.called in
    record {
      fresh = ap (device_named w.setup w.live) (sym name) ∙ fresh_name w k (Finalise s (Some y) (Some a) listed anew) a may kept e (live_shown w k s (Some y) a listed anew);
      parent = rw (called_name w s of.0 of.1) (parent_awake w s (world_names w may kept) spared);
    }
comes_free w k (Free s) x may kept e is = absurd cc
comes_free w k d x may kept e is = never (attached_name (printed w k d)) x (tree_left w k d x refl).attached is

-- ---- what is transferred

abbrev is_io : Command → Bool
is_io (command.Io name value) = true
is_io _ = false

both_off : (b : Bool) → (b && true) ≡ false → b ≡ false
both_off true h = absurd cc
both_off false h = refl

told_still : (w : World) (said : Command) (r : Reply) (x : List ℕ) → (is_ok r && is_io said) ≡ false → transfers (told w said r) x ≡ false
told_still w (command.Io name value) r x h = rw (both_off (is_ok r) h) refl
told_still w said r x h = refl

-- a command that does what it was asked to, and that asks for no transfer
done_still : (w : World) (k : ℕ) (d : Deed) (b : Begins w k d) (said : Command) (x : List ℕ) → b.said ≡ said → is_io said ≡ false → transfers (answered w k reply.Ok) x ≡ false
done_still w k d b said x is off = ap (λ (a : Act). transfers a x) (answered_is w k reply.Ok said (b.command ∙ ap Some is)) ∙ told_still w said reply.Ok x off

power_still : (what : PowerKind) (name : List ℕ) → is_io (power_command what name) ≡ false
power_still kind.Suspend name = refl
power_still kind.Resume name = refl
power_still kind.ResumeTree name = refl

open_still : (sole : Bool) (name : List ℕ) → is_io (open_command sole name) ≡ false
open_still true name = refl
open_still false name = refl

-- no transfer starts or ends
abbrev pub leaves_transfers : Deed → Bool
leaves_transfers (Start t) = false
leaves_transfers (Done t) = false
leaves_transfers _ = true

still : (w : World) (k : ℕ) (d : Deed) (x : List ℕ) → next w k ≡ Does d → leaves_transfers d ≡ true → transfers (printed w k d) x ≡ false
unfolding printed
still w k (Refuse why) x e h =
    let b : Begins w k (Refuse why) = has_command_reason w k (Refuse why) e in
    ap (λ (a : Act). transfers a x) (answered_is w k (reply_of w why) b.said b.command) ∙ told_still w b.said (reply_of w why) x (ap (λ (c : Bool). c && is_io b.said) (refused w why))
still w k (Open s sole) x e h = let why = has_command_reason w k (Open s sole) e in done_still w k (Open s sole) why.begins (open_command sole why.name) x why.words (open_still sole why.name)
still w k (Close s) x e h = let why = has_command_reason w k (Close s) e in done_still w k (Close s) why.begins _ x why.words refl
still w k (Detach s) x e h = let why = has_command_reason w k (Detach s) e in done_still w k (Detach s) why.begins _ x why.words refl
still w k (Rescan s only) x e h = let why = has_command_reason w k (Rescan s only) e in done_still w k (Rescan s only) why.begins _ x why.words refl
still w k (BeginPower what s) x e h =
    let why = has_command_reason w k (BeginPower what s) e in done_still w k (BeginPower what s) why.begins (power_command what why.name) x why.words (power_still what why.name)
still w k (Plug y) x e h = let why = has_command_reason w k (Plug y) e in done_still w k (Plug y) why.begins _ x why.words refl
still w k (Unplug y None) x e h = let why = has_command_reason w k (Unplug y None) e in done_still w k (Unplug y None) why.begins _ x why.words refl
still w k (Unplug y (Some s)) x e h = let why = has_command_reason w k (Unplug y (Some s)) e in done_still w k (Unplug y (Some s)) why.begins _ x why.words refl
still w k Tell x e h =
    let why = has_command_reason w k Tell e in
    elim why.words [ inl list ↦ done_still w k Tell why.begins _ x list refl | inr tree ↦ done_still w k Tell why.begins _ x tree refl ]
still w k (Start t) x e h = absurd cc
still w k (Done t) x e h = absurd cc
still w k _ x e h = refl

-- what is held is live
held_live : (refs : List Ref) (live : List Dev) (k s : ℕ) → AllByRecursion (λ r. IsTrue (is_live live r.serial)) refs → holds_in refs k s ≡ true → is_live live s ≡ true
held_live [] live k s all h = absurd cc
held_live (r ∷ rs) live k s all h = elim (or_cases (r.serial == s && r.caller == k) (holds_in rs k s) h) [
  | inl here ↦ ap (is_live live) (sym (eqb-true r.serial s (and_parts (r.serial == s) (r.caller == k) here).0)) ∙ all.0
  | inr more ↦ held_live rs live k s all.1 more
]

-- the caller holds what it transfers from, and no reference comes or goes with it
pub record HoldsInUse (w : World) (k : ℕ) (d : Deed) (x : List ℕ) : Type 0 where
  pub dev : Dev
  pub found : device_named w.setup w.live x ≡ Some dev
  pub held : holds_in w.refs k dev.serial ≡ true
  pub live : (after w k d).live ≡ w.live
  pub refs : (after w k d).refs ≡ w.refs

pub holds_in_use : (w : World) (k : ℕ) (d : Deed) (x : List ℕ) → MayRun w.setup → Kept w → next w k ≡ Does d → transfers (printed w k d) x ≡ true → HoldsInUse w k d x
unfolding printed
holds_in_use w k (Start t) x may kept e is =
    let why : StartsHeld w k t = has_command_reason w k (Start t) e in
    let line : answered w k reply.Ok ≡ act.IoStart why.name why.value reply.Ok = answered_is w k reply.Ok (command.Io why.name why.value) (why.begins.command ∙ ap Some why.words) in
    let name : why.name ≡ x = bytes_same why.name x (sym (ap (λ (a : Act). transfers a x) line) ∙ is) in
    record {
      dev = why.named.dev;
      found = rw (← name) why.named.found;
      held = rw why.named.serial why.held;
      live = live_same w k (Start t) refl;
      refs = refs_same w k (Start t) refl refl;
    }
holds_in_use w k (Done t) x may kept e is =
    let amid : (caller_at w k).doing ≡ activity.Transfer t = has_command_reason w k (Done t) e in
    let held : holds_in w.refs k t.serial ≡ true = (kept.sound.callers k).transfer t amid in
    let one = live_contained w.live t.serial (held_live w.refs w.live k t.serial kept.sound.refs.live_ones held) in
    let names : HasNames w.setup w.live w.next = world_names w may kept in
    let name : name_of w.setup one.0 ≡ x = sym (name_is w t.serial one.0 names.apart one.1 one.2) ∙ bytes_same (name_at w t.serial) x is in
    record {
      dev = one.0;
      found = named_is w.setup w.live x one.0 names.own one.1 name;
      held = rw one.2 held;
      live = live_same w k (Done t) refl;
      refs = refs_same w k (Done t) refl refl;
    }
holds_in_use w k d x may kept e is = clash (transfers (printed w k d) x) is (still w k d x e refl)
