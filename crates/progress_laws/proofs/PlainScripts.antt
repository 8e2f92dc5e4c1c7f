-- Where each script passes the test, no caller that frees holds a device, so every run can be gone on with until all have ended.
use Rattle.std.proofs.Common.{◌≡◌, ◌≢◌, ◌≤◌, ◌⊎◌, ℕ, zero, suc, ◌+◌, Bool, true, false, List, [], ◌∷◌, ◌++◌, length, Some, refl, sym, ap, ◌∙◌, subst, inl, inr, append_assoc, arith, slice_get}
use Rattle.std.proofs.lemmas.Option.{same_Some}
use Rattle.cf_types.specs.declared.machine.Command.{Command}
use Rattle.cf_types.specs.declared.machine.Command.TheVariants as command
use Rattle.run_rules.specs.declared.event.Event.{Event}
use Rattle.run_rules.specs.declared.world.Activity.{Activity}
use Rattle.run_rules.specs.declared.world.Activity.TheVariants as activity
use Rattle.run_rules.specs.declared.world.Setup.{Setup}
use Rattle.run_rules.specs.World.{World, caller_at, device_named, is_held, name_of, opening}
use Rattle.run_rules.specs.References.{count_in}
use Rattle.run_rules.specs.Run.{Run, played}
use Rattle.run_rules.proofs.References.{held_counts}
use Rattle.run_rules.proofs.Setups.{run_setup}
use Rattle.run_sound.specs.Kept.{Kept, MayRun}
use Rattle.run_sound.specs.Scripts.{IsAmid, script_of}
use Rattle.run_sound.proofs.Callers.{all_or}
use Rattle.run_sound.proofs.Members.{live_contained}
use Rattle.run_sound.proofs.References.{amid_later}
use Rattle.run_sound.proofs.Unheld.{held_live}
use Rattle.history_laws.specs.Counted.{held_of}
use Rattle.script_laws.specs.Begun.{begun_by}
use Rattle.history_laws.proofs.Names.{named_is, world_names}
use Rattle.history_laws.proofs.Carried.{Has, IsCarried, has_always}
use Rattle.history_laws.proofs.Stands.{Stands}
use Rattle.progress_laws.specs.Ring.{FreesEmptyHanded}
use Rattle.progress_laws.proofs.Rings.{always_never_stuck}
use Rattle.progress_laws.specs.Plain.{AllHoldAtMostText, AreAllPlain, EndsForAll, HoldsAtMostText, LetsGoFirst, PlainFreeEmptyHanded, PlainScriptsGoOn, RoundsEndForAll, is_freeing, lets_go_first, opens_left}
use Rattle.progress_laws.specs.Ends.{Rests, all_callers, most_events, rounds}
use Rattle.progress_laws.specs.Still.{HaveAllEnded, NobodyDoes, SomebodyDoes}
use Rattle.progress_laws.proofs.Opening.{opens_with}
use Rattle.progress_laws.proofs.Rounds.{Makes, makes, rounds_end}
use Rattle.progress_laws.proofs.Runs.{comes_to_rest}
use Rattle.progress_laws.proofs.Held.{held_by, text_after, text_open}
use Rattle.progress_laws.proofs.Texts.{behind_one, freeing_leaves, test_decides}

-- ---- every run

abbrev HeldByText : List Event → World → Type 0
HeldByText h w = (k : ℕ) → HoldsAtMostText w (suc k)

text_held : IsCarried HeldByText
text_held = record {
  opens = λ s may. text_open s;
  goes = λ h w e v at has step j.
      subst (λ (x : World). HoldsAtMostText x (suc j)) (sym step.world)
      (text_after h w at.may at.kept at.counted e.caller (suc j) step.deed (λ same. omega (arith, same)) step.chosen (has j));
}

-- ---- who frees is behind a detach or an unplug

record LastIs (begun : List Command) (c : Command) : Type 0 where
  before : List Command
  is : begun ≡ before ++ c ∷ []

last_is : (begun left : List Command) (n : ℕ) (c : Command) → length begun ≡ n + 1 → slice_get (begun ++ left) n ≡ Some c → LastIs begun c
last_is [] left n c many here = absurd (omega (arith, many))
last_is (b ∷ []) left zero c many here = record { before = []; is = ap (λ (y : Command). y ∷ []) (same_Some b c here) }
last_is (b ∷ []) left (suc n) c many here = absurd (omega (arith, many))
last_is (b ∷ d ∷ ds) left zero c many here = absurd (omega (arith, many))
last_is (b ∷ d ∷ ds) left (suc n) c many here =
    let rest = last_is (d ∷ ds) left n c (omega (arith, many)) here in
    record { before = b ∷ rest.before; is = ap (λ (l : List Command). b ∷ l) rest.is }

-- the commands up to one that condemns devices leave nothing open
nothing_left : (begun left : List Command) (n : ℕ) (c : Command) → length begun ≡ n + 1 → slice_get (begun ++ left) n ≡ Some c → is_freeing c ≡ true → LetsGoFirst (begun ++ left)
    → (x : List ℕ) → opens_left begun x ≡ 0
nothing_left begun left n c many here frees goes x =
    let last = last_is begun left n c many here in
    ap (λ (l : List Command). opens_left l x) last.is ∙ behind_one 0 last.before c x ∙ freeing_leaves (opens_left last.before x) c x frees
    ∙ goes last.before left c (ap (λ (l : List Command). l ++ left) last.is ∙ append_assoc last.before (c ∷ []) left) frees x

-- a caller that frees is in the middle of such a command
amid_freeing : (w : World) (k target : ℕ) → Kept w → (caller_at w k).doing ≡ activity.Frees target
    → (c : Command) × (slice_get (script_of w.setup k) (caller_at w k).over ≡ Some c) × (is_freeing c ≡ true)
amid_freeing w k target kept frees = cases (subst (λ (a : Activity). IsAmid a (slice_get (script_of w.setup k) (caller_at w k).over)) frees (kept.ranges.callers.placed k).amid)
  where
    cases : IsAmid (activity.Frees target) (slice_get (script_of w.setup k) (caller_at w k).over)
        → (c : Command) × (slice_get (script_of w.setup k) (caller_at w k).over ≡ Some c) × (is_freeing c ≡ true)
    cases (name, inl detach) = (command.Detach name, detach, refl)
    cases (name, inr unplug) = (command.Unplug name, unplug, refl)

-- so it holds nothing of any name
no_name_held : (w : World) (k target : ℕ) → Kept w → (caller_at w k).doing ≡ activity.Frees target → HoldsAtMostText w k → LetsGoFirst (script_of w.setup k) → (x : List ℕ) → held_by w k x ≡ 0
no_name_held w k target kept frees at goes x =
    let amid = amid_freeing w k target kept frees in
    let many : length at.begun ≡ (caller_at w k).over + 1 = at.many ∙ ap (begun_by (caller_at w k).over) frees in
    let here : slice_get (at.begun ++ at.left) (caller_at w k).over ≡ Some amid.0 = ap (λ (l : List Command). slice_get l (caller_at w k).over) (sym at.script) ∙ amid.1 in
    let none : opens_left at.begun x ≡ 0 = nothing_left at.begun at.left (caller_at w k).over amid.0 many here amid.2 (subst LetsGoFirst at.script goes) x in
    omega (arith, at.most x, none)

-- ---- and of no device

-- what is held has a name, of which its holder holds something
name_held : (h : List Event) (w : World) (k s : ℕ) → Stands h w → is_held w k s ≡ true → (x : List ℕ) × (1 ≤ held_by w k x)
name_held h w k s at held =
    let one = live_contained w.live s (held_live w.refs w.live k s at.kept.sound.refs.live_ones held) in
    let named : device_named w.setup w.live (name_of w.setup one.0) ≡ Some one.0 = named_is w.setup w.live (name_of w.setup one.0) one.0 (world_names w at.may at.kept).own one.1 refl in
    let counts : 1 ≤ count_in w.refs k s = held_counts w.refs k s held in
    let same : held_by w k (name_of w.setup one.0) ≡ count_in w.refs k s = ap (held_of w.refs k) named ∙ ap (count_in w.refs k) one.2 in
    (name_of w.setup one.0, omega (arith, counts, same))

-- ---- plain scripts

plain_script : (s : Setup) (k : ℕ) → AreAllPlain s.scripts → LetsGoFirst (script_of s k)
plain_script s zero plain = (test_decides []).0 refl
plain_script s (suc k) plain = (test_decides (script_of s (suc k))).0 (all_or (λ (script : List Command). lets_go_first script ≡ true) s.scripts k [] plain refl)

empty_handed : (h : List Event) (w : World) → Has HeldByText h w → AreAllPlain w.setup.scripts → FreesEmptyHanded w
empty_handed h w at plain k target s frees = cases (is_held w k s) refl
  where
    of_text : (j : ℕ) → j ≢ 0 → HoldsAtMostText w j
    of_text zero later = absurd (later refl)
    of_text (suc j) later = at.has j

    cases : (b : Bool) → is_held w k s ≡ b → b ≡ false
    cases false e = refl
    cases true e =
        let name = name_held h w k s at.stands e in
        let later : k ≢ 0 = amid_later w k at.stands.kept.ranges (λ is. cc) (λ is. cc) in
        let none : held_by w k name.0 ≡ 0 = no_name_held w k target at.stands.kept frees (of_text k later) (plain_script w.setup k plain) name.0 in
        absurd (omega (arith, name.1, none))

-- ---- the laws

pub always_at_most_text : (s : Setup) (h : List Event) (v : World) → MayRun s → Run (opening s) h v → AllHoldAtMostText h v
always_at_most_text s h v may run zero of = absurd (omega (arith, of.0))
always_at_most_text s h v may run (suc k) of = (has_always HeldByText text_held s h v may run).has k

pub always_empty_handed : (s : Setup) (h : List Event) (v : World) → MayRun s → Run (opening s) h v → PlainFreeEmptyHanded h v
always_empty_handed s h v may run plain = empty_handed h v (has_always HeldByText text_held s h v may run) plain

pub always_go_on : (s : Setup) (h : List Event) (v : World) → MayRun s → Run (opening s) h v → PlainScriptsGoOn h v
always_go_on s h v may run plain = always_never_stuck s h v may run (always_empty_handed s h v may run plain)

-- ---- to the end of all

run_append : (w : World) (h : List Event) (m : World) (es : List Event) (v : World) → Run w h m → Run m es v → Run w (h ++ es) v
run_append w [] m es v first rest = subst (λ (x : World). Run x es v) (sym first) rest
run_append w (e ∷ h) m es v first rest = (first.0, first.1, run_append first.0 h m es v first.2 rest)

-- nobody does anything, so all have ended
all_ended : (w : World) → SomebodyDoes w ⊎ HaveAllEnded w → NobodyDoes w → HaveAllEnded w
all_ended w either still = elim either [ inl some ↦ absurd (still some.0 some.1 some.2) | inr ended ↦ ended ]

pub always_ends_for_all : (s : Setup) (h : List Event) (v : World) → MayRun s → Run (opening s) h v → EndsForAll h v
always_ends_for_all s h v may run plain =
    let rest : Rests v = comes_to_rest s h v may run in
    let whole : Run (opening s) (h ++ rest.more) rest.last = run_append (opening s) h v rest.more rest.last run rest.run in
    let same : rest.last.setup ≡ v.setup = run_setup v rest.more rest.last rest.run in
    let still_plain : AreAllPlain rest.last.setup.scripts = subst (λ (x : Setup). AreAllPlain x.scripts) (sym same) plain in
    record { more = rest.more; last = rest.last; run = rest.run; ended = all_ended rest.last (always_go_on s (h ++ rest.more) rest.last may whole still_plain) rest.still }

-- so it is of turns in rounds, which make a run
pub rounds_end_for_all : RoundsEndForAll
rounds_end_for_all s may plain =
    let turns : List ℕ = rounds (most_events s) (all_callers s) in
    let w : World = (played (opening s) turns).1 in
    let made : Makes (opening s) w = makes (opening s) turns in
    let same : w.setup ≡ s = run_setup (opening s) made.events w made.run ∙ opens_with s in
    all_ended w (always_go_on s made.events w may made.run (subst (λ (x : Setup). AreAllPlain x.scripts) (sym same) plain)) (rounds_end s may)
