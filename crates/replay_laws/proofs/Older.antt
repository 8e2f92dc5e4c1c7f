-- A text of formed events that is taken in format 2 is taken in format 1, as the same events.
use Rattle.std.proofs.Common.{◌≡◌, ℕ, ◌+◌, Bool, true, false, cond, List, [], ◌∷◌, ◌++◌, map, Option, Some, None, refl, sym, ap, ◌∙◌, subst}
use Rattle.std.specs.Prelude.{IfSome, bytes_eq, codes, option_and_then}
use Rattle.std.specs.List.{AllByRecursion}
use Rattle.std.specs.Option.{option_map_or}
use Rattle.std.specs.declared.result.Result.{Result}
use Rattle.std.specs.declared.result.Result.TheVariants.{Ok, Err}
use Rattle.std.proofs.lemmas.Bool.{and_parts}
use Rattle.std.proofs.lemmas.List.Elements.{recursion_from_All}
use Rattle.std.proofs.lemmas.Slice.Eq.{bytes_eq-Decides}
use Rattle.cf_text.specs.Shapes.{is_name}
use Rattle.cf_types.specs.Lines.{ended, text_of}
use Rattle.run_rules.specs.declared.deed.Choice.{Choice}
use Rattle.run_rules.specs.declared.deed.Deed.{Deed}
use Rattle.run_rules.specs.declared.deed.Choice.TheVariants.{Ended, Waits, Does}
use Rattle.run_rules.specs.declared.event.Act.{Act}
use Rattle.run_rules.specs.declared.event.Act.TheVariants as act
use Rattle.run_rules.specs.declared.event.DepthName.{DepthName}
use Rattle.run_rules.specs.declared.event.Event.{Event}
use Rattle.run_rules.specs.declared.event.Format.{Format}
use Rattle.run_rules.specs.declared.event.Format.TheVariants as format
use Rattle.run_rules.specs.declared.event.Got.{Got}
use Rattle.run_rules.specs.declared.event.Reply.{Reply}
use Rattle.run_rules.specs.declared.event.Reply.TheVariants as reply
use Rattle.run_rules.specs.declared.event.Shown.{Shown}
use Rattle.run_rules.specs.declared.world.Setup.{Setup}
use Rattle.run_rules.specs.After.{after}
use Rattle.run_rules.specs.Lines.{IsFormed, IsFormedAct, IsFormedDepthName, IsFormedGot, IsFormedName, IsFormedShown, IsDeviceName, MayClose, MayDetach, MayEndPower, MayOpen, MayOpenSole, MayPlug, MayPower, MayRescan, MayStart, MayUnplug, act_text, act_text_1, line_of, line_of_1, lines, lines_1}
use Rattle.run_rules.specs.Next.{next}
use Rattle.run_rules.specs.Reread.{history_lines, line_in, reread, reread_from, reread_lines, step_by, told_by, with_event}
use Rattle.run_rules.specs.Run.{event_of}
use Rattle.run_rules.specs.World.{World, opening}
use Rattle.run_rules.proofs.FormedNames.{device_known}
use Rattle.run_rules.proofs.Setups.{after_setup}
use Rattle.run_sound.specs.Kept.{MayRun}
use Rattle.dev_event.specs.Spelled.{NamesCaller}
use Rattle.dev_event.proofs.Callers.{bytes_refl}
use Rattle.dev_event.proofs.Shapes.{spot_known}
use Rattle.replay_laws.specs.OneLine.{IsOneLine}
use Rattle.replay_laws.specs.Taken.{TakesOlder}
use Rattle.replay_laws.proofs.Acts.{PlainAct, PlainGot, PlainReply, PlainShown, act_line, act_line_1}
use Rattle.replay_laws.proofs.Callers.{caller_is}
use Rattle.replay_laws.proofs.Cuts.{first_of, lines_behind}
use Rattle.replay_laws.proofs.Events.{headed}
use Rattle.replay_laws.proofs.OneLine.{name_line}
use Rattle.replay_laws.proofs.Shorter.{same_shorter}
use Rattle.replay_laws.proofs.Taken.{names_caller, no_tree}

-- ---- formed events have lines of their own

known_line : (name : List ℕ) → IsFormedName name → IsOneLine name
known_line name h = name_line name (and_parts (is_name name) _ h).0

device_line : (name : List ℕ) → IsDeviceName name → IsOneLine name
device_line name h = known_line name (device_known name h)

-- the device that a reply names, where the replies of an act name none but devices
reply_plain : (P : Reply → Type 0) → ((name : List ℕ) → P (reply.Busy name) → IsOneLine name) → ((name : List ℕ) → P (reply.NotSupported name) → IsOneLine name)
    → ((name : List ℕ) → P (reply.SuspendFailed name) → IsOneLine name) → (r : Reply) → P r → PlainReply r
reply_plain P busy odd failed (reply.Busy name) h = busy name h
reply_plain P busy odd failed (reply.NotSupported name) h = odd name h
reply_plain P busy odd failed (reply.SuspendFailed name) h = failed name h
reply_plain P busy odd failed _ h = tt

got_plain : (got : Option Got) → IfSome got IsFormedGot → PlainGot got
got_plain None h = tt
got_plain (Some g) h = device_line g.name h.0

shown_plain : (shown : Option Shown) → IfSome shown IsFormedShown → PlainShown shown
shown_plain None h = tt
shown_plain (Some x) h = (known_line x.spot (spot_known x.spot h.0), got_plain x.got h.1)

names_plain : (names : List (List ℕ)) → AllByRecursion IsDeviceName names → AllByRecursion IsOneLine names
names_plain [] h = tt
names_plain (name ∷ names) h = (device_line name h.0, names_plain names h.1)

depths_plain : (names : List DepthName) → AllByRecursion IsFormedDepthName names → AllByRecursion (λ d. IsOneLine d.name) names
depths_plain [] h = tt
depths_plain (d ∷ names) h = (device_line d.name h.0.0, depths_plain names h.1)

if_more : {A : Type 0} (P Q : A → Type 0) (o : Option A) → ((a : A) → P a → Q a) → IfSome o P → IfSome o Q
if_more P Q None h k = tt
if_more P Q (Some a) h k = h a k

formed_plain : (a : Act) → IsFormedAct a → PlainAct a
formed_plain (act.Found parent spot got) h = (known_line parent h.0, known_line spot (spot_known spot h.1), got_plain got h.2)
formed_plain (act.ScanEnd device) h = known_line device h
formed_plain act.Interrupts h = tt
formed_plain (act.Final device shown) h = (known_line device h.0, shown_plain shown h.1)
formed_plain act.End h = tt
formed_plain (act.DropRef device) h = known_line device h
formed_plain (act.OpenDev device r) h = (known_line device h.0, reply_plain MayOpen (λ n k. absurd k) (λ n k. absurd k) (λ n k. absurd k) r h.1)
formed_plain (act.OpenSole device r) h = (known_line device h.0, reply_plain MayOpenSole (λ n k. absurd k) (λ n k. absurd k) (λ n k. absurd k) r h.1)
formed_plain (act.CloseDev device r) h = (known_line device h.0, reply_plain MayClose (λ n k. absurd k) (λ n k. absurd k) (λ n k. absurd k) r h.1)
formed_plain (act.IoStart device value r) h = (known_line device h.0, reply_plain MayStart (λ n k. absurd k) (λ n k. absurd k) (λ n k. absurd k) r h.1)
formed_plain (act.IoDone device answer) h = known_line device h.0
formed_plain (act.Detach device r) h = (known_line device h.0, reply_plain MayDetach device_line (λ n k. absurd k) (λ n k. absurd k) r h.1)
formed_plain (act.Free device) h = known_line device h
formed_plain (act.Rescan device r) h = (known_line device h.0, reply_plain MayRescan device_line (λ n k. absurd k) (λ n k. absurd k) r h.1)
formed_plain (act.ListDev None names) h = (tt, if_more (AllByRecursion IsDeviceName) (AllByRecursion IsOneLine) names names_plain h.1)
formed_plain (act.ListDev (Some device) names) h = (known_line device h.0, if_more (AllByRecursion IsDeviceName) (AllByRecursion IsOneLine) names names_plain h.1)
formed_plain (act.TreeDev None names) h = (tt, if_more (AllByRecursion IsFormedDepthName) (AllByRecursion (λ d. IsOneLine d.name)) names depths_plain h.1)
formed_plain (act.TreeDev (Some device) names) h = (known_line device h.0, if_more (AllByRecursion IsFormedDepthName) (AllByRecursion (λ d. IsOneLine d.name)) names depths_plain h.1)
formed_plain (act.Power kind device r) h = (known_line device h.0, reply_plain MayPower (λ n k. absurd k) (λ n k. absurd k) (λ n k. absurd k) r h.1)
formed_plain (act.Sleep device) h = known_line device h
formed_plain (act.Wake device) h = known_line device h
formed_plain (act.PowerEnd device r) h = (known_line device h.0, reply_plain MayEndPower (λ n k. absurd k) device_line device_line r h.1)
formed_plain (act.Plug spot r) h = (known_line spot h.0, reply_plain MayPlug (λ n k. absurd k) (λ n k. absurd k) (λ n k. absurd k) r h.1)
formed_plain (act.Unplug spot r) h = (known_line spot h.0, reply_plain MayUnplug device_line (λ n k. absurd k) (λ n k. absurd k) r h.1)

formed_line : (f : Format) (e : Event) → IsFormed e → IsOneLine (line_in f e)
unfolding line_of line_of_1
formed_line format.First e h = headed e.caller e.number (act_text_1 e.act) (act_line_1 e.act (formed_plain e.act h.act))
formed_line format.Second e h = headed e.caller e.number (act_text e.act) (act_line e.act (formed_plain e.act h.act))

-- ---- a line

-- what a caller does, and that its line is this one
record IsDone (w : World) (k : ℕ) (line : List ℕ) (e : Event) (m : World) : Type 0 where
  deed : Deed
  chosen : next w k ≡ Does deed
  event : e ≡ event_of w k deed
  world : m ≡ after w k deed
  same : line_of (event_of w k deed) ≡ line

both_some : {A B : Type 0} (x y : A × B) → Some x ≡ Some y → (y.0 ≡ x.0) × (y.1 ≡ x.1)
both_some {A} {B} x y h = let same : y ≡ x = cc in (ap (λ (p : A × B). p.0) same, ap (λ (p : A × B). p.1) same)

line_done : (w : World) (k : ℕ) (line : List ℕ) (c : Choice) (e : Event) (m : World) → next w k ≡ c → told_by format.Second w k line c ≡ Some (e, m) → IsDone w k line e m
line_done w k line (Does d) e m chosen h = by (bytes_eq (line_of (event_of w k d)) line) refl h
  where
    by : (b : Bool) → bytes_eq (line_of (event_of w k d)) line ≡ b → cond {A = Option (Event × World)} b (Some (event_of w k d, after w k d)) None ≡ Some (e, m) → IsDone w k line e m
    by true is told =
        let both = both_some (event_of w k d, after w k d) (e, m) told in
        record { deed = d; chosen = chosen; event = both.0; world = both.1; same = (bytes_eq-Decides _ _).0 is }
    by false is told = absurd cc
line_done w k line Ended e m chosen h = absurd cc
line_done w k line (Waits why) e m chosen h = absurd cc

-- what the caller that a line names does
named_step : (f : Format) (w : World) (k : ℕ) (line : List ℕ) → NamesCaller line k → step_by f w line ≡ told_by f w k line (next w k)
named_step f w k line names = ap (option_and_then (λ j. told_by f w j line (next w j))) (caller_is line k names)

told_so : (f : Format) (w : World) (k : ℕ) (line : List ℕ) (d : Deed) → bytes_eq (line_in f (event_of w k d)) line ≡ true → told_by f w k line (Does d) ≡ Some (event_of w k d, after w k d)
told_so f w k line d same = rw same refl

event_done : (w : World) (e x : Event) (m : World) → IsFormed e → step_by format.Second w (line_of e) ≡ Some (x, m) → IsDone w e.caller (line_of e) x m
event_done w e x m formed took =
    line_done w e.caller (line_of e) (next w e.caller) x m refl (sym (named_step format.Second w e.caller (line_of e) (names_caller format.Second e formed.caller)) ∙ took)

done_first : (w : World) (e x : Event) (m : World) (d : Deed) → IsFormed e → next w e.caller ≡ Does d → x ≡ event_of w e.caller d → m ≡ after w e.caller d → bytes_eq (line_of_1 (event_of w e.caller d)) (line_of_1 e) ≡ true
    → step_by format.First w (line_of_1 e) ≡ Some (x, m)
done_first w e x m d formed chosen event world same =
    named_step format.First w e.caller (line_of_1 e) (names_caller format.First e formed.caller) ∙ ap (told_by format.First w e.caller (line_of_1 e)) chosen ∙ told_so format.First w e.caller (line_of_1 e) d same
    ∙ ap (λ (y : Event). Some (y, after w e.caller d)) (sym event) ∙ ap (λ (u : World). Some (x, u)) (sym world)

-- its line of format 1 is then that of the same event
older_step : (w : World) (e x : Event) (m : World) → MayRun w.setup → IsFormed e → step_by format.Second w (line_of e) ≡ Some (x, m) → step_by format.First w (line_of_1 e) ≡ Some (x, m)
older_step w e x m may formed took =
    let done = event_done w e x m formed took in
    done_first w e x m done.deed formed done.chosen done.event done.world
    (ap (bytes_eq (line_of_1 (event_of w e.caller done.deed))) (sym (same_shorter w e.caller done.deed e may formed.act done.same)) ∙ bytes_refl (line_of_1 (event_of w e.caller done.deed)))

step_setup : (w : World) (e x : Event) (m : World) → IsFormed e → step_by format.Second w (line_of e) ≡ Some (x, m) → m.setup ≡ w.setup
step_setup w e x m formed took =
    let done = event_done w e x m formed took in
    ap (λ (u : World). u.setup) done.world ∙ after_setup w e.caller done.deed

-- ---- lines

-- what stands behind the events: a line `tree`, and whatever follows
abbrev tail_of : List ℕ → List ℕ
tail_of rest = ended (codes "tree") ++ rest

tree_ends : (f : Format) (w : World) (n : ℕ) (rest : List ℕ) → reread_lines f w n (history_lines (tail_of rest)) ≡ Ok ([], w)
unfolding reread_lines
tree_ends f w n rest = ap (reread_lines f w n) (lines_behind (codes "tree") rest refl)

abbrev Answer : Type 0
Answer = Result (List Event × World) ℕ

with_same : (x : Event) (r t : Answer) (g : List Event) (v : World) → ((run : List Event × World) → r ≡ Ok run → t ≡ Ok run) → with_event x r ≡ Ok (g, v) → with_event x t ≡ Ok (g, v)
with_same x (Ok run) t g v later is = ap (with_event x) (later run refl) ∙ is
with_same x (Err bad) t g v later is = absurd cc

-- the answer behind a line that is no line `tree`
abbrev answer_of : Format → ℕ → List (List ℕ) → Option (Event × World) → Answer
answer_of f n rest o = option_map_or (λ step. with_event step.0 (reread_lines f step.1 (n + 1) rest)) o (Err n)

opened : (f : Format) (w : World) (n : ℕ) (line : List ℕ) (rest : List (List ℕ)) → bytes_eq line (codes "tree") ≡ false → reread_lines f w n (line ∷ rest) ≡ answer_of f n rest (step_by f w line)
unfolding reread_lines
opened f w n line rest other = rw other refl

-- one that is taken in both formats
both_taken : (n : ℕ) (second first : List (List ℕ)) (o : Option (Event × World)) (g : List Event) (v : World)
    → ((step : Event × World) → o ≡ Some step → (run : List Event × World) → reread_lines format.Second step.1 (n + 1) second ≡ Ok run → reread_lines format.First step.1 (n + 1) first ≡ Ok run)
    → answer_of format.Second n second o ≡ Ok (g, v) → (step : Event × World) × (o ≡ Some step) × (answer_of format.First n first (Some step) ≡ Ok (g, v))
both_taken n second first None g v later is = absurd cc
both_taken n second first (Some step) g v later is =
    (step, refl, with_same step.0 (reread_lines format.Second step.1 (n + 1) second) (reread_lines format.First step.1 (n + 1) first) g v (later step refl) is)

abbrev OlderTaken : ℕ → List Event → List ℕ → Type 0
OlderTaken n h rest =
    (w : World) (g : List Event) (v : World) → MayRun w.setup → reread_lines format.Second w n (history_lines (text_of (map line_of h) ++ tail_of rest)) ≡ Ok (g, v)
    → reread_lines format.First w n (history_lines (text_of (map line_of_1 h) ++ tail_of rest)) ≡ Ok (g, v)

one_older : (n : ℕ) (e : Event) (es : List Event) (rest : List ℕ) → IsFormed e → OlderTaken (n + 1) es rest → OlderTaken n (e ∷ es) rest
one_older n e es rest formed later w g v may took =
    let second : List (List ℕ) = history_lines (text_of (map line_of es) ++ tail_of rest) in
    let first : List (List ℕ) = history_lines (text_of (map line_of_1 es) ++ tail_of rest) in
    let read : answer_of format.Second n second (step_by format.Second w (line_of e)) ≡ Ok (g, v) =
    sym (opened format.Second w n (line_of e) second (no_tree (line_of e) e.caller (names_caller format.Second e formed.caller)))
    ∙ sym (ap (reread_lines format.Second w n) (first_of (line_of e) (map line_of es) (tail_of rest) (formed_line format.Second e formed))) ∙ took in
    let both = both_taken n second first (step_by format.Second w (line_of e)) g v
    (λ step is run. later step.1 run.0 run.1 (subst MayRun (sym (step_setup w e step.0 step.1 formed is)) may)) read in
    let told : step_by format.First w (line_of_1 e) ≡ Some both.0 = older_step w e both.0.0 both.0.1 may formed both.1 in
    ap (reread_lines format.First w n) (first_of (line_of_1 e) (map line_of_1 es) (tail_of rest) (formed_line format.First e formed))
    ∙ opened format.First w n (line_of_1 e) first (no_tree (line_of_1 e) e.caller (names_caller format.First e formed.caller))
    ∙ ap (answer_of format.First n first) told ∙ both.2

older_lines : (n : ℕ) (h : List Event) (rest : List ℕ) → AllByRecursion IsFormed h → OlderTaken n h rest
older_lines n [] rest formed w g v may took = tree_ends format.First w n rest ∙ sym (tree_ends format.Second w n rest) ∙ took
older_lines n (e ∷ es) rest formed w g v may took = one_older n e es rest formed.0 (older_lines (n + 1) es rest formed.1) w g v may took

-- ---- the law

opening_setup : (s : Setup) → (opening s).setup ≡ s
unfolding opening
opening_setup s = refl

pub older_taken : TakesOlder
unfolding reread reread_from lines lines_1
older_taken s h rest g v may formed took =
    ap (reread_from (opening s) 1) (first_of (codes "history 1") (map line_of_1 h) (tail_of rest) refl)
    ∙ older_lines 2 h rest (recursion_from_All IsFormed h formed) (opening s) g v (subst MayRun (sym (opening_setup s)) may)
    (sym (ap (reread_from (opening s) 1) (first_of (codes "history 2") (map line_of h) (tail_of rest) refl)) ∙ took)
