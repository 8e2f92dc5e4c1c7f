-- Each caller of a script does its commands in order, whatever is done.
use Rattle.std.proofs.Common.{◌≡◌, ◌≢◌, ◌⊎◌, ◌<◌, ◌≤◌, ℕ, zero, suc, ◌+◌, ◌-◌, ◌==◌, Bool, true, false, List, [], ◌∷◌, ◌++◌, map, find, length, Option, Some, None, is_some, refl, sym, ap, ◌∙◌, subst, inl, inr, arith, slice_get, slice_index_or, length-append, eqb-true, eq-eqb}
use Rattle.std.specs.Prelude.{if◌then◌else◌}
use Rattle.std.proofs.lemmas.Bool.{ne_eqb}
use Rattle.std.proofs.lemmas.List.{append-nil}
use Rattle.cf_types.specs.declared.machine.Command.{Command}
use Rattle.cf_types.specs.declared.machine.Command.TheVariants as command
use Rattle.run_rules.specs.declared.event.Event.{Event}
use Rattle.run_rules.specs.declared.event.Reply.{Reply}
use Rattle.run_rules.specs.declared.event.Reply.TheVariants as reply
use Rattle.run_rules.specs.declared.world.Activity.{Activity}
use Rattle.run_rules.specs.declared.world.Activity.TheVariants as activity
use Rattle.run_rules.specs.declared.world.Frame.{Frame}
use Rattle.run_rules.specs.declared.world.Setup.{Setup}
use Rattle.run_rules.specs.declared.deed.Deed.{Deed}
use Rattle.run_rules.specs.declared.deed.Deed.TheVariants.{Search, EndScan, BeginInterrupts, Finalise, EndCaller, Drop, Refuse, Open, Close, Start, Done, Detach, Free, Rescan, BeginPower, Sleep, Wake, EndPower, Plug, Unplug, Tell}
use Rattle.run_rules.specs.declared.deed.Choice.TheVariants.{Does}
use Rattle.run_rules.specs.Counts.{is_end}
use Rattle.run_rules.specs.World.{World, Caller, beginning, caller_at, has_ended, is_ended, nobody, opening}
use Rattle.run_rules.specs.Next.{command_of, next}
use Rattle.run_rules.specs.After.{after}
use Rattle.run_rules.specs.Run.{Run, Step, answered, event_of, printed, reply_of, told}
use Rattle.run_rules.proofs.Devices.{all_both, all_imp}
use Rattle.run_rules.proofs.Runs.{event_caller}
use Rattle.run_rules.proofs.Setups.{after_setup, run_setup}
use Rattle.run_sound.proofs.Coming.{IsCall, IsPhase, IsScanEnd, IsTurn}
use Rattle.run_sound.proofs.Commands.{Begins, EndsPower, FreesLast, ReturnsFirst, SendsToSleep, Wakes}
use Rattle.run_sound.specs.Kept.{Kept}
use Rattle.run_sound.specs.Scripts.{script_of}
use Rattle.run_sound.proofs.Callers.{caller_here, clash, doing_so, doing_there, later_test}
use Rattle.run_sound.proofs.RangesCallers.{others_stay}
use Rattle.run_sound.proofs.Reasons.{has_command_reason, has_reason}
use Rattle.run_sound.proofs.ScriptLaws.{amid_within}
use Rattle.run_sound.proofs.Scripts.{command_is, is_amid}
use Rattle.history_laws.specs.Always.{OfEveryRun}
use Rattle.history_laws.proofs.Acts.{answered_is}
use Rattle.script_laws.specs.Whole.{AnswerEach, Answers, answers_to, is_answer}
use Rattle.script_laws.proofs.Answered.{IsAnswered, answered_on, answered_open, told_answers}
use Rattle.script_laws.specs.Begun.{begun_by}
use Rattle.script_laws.proofs.Deeds.{AnswersNext, AnswersNone, amid_begun, kind_of}
use Rattle.whole_laws.specs.Order.{CommandsInOrder, FirstAnswers, IsFirst, OfEveryPlace, StandsInOrder, closes, command_at, is_numbered}
use Rattle.history_laws.proofs.Carried.{IsCarried, has_always, in_run}
use Rattle.history_laws.proofs.Always.{ends}
use Rattle.history_laws.proofs.Stands.{Stands}
use Rattle.whole_laws.proofs.Order.{IsOrdered, closing_ordered, command_ordered, none_beyond, other_ordered}

-- ---- what a deed of a script's caller is

-- more of the command that the caller is in the middle of
record IsMore (w : World) (k : ℕ) (d : Deed) : Type 0 where
  amid : is_amid (caller_at w k).doing ≡ true
  spared : closes (printed w k d) ≡ false
  none : AnswersNone w k d

-- it returns what it holds, or ends
record IsClosing (w : World) (k : ℕ) (d : Deed) : Type 0 where
  over : command_of w k ≡ None
  line : closes (printed w k d) ≡ true
  silent : is_answer (printed w k d) ≡ false
  same : (caller_at (after w k d) k).over ≡ (caller_at w k).over
  rests : is_amid (caller_at w k).doing ≡ false → is_amid (caller_at (after w k d) k).doing ≡ false
  live : has_ended (after w k d) k ≡ false → is_end (printed w k d) ≡ false

-- a frame is before it
framed : (w : World) (k : ℕ) → Kept w → k ≢ 0 → (f : Frame) (rest : List Frame) → (caller_at w k).stack ≡ f ∷ rest → is_amid (caller_at w k).doing ≡ true
framed w k kept later f rest is = ap is_amid ((kept.sound.callers k).frames (later_test k later) (λ none. some (sym is ∙ none)))
  where
    some : f ∷ rest ≡ [] → ⊥
    some e = absurd cc

answering : (w : World) (k : ℕ) (d : Deed) (b : Begins w k d) (r : Reply) → printed w k d ≡ answered w k r → AnswersNone w k d → ⊥
answering w k d b r line none = clash (is_answer (printed w k d)) (ap is_answer (line ∙ answered_is w k r b.said b.command) ∙ told_answers w b.said r) none.line

stance : (w : World) (k : ℕ) (d : Deed) → Kept w → k ≢ 0 → next w k ≡ Does d → AnswersNone w k d → IsMore w k d ⊎ IsClosing w k d
unfolding printed after
stance w k (Search p spot to got) kept later e none =
    let why : IsTurn w k p spot to got = has_reason w k (Search p spot to got) e in
    inl (record { amid = framed w k kept later _ why.rest why.stack; spared = refl; none = none })
stance w k (EndScan p) kept later e none =
    let why : IsScanEnd w k p = has_reason w k (EndScan p) e in
    inl (record { amid = framed w k kept later _ why.rest why.stack; spared = refl; none = none })
stance w k BeginInterrupts kept later e none = let why : IsPhase w k = has_reason w k BeginInterrupts e in absurd (later why.boots)
stance w k (Finalise s shown got None anew) kept later e none =
    let why : IsCall w k s shown got None anew = has_reason w k (Finalise s shown got None anew) e in
    inl (record { amid = framed w k kept later _ why.called.0 why.called.1; spared = refl; none = none })
stance w k (Finalise s shown got (Some place) true) kept later e none =
    let why : IsCall w k s shown got (Some place) true = has_reason w k (Finalise s shown got (Some place) true) e in absurd (later why.called.0)
stance w k (Finalise s shown got (Some place) false) kept later e none =
    let why : IsCall w k s shown got (Some place) false = has_reason w k (Finalise s shown got (Some place) false) e in absurd (later why.called.0)
stance w k EndCaller kept later e none = let bad : true ≡ false = none.goes in absurd cc
stance w k (Drop s) kept later e none =
    let why : ReturnsFirst w k s = has_command_reason w k (Drop s) e in
    inr (record { over = why.over; line = refl; silent = refl; same = refl; rests = λ h. h; live = λ h. refl })
stance w k (Refuse why) kept later e none = absurd (answering w k (Refuse why) (has_command_reason w k (Refuse why) e) (reply_of w why) refl none)
stance w k (Open s sole) kept later e none = absurd (answering w k (Open s sole) (has_command_reason w k (Open s sole) e).begins reply.Ok refl none)
stance w k (Close s) kept later e none = absurd (answering w k (Close s) (has_command_reason w k (Close s) e).begins reply.Ok refl none)
stance w k (Start t) kept later e none = absurd (answering w k (Start t) (has_command_reason w k (Start t) e).begins reply.Ok refl none)
stance w k (Done t) kept later e none = inl (record { amid = ap is_amid (has_command_reason w k (Done t) e); spared = refl; none = none })
stance w k (Detach s) kept later e none = absurd (answering w k (Detach s) (has_command_reason w k (Detach s) e).begins reply.Ok refl none)
stance w k (Free s) kept later e none = let why : FreesLast w k s = has_command_reason w k (Free s) e in inl (record { amid = ap is_amid why.amid; spared = refl; none = none })
stance w k (Rescan s only) kept later e none = absurd (answering w k (Rescan s only) (has_command_reason w k (Rescan s only) e).begins reply.Ok refl none)
stance w k (BeginPower kind s) kept later e none = absurd (answering w k (BeginPower kind s) (has_command_reason w k (BeginPower kind s) e).begins reply.Ok refl none)
stance w k (Sleep s) kept later e none = let why : SendsToSleep w k s = has_command_reason w k (Sleep s) e in inl (record { amid = ap is_amid why.amid; spared = refl; none = none })
stance w k (Wake s) kept later e none = let why : Wakes w k s = has_command_reason w k (Wake s) e in inl (record { amid = ap is_amid why.amid; spared = refl; none = none })
stance w k (EndPower end) kept later e none = let why : EndsPower w k end = has_command_reason w k (EndPower end) e in inl (record { amid = ap is_amid why.amid; spared = refl; none = none })
stance w k (Plug x) kept later e none = absurd (answering w k (Plug x) (has_command_reason w k (Plug x) e).begins reply.Ok refl none)
stance w k (Unplug x None) kept later e none = absurd (answering w k (Unplug x None) (has_command_reason w k (Unplug x None) e).begins reply.Ok refl none)
stance w k (Unplug x (Some s)) kept later e none = absurd (answering w k (Unplug x (Some s)) (has_command_reason w k (Unplug x (Some s)) e).begins reply.Ok refl none)
stance w k Tell kept later e none = absurd (answering w k Tell (has_command_reason w k Tell e).begins reply.Ok refl none)

ends_closing : (w : World) (k : ℕ) → k ≢ 0 → next w k ≡ Does EndCaller → IsClosing w k EndCaller
unfolding printed after
ends_closing w k later e =
    let ended : caller_at (after w k EndCaller) k ≡ record { over = (caller_at w k).over; doing = activity.Ended; stack = (caller_at w k).stack } = caller_here w k _ (doing_there w k EndCaller e) in
    record {
      over = elim (has_reason w k EndCaller e).over [ inl boots ↦ absurd (later boots.0) | inr script ↦ script.1 ];
      line = refl;
      silent = refl;
      same = ap (λ (c : Caller). c.over) ended;
      rests = λ h. ap (λ (c : Caller). is_amid c.doing) ended;
      live = λ goes. clash (has_ended (after w k EndCaller) k) (ap (λ (c : Caller). is_ended c.doing) ended) goes;
    }

abbrev Sort : World → ℕ → Deed → Type 0
Sort w k d = AnswersNext w k d ⊎ (IsMore w k d ⊎ IsClosing w k d)

sort_of : (w : World) (k : ℕ) (d : Deed) → Kept w → k ≢ 0 → next w k ≡ Does d → Sort w k d
sort_of w k d kept later e = elim (kind_of w k kept d e) [
  | inl one ↦ inl one
  | inr others ↦ elim others [
    | inl none ↦ inr (stance w k d kept later e none)
    | inr end ↦ inr (inr (subst (IsClosing w k) (sym end) (ends_closing w k later (subst (λ (x : Deed). next w k ≡ Does x) end e))))
  ]
]

-- ---- the lines

told_spared : (w : World) (said : Command) (r : Reply) → (closes (told w said r) ≡ false) × (is_end (told w said r) ≡ false)
told_spared w (command.OpenDev name) r = (refl, refl)
told_spared w said r = (refl, refl)

pub event_number : (w : World) (k : ℕ) (d : Deed) → k ≢ 0 → (event_of w k d).number ≡ (caller_at w k).over + 1
unfolding event_of
event_number w k d later = ap (λ (b : Bool). if b then 0 else (caller_at w k).over + 1) (ne_eqb k 0 later)

pub event_act : (w : World) (k : ℕ) (d : Deed) → (event_of w k d).act ≡ printed w k d
unfolding event_of
event_act w k d = refl

-- ---- where the script ends

get_none : (script : List Command) (n : ℕ) → slice_get script n ≡ None → length script ≤ n
get_none [] n e = omega arith
get_none (c ∷ script) zero e = absurd cc
get_none (c ∷ script) (suc n) e = omega (arith, get_none script n e)

get_some : (script : List Command) (n : ℕ) (c : Command) → slice_get script n ≡ Some c → n < length script
get_some [] n c e = absurd cc
get_some (x ∷ script) zero c e = omega arith
get_some (x ∷ script) (suc n) c e = omega (arith, get_some script n c e)

rests_begun : (over : ℕ) (a : Activity) → is_amid a ≡ false → begun_by over a ≡ over
rests_begun over activity.Idle h = refl
rests_begun over activity.Ended h = refl
rests_begun over (activity.Transfer t) h = absurd cc
rests_begun over (activity.Frees s) h = absurd cc
rests_begun over activity.Scans h = absurd cc
rests_begun over (activity.Power kind s) h = absurd cc

-- a caller of a script does a deed
module _ (w : World) (k : ℕ) (d : Deed) (kept : Kept w) (later : k ≢ 0) (e : next w k ≡ Does d) where
  abbrev script : List Command
  script = script_of w.setup k

  abbrev now : Caller
  now = caller_at w k

  next_said : (one : AnswersNext w k d) → slice_get script now.over ≡ Some one.said
  next_said one = sym (command_is w k later) ∙ one.command

  none_left : IsClosing w k d → slice_get script now.over ≡ None
  none_left c = sym (command_is w k later) ∙ c.over

  all_over : IsClosing w k d → length script ≡ now.over
  all_over c = omega (arith, get_none script now.over (none_left c), (kept.ranges.callers.placed k).within)

  closing_rests : IsClosing w k d → is_amid now.doing ≡ false
  closing_rests c = cases (is_amid now.doing) refl
    where
      cases : (b : Bool) → is_amid now.doing ≡ b → is_amid now.doing ≡ false
      cases true is = absurd (omega (arith, all_over c, amid_within w k kept is))
      cases false is = is

  answers_first : (f : Event) → f ≡ event_of w k d → (one : AnswersNext w k d) → Answers (now.over + 1) one.said f
  answers_first f is one = record {
    number = ap (λ (x : Event). x.number) is ∙ event_number w k d later;
    world = w;
    reply = one.reply;
    line = ap (λ (x : Event). x.act) is ∙ event_act w k d ∙ one.line;
  }

  is_first : (one : AnswersNext w k d) → IsFirst (now.over + 1) (slice_get script now.over) (event_of w k d)
  is_first one = subst (λ (o : Option Command). IsFirst (now.over + 1) o (event_of w k d)) (sym (next_said one)) (answers_first (event_of w k d) refl one)

  own_ordered : (h : List Event) → IsOrdered h script k now → IsOrdered (h ++ event_of w k d ∷ []) script k (caller_at (after w k d) k)
  own_ordered h at = elim (sort_of w k d kept later e) [
    | inl one ↦ command_ordered h (event_of w k d) script k now (event_caller w k d) (event_number w k d later) at (caller_at (after w k d) k)
        (one.on.begun ∙ ap (λ (n : ℕ). n + 1) (ap (begun_by now.over) one.idle)) one.on.goes (doing_so w k d e).unended
        (ap closes (event_act w k d ∙ one.line) ∙ (told_spared w one.said one.reply).0) (ap is_end (event_act w k d ∙ one.line) ∙ (told_spared w one.said one.reply).1) (λ fresh. is_first one)
    | inr others ↦ elim others [
      | inl more ↦ command_ordered h (event_of w k d) script k now (event_caller w k d) (event_number w k d later) at (caller_at (after w k d) k)
          (omega (arith, more.none.on.begun, amid_begun now.over now.doing more.amid)) more.none.on.goes (doing_so w k d e).unended
          (ap closes (event_act w k d) ∙ more.spared) (ap is_end (event_act w k d) ∙ more.none.goes)
          (λ fresh. clash (is_some (find (is_numbered k (now.over + 1)) h)) (at.begun more.amid) (ap is_some fresh))
      | inr c ↦ closing_ordered h (event_of w k d) script k now (event_caller w k d) (event_number w k d later) at (caller_at (after w k d) k)
          c.same (c.rests (closing_rests c)) (none_left c) (all_over c) (ap closes (event_act w k d) ∙ c.line) (doing_so w k d e).unended (λ goes. ap is_end (event_act w k d) ∙ c.live goes)
    ]
  ]

  -- ---- where its event stands

  module _ (f : Event) (is : f ≡ event_of w k d) (own : f.caller ≡ k) (h : List Event) (at : IsOrdered h script k now) (told : IsAnswered h w k) where
    number : f.number ≡ now.over + 1
    number = ap (λ (x : Event). x.number) is ∙ event_number w k d later

    act_is : f.act ≡ printed w k d
    act_is = ap (λ (x : Event). x.act) is ∙ event_act w k d

    went : has_ended w k ≡ false
    went = (doing_so w k d e).unended

    -- who closes has answered all
    all_answered : IsClosing w k d → AnswerEach 1 script (answers_to k h)
    all_answered c =
        let begun : length told.done ≡ now.over = told.many ∙ rests_begun now.over now.doing (closing_rests c) in
        let none : told.left ≡ [] = empty told.left (omega (arith, begun, all_over c, ap length told.split, length-append told.done told.left)) in
        let all : told.done ≡ script = sym (told.split ∙ ap (λ (l : List Command). told.done ++ l) none ∙ append-nil told.done) in
        subst (λ (cs : List Command). AnswerEach 1 cs (answers_to k h)) all told.each
      where
        empty : (cs : List Command) → length cs ≡ 0 → cs ≡ []
        empty [] e = refl
        empty (c ∷ cs) e = absurd (omega (arith, e))

    place : (n : ℕ) → n ≡ now.over + 1 → (o : Option Command) → slice_get script now.over ≡ o → command_at script n ≡ o
    place n e o at = let back : n - 1 ≡ now.over = omega (arith, e) in rw back at

    -- an event of a command, which is not behind the last
    command_place : now.over < length script → closes f.act ≡ false → (find (is_numbered k (now.over + 1)) h ≡ None → IsFirst f.number (command_at script f.number) f)
        → (is_some (find (is_numbered k (now.over + 1)) h) ≡ true → is_answer f.act ≡ false) → StandsInOrder script h f
    command_place within spared one later_one = record {
      numbered = omega (arith, number);
      rises = all_imp _ _ (λ x low same. omega (arith, number, low (same ∙ own))) h at.low;
      each = λ n lt. rw own (at.each n (omega (arith, lt, number)));
      first = λ fresh. one (rw (own, number) at fresh);
      later = λ some. later_one (rw (own, number) at some);
      closing = λ on. clash (closes f.act) on spared;
      inside = λ off. omega (arith, number, within);
      answered = λ on. clash (closes f.act) on spared;
      closed = all_both _ _ _ (λ x low closing same on. absurd (omega (arith, within, low (same ∙ own), closing (same ∙ own) on))) h at.low at.closed;
      unended = all_imp _ _ (λ x live same. live (same ∙ own)) h (at.unended went);
    }

    closing_place : IsClosing w k d → StandsInOrder script h f
    closing_place c =
        let on : closes f.act ≡ true = ap closes act_is ∙ c.line in
        record {
          numbered = omega (arith, number);
          rises = all_imp _ _ (λ x low same. omega (arith, number, low (same ∙ own))) h at.low;
          each = λ n lt. rw own (at.each n (omega (arith, lt, number)));
          first = λ fresh. subst (λ (o : Option Command). IsFirst f.number o f) (sym (place f.number number None (none_left c))) on;
          later = λ some. ap is_answer act_is ∙ c.silent;
          closing = λ _. omega (arith, number, all_over c);
          inside = λ off. clash (closes f.act) on off;
          answered = λ _. rw own (all_answered c);
          closed = all_imp _ _ (λ x closing same _. on) h at.closed;
          unended = all_imp _ _ (λ x live same. live (same ∙ own)) h (at.unended went);
        }

    in_place : StandsInOrder script h f
    in_place = elim (sort_of w k d kept later e) [
      | inl one ↦
          let said = next_said one in
          command_place (get_some script now.over one.said said) (ap closes (act_is ∙ one.line) ∙ (told_spared w one.said one.reply).0)
          (λ fresh. subst (λ (o : Option Command). IsFirst f.number o f) (sym (place f.number number (Some one.said) said)) (subst (λ (n : ℕ). Answers n one.said f) (sym number) (answers_first f is one)))
          (λ some. clash (is_some (find (is_numbered k (now.over + 1)) h)) some
          (ap is_some (none_beyond k now.over (now.over + 1) h (at.ahead one.idle one.said said) (omega arith))))
      | inr others ↦ elim others [
        | inl more ↦
            command_place (amid_within w k kept more.amid) (ap closes act_is ∙ more.spared)
            (λ fresh. clash (is_some (find (is_numbered k (now.over + 1)) h)) (at.begun more.amid) (ap is_some fresh))
            (λ some. ap is_answer act_is ∙ more.none.line)
        | inr c ↦ closing_place c
      ]
    ]

-- ---- so of every caller, whatever is done

record IsKnown (h : List Event) (w : World) (k : ℕ) : Type 0 where
  ordered : IsOrdered h (script_of w.setup k) k (caller_at w k)
  told : IsAnswered h w k

abbrev Known : List Event → World → Type 0
Known h w = (k : ℕ) → k ≢ 0 → IsKnown h w k

ordered_on : (h : List Event) (w : World) (k j : ℕ) (d : Deed) → Kept w → next w k ≡ Does d → j ≢ 0 → IsOrdered h (script_of w.setup j) j (caller_at w j)
    → IsOrdered (h ++ event_of w k d ∷ []) (script_of w.setup j) j (caller_at (after w k d) j)
ordered_on h w k j d kept e later at = cases (k == j) refl
  where
    cases : (b : Bool) → (k == j) ≡ b → IsOrdered (h ++ event_of w k d ∷ []) (script_of w.setup j) j (caller_at (after w k d) j)
    cases true is =
        let same : k ≡ j = eqb-true k j is in
        subst (λ (i : ℕ). i ≢ 0 → IsOrdered h (script_of w.setup i) i (caller_at w i) → IsOrdered (h ++ event_of w k d ∷ []) (script_of w.setup i) i (caller_at (after w k d) i)) same
        (λ own_later own. own_ordered w k d kept own_later e h own) later at
    cases false is =
        let differs : j ≢ k = λ same. clash (k == j) (eq-eqb k j (sym same)) is in
        subst (IsOrdered (h ++ event_of w k d ∷ []) (script_of w.setup j) j) (sym (others_stay w k j d differs))
        (other_ordered h (event_of w k d) (script_of w.setup j) j (caller_at w j) (λ same. differs (sym (sym (event_caller w k d) ∙ same))) at)

known_on : (h : List Event) (w : World) (k : ℕ) (d : Deed) → Kept w → next w k ≡ Does d → Known h w → Known (h ++ event_of w k d ∷ []) (after w k d)
known_on h w k d kept e at j later = record {
  ordered =
      subst (λ (s : Setup). IsOrdered (h ++ event_of w k d ∷ []) (script_of s j) j (caller_at (after w k d) j)) (sym (after_setup w k d)) (ordered_on h w k j d kept e later (at j later).ordered);
  told = answered_on h w k j d kept e later (at j later).told;
}

opens_at : (scripts : List (List Command)) (k : ℕ) → (is_amid (slice_index_or (map (λ (script : List Command). beginning []) scripts) k nobody).doing ≡ false) × ((slice_index_or (map (λ (script : List Command). beginning []) scripts) k nobody).over ≡ 0)
opens_at [] k = (refl, refl)
opens_at (x ∷ xs) zero = (refl, refl)
opens_at (x ∷ xs) (suc k) = opens_at xs k

known_open : (s : Setup) → Known [] (opening s)
unfolding opening
known_open s zero later = absurd (later refl)
known_open s (suc k) later = record {
  ordered = record {
    low = tt;
    ahead = λ idle said is. tt;
    begun = λ amid. clash _ amid (opens_at s.scripts k).0;
    each = λ n lt. absurd (omega (arith, lt, (opens_at s.scripts k).1));
    first = λ n d is. absurd cc;
    closed = tt;
    unended = λ goes. tt;
  };
  told = answered_open s k;
}

known : IsCarried Known
known = record {
  opens = λ s may. known_open s;
  goes = λ h w e v at has step.
      subst (λ (f : Event). Known (h ++ f ∷ []) v) (sym step.event)
      (subst (Known (h ++ event_of w e.caller step.deed ∷ [])) (sym step.world) (known_on h w e.caller step.deed at.kept step.chosen has));
}

-- what each step carries on says something of each event
pub same_setup : (s : Setup) (h : List Event) (v : World) → Run (opening s) h v → v.setup ≡ s
unfolding opening
same_setup s h v run = run_setup (opening s) h v run

at_place : (P : List Event → World → Type 0) (Q : Setup → List Event → Event → Type 0) → IsCarried P
    → ((h : List Event) (w : World) (e : Event) (v : World) → Stands h w → P h w → Step w e.caller e v → Q w.setup h e) → OfEveryPlace Q
at_place P Q c f s h e v may run =
    let last = ends (opening s) h e v run in
    let at = has_always P c s h last.before may last.run in
    subst (λ (x : Setup). Q x h e) (same_setup s h last.before last.run) (f h last.before e v at.stands at.has last.step)

pub always_in_order : OfEveryPlace CommandsInOrder
always_in_order = at_place Known CommandsInOrder known (λ h w e v at has step later.
    in_place w e.caller step.deed at.kept later step.chosen e step.event refl h (has e.caller later).ordered (has e.caller later).told)

pub always_first : OfEveryRun FirstAnswers
always_first = in_run Known FirstAnswers known (λ h w at has k n e later is. (has k later).ordered.first n e is)
