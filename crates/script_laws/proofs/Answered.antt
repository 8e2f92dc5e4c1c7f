-- The answers to a script's commands, as far as its caller is.
use Rattle.std.proofs.Common.{◌≡◌, ◌≢◌, ◌≤◌, ℕ, zero, suc, ◌+◌, ◌==◌, ◌&&◌, Bool, true, false, cond, List, [], ◌∷◌, ◌++◌, map, length, Option, Some, None, refl, sym, ap, ◌∙◌, subst, inl, inr, arith, append_assoc, length-append, slice_get, slice_index_or, eqb-true, eq-eqb}
use Rattle.std.specs.Prelude.{if◌then◌else◌, filter}
use Rattle.std.proofs.lemmas.Bool.{ne_eqb}
use Rattle.std.proofs.lemmas.List.{append-nil}
use Rattle.std.proofs.lemmas.List.Elements.{filter-append}
use Rattle.cf_types.specs.declared.machine.Command.{Command}
use Rattle.cf_types.specs.declared.machine.Command.TheVariants as command
use Rattle.run_rules.specs.declared.event.Event.{Event}
use Rattle.run_rules.specs.declared.event.Reply.{Reply}
use Rattle.run_rules.specs.declared.world.Activity.{Activity}
use Rattle.run_rules.specs.declared.world.Activity.TheVariants as activity
use Rattle.run_rules.specs.declared.world.Setup.{Setup}
use Rattle.run_rules.specs.declared.deed.Deed.{Deed}
use Rattle.run_rules.specs.declared.deed.Deed.TheVariants.{EndCaller}
use Rattle.run_rules.specs.declared.deed.Choice.TheVariants.{Does}
use Rattle.run_rules.specs.World.{World, Caller, beginning, caller_at, has_ended, is_ended, nobody, opening}
use Rattle.run_rules.specs.Next.{next}
use Rattle.run_rules.specs.After.{after}
use Rattle.run_rules.specs.Run.{event_of, printed, told}
use Rattle.run_rules.proofs.Setups.{after_setup}
use Rattle.run_sound.specs.Kept.{Kept}
use Rattle.run_sound.specs.Scripts.{script_of}
use Rattle.run_sound.proofs.Callers.{caller_here, clash, doing_so, doing_there}
use Rattle.run_sound.proofs.RangesCallers.{others_stay}
use Rattle.run_sound.proofs.Reasons.{has_reason}
use Rattle.run_sound.proofs.ScriptLaws.{amid_within}
use Rattle.run_sound.proofs.Scripts.{command_is, is_amid}
use Rattle.script_laws.specs.Begun.{begun_by, begun_of}
use Rattle.script_laws.specs.Whole.{AnswerEach, Answers, answers_to, is_answer}
use Rattle.script_laws.proofs.Deeds.{AnswersNext, AnswersNone, kind_of}

-- the commands that were answered, and those that are left; none are once the caller has ended
pub record IsAnswered (h : List Event) (w : World) (k : ℕ) : Type 0 where
  pub done : List Command
  pub left : List Command
  pub split : script_of w.setup k ≡ done ++ left
  pub many : length done ≡ begun_of (caller_at w k)
  pub each : AnswerEach 1 done (answers_to k h)
  pub whole : has_ended w k ≡ true → left ≡ []

-- ---- lists

-- what stands behind a list
record Follows (left : List Command) (c : Command) : Type 0 where
  rest : List Command
  is : left ≡ c ∷ rest

follows : (done left : List Command) (c : Command) → slice_get (done ++ left) (length done) ≡ Some c → Follows left c
follows [] [] c e = absurd cc
follows [] (x ∷ xs) c e = record { rest = xs; is = ap (λ (y : Command). y ∷ xs) (cc) }
follows (x ∷ done) left c e = follows done left c e

nothing_follows : (done left : List Command) → slice_get (done ++ left) (length done) ≡ None → left ≡ []
nothing_follows [] [] e = refl
nothing_follows [] (x ∷ xs) e = absurd cc
nothing_follows (x ∷ done) left e = nothing_follows done left e

one_answer : (n : ℕ) (done : List Command) (es : List Event) (c : Command) (e : Event) → AnswerEach n done es → Answers (n + length done) c e → AnswerEach n (done ++ c ∷ []) (es ++ e ∷ [])
one_answer n [] [] c e all one = (subst (λ (m : ℕ). Answers m c e) same one, tt)
  where
    same : n + 0 ≡ n
    same = omega arith
one_answer n [] (x ∷ es) c e all one = absurd all
one_answer n (d ∷ done) [] c e all one = absurd all
one_answer n (d ∷ done) (x ∷ es) c e all one = (all.0, one_answer (n + 1) done es c e all.1 (subst (λ (m : ℕ). Answers m c e) same one))
  where
    same : n + length (d ∷ done) ≡ (n + 1) + length done
    same = omega arith

filtered : (p : Event → Bool) (h : List Event) (e : Event) (b : Bool) → p e ≡ b → filter p (h ++ e ∷ []) ≡ filter p h ++ cond b (e ∷ []) []
filtered p h e b is = filter-append p h (e ∷ []) ∙ ap (λ (c : Bool). filter p h ++ cond c (e ∷ []) []) is

-- ---- one event more

-- it is in another's name, or answers nothing
same_answers : (h : List Event) (k j : ℕ) (w : World) (d : Deed) → ((k == j) && is_answer (printed w k d)) ≡ false → answers_to j (h ++ event_of w k d ∷ []) ≡ answers_to j h
unfolding event_of
same_answers h k j w d off = filtered _ h (event_of w k d) false off ∙ append-nil (answers_to j h)

more_answers : (h : List Event) (k : ℕ) (w : World) (d : Deed) → is_answer (printed w k d) ≡ true → answers_to k (h ++ event_of w k d ∷ []) ≡ answers_to k h ++ event_of w k d ∷ []
unfolding event_of
more_answers h k w d on = filtered _ h (event_of w k d) true (ap (λ (b : Bool). b && is_answer (printed w k d)) (eq-eqb k k refl) ∙ on)

and_off : (b c : Bool) → c ≡ false → (b && c) ≡ false
and_off true c e = e
and_off false c e = refl

other_off : (k j : ℕ) (b : Bool) → k ≢ j → ((k == j) && b) ≡ false
other_off k j b other = ap (λ (a : Bool). a && b) (ne_eqb k j other)

-- a command was told
pub told_answers : (w : World) (said : Command) (r : Reply) → is_answer (told w said r) ≡ true
told_answers w (command.OpenDev name) r = refl
told_answers w said r = refl

event_number : (w : World) (k : ℕ) (d : Deed) → k ≢ 0 → (event_of w k d).number ≡ (caller_at w k).over + 1
unfolding event_of
event_number w k d later = ap (λ (b : Bool). if b then 0 else (caller_at w k).over + 1) (ne_eqb k 0 later)

event_act : (w : World) (k : ℕ) (d : Deed) → (event_of w k d).act ≡ printed w k d
unfolding event_of
event_act w k d = refl

-- ---- a deed of another caller, or one that answers nothing

answered_same : (h : List Event) (w : World) (k j : ℕ) (d : Deed) → begun_of (caller_at (after w k d) j) ≡ begun_of (caller_at w j)
    → (has_ended (after w k d) j ≡ true → has_ended w j ≡ true) → answers_to j (h ++ event_of w k d ∷ []) ≡ answers_to j h → IsAnswered h w j
    → IsAnswered (h ++ event_of w k d ∷ []) (after w k d) j
answered_same h w k j d begun goes same at = record {
  done = at.done;
  left = at.left;
  split = ap (λ (s : Setup). script_of s j) (after_setup w k d) ∙ at.split;
  many = at.many ∙ sym begun;
  each = subst (AnswerEach 1 at.done) (sym same) at.each;
  whole = λ ended. at.whole (goes ended);
}

answered_other : (h : List Event) (w : World) (k j : ℕ) (d : Deed) → k ≢ j → IsAnswered h w j → IsAnswered (h ++ event_of w k d ∷ []) (after w k d) j
answered_other h w k j d other at =
    let stays : caller_at (after w k d) j ≡ caller_at w j = others_stay w k j d (λ same. other (sym same)) in
    answered_same h w k j d (ap begun_of stays) (λ ended. sym (ap (λ (c : Caller). is_ended c.doing) stays) ∙ ended) (same_answers h k j w d (other_off k j (is_answer (printed w k d)) other)) at

answered_none : (h : List Event) (w : World) (k : ℕ) (d : Deed) → AnswersNone w k d → IsAnswered h w k → IsAnswered (h ++ event_of w k d ∷ []) (after w k d) k
answered_none h w k d none at =
    let less : begun_of (caller_at w k) + 0 ≡ begun_of (caller_at w k) = omega arith in
    answered_same h w k k d (none.on.begun ∙ less) (λ ended. clash (has_ended (after w k d) k) ended none.on.goes) (same_answers h k k w d (and_off (k == k) (is_answer (printed w k d)) none.line)) at

-- ---- an answer

over_done : (w : World) (k : ℕ) → (caller_at w k).doing ≡ activity.Idle → begun_of (caller_at w k) ≡ (caller_at w k).over
over_done w k idle = ap (begun_by (caller_at w k).over) idle

-- the command at the caller's place is the first that is left
left_at : (h : List Event) (w : World) (k : ℕ) (at : IsAnswered h w k) → k ≢ 0 → (o : Option Command) → slice_get (script_of w.setup k) (caller_at w k).over ≡ o → begun_of (caller_at w k) ≡ (caller_at w k).over
    → slice_get (at.done ++ at.left) (length at.done) ≡ o
left_at h w k at later o e begun = ap (λ (s : List Command). slice_get s (length at.done)) (sym at.split) ∙ ap (slice_get (script_of w.setup k)) (at.many ∙ begun) ∙ e

answered_next : (h : List Event) (w : World) (k : ℕ) (d : Deed) → k ≢ 0 → AnswersNext w k d → IsAnswered h w k → IsAnswered (h ++ event_of w k d ∷ []) (after w k d) k
answered_next h w k d later one at =
    let begun = over_done w k one.idle in
    let rest : Follows at.left one.said = follows at.done at.left one.said (left_at h w k at later (Some one.said) (sym (command_is w k later) ∙ one.command) begun) in
    let line : is_answer (printed w k d) ≡ true = ap is_answer one.line ∙ told_answers w one.said one.reply in
    let place : (caller_at w k).over + 1 ≡ 1 + length at.done = grind (arith, at.many, begun) in
    let answers : Answers (1 + length at.done) one.said (event_of w k d) = record {
      number = event_number w k d later ∙ place;
      world = w;
      reply = one.reply;
      line = event_act w k d ∙ one.line;
    } in
    let whole : at.done ++ at.left ≡ (at.done ++ one.said ∷ []) ++ rest.rest = ap (λ (l : List Command). at.done ++ l) rest.is ∙ sym (append_assoc at.done (one.said ∷ []) rest.rest) in
    record {
      done = at.done ++ one.said ∷ [];
      left = rest.rest;
      split = ap (λ (s : Setup). script_of s k) (after_setup w k d) ∙ at.split ∙ whole;
      many = length-append at.done (one.said ∷ []) ∙ ap (λ (n : ℕ). n + 1) at.many ∙ sym one.on.begun;
      each = subst (AnswerEach 1 (at.done ++ one.said ∷ [])) (sym (more_answers h k w d line)) (one_answer 1 at.done (answers_to k h) one.said (event_of w k d) at.each answers);
      whole = λ ended. clash (has_ended (after w k d) k) ended one.on.goes;
    }

-- ---- the end

quiet_idle : (a : Activity) → is_amid a ≡ false → is_ended a ≡ false → a ≡ activity.Idle
quiet_idle activity.Idle m e = refl
quiet_idle activity.Ended m e = absurd cc
quiet_idle (activity.Transfer t) m e = absurd cc
quiet_idle (activity.Frees s) m e = absurd cc
quiet_idle activity.Scans m e = absurd cc
quiet_idle (activity.Power kind s) m e = absurd cc

-- behind its last command a caller is idle
end_idle : (w : World) (k : ℕ) → Kept w → k ≢ 0 → next w k ≡ Does EndCaller → slice_get (script_of w.setup k) (caller_at w k).over ≡ None → (caller_at w k).doing ≡ activity.Idle
end_idle w k kept later e over = quiet_idle (caller_at w k).doing (cases (is_amid (caller_at w k).doing) refl) (doing_so w k EndCaller e).unended
  where
    inside : (script : List Command) (n : ℕ) → suc n ≤ length script → slice_get script n ≡ None → ⊥
    inside [] n le none = omega arith
    inside (c ∷ script) zero le none = cc
    inside (c ∷ script) (suc n) le none = inside script n (omega arith) none

    cases : (b : Bool) → is_amid (caller_at w k).doing ≡ b → is_amid (caller_at w k).doing ≡ false
    cases true is = absurd (inside (script_of w.setup k) (caller_at w k).over (omega (arith, amid_within w k kept is)) over)
    cases false is = is

over_at_end : (w : World) (k : ℕ) → k ≢ 0 → next w k ≡ Does EndCaller → slice_get (script_of w.setup k) (caller_at w k).over ≡ None
over_at_end w k later e = elim (has_reason w k EndCaller e).over [
  | inl boots ↦ absurd (later boots.0)
  | inr script ↦ sym (command_is w k later) ∙ script.1
]

answered_end : (h : List Event) (w : World) (k : ℕ) → Kept w → k ≢ 0 → next w k ≡ Does EndCaller → IsAnswered h w k → IsAnswered (h ++ event_of w k EndCaller ∷ []) (after w k EndCaller) k
unfolding after printed
answered_end h w k kept later e at =
    let over = over_at_end w k later e in
    let begun = over_done w k (end_idle w k kept later e over) in
    let ended : caller_at (after w k EndCaller) k ≡ record { over = (caller_at w k).over; doing = activity.Ended; stack = (caller_at w k).stack } = caller_here w k _ (doing_there w k EndCaller e) in
    record {
      done = at.done;
      left = at.left;
      split = at.split;
      many = at.many ∙ begun ∙ sym (ap begun_of ended);
      each = subst (AnswerEach 1 at.done) (sym (same_answers h k k w EndCaller (and_off (k == k) (is_answer (printed w k EndCaller)) refl))) at.each;
      whole = λ is. nothing_follows at.done at.left (left_at h w k at later None over begun);
    }

-- ---- so of every caller, whatever is done

pub answered_on : (h : List Event) (w : World) (k j : ℕ) (d : Deed) → Kept w → next w k ≡ Does d → j ≢ 0 → IsAnswered h w j → IsAnswered (h ++ event_of w k d ∷ []) (after w k d) j
answered_on h w k j d kept e later at = cases (k == j) refl
  where
    own : k ≡ j → IsAnswered h w k → k ≢ 0 → IsAnswered (h ++ event_of w k d ∷ []) (after w k d) k
    own same here own_later = elim (kind_of w k kept d e) [
      | inl one ↦ answered_next h w k d own_later one here
      | inr others ↦ elim others [
        | inl none ↦ answered_none h w k d none here
        | inr end ↦ subst (λ (x : Deed). IsAnswered (h ++ event_of w k x ∷ []) (after w k x) k) (sym end) (answered_end h w k kept own_later (subst (λ (x : Deed). next w k ≡ Does x) end e) here)
      ]
    ]

    cases : (b : Bool) → (k == j) ≡ b → IsAnswered (h ++ event_of w k d ∷ []) (after w k d) j
    cases true is =
        let same : k ≡ j = eqb-true k j is in
        subst (IsAnswered (h ++ event_of w k d ∷ []) (after w k d)) same (own same (subst (IsAnswered h w) (sym same) at) (λ zero. later (sym same ∙ zero)))
    cases false is = answered_other h w k j d (λ same. clash (k == j) (eq-eqb k j same) is) at

-- ---- before any event

opens_at : (scripts : List (List Command)) (k : ℕ) → begun_of (slice_index_or (map (λ (script : List Command). beginning []) scripts) k nobody) ≡ 0
opens_at [] k = refl
opens_at (x ∷ xs) zero = refl
opens_at (x ∷ xs) (suc k) = opens_at xs k

opens_whole : (scripts : List (List Command)) (k : ℕ) → is_ended (slice_index_or (map (λ (script : List Command). beginning []) scripts) k nobody).doing ≡ true → slice_index_or scripts k [] ≡ []
opens_whole [] k h = refl
opens_whole (x ∷ xs) zero h = absurd cc
opens_whole (x ∷ xs) (suc k) h = opens_whole xs k h

pub answered_open : (s : Setup) (k : ℕ) → IsAnswered [] (opening s) (suc k)
unfolding opening
answered_open s k = record {
  done = [];
  left = slice_index_or s.scripts k [];
  split = refl;
  many = sym (opens_at s.scripts k);
  each = tt;
  whole = opens_whole s.scripts k;
}
