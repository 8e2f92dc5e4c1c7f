-- The events that were read, before those that are still to come.
use Rattle.std.proofs.Common.{◌≡◌, ◌<◌, ◌≤◌, ◌+◌, ◌-◌, ◌^◌, ℕ, Bool, true, false, cond, List, [], ◌∷◌, ◌++◌, length, Option, Some, None, refl, sym, ap, ◌∙◌, subst, append-nil, append_assoc, arith}
use Rattle.std.specs.Prelude.{IfOk, bytes_eq, codes, option_map}
use Rattle.std.specs.declared.result.Result.{Result}
use Rattle.std.specs.declared.result.Result.TheVariants.{Ok, Err}
use Rattle.run_rules.specs.declared.deed.Choice.{Choice}
use Rattle.run_rules.specs.declared.deed.Choice.TheVariants.{Does, Ended, Waits}
use Rattle.run_rules.specs.declared.deed.Deed.{Deed}
use Rattle.run_rules.specs.declared.event.Act.{Act}
use Rattle.run_rules.specs.declared.event.Event.{Event}
use Rattle.run_rules.specs.declared.event.Format.{Format}
use Rattle.run_rules.specs.declared.event.Format.TheVariants.{Second}
use Rattle.run_rules.specs.declared.world.Setup.{Setup}
use Rattle.run_rules.specs.After.{after}
use Rattle.run_rules.specs.Next.{next}
use Rattle.run_rules.specs.Run.{event_of, printed}
use Rattle.run_rules.specs.World.{World}
use Rattle.run_rules.specs.Reread.{caller_of, format_of, history_lines, line_in, reread, reread_from, reread_lines, step_by, told_by, with_event}
use Rattle.plain_world.specs.declared.world.Plain.{Plain}
use Rattle.plain_world.specs.Plain.{world_of}
use Rattle.history_replay.specs.declared.history.ReplayStop.TheVariants.{Bad}
use Rattle.history_replay.specs.Going.{GoesOn, IsGoing}
use Rattle.history_replay.specs.Lines.{IsCut}
use Rattle.history_replay.specs.Steps.{TellsDeed, TellsNext, TellsStep, event_as, event_in, given}
use Rattle.history_replay.specs.Stops.{IsStop, behind}
use Rattle.history_replay.proofs.Goes.{no_more}

-- ---- a line

-- who does nothing has no line
idle_told : (f : Format) (w : World) (k : ℕ) (line : List ℕ) (c : Choice) → ((d : Deed) → c ≡ Does d → ⊥) → told_by f w k line c ≡ None
idle_told f w k line Ended never = refl
idle_told f w k line (Waits why) never = refl
idle_told f w k line (Does d) never = absurd (never d refl)

-- the event of a deed in place of one that is the same
pub same_event : (f : Format) (w : World) (k : ℕ) (d : Deed) (line : List ℕ) (e : Event) (o : Option Event) → e ≡ event_of w k d → given (bytes_eq (line_in f e) line) e ≡ o → event_in f w k d line ≡ o
same_event f w k d line e o is told = ap (λ (x : Event). given (bytes_eq (line_in f x) line) x) (sym is) ∙ told

-- the event of a deed by the act that is told of it, in format 2
pub same_act : (f : Format) (w : World) (k : ℕ) (d : Deed) (a : Act) (line : List ℕ) (o : Option Event) → f ≡ Second → a ≡ printed w k d → event_as w k a line ≡ o → event_in f w k d line ≡ o
unfolding event_of
same_act f w k d a line o second is told = ap (λ (x : Format). event_in x w k d line) second ∙ ap (λ (x : Act). event_as w k x line) (sym is) ∙ told

-- the event that a line tells, with the world after the deed
by_test : {A B : Type 0} (b : Bool) (a : A) (x y : B) (e : A) → cond {A = Option A} b (Some a) None ≡ Some e → y ≡ x → cond {A = Option (A × B)} b (Some (a, x)) None ≡ Some (e, y)
by_test {A} {B} true a x y e told world =
    let event : a ≡ e = cc in
    ap (λ (v : A). Some (v, x)) event ∙ ap (λ (v : B). Some (e, v)) (sym world)
by_test false a x y e told world = absurd cc

no_test : {A B : Type 0} (b : Bool) (a : A) (x : B) → cond {A = Option A} b (Some a) None ≡ None → cond {A = Option (A × B)} b (Some (a, x)) None ≡ None
no_test true a x told = absurd cc
no_test false a x told = refl

pub told_some : (s : Setup) (f : Format) (p : Plain) (k : ℕ) (line : List ℕ) (d : Deed) (e : Event) (q : Plain) → event_in f (world_of s p) k d line ≡ Some e → GoesOn s p k d q
    → TellsDeed s f p k line d q (Some e)
told_some s f p k line d e q told on = record {
  told = by_test (bytes_eq (line_in f (event_of (world_of s p) k d)) line) (event_of (world_of s p) k d) (after (world_of s p) k d) (world_of s q) e told on.world;
  going = on.going;
  next = on.next;
}

pub told_none : (s : Setup) (f : Format) (p : Plain) (k : ℕ) (line : List ℕ) (d : Deed) → IsGoing s p → event_in f (world_of s p) k d line ≡ None → TellsDeed s f p k line d p None
told_none s f p k line d going told = record {
  told = no_test (bytes_eq (line_in f (event_of (world_of s p) k d)) line) (event_of (world_of s p) k d) (after (world_of s p) k d) told;
  going = going;
  next = no_more p.live.next;
}

-- of a caller that does nothing
pub idle_tells : (s : Setup) (f : Format) (p : Plain) (k : ℕ) (line : List ℕ) → IsGoing s p → ((d : Deed) → next (world_of s p) k ≡ Does d → ⊥) → TellsNext s f p k line p None
idle_tells s f p k line going never = record { told = idle_told f (world_of s p) k line (next (world_of s p) k) never; going = going; next = no_more p.live.next }

-- of one that does this
pub due_tells : (s : Setup) (f : Format) (p : Plain) (k : ℕ) (line : List ℕ) (d : Deed) (q : Plain) (e : Option Event) → next (world_of s p) k ≡ Does d → TellsDeed s f p k line d q e
    → TellsNext s f p k line q e
due_tells s f p k line d q e chosen tells = record { told = ap (told_by f (world_of s p) k line) chosen ∙ tells.told; going = tells.going; next = tells.next }

-- what the caller that a line names does
step_of : (f : Format) (w : World) (k : ℕ) (line : List ℕ) → caller_of line ≡ Some k → step_by f w line ≡ told_by f w k line (next w k)
step_of f w k line is = rw is refl

no_step : (f : Format) (w : World) (line : List ℕ) → caller_of line ≡ None → step_by f w line ≡ None
no_step f w line none = rw none refl

-- ---- one event more

pub none_before : (r : Result (List Event × World) ℕ) → r ≡ behind [] r
none_before (Ok run) = refl
none_before (Err bad) = refl

pub one_behind : (es : List Event) (e : Event) (r : Result (List Event × World) ℕ) → behind es (with_event e r) ≡ behind (es ++ e ∷ []) r
one_behind es e (Ok run) = rw (append_assoc es (e ∷ []) run.0) refl
one_behind es e (Err bad) = refl

-- a line `tree` ends the history
pub ends_here : (f : Format) (w : World) (n : ℕ) (line : List ℕ) (rest : List (List ℕ)) → bytes_eq line (codes "tree") ≡ true → reread_lines f w n (line ∷ rest) ≡ Ok ([], w)
unfolding reread_lines
ends_here f w n line rest e = rw e refl

-- any other is the line of an event, or bad
pub goes_on : (f : Format) (w v : World) (n : ℕ) (line : List ℕ) (rest : List (List ℕ)) (e : Event) → bytes_eq line (codes "tree") ≡ false → step_by f w line ≡ Some (e, v)
    → reread_lines f w n (line ∷ rest) ≡ with_event e (reread_lines f v (n + 1) rest)
unfolding reread_lines
goes_on f w v n line rest e other took = rw (other, took) refl

pub stops_here : (f : Format) (w : World) (n : ℕ) (line : List ℕ) (rest : List (List ℕ)) → bytes_eq line (codes "tree") ≡ false → step_by f w line ≡ None → reread_lines f w n (line ∷ rest) ≡ Err n
unfolding reread_lines
stops_here f w n line rest other none = rw (other, none) refl

pub no_tree : (f : Format) (w : World) (n : ℕ) → reread_lines f w n [] ≡ Err n
unfolding reread_lines
no_tree f w n = refl

-- ---- the head

pub head_here : (w : World) (n : ℕ) (line : List ℕ) (rest : List (List ℕ)) (f : Format) → format_of line ≡ Some f → reread_from w n (line ∷ rest) ≡ reread_lines f w (n + 1) rest
unfolding reread_from
head_here w n line rest f is = rw is refl

pub head_later : (w : World) (n : ℕ) (line : List ℕ) (rest : List (List ℕ)) → format_of line ≡ None → reread_from w n (line ∷ rest) ≡ reread_from w (n + 1) rest
unfolding reread_from
head_later w n line rest none = rw none refl

pub no_head : (w : World) (n : ℕ) → reread_from w n [] ≡ Err 0
unfolding reread_from
no_head w n = refl

-- ---- loops

-- the lines up to the next line `tree`, of which these events were read
pub record HasRead (s : Setup) (f : Format) (start : World) (first : ℕ) (text : List ℕ) (events : List Event) (p : Plain) (number : ℕ) (left : List ℕ) : Type 0 where
  pub going : IsGoing s p
  pub next : p.live.next ≤ number
  pub few : number + length left < 2 ^ 64 - 1
  pub read : reread_lines f start first (history_lines text) ≡ behind events (reread_lines f (world_of s p) number (history_lines left))

-- the lines before the head
pub record HasPassed (w : World) (text : List ℕ) (number : ℕ) (left : List ℕ) : Type 0 where
  pub counted : 1 ≤ number
  pub few : number + length left ≤ 1 + length text
  pub passed : reread w text ≡ reread_from w number (history_lines left)

pub from_one : (w : World) (text : List ℕ) → reread w text ≡ reread_from w 1 (history_lines text)
unfolding reread
from_one w text = refl

-- ---- a turn of the lines

all_read : (es : List Event) (w : World) → behind es (Ok ([], w)) ≡ Ok (es, w)
all_read es w = rw (append-nil es) refl

-- what is left is what its first line and the others say
lines_left : (s : Setup) (f : Format) (start : World) (first : ℕ) (text : List ℕ) (events : List Event) (p : Plain) (number : ℕ) (left : List ℕ) (lines : List (List ℕ)) (r : Result (List Event × World) ℕ)
    → HasRead s f start first text events p number left → history_lines left ≡ lines → reread_lines f (world_of s p) number lines ≡ r → reread_lines f start first (history_lines text) ≡ behind events r
lines_left s f start first text events p number left lines r h are is = h.read ∙ ap (behind events) (ap (reread_lines f (world_of s p) number) are ∙ is)

pub tree_met : (s : Setup) (f : Format) (start : World) (first : ℕ) (text : List ℕ) (events : List Event) (p : Plain) (number : ℕ) (left line rest : List ℕ)
    → HasRead s f start first text events p number left → IsCut left line rest → bytes_eq line (codes "tree") ≡ true → reread_lines f start first (history_lines text) ≡ Ok (events, world_of s p)
tree_met s f start first text events p number left line rest h cut e =
    lines_left s f start first text events p number left (line ∷ history_lines rest) (Ok ([], world_of s p)) h cut.lines (ends_here f (world_of s p) number line (history_lines rest) e)
    ∙ all_read events (world_of s p)

pub line_bad : (s : Setup) (f : Format) (start : World) (first : ℕ) (text : List ℕ) (events : List Event) (p : Plain) (number : ℕ) (left line rest : List ℕ)
    → HasRead s f start first text events p number left → IsCut left line rest → bytes_eq line (codes "tree") ≡ false → step_by f (world_of s p) line ≡ None
    → IsStop (Bad number) (reread_lines f start first (history_lines text))
line_bad s f start first text events p number left line rest h cut other none =
    let whole = lines_left s f start first text events p number left (line ∷ history_lines rest) (Err number) h cut.lines (stops_here f (world_of s p) number line (history_lines rest) other none) in
    subst (IsStop (Bad number)) (sym whole) refl

pub lines_gone : (s : Setup) (f : Format) (start : World) (first : ℕ) (text : List ℕ) (events : List Event) (p : Plain) (number : ℕ) (left : List ℕ)
    → HasRead s f start first text events p number left → history_lines left ≡ [] → IsStop (Bad number) (reread_lines f start first (history_lines text))
lines_gone s f start first text events p number left h none =
    let whole = lines_left s f start first text events p number left [] (Err number) h none (no_tree f (world_of s p) number) in
    subst (IsStop (Bad number)) (sym whole) refl

pub one_more : (s : Setup) (f : Format) (start : World) (first : ℕ) (text : List ℕ) (events : List Event) (p : Plain) (number : ℕ) (left line rest : List ℕ) (e : Event) (q : Plain) (more : List Event)
    → HasRead s f start first text events p number left → IsCut left line rest → bytes_eq line (codes "tree") ≡ false → step_by f (world_of s p) line ≡ Some (e, world_of s q)
    → IsGoing s q → q.live.next ≤ p.live.next + 1 → more ≡ events ++ e ∷ [] → HasRead s f start first text more q (number + 1) rest
one_more s f start first text events p number left line rest e q more h cut other took going grows is = record {
  going = going;
  next = omega (arith, h.next, grows);
  few = omega (arith, h.few, cut.shorter);
  read =
      lines_left s f start first text events p number left (line ∷ history_lines rest) (with_event e (reread_lines f (world_of s q) (number + 1) (history_lines rest))) h cut.lines
      (goes_on f (world_of s p) (world_of s q) number line (history_lines rest) e other took)
      ∙ one_behind events e (reread_lines f (world_of s q) (number + 1) (history_lines rest))
      ∙ ap (λ (es : List Event). behind es (reread_lines f (world_of s q) (number + 1) (history_lines rest))) (sym is);
}

pub none_read : (s : Setup) (f : Format) (p : Plain) (first : ℕ) (text : List ℕ) → IsGoing s p → p.live.next ≤ first → first + length text < 2 ^ 64 - 1 → HasRead s f (world_of s p) first text [] p first text
none_read s f p first text going next few = record { going = going; next = next; few = few; read = none_before (reread_lines f (world_of s p) first (history_lines text)) }

-- ---- a turn before the head

pub head_met : (w : World) (text : List ℕ) (number : ℕ) (left line rest : List ℕ) (f : Format) → HasPassed w text number left → IsCut left line rest → format_of line ≡ Some f
    → reread w text ≡ reread_lines f w (number + 1) (history_lines rest)
head_met w text number left line rest f h cut is = h.passed ∙ ap (reread_from w number) cut.lines ∙ head_here w number line (history_lines rest) f is

pub line_passed : (w : World) (text : List ℕ) (number : ℕ) (left line rest : List ℕ) → HasPassed w text number left → IsCut left line rest → format_of line ≡ None → HasPassed w text (number + 1) rest
line_passed w text number left line rest h cut none = record {
  counted = omega (arith, h.counted);
  few = omega (arith, h.few, cut.shorter);
  passed = h.passed ∙ ap (reread_from w number) cut.lines ∙ head_later w number line (history_lines rest) none;
}

pub all_passed : (w : World) (text : List ℕ) (number : ℕ) (left : List ℕ) → HasPassed w text number left → history_lines left ≡ [] → IsStop (Bad 0) (reread w text)
all_passed w text number left h none = let whole = h.passed ∙ ap (reread_from w number) none ∙ no_head w number in subst (IsStop (Bad 0)) (sym whole) refl

pub none_passed : (w : World) (text : List ℕ) → HasPassed w text 1 text
none_passed w text = record { counted = omega arith; few = omega arith; passed = from_one w text }

-- ---- the caller of a line

pub step_tells : (s : Setup) (f : Format) (p : Plain) (k : ℕ) (line : List ℕ) (q : Plain) (e : Option Event) → caller_of line ≡ Some k → TellsNext s f p k line q e → TellsStep s f p line q e
step_tells s f p k line q e is tells = record { told = step_of f (world_of s p) k line is ∙ tells.told; going = tells.going; next = tells.next }

pub nobody_tells : (s : Setup) (f : Format) (p : Plain) (line : List ℕ) → IsGoing s p → caller_of line ≡ None → TellsStep s f p line p None
nobody_tells s f p line going none = record { told = no_step f (world_of s p) line none; going = going; next = no_more p.live.next }

-- the same of an answer, where there is one
pub ok_more : {A E : Type 0} {P Q : A → Type 0} (r : Result A E) → IfOk r P → ((a : A) → P a → Q a) → IfOk r Q
ok_more (Ok a) h more = more a h
ok_more (Err e) h more = tt

-- ---- what was answered

pub none_taken : (s : Setup) (q : Plain) (o : Option Event) (r : Option (Event × World)) → ((e : Event) → o ≡ Some e → ⊥) → r ≡ option_map (λ (x : Event). (x, world_of s q)) o → r ≡ None
none_taken s q None r never h = h
none_taken s q (Some e) r never h = absurd (never e refl)

pub some_taken : (s : Setup) (q : Plain) (o : Option Event) (r : Option (Event × World)) (e : Event) → o ≡ Some e → r ≡ option_map (λ (x : Event). (x, world_of s q)) o → r ≡ Some (e, world_of s q)
some_taken s q o r e is h = h ∙ ap (λ p. option_map (λ (x : Event). (x, world_of s q)) p) is

pub not_some : {A : Type 0} (o : Option A) → ((a : A) → o ≡ Some a → ⊥) → o ≡ None
not_some None never = refl
not_some (Some a) never = absurd (never a refl)
