-- What is taken as a history is a run.
use Rattle.std.proofs.Common.{◌≡◌, ℕ, ◌+◌, Bool, true, false, cond, List, [], ◌∷◌, Option, Some, None, refl, sym, ap, ◌∙◌, subst}
use Rattle.std.specs.Prelude.{bytes_eq, codes, option_and_then}
use Rattle.std.specs.Option.{option_map_or}
use Rattle.std.specs.declared.result.Result.{Result}
use Rattle.std.specs.declared.result.Result.TheVariants.{Ok, Err}
use Rattle.run_rules.specs.declared.deed.Choice.{Choice}
use Rattle.run_rules.specs.declared.deed.Choice.TheVariants.{Ended, Waits, Does}
use Rattle.run_rules.specs.declared.event.Event.{Event}
use Rattle.run_rules.specs.declared.event.Format.{Format}
use Rattle.run_rules.specs.After.{after}
use Rattle.run_rules.specs.Next.{next}
use Rattle.run_rules.specs.Reread.{caller_of, format_of, history_lines, line_in, reread, reread_from, reread_lines, step_by, told_by, with_event}
use Rattle.run_rules.specs.Run.{Run, Step, event_of}
use Rattle.run_rules.specs.World.{World}

both_some : {A B : Type 0} (x y : A × B) → Some x ≡ Some y → (x.0 ≡ y.0) × (x.1 ≡ y.1)
both_some {A} {B} x y h = let same : x ≡ y = cc in (ap (λ (p : A × B). p.0) same, ap (λ (p : A × B). p.1) same)

abbrev read : List Event × World → Result (List Event × World) ℕ
read run = Ok run

both_ok : (x y : List Event × World) → read x ≡ read y → (x.0 ≡ y.0) × (x.1 ≡ y.1)
both_ok x y h = let same : x ≡ y = cc in (ap (λ (p : List Event × World). p.0) same, ap (λ (p : List Event × World). p.1) same)

-- the event and the world of an answer, which are those of a step
record IsTold (w : World) (k : ℕ) (e : Event) (v : World) : Type 0 where
  caller : e.caller ≡ k
  step : Step w k e v

event_caller : (w : World) (k : ℕ) (d : _) → (event_of w k d).caller ≡ k
unfolding event_of
event_caller w k d = refl

told_step : (f : Format) (w : World) (k : ℕ) (line : List ℕ) (c : Choice) (e : Event) (v : World) → next w k ≡ c → told_by f w k line c ≡ Some (e, v) → IsTold w k e v
told_step f w k line (Does deed) e v chosen h = by (bytes_eq (line_in f (event_of w k deed)) line) h
  where
    by : (b : Bool) → cond {A = Option (Event × World)} b (Some (event_of w k deed, after w k deed)) None ≡ Some (e, v) → IsTold w k e v
    by true same =
        let is = both_some (event_of w k deed, after w k deed) (e, v) same in
        record { caller = ap (λ (f : Event). f.caller) (sym is.0) ∙ event_caller w k deed; step = record { deed = deed; chosen = chosen; event = sym is.0; world = sym is.1 } }
    by false none = absurd cc
told_step f w k line Ended e v chosen h = absurd cc
told_step f w k line (Waits why) e v chosen h = absurd cc

step_is : (f : Format) (w : World) (line : List ℕ) (e : Event) (v : World) → step_by f w line ≡ Some (e, v) → Step w e.caller e v
step_is f w line e v h = by (caller_of line) h
  where
    by : (o : Option ℕ) → option_and_then (λ k. told_by f w k line (next w k)) o ≡ Some (e, v) → Step w e.caller e v
    by None none = absurd cc
    by (Some k) told = let is = told_step f w k line (next w k) e v refl told in subst (λ j. Step w j e v) (sym is.caller) is.step

abbrev LinesRun : Format → ℕ → List (List ℕ) → Type 0
LinesRun f n lines = (w : World) (h : List Event) (v : World) → reread_lines f w n lines ≡ Ok (h, v) → Run w h v

-- an event before what was read
with_step : (f : Format) (w : World) (n : ℕ) (rest : List (List ℕ)) (e : Event) (m : World) (r : Result (List Event × World) ℕ) (h : List Event) (v : World)
    → LinesRun f n rest → reread_lines f m n rest ≡ r → Step w e.caller e m → with_event e r ≡ Ok (h, v) → Run w h v
with_step f w n rest e m (Ok run) h v later more did same =
    let is = both_ok (e ∷ run.0, run.1) (h, v) same in
    let others : Run m run.0 v = subst (λ (u : World). Run m run.0 u) is.1 (later m run.0 run.1 more) in
    let all : Run w (e ∷ run.0) v = (m, did, others) in
    subst (λ (es : List Event). Run w es v) is.0 all
with_step f w n rest e m (Err bad) h v later more did same = absurd cc

by_line : (f : Format) (w : World) (n : ℕ) (line : List ℕ) (rest : List (List ℕ)) (h : List Event) (v : World) → LinesRun f (n + 1) rest
    → (ends : Bool) (o : Option (Event × World)) → step_by f w line ≡ o
    → cond ends (Ok ([], w)) (option_map_or (λ step. with_event step.0 (reread_lines f step.1 (n + 1) rest)) o (Err n)) ≡ Ok (h, v) → Run w h v
by_line f w n line rest h v later true o told same =
    let is = both_ok ([], w) (h, v) same in
    subst (λ (es : List Event). Run w es v) is.0 is.1
by_line f w n line rest h v later false None told same = absurd cc
by_line f w n line rest h v later false (Some step) told same =
    with_step f w (n + 1) rest step.0 step.1 (reread_lines f step.1 (n + 1) rest) h v later refl (step_is f w line step.0 step.1 told) same

lines_run : (f : Format) (n : ℕ) (lines : List (List ℕ)) → LinesRun f n lines
unfolding reread_lines
lines_run f n [] w h v is = absurd cc
lines_run f n (line ∷ rest) w h v is = by_line f w n line rest h v (lines_run f (n + 1) rest) (bytes_eq line (codes "tree")) (step_by f w line) refl is

by_head : (w : World) (n : ℕ) (rest : List (List ℕ)) (h : List Event) (v : World) → (reread_from w n rest ≡ Ok (h, v) → Run w h v)
    → (o : Option Format) → option_map_or (λ f. reread_lines f w n rest) o (reread_from w n rest) ≡ Ok (h, v) → Run w h v
by_head w n rest h v later None same = later same
by_head w n rest h v later (Some f) same = lines_run f n rest w h v same

from_run : (w : World) (n : ℕ) (lines : List (List ℕ)) (h : List Event) (v : World) → reread_from w n lines ≡ Ok (h, v) → Run w h v
unfolding reread_from
from_run w n [] h v is = absurd cc
from_run w n (line ∷ rest) h v is = by_head w (n + 1) rest h v (from_run w (n + 1) rest h v) (format_of line) is

-- the events lead from the world to the other one
pub taken_run : (w : World) (text : List ℕ) (h : List Event) (v : World) → reread w text ≡ Ok (h, v) → Run w h v
unfolding reread
taken_run w text h v is = from_run w 1 (history_lines text) h v is
