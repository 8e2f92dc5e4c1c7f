-- The text of a run is taken as this run.
use Rattle.std.proofs.Common.{◌≡◌, ℕ, ◌+◌, ◌<◌, ◌≤◌, false, List, [], ◌∷◌, ◌++◌, length, map, decimal, Some, None, refl, sym, ap, ◌∙◌, subst, arith, append_assoc, ne_eqb}
use Rattle.std.specs.Prelude.{bytes_eq, codes}
use Rattle.std.specs.List.{AllByRecursion}
use Rattle.std.specs.declared.result.Result.{Result}
use Rattle.std.specs.declared.result.Result.TheVariants.{Ok}
use Rattle.std.proofs.lemmas.List.{length-map}
use Rattle.cf_types.specs.Lines.{text_of}
use Rattle.config_rules.specs.Listing as listed
use Rattle.run_rules.specs.declared.deed.Choice.TheVariants.{Does}
use Rattle.run_rules.specs.declared.deed.Deed.{Deed}
use Rattle.run_rules.specs.declared.event.Event.{Event}
use Rattle.run_rules.specs.declared.event.Format.{Format}
use Rattle.run_rules.specs.declared.event.Format.TheVariants as format
use Rattle.run_rules.specs.declared.world.Setup.{Setup}
use Rattle.run_rules.specs.After.{after}
use Rattle.run_rules.specs.Lines.{act_text, act_text_1, line_of, line_of_1, lines, lines_1}
use Rattle.run_rules.specs.Next.{next}
use Rattle.run_rules.specs.Reread.{format_of, history_lines, line_in, reread, reread_from, reread_lines, step_by, with_event}
use Rattle.run_rules.specs.Run.{Run, Step, event_of}
use Rattle.run_rules.specs.Tree.{dev_text, tree_lines, tree_text}
use Rattle.run_rules.specs.World.{World, beginning, opening}
use Rattle.run_rules.proofs.Setups.{after_setup}
use Rattle.run_sound.specs.Kept.{MayRun}
use Rattle.run_sound.proofs.Callers.{doing_there}
use Rattle.run_sound.proofs.RangesCallers.{callers_many}
use Rattle.dev_event.specs.Spelled.{NamesCaller}
use Rattle.dev_event.proofs.Callers.{bytes_refl}
use Rattle.run_rules.proofs.NameParts.{AllDigits, all_digits}
use Rattle.history_laws.proofs.Always.{always_reliable}
use Rattle.replay_laws.specs.OneLine.{IsOneLine}
use Rattle.replay_laws.specs.Taken.{MayPlay, TakesBoth, TakesHistory, TakesOwn, TakesRuns, history_in}
use Rattle.replay_laws.proofs.Callers.{caller_is}
use Rattle.replay_laws.proofs.Cuts.{first_of, lines_behind}
use Rattle.replay_laws.proofs.Events.{event_line}
use Rattle.replay_laws.proofs.Listed.{IsPassed, listed_passed}
use Rattle.replay_laws.proofs.Runs.{taken_run}

-- ---- a line of an event

-- it names its caller
pub names_caller : (f : Format) (e : Event) → e.caller ≤ 16 → NamesCaller (line_in f e) e.caller
unfolding line_of line_of_1
names_caller format.First e low = record {
  low = low;
  rest = decimal e.number ++ codes " " ++ act_text_1 e.act;
  begins = append_assoc (decimal e.caller ++ codes "." ++ decimal e.number) (codes " ") (act_text_1 e.act) ∙ append_assoc (decimal e.caller ++ codes ".") (decimal e.number) (codes " " ++ act_text_1 e.act)
      ∙ append_assoc (decimal e.caller) (codes ".") (decimal e.number ++ (codes " " ++ act_text_1 e.act)) ∙ ap (λ (xs : List ℕ). decimal e.caller ++ 46 ∷ xs) (sym (append_assoc (decimal e.number) (codes " ") (act_text_1 e.act)));
}
names_caller format.Second e low = record {
  low = low;
  rest = decimal e.number ++ codes " " ++ act_text e.act;
  begins = append_assoc (decimal e.caller ++ codes "." ++ decimal e.number) (codes " ") (act_text e.act) ∙ append_assoc (decimal e.caller ++ codes ".") (decimal e.number) (codes " " ++ act_text e.act)
      ∙ append_assoc (decimal e.caller) (codes ".") (decimal e.number ++ (codes " " ++ act_text e.act)) ∙ ap (λ (xs : List ℕ). decimal e.caller ++ 46 ∷ xs) (sym (append_assoc (decimal e.number) (codes " ") (act_text e.act)));
}

-- so it is no line `tree`
digits_first : (digits rest : List ℕ) → AllDigits digits → bytes_eq (digits ++ 46 ∷ rest) (codes "tree") ≡ false
digits_first [] rest h = refl
digits_first (d ∷ digits) rest h = rw (ne_eqb d 116 (λ e. omega (arith, e, h.0.1))) refl

pub no_tree : (line : List ℕ) (c : ℕ) → NamesCaller line c → bytes_eq line (codes "tree") ≡ false
no_tree line c names = ap (λ (xs : List ℕ). bytes_eq xs (codes "tree")) names.begins ∙ digits_first (decimal c) names.rest (all_digits c (omega (arith, names.low)))

-- ---- a step

-- a world of a run by this setup: 17 callers at most
record IsOf (s : Setup) (w : World) : Type 0 where
  setup : w.setup ≡ s
  few : length w.callers ≤ 17

opening_of : (s : Setup) → MayRun s → IsOf s (opening s)
unfolding opening
opening_of s may = record { setup = refl; few = omega (arith, may.few_scripts, length-map s.scripts (λ script. beginning [])) }

goes_on : (s : Setup) (w : World) (k : ℕ) (e : Event) (v : World) → IsOf s w → Step w k e v → IsOf s v
goes_on s w k e v at step = subst (IsOf s) (sym step.world) (record { setup = after_setup w k step.deed ∙ at.setup; few = omega (arith, callers_many w k step.deed, at.few) })

event_caller : (w : World) (k : ℕ) (d : Deed) → (event_of w k d).caller ≡ k
unfolding event_of
event_caller w k d = refl

-- what the line of a step is taken as
step_told : (f : Format) (w : World) (k : ℕ) (d : Deed) → next w k ≡ Does d → k ≤ 16 → step_by f w (line_in f (event_of w k d)) ≡ Some (event_of w k d, after w k d)
step_told f w k d chosen low =
    let names : NamesCaller (line_in f (event_of w k d)) k = subst (NamesCaller (line_in f (event_of w k d))) (event_caller w k d) (names_caller f (event_of w k d) (subst (λ j. j ≤ 16) (sym (event_caller w k d)) low)) in
    rw (caller_is (line_in f (event_of w k d)) k names, chosen, bytes_refl (line_in f (event_of w k d))) refl

-- the line of an event of a run, with the event and the world after it
record IsSaid (f : Format) (w : World) (e : Event) (v : World) : Type 0 where
  one : IsOneLine (line_in f e)
  no_tree : bytes_eq (line_in f e) (codes "tree") ≡ false
  told : step_by f w (line_in f e) ≡ Some (e, v)

step_said : (s : Setup) (f : Format) (w : World) (e : Event) (v : World) → MayPlay s → IsOf s w → Step w e.caller e v → IsSaid f w e v
step_said s f w e v play at step =
    let there : e.caller < length w.callers = doing_there w e.caller step.deed step.chosen in
    let low : e.caller ≤ 16 = omega (arith, there, at.few) in
    let line = event_line f w e.caller step.deed (subst MayPlay (sym at.setup) play) in
    let told = step_told f w e.caller step.deed step.chosen low in
    let after_it : step_by f w (line_in f (event_of w e.caller step.deed)) ≡ Some (event_of w e.caller step.deed, v) =
    subst (λ (u : World). step_by f w (line_in f (event_of w e.caller step.deed)) ≡ Some (event_of w e.caller step.deed, u)) (sym step.world) told in
    record {
      one = subst (λ (x : Event). IsOneLine (line_in f x)) (sym step.event) line;
      no_tree = no_tree (line_in f e) e.caller (names_caller f e low);
      told = subst (λ (x : Event). step_by f w (line_in f x) ≡ Some (x, v)) (sym step.event) after_it;
    }

-- a line before what is read
one_more : (f : Format) (w : World) (n : ℕ) (e : Event) (m : World) (rest : List (List ℕ)) (es : List Event) (v : World) → IsSaid f w e m → reread_lines f m (n + 1) rest ≡ Ok (es, v)
    → reread_lines f w n (line_in f e ∷ rest) ≡ Ok (e ∷ es, v)
unfolding reread_lines
one_more f w n e m rest es v said read = rw (said.no_tree, said.told) (ap (with_event e) read)

-- the lines of the events of a run, and the line `tree` behind them
lines_taken : (s : Setup) (f : Format) (w : World) (n : ℕ) (h : List Event) (v : World) → MayPlay s → IsOf s w → Run w h v
    → reread_lines f w n (history_lines (text_of (map (line_in f) h) ++ tree_text v)) ≡ Ok (h, v)
unfolding reread_lines tree_text
lines_taken s f w n [] v play at run =
    ap (reread_lines f w n) (lines_behind (codes "tree") (text_of (map dev_text (tree_lines v))) refl) ∙ ap (λ (u : World). Ok ([], u)) run
lines_taken s f w n (e ∷ es) v play at run =
    let said = step_said s f w e run.0 play at run.1 in
    ap (reread_lines f w n) (first_of (line_in f e) (map (line_in f) es) (tree_text v) said.one)
    ∙ one_more f w n e run.0 (history_lines (text_of (map (line_in f) es) ++ tree_text v)) es v said (lines_taken s f run.0 (n + 1) es v play (goes_on s w e.caller e run.0 at run.1) run.2)

-- ---- a text

from_head : (s : Setup) (f : Format) (n : ℕ) (h : List Event) (v : World) → MayPlay s → Run (opening s) h v → reread_from (opening s) n (history_lines (history_in f h v)) ≡ Ok (h, v)
unfolding reread_from lines lines_1
from_head s format.First n h v play run =
    ap (reread_from (opening s) n) (first_of (codes "history 1") (map line_of_1 h) (tree_text v) refl)
    ∙ lines_taken s format.First (opening s) (n + 1) h v play (opening_of s play.may) run
from_head s format.Second n h v play run =
    ap (reread_from (opening s) n) (first_of (codes "history 2") (map line_of h) (tree_text v) refl)
    ∙ lines_taken s format.Second (opening s) (n + 1) h v play (opening_of s play.may) run

-- lines before the head are passed
passed_one : (w : World) (n : ℕ) (line : List ℕ) (rest : List (List ℕ)) (r : Result (List Event × World) ℕ) → format_of line ≡ None → reread_from w (n + 1) rest ≡ r → reread_from w n (line ∷ rest) ≡ r
unfolding reread_from
passed_one w n line rest r none later = rw none later

passed : (w : World) (n : ℕ) (front : List (List ℕ)) (rest : List ℕ) (r : Result (List Event × World) ℕ) → AllByRecursion IsPassed front → ((m : ℕ) → reread_from w m (history_lines rest) ≡ r)
    → reread_from w n (history_lines (text_of front ++ rest)) ≡ r
passed w n [] rest r all later = later n
passed w n (line ∷ front) rest r all later =
    ap (reread_from w n) (first_of line front rest all.0.one) ∙ passed_one w n line (history_lines (text_of front ++ rest)) r all.0.no_head (passed w (n + 1) front rest r all.1 later)

-- ---- the laws

pub runs_taken : TakesRuns
runs_taken s text h v may took = let run = taken_run (opening s) text h v took in (run, always_reliable s h v may run)

pub history_taken : TakesHistory
unfolding reread
history_taken s f h v play run = from_head s f 1 h v play run

pub own_taken : TakesOwn
unfolding reread
own_taken s f h v play words run = passed (opening s) 1 (listed.lines s.tables) (history_in f h v) (Ok (h, v)) (listed_passed s.tables play.may.tables words) (λ m. from_head s f m h v play run)

pub taken_in_both : TakesBoth
taken_in_both s f g h v play took = history_taken s g h v play (taken_run (opening s) (history_in f h v) h v took)
