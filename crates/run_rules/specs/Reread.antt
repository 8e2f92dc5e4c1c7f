-- What a text of lines says of a run: its events, if each of its lines is that of the event that its caller does next.
use Rattle.std.specs.Prelude.{ℕ, ◌+◌, Bool, if◌then◌else◌, List, [], ◌∷◌, ◌++◌, length, take, find, Option, Some, None, option_and_then, bytes_eq, codes, decimal}
use Rattle.std.specs.Option.{option_map_or}
use Rattle.std.specs.declared.result.Result.{Result}
use Rattle.std.specs.declared.result.Result.TheVariants.{Ok, Err}
use Rattle.cf_types.specs.Lines.{lines_of}
use Rattle.cf_types.specs.Numbers.{below}
use Rattle.run_rules.specs.declared.deed.Choice.{Choice}
use Rattle.run_rules.specs.declared.deed.Choice.TheVariants.{Does}
use Rattle.run_rules.specs.declared.event.Event.{Event}
use Rattle.run_rules.specs.declared.event.Format.{Format}
use Rattle.run_rules.specs.declared.event.Format.TheVariants as format
use Rattle.run_rules.specs.World.{World}
use Rattle.run_rules.specs.Next.{next}
use Rattle.run_rules.specs.After.{after}
use Rattle.run_rules.specs.Run.{event_of}
use Rattle.run_rules.specs.Lines.{line_of, line_of_1}

-- ---- lines

-- of the lines of a text an empty last one does not count
abbrev pub without_empty_last : List (List ℕ) → List (List ℕ)
without_empty_last [] = []
without_empty_last ([] ∷ []) = []
without_empty_last (line ∷ lines) = line ∷ without_empty_last lines

abbrev pub history_lines : List ℕ → List (List ℕ)
history_lines text = without_empty_last (lines_of text)

-- ---- a line

abbrev pub line_in : Format → Event → List ℕ
line_in format.First e = line_of_1 e
line_in format.Second e = line_of e

-- the format of a head
abbrev pub format_of : List ℕ → Option Format
format_of line =
    if bytes_eq line (codes "history 1") then Some format.First
    else (if bytes_eq line (codes "history 2") then Some format.Second else None)

abbrev pub begins_with : List ℕ → List ℕ → Bool
begins_with line start = bytes_eq (take (length start) line) start

-- the caller that a line names, from 0 to 16
abbrev pub caller_of : List ℕ → Option ℕ
caller_of line = find (λ k. begins_with line (decimal k ++ codes ".")) (below 17)

-- what a caller does, if its line is this one: the event, and the world after it
abbrev pub told_by : Format → World → ℕ → List ℕ → Choice → Option (Event × World)
told_by f w k line (Does deed) = if bytes_eq (line_in f (event_of w k deed)) line then Some (event_of w k deed, after w k deed) else None
told_by f w k line _ = None

abbrev pub step_by : Format → World → List ℕ → Option (Event × World)
step_by f w line = option_and_then (λ k. told_by f w k line (next w k)) (caller_of line)

-- ---- a text

abbrev pub with_event : Event → Result (List Event × World) ℕ → Result (List Event × World) ℕ
with_event e (Ok run) = Ok (e ∷ run.0, run.1)
with_event e (Err bad) = Err bad

-- the lines up to the next line `tree`, of which the first has number n: the events and the world that they lead to, or the first bad line
unfoldable pub reread_lines : Format → World → ℕ → List (List ℕ) → Result (List Event × World) ℕ
reread_lines f w n [] = Err n
reread_lines f w n (line ∷ rest) =
    if bytes_eq line (codes "tree") then Ok ([], w)
    else option_map_or (λ step. with_event step.0 (reread_lines f step.1 (n + 1) rest)) (step_by f w line) (Err n)

-- from the first head on; line 0 is bad where there is none
unfoldable pub reread_from : World → ℕ → List (List ℕ) → Result (List Event × World) ℕ
reread_from w n [] = Err 0
reread_from w n (line ∷ rest) = option_map_or (λ f. reread_lines f w (n + 1) rest) (format_of line) (reread_from w (n + 1) rest)

unfoldable pub reread : World → List ℕ → Result (List Event × World) ℕ
reread w text = reread_from w 1 (history_lines text)
