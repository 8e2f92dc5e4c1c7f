-- Which numbers the bad line of a history may have.
use Rattle.std.proofs.Common.{◌≡◌, ◌≤◌, ◌+◌, ◌==◌, ℕ, List, [], ◌∷◌, length, Bool, true, false, Option, Some, None, if◌then◌else◌, arith}
use Rattle.std.specs.Prelude.{bytes_eq, codes}
use Rattle.std.specs.Option.{option_map_or}
use Rattle.std.specs.declared.result.Result.{Result}
use Rattle.std.specs.declared.result.Result.TheVariants.{Ok, Err}
use Rattle.run_rules.specs.declared.event.Event.{Event}
use Rattle.run_rules.specs.declared.event.Format.{Format}
use Rattle.std.specs.List.{onto_first}
use Rattle.cf_types.specs.Lines.{lines_of}
use Rattle.run_rules.specs.Reread.{format_of, history_lines, reread, reread_from, reread_lines, step_by, with_event, without_empty_last}
use Rattle.run_rules.specs.World.{World}

-- ---- how many lines a text has

onto_one_more : (b : ℕ) (pieces : List (List ℕ)) → length (onto_first b pieces) ≤ length pieces + 1
onto_one_more b [] = omega arith
onto_one_more b (piece ∷ pieces) = omega arith

pieces_few : (text : List ℕ) → length (lines_of text) ≤ length text + 1
pieces_few [] = omega arith
pieces_few (b ∷ bs) = by_newline (b == 10) (pieces_few bs)
  where
    by_newline : (newline : Bool) → length (lines_of bs) ≤ length bs + 1 → length (if newline then [] ∷ lines_of bs else onto_first b (lines_of bs)) ≤ length (b ∷ bs) + 1
    by_newline true few = omega (arith, few)
    by_newline false few = let more = onto_one_more b (lines_of bs) in omega (arith, few, more)

no_more : (pieces : List (List ℕ)) → length (without_empty_last pieces) ≤ length pieces
no_more [] = omega arith
no_more ([] ∷ []) = omega arith
no_more ((b ∷ bs) ∷ []) = omega arith
no_more ([] ∷ piece ∷ pieces) = let fewer = no_more (piece ∷ pieces) in omega (arith, fewer)
no_more ((b ∷ bs) ∷ piece ∷ pieces) = let fewer = no_more (piece ∷ pieces) in omega (arith, fewer)

lines_few : (text : List ℕ) → length (history_lines text) ≤ length text + 1
lines_few text =
    let few = pieces_few text in
    let fewer = no_more (lines_of text) in
    omega (arith, few, fewer)

-- ---- the bad one

tail_bad : (e : Event) (r : Result (List Event × World) ℕ) (bad : ℕ) → with_event e r ≡ Err bad → r ≡ Err bad
tail_bad e (Ok run) bad is = absurd cc
tail_bad e (Err line) bad is = is

-- of the lines behind a step
by_step : (f : Format) (n : ℕ) (rest : List (List ℕ)) (bad : ℕ) → ((w : World) → reread_lines f w (n + 1) rest ≡ Err bad → bad ≤ n + 1 + length rest) → (o : Option (Event × World))
    → option_map_or (λ step. with_event step.0 (reread_lines f step.1 (n + 1) rest)) o (Err n) ≡ Err bad → bad ≤ n + 1 + length rest
by_step f n rest bad behind None is = let same : n ≡ bad = cc in omega (arith, same)
by_step f n rest bad behind (Some step) is = behind step.1 (tail_bad step.0 (reread_lines f step.1 (n + 1) rest) bad is)

by_end : (f : Format) (w : World) (n : ℕ) (line : List ℕ) (rest : List (List ℕ)) (bad : ℕ) → ((v : World) → reread_lines f v (n + 1) rest ≡ Err bad → bad ≤ n + 1 + length rest) → (end : Bool)
    → (if end then Ok ([], w) else option_map_or (λ step. with_event step.0 (reread_lines f step.1 (n + 1) rest)) (step_by f w line) (Err n)) ≡ Err bad → bad ≤ n + 1 + length rest
by_end f w n line rest bad behind true is = absurd cc
by_end f w n line rest bad behind false is = by_step f n rest bad behind (step_by f w line) is

line_bad : (f : Format) (w : World) (n : ℕ) (lines : List (List ℕ)) (bad : ℕ) → reread_lines f w n lines ≡ Err bad → bad ≤ n + length lines
unfolding reread_lines
line_bad f w n [] bad is = let same : n ≡ bad = cc in omega (arith, same)
line_bad f w n (line ∷ rest) bad is =
    let within : bad ≤ n + 1 + length rest = by_end f w n line rest bad (λ v. line_bad f v (n + 1) rest bad) (bytes_eq line (codes "tree")) is in
    omega (arith, within)

by_head : (w : World) (n : ℕ) (rest : List (List ℕ)) (bad : ℕ) → (reread_from w (n + 1) rest ≡ Err bad → bad ≤ n + 1 + length rest) → (o : Option Format)
    → option_map_or (λ f. reread_lines f w (n + 1) rest) o (reread_from w (n + 1) rest) ≡ Err bad → bad ≤ n + 1 + length rest
by_head w n rest bad behind None is = behind is
by_head w n rest bad behind (Some f) is = line_bad f w (n + 1) rest bad is

text_bad : (w : World) (n : ℕ) (lines : List (List ℕ)) (bad : ℕ) → reread_from w n lines ≡ Err bad → bad ≤ n + length lines
unfolding reread_from
text_bad w n [] bad is = let same : 0 ≡ bad = cc in omega (arith, same)
text_bad w n (line ∷ rest) bad is =
    let within : bad ≤ n + 1 + length rest = by_head w n rest bad (text_bad w (n + 1) rest bad) (format_of line) is in
    omega (arith, within)

-- it is one of the lines of the text, or the one behind them
pub bad_within : (w : World) (text : List ℕ) (bad : ℕ) → reread w text ≡ Err bad → bad ≤ length text + 2
unfolding reread
bad_within w text bad is =
    let within = text_bad w 1 (history_lines text) bad is in
    let few = lines_few text in
    omega (arith, within, few)
