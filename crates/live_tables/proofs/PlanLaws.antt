-- A plan stays formed line by line, and what the lines from one on give.
use Rattle.std.proofs.Common.{◌≡◌, ◌<◌, ◌+◌, ℕ, Bool, true, false, cond, nat_le, nat_lt, List, [], ◌∷◌, ◌++◌, length, Option, Some, None, Ok, Err, refl, sym, ap, ◌∙◌, subst, arith, length-append}
use Rattle.std.specs.Prelude.{IfOk, IfSome, Result, bytes_eq, is_some, position}
use Rattle.std.specs.List.{enumerate_from, position_or_len}
use Rattle.std.specs.Option.{option_map_or}
use Rattle.std.proofs.lemmas.Bool.Decides.{nat_tests}
use Rattle.std.proofs.lemmas.List.Elements.{All-append, All-from_recursion, recursion_from_All}
use Rattle.cf_types.specs.declared.tables.Tables.{Tables}
use Rattle.config_rules.specs.Cut.{at_line, ◌>>=◌}
use Rattle.config_rules.specs.MachineText.{has_bad_byte, words_of}
use Rattle.run_rules.proofs.Devices.{all_imp}
use Rattle.machine_text.specs.declared.stop.LineStop.{LineStop}
use Rattle.machine_text.specs.declared.stop.LineStop.TheVariants.{Code, Memory}
use Rattle.script_text.specs.Left.{Gives, stop_at}
use Rattle.live_rules.specs.declared.plan.Group.{Group}
use Rattle.live_rules.specs.declared.plan.Plan.{Plan}
use Rattle.live_rules.specs.declared.plan.PlanCommand.{PlanCommand}
use Rattle.live_rules.specs.declared.plan.PlanCommand.TheVariants as command
use Rattle.live_rules.specs.PlanText.{Adds, FormedPlan, Groups, IsOnGroup, PlanLine, Removes, Scans, after_line, after_lines, after_words, group_number, line_form, members_of, no_plan, unless_full, with_command, with_group, with_group_command}
use Rattle.live_tables.specs.Reading.{Becomes}

-- ---- formed plans

bind_ok : {A B E : Type 0} (P : B → Type 0) (r : Result A E) (f : A → Result B E) → ((x : A) → IfOk (f x) P) → IfOk (r >>= f) P
bind_ok P (Ok x) f h = h x
bind_ok P (Err e) f h = tt

full_formed : (p q : Plan) → ((length p.groups + length p.commands < 500) → FormedPlan q) → IfOk (unless_full p q) FormedPlan
full_formed p q h = cases (nat_le 500 (length p.groups + length p.commands)) refl
  where
    cases : (b : Bool) → nat_le 500 (length p.groups + length p.commands) ≡ b → IfOk {E = ℕ} (cond b (Err 4) (Ok q)) FormedPlan
    cases true e = tt
    cases false e = h (grind (arith, nat_tests))

one_command : (p : Plan) (c : PlanCommand) → FormedPlan p → IsOnGroup p.groups c → IfOk (with_command p c) FormedPlan
one_command p c h on = full_formed p (record p { commands = p.commands ++ c ∷ [] }) (λ less. record {
  few = omega (arith, less, length-append p.commands (c ∷ []));
  commands = All-append (IsOnGroup p.groups) p.commands (c ∷ []) h.commands (All-from_recursion (IsOnGroup p.groups) (c ∷ []) (on, tt));
})

on_more : (groups : List Group) (g : Group) (c : PlanCommand) → IsOnGroup groups c → IsOnGroup (groups ++ g ∷ []) c
on_more groups g (command.Add n) on = omega (arith, on, length-append groups (g ∷ []))
on_more groups g (command.Remove n) on = omega (arith, on, length-append groups (g ∷ []))
on_more groups g command.Scan on = tt

one_group : (p : Plan) (g : Group) → FormedPlan p → IfOk (unless_full p (record p { groups = p.groups ++ g ∷ [] })) FormedPlan
one_group p g h = full_formed p (record p { groups = p.groups ++ g ∷ [] }) (λ less. record {
  few = omega (arith, less, length-append p.groups (g ∷ []));
  commands = All-from_recursion (IsOnGroup (p.groups ++ g ∷ [])) p.commands (all_imp (IsOnGroup p.groups) (IsOnGroup (p.groups ++ g ∷ [])) (on_more p.groups g) p.commands (recursion_from_All (IsOnGroup p.groups) p.commands h.commands));
})

place_below : (p : Group → Bool) (groups : List Group) → IfSome (position p groups) (λ g. g < length groups)
place_below p groups = cases (nat_lt (position_or_len p groups) (length groups)) refl
  where
    cases : (b : Bool) → nat_lt (position_or_len p groups) (length groups) ≡ b → IfSome (cond b (Some (position_or_len p groups)) None) (λ g. g < length groups)
    cases true e = grind (arith, nat_tests)
    cases false e = tt

on_named : (p : Plan) (name : List ℕ) (make : ℕ → PlanCommand) → FormedPlan p → ((g : ℕ) → g < length p.groups → IsOnGroup p.groups (make g)) → IfOk (with_group_command p name make) FormedPlan
on_named p name make h on = cases (group_number p.groups name) (place_below (λ g. bytes_eq g.name name) p.groups)
  where
    cases : (o : Option ℕ) → IfSome o (λ g. g < length p.groups) → IfOk {E = ℕ} (option_map_or (λ g. with_command p (make g)) o (Err 7)) FormedPlan
    cases None below = tt
    cases (Some g) below = one_command p (make g) h (on g below)

group_formed : (t : Tables) (p : Plan) (name : List ℕ) (devices : List (List ℕ)) → FormedPlan p → IfOk (with_group t p name devices) FormedPlan
group_formed t p name devices h = cases (is_some (group_number p.groups name))
  where
    cases : (b : Bool) → IfOk {E = ℕ} (cond b (Err 6) (members_of t p.groups [] devices >>= λ members. unless_full p (record p { groups = p.groups ++ record { name = name; devices = members } ∷ [] }))) FormedPlan
    cases true = tt
    cases false =
        bind_ok FormedPlan (members_of t p.groups [] devices) (λ members. unless_full p (record p { groups = p.groups ++ record { name = name; devices = members } ∷ [] }))
        (λ members. one_group p (record { name = name; devices = members }) h)

line_formed : (t : Tables) (p : Plan) (l : PlanLine) → FormedPlan p → IfOk (after_line t p l) FormedPlan
line_formed t p (Groups name devices) h = group_formed t p name devices h
line_formed t p (Adds name) h = on_named p name command.Add h (λ g lt. lt)
line_formed t p (Removes name) h = on_named p name command.Remove h (λ g lt. lt)
line_formed t p Scans h = one_command p command.Scan h tt

words_formed : (t : Tables) (p : Plan) (bad : Bool) (words : List (List ℕ)) → FormedPlan p → IfOk (after_words t p bad words) FormedPlan
words_formed t p bad [] h = h
words_formed t p bad (word ∷ rest) h = bind_ok FormedPlan (line_form bad word rest) (after_line t p) (λ l. line_formed t p l h)

pub stays_formed : (t : Tables) (p q : Plan) (bad : Bool) (words : List (List ℕ)) → FormedPlan p → after_words t p bad words ≡ Ok q → FormedPlan q
stays_formed t p q bad words h e = subst (λ (r : Result Plan ℕ). IfOk r FormedPlan) e (words_formed t p bad words h)

pub none_formed : FormedPlan no_plan
none_formed = record { few = omega arith; commands = All-from_recursion (IsOnGroup []) [] tt }

-- ---- the lines from one on

abbrev pub lines_after : Tables → ℕ → List (List ℕ) → Plan → Result Plan (ℕ × ℕ)
lines_after t n lines p = after_lines t (enumerate_from n lines) p

pub line_more : (t : Tables) (n : ℕ) (line : List ℕ) (lines more : List (List ℕ)) (p q : Plan) → lines ≡ line ∷ more → after_words t p (has_bad_byte line) (words_of line) ≡ Ok q
    → lines_after t (n + 1) more q ≡ lines_after t n lines p
line_more t n line lines more p q is e =
    sym (ap (λ (ls : List (List ℕ)). lines_after t n ls p) is ∙ ap (λ (r : Result Plan ℕ). at_line n r >>= λ x. lines_after t (n + 1) more x) e)

pub line_stops : (t : Tables) (n : ℕ) (line : List ℕ) (lines more : List (List ℕ)) (p new : Plan) (stop : LineStop) (whole : Result Plan (ℕ × ℕ)) → lines ≡ line ∷ more
    → Becomes (after_words t p (has_bad_byte line) (words_of line)) new (Err stop) → lines_after t n lines p ≡ whole → Gives whole (Err (stop_at n stop))
line_stops t n line lines more p new Memory whole is e rest = tt
line_stops t n line lines more p new (Code code) whole is e rest =
    sym rest ∙ ap (λ (ls : List (List ℕ)). lines_after t n ls p) is ∙ ap (λ (r : Result Plan ℕ). at_line n r >>= λ x. lines_after t (n + 1) more x) e
