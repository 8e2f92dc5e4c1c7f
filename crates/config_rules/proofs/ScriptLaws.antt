-- A script that is read is formed, and the turns of an order file are those of its callers.
use Rattle.std.proofs.Common.{◌≡◌, ℕ, ◌+◌, ◌*◌, ◌≤◌, Bool, true, false, cond, not, ◌&&◌, ◌||◌, Option, Some, None, List, [], ◌∷◌, codes, length, map, refl, sym, subst, arith, ℤ, Result, Ok, Err, pos, negsuc}
use Rattle.std.specs.Prelude.{All, IfOk, IfSome, bytes_eq, filter_map, find, flat_map, nat_abs, nat_le, nat_lt, option_map, option_to_list}
use Rattle.std.specs.List.{cons_option, enumerate_from, list_all}
use Rattle.std.specs.Option.{option_map_or}
use Rattle.std.specs.Result.{result_ok}
use Rattle.std.proofs.lemmas.Bool.Decides.{nat_tests}
use Rattle.std.proofs.lemmas.List.Elements.{All-append, All-cons, All-nil, filter_map-append}
use Rattle.cf_types.specs.declared.code.script.TheConstants.{NO_COMMAND, OUT_OF_RANGE, TOO_MANY_COMMANDS, WRONG_WORDS}
use Rattle.cf_types.specs.declared.machine.Command.{Command}
use Rattle.cf_types.specs.declared.machine.Command.TheVariants as command
use Rattle.cf_types.specs.declared.machine.Given.{Given}
use Rattle.cf_text.specs.Shapes.{in_range, number}
use Rattle.cf_types.specs.Lines.{lines_of}
use Rattle.config_rules.specs.Cut.{◌>>=◌}
use Rattle.config_rules.specs.Form.{given, ◌or◌}
use Rattle.config_rules.specs.MachineText.{has_bad_byte, words_of}
use Rattle.config_rules.specs.ScriptText.{CommandRow, FormedCommand, FormedScript, are_pairs, bad_sayings, code_after, command_of, commands, commands_in, commands_of, given_in, is_bounded, io_form, is_caller, spells_number, is_operand, is_turn, is_value, line_says, names_in, natural_within, number_within, value_within, on_any, on_one, one_operand, open_form, operand, order_of, pairs_of, rescan_form, rescan_on, row_of, sayings, sole_form, turns_code, turns_of, bad_turns, unless_bad, words_say}
use Rattle.config_rules.proofs.CutLaws.{both_left, both_right}
use Rattle.config_rules.proofs.Parts.{cond_both}

-- ---- steps that may give a code

-- a fact of what a step gives is one of what follows
then_if : {A B : Type 0} (P : A → Type 0) (Q : B → Type 0) (r : Result A ℕ) (f : A → Result B ℕ) → IfOk r P → ((x : A) → P x → IfOk (f x) Q) → IfOk (r >>= f) Q
then_if P Q (Ok x) f h step = step x h
then_if P Q (Err code) f h step = tt

any_if : {A B : Type 0} (Q : B → Type 0) (r : Result A ℕ) (f : A → Result B ℕ) → ((x : A) → IfOk (f x) Q) → IfOk (r >>= f) Q
any_if Q (Ok x) f step = step x
any_if Q (Err code) f step = tt

-- ---- operands

operand_is : (word : List ℕ) → IfOk (operand word) (λ name. is_operand name ≡ true)
operand_is word =
    cond_both (λ r. IfOk r (λ name. is_operand name ≡ true)) (is_operand word) (Ok word) (Err WRONG_WORDS) (λ h. h) (λ h. tt)

one_is : (words : List (List ℕ)) → IfOk (one_operand words) (λ name. is_operand name ≡ true)
one_is [] = tt
one_is (word ∷ []) = operand_is word
one_is (word ∷ other ∷ words) = tt

-- one name alone
alone : (c : Command) (name : List ℕ) → names_in c ≡ name ∷ [] → is_bounded c ≡ true → is_operand name ≡ true → FormedCommand c
alone c name names few h = record {
  names = let P : List (List ℕ) → Type 0 = λ ns. All (λ n. is_operand n ≡ true) ns in
      subst P (sym names) (All-cons (λ n. is_operand n ≡ true) name [] h (All-nil (λ n. is_operand n ≡ true)));
  bounded = few;
}

-- no name
nameless : (c : Command) → names_in c ≡ [] → is_bounded c ≡ true → FormedCommand c
nameless c names few = record {
  names = let P : List (List ℕ) → Type 0 = λ ns. All (λ n. is_operand n ≡ true) ns in subst P (sym names) (All-nil (λ n. is_operand n ≡ true));
  bounded = few;
}

on_one_formed : (make : List ℕ → Command) → ((name : List ℕ) → names_in (make name) ≡ name ∷ []) → ((name : List ℕ) → is_bounded (make name) ≡ true) → (words : List (List ℕ)) → IfOk (on_one make words) FormedCommand
on_one_formed make names few words =
    then_if (λ name. is_operand name ≡ true) FormedCommand (one_operand words) (λ name. Ok (make name)) (one_is words) (λ name h. alone (make name) name (names name) (few name) h)

on_any_formed : (make : Option (List ℕ) → Command) → ((name : Option (List ℕ)) → names_in (make name) ≡ option_to_list name) → ((name : Option (List ℕ)) → is_bounded (make name) ≡ true) → (words : List (List ℕ)) → IfOk (on_any make words) FormedCommand
on_any_formed make names few [] = nameless (make None) (names None) (few None)
on_any_formed make names few (word ∷ words) =
    then_if (λ (name : Option (List ℕ)). IfSome name (λ n. is_operand n ≡ true)) FormedCommand (one_operand (word ∷ words) >>= λ name. Ok (Some name)) (λ name. Ok (make name))
    (then_if (λ name. is_operand name ≡ true) (λ (name : Option (List ℕ)). IfSome name (λ n. is_operand n ≡ true)) (one_operand (word ∷ words)) (λ name. Ok (Some name)) (one_is (word ∷ words)) (λ name h. h))
    named
  where
    named : (name : Option (List ℕ)) → IfSome name (λ n. is_operand n ≡ true) → FormedCommand (make name)
    named None h = nameless (make None) (names None) (few None)
    named (Some name) h = alone (make (Some name)) name (names (Some name)) (few (Some name)) h

sole_formed : (option device : List ℕ) → IfOk (sole_form option device) FormedCommand
sole_formed option device =
    cond_both (λ r. IfOk r FormedCommand) (bytes_eq option (codes "-x")) (operand device >>= λ name. Ok (command.OpenSole name)) (Err 2)
    (λ h. then_if (λ name. is_operand name ≡ true) FormedCommand (operand device) (λ name. Ok (command.OpenSole name)) (operand_is device) (λ name h. alone (command.OpenSole name) name refl refl h))
    (λ h. tt)

open_formed : (words : List (List ℕ)) → IfOk (open_form words) FormedCommand
open_formed [] = tt
open_formed (device ∷ []) =
    then_if (λ name. is_operand name ≡ true) FormedCommand (operand device) (λ name. Ok (command.OpenDev name)) (operand_is device) (λ name h. alone (command.OpenDev name) name refl refl h)
open_formed (option ∷ device ∷ []) = sole_formed option device
open_formed (option ∷ device ∷ other ∷ words) = tt

-- the value of a transfer fits
fits_is : (o : Option ℤ) → IfOk (value_within is_value o) (λ z. is_value z ≡ true)
fits_is None = tt
fits_is (Some z) = cond_both (λ r. IfOk r (λ v. is_value v ≡ true)) (is_value z) (Ok z) (Err OUT_OF_RANGE) (λ h. h) (λ h. tt)

small_value : (z : ℤ) → is_value z ≡ true → nat_lt (nat_abs z) 4294967296 ≡ true
small_value (pos n) h = grind (arith, nat_tests, h)
small_value (negsuc n) h = absurd cc

value_is : (word : List ℕ) → IfOk (natural_within is_value word) (λ v. nat_lt v 4294967296 ≡ true)
value_is word = then_if (λ z. is_value z ≡ true) (λ v. nat_lt v 4294967296 ≡ true) (number_within is_value word) (λ v. Ok (nat_abs v)) (fits_is (number word)) small_value

io_formed : (words : List (List ℕ)) → IfOk (io_form words) FormedCommand
io_formed [] = tt
io_formed (device ∷ []) = tt
io_formed (device ∷ value ∷ []) =
    then_if (λ name. is_operand name ≡ true) FormedCommand (operand device) (λ name. natural_within is_value value >>= λ v. Ok (command.Io name v)) (operand_is device)
    (λ name h. then_if (λ v. nat_lt v 4294967296 ≡ true) FormedCommand (natural_within is_value value) (λ v. Ok (command.Io name v)) (value_is value) (λ v small. alone (command.Io name v) name refl small h))
io_formed (device ∷ value ∷ other ∷ words) = tt

-- ---- rescans

-- names of operands, and two words for each
abbrev ArePairs : List (List ℕ) → List Given → Type 0
ArePairs words pairs = All (λ n. is_operand n ≡ true) (map (λ g. g.name) pairs) × (2 * length pairs ≤ length words)

given_formed : (words : List (List ℕ)) → are_pairs words ≡ true → IfOk (given_in words) (ArePairs words)
given_formed [] h = (All-nil (λ n. is_operand n ≡ true), omega arith)
given_formed (name ∷ []) h = absurd (cc)
given_formed (name ∷ value ∷ words) h =
    any_if (ArePairs (name ∷ value ∷ words)) (number_within in_range value) (λ v. given_in words >>= λ more. Ok (record { name = name; value = v } ∷ more))
    (λ v. then_if (ArePairs words) (ArePairs (name ∷ value ∷ words)) (given_in words) (λ more. Ok (record { name = name; value = v } ∷ more))
    (given_formed words (both_right (is_operand name && spells_number value) (are_pairs words) h))
    (λ more fine. (All-cons (λ n. is_operand n ≡ true) name (map (λ g. g.name) more) (both_left (is_operand name) (spells_number value) (both_left (is_operand name && spells_number value) (are_pairs words) h)) fine.0, omega (arith, fine.1))))

few_words : (n : ℕ) → nat_le n 32 ≡ true → n ≤ 32
few_words n h = grind (arith, nat_tests)

few_pairs : (n : ℕ) → 2 * n ≤ 32 → nat_le n 16 ≡ true
few_pairs n h = grind (arith, nat_tests)

abbrev AreFew : List Given → Type 0
AreFew pairs = All (λ n. is_operand n ≡ true) (map (λ g. g.name) pairs) × (nat_le (length pairs) 16 ≡ true)

few_of : (words : List (List ℕ)) (r : Result (List Given) ℕ) → length words ≤ 32 → IfOk r (ArePairs words) → IfOk r AreFew
few_of words (Ok pairs) few h = (h.0, few_pairs (length pairs) (omega (arith, few, h.1)))
few_of words (Err code) few h = tt

pairs_formed : (words : List (List ℕ)) → IfOk (pairs_of words) AreFew
pairs_formed words =
    cond_both (λ r. IfOk r AreFew) (nat_le (length words) 32 && are_pairs words) (given_in words) (Err WRONG_WORDS)
    (λ h. few_of words (given_in words) (few_words (length words) (both_left (nat_le (length words) 32) (are_pairs words) h)) (given_formed words (both_right (nat_le (length words) 32) (are_pairs words) h))) (λ h. tt)

rescan_on_formed : (device attr : List ℕ) (words : List (List ℕ)) → IfOk (rescan_on device attr words) FormedCommand
rescan_on_formed device attr words =
    then_if (λ name. is_operand name ≡ true) FormedCommand (operand device) (λ name. operand attr >>= λ bus. pairs_of words >>= λ pairs. Ok (command.Rescan name (Some bus) pairs)) (operand_is device)
    (λ name h. then_if (λ bus. is_operand bus ≡ true) FormedCommand (operand attr) (λ bus. pairs_of words >>= λ pairs. Ok (command.Rescan name (Some bus) pairs)) (operand_is attr)
    (λ bus k. then_if AreFew FormedCommand (pairs_of words) (λ pairs. Ok (command.Rescan name (Some bus) pairs)) (pairs_formed words)
    (λ pairs few. record {
      names = All-cons (λ n. is_operand n ≡ true) name (bus ∷ map (λ g. g.name) pairs) h (All-cons (λ n. is_operand n ≡ true) bus (map (λ g. g.name) pairs) k few.0);
      bounded = few.1;
    })))

rescan_formed : (words : List (List ℕ)) → IfOk (rescan_form words) FormedCommand
rescan_formed [] = tt
rescan_formed (device ∷ []) =
    then_if (λ name. is_operand name ≡ true) FormedCommand (operand device) (λ name. Ok (command.Rescan name None [])) (operand_is device) (λ name h. alone (command.Rescan name None []) name refl refl h)
rescan_formed (device ∷ attr ∷ words) = rescan_on_formed device attr words

-- ---- the table of commands

abbrev IsFormedRow : CommandRow → Type 0
IsFormedRow r = (words : List (List ℕ)) → IfOk (r.form words) FormedCommand

abbrev Each : (CommandRow → Type 0) → List CommandRow → Type 0
Each P [] = Unit {0}
Each P (r ∷ rs) = P r × Each P rs

find_each : (P : CommandRow → Type 0) (p : CommandRow → Bool) (rs : List CommandRow) → Each P rs → IfSome (find p rs) P
find_each P p [] h = tt
find_each P p (r ∷ rs) h = found (p r) (find_each P p rs h.1)
  where
    found : (b : Bool) → IfSome (find p rs) P → IfSome (cond b (Some r) (find p rs)) P
    found true k = h.0
    found false k = k

rows_formed : Each IsFormedRow commands
unfolding commands
rows_formed = (
  open_formed,
  (
    on_one_formed command.CloseDev (λ n. refl) (λ n. refl),
    (
      io_formed,
      (
        on_one_formed command.Detach (λ n. refl) (λ n. refl),
        (
          rescan_formed,
          (
            on_any_formed command.ListDev (λ n. refl) (λ n. refl),
            (
              on_any_formed command.TreeDev (λ n. refl) (λ n. refl),
              (
                on_one_formed command.Suspend (λ n. refl) (λ n. refl),
                (
                  on_one_formed command.Resume (λ n. refl) (λ n. refl),
                  (
                    on_one_formed command.ResumeTree (λ n. refl) (λ n. refl),
                    (
                      on_one_formed command.Plug (λ n. refl) (λ n. refl),
                      (
                        on_one_formed command.Unplug (λ n. refl) (λ n. refl),
                        tt,
                      ),
                    ),
                  ),
                ),
              ),
            ),
          ),
        ),
      ),
    ),
  ),
)

by_row : (o : Option CommandRow) (words : List (List ℕ)) → IfSome o IsFormedRow → IfOk (option_map_or (λ r. r.form words) o (Err NO_COMMAND)) FormedCommand
by_row None words h = tt
by_row (Some r) words h = h words

command_formed : (word : List ℕ) (words : List (List ℕ)) → IfOk (command_of word words) FormedCommand
command_formed word words = by_row (row_of word) words (find_each IsFormedRow (λ r. bytes_eq r.word word) commands rows_formed)

-- ---- lines

abbrev IsFormedSaying : Option (Result Command ℕ) → Type 0
IsFormedSaying said = IfSome said (λ r. IfOk r FormedCommand)

words_formed : (words : List (List ℕ)) → IsFormedSaying (words_say words)
words_formed [] = tt
words_formed (word ∷ words) = command_formed word words

line_formed : (line : List ℕ) → IsFormedSaying (line_says line)
line_formed line =
    cond_both IsFormedSaying (has_bad_byte line) (Some (Err WRONG_WORDS)) (words_say (words_of line)) (λ h. tt) (λ h. words_formed (words_of line))

-- what these lines say, from the number n on
abbrev pub said_from : ℕ → List (List ℕ) → List (ℕ × Result Command ℕ)
said_from n lines = filter_map (λ l. option_map (λ said. (l.0, said)) (line_says l.1)) (enumerate_from n lines)

-- the commands of what is said
abbrev pub commands_said : List (ℕ × Result Command ℕ) → List Command
commands_said said = filter_map (λ s. result_ok s.1) said

one_formed : (n : ℕ) (said : Option (Result Command ℕ)) (more : List (ℕ × Result Command ℕ)) → IsFormedSaying said → All FormedCommand (commands_said more)
    → All FormedCommand (commands_said (cons_option (option_map (λ r. (n, r)) said) more))
one_formed n None more h all = all
one_formed n (Some (Ok c)) more h all = All-cons FormedCommand c (commands_said more) h all
one_formed n (Some (Err code)) more h all = all

all_formed : (n : ℕ) (lines : List (List ℕ)) → All FormedCommand (commands_said (said_from n lines))
all_formed n [] = All-nil FormedCommand
all_formed n (line ∷ lines) = one_formed n (line_says line) (said_from (n + 1) lines) (line_formed line) (all_formed (n + 1) lines)

-- ---- their number

-- the bad ones of what is said after i others
abbrev pub bad_said : ℕ → List (ℕ × Result Command ℕ) → List (ℕ × ℕ)
bad_said i said = filter_map (λ s. option_map (λ code. (s.1.0, code)) (code_after s.0 s.1.1)) (enumerate_from i said)

more_than : (b : Bool) (i : ℕ) → nat_le 500 i ≡ b → given {A = ℕ} b TOO_MANY_COMMANDS ≡ None → i + 1 ≤ 500
more_than true i e h = absurd (cc)
more_than false i e h = grind (arith, nat_tests)

not_none : (n : ℕ) (o : Option ℕ) (more : List (ℕ × ℕ)) → cons_option (option_map (λ code. (n, code)) o) more ≡ [] → (o ≡ None) × (more ≡ [])
not_none n None more h = (refl, h)
not_none n (Some code) more h = absurd (cc)

room_after : (i : ℕ) (r : Result Command ℕ) → code_after i r ≡ None → i + 1 ≤ 500
room_after i (Ok c) h = more_than (nat_le 500 i) i refl h
room_after i (Err code) h = absurd (cc)

few_said : (i : ℕ) (said : List (ℕ × Result Command ℕ)) → bad_said i said ≡ [] → i ≤ 500 → i + length said ≤ 500
few_said i [] h few = omega (arith, few)
few_said i (s ∷ said) h few =
    let parts = not_none s.0 (code_after i s.1) (bad_said (i + 1) said) h in
    let rest : (i + 1) + length said ≤ 500 = few_said (i + 1) said parts.1 (room_after i s.1 parts.0) in omega (arith, rest)

no_more_commands : (said : List (ℕ × Result Command ℕ)) → length (commands_said said) ≤ length said
no_more_commands [] = omega arith
no_more_commands (s ∷ said) = one (result_ok s.1) (no_more_commands said)
  where
    one : (o : Option Command) → length (commands_said said) ≤ length said → length (cons_option o (commands_said said)) ≤ length (s ∷ said)
    one None h = omega (arith, h)
    one (Some c) h = omega (arith, h)

all_good : {A : Type 0} (faults : List (ℕ × ℕ)) (xs ys : List A) → unless_bad faults xs ≡ Ok ys → (faults ≡ []) × (xs ≡ ys)
all_good [] xs ys h = (refl, cc)
all_good (fault ∷ faults) xs ys h = absurd (cc)

-- a script that is read is formed
pub script_formed : (text : List ℕ) (script : List Command) → commands_of text ≡ Ok script → FormedScript script
unfolding commands_of
script_formed text script h =
    let parts = all_good (bad_sayings text) (commands_in text) script h in
    subst FormedScript parts.1 (record {
      few = omega (arith, no_more_commands (sayings text), few_said 0 (sayings text) parts.0 (omega arith));
      commands = all_formed 1 (lines_of text);
    })

-- ---- order files

abbrev IsTurn : ℕ → ℕ → Type 0
IsTurn callers n = (1 ≤ n) × (n ≤ callers)

caller_is : (callers : ℕ) (v : ℤ) → is_caller callers v ≡ true → IsTurn callers (nat_abs v)
caller_is callers (pos n) h = in_both callers n h
  where
    in_both : (callers n : ℕ) → (nat_le 1 n && nat_le n callers) ≡ true → IsTurn callers n
    in_both callers n h = let low = both_left (nat_le 1 n) (nat_le n callers) h in let high = both_right (nat_le 1 n) (nat_le n callers) h in (grind (arith, nat_tests), grind (arith, nat_tests))
caller_is callers (negsuc n) h = absurd (cc)

turn_is : (callers : ℕ) (o : Option ℤ) (more : List ℕ) → option_map_or (is_caller callers) o false ≡ true → All (IsTurn callers) more → All (IsTurn callers) (cons_option (option_map nat_abs o) more)
turn_is callers None more h all = absurd (cc)
turn_is callers (Some v) more h all = All-cons (IsTurn callers) (nat_abs v) more (caller_is callers v h) all

turns_are : (callers : ℕ) (words : List (List ℕ)) → list_all (is_turn callers) words ≡ true → All (IsTurn callers) (turns_of words)
turns_are callers [] h = All-nil (IsTurn callers)
turns_are callers (word ∷ words) h =
    turn_is callers (number word) (turns_of words) (both_left (is_turn callers word) (list_all (is_turn callers) words) h)
    (turns_are callers words (both_right (is_turn callers word) (list_all (is_turn callers) words) h))

fine : (a b : Bool) → ◌or◌ {A = ℕ} (given a WRONG_WORDS) (given (not b) OUT_OF_RANGE) ≡ None → b ≡ true
fine true b h = absurd (cc)
fine false true h = refl
fine false false h = absurd (cc)

-- the bad lines of an order file from the number n on
abbrev pub bad_turns_from : ℕ → ℕ → List (List ℕ) → List (ℕ × ℕ)
bad_turns_from callers n lines = filter_map (λ l. option_map (λ code. (l.0, code)) (turns_code callers l.1)) (enumerate_from n lines)

lines_are : (callers n : ℕ) (lines : List (List ℕ)) → bad_turns_from callers n lines ≡ [] → All (IsTurn callers) (turns_of (flat_map words_of lines))
lines_are callers n [] h = All-nil (IsTurn callers)
lines_are callers n (line ∷ lines) h =
    let parts = not_none n (turns_code callers line) (bad_turns_from callers (n + 1) lines) h in
    let here : list_all (is_turn callers) (words_of line) ≡ true = fine (has_bad_byte line || not (list_all spells_number (words_of line))) (list_all (is_turn callers) (words_of line)) parts.0 in
    let P : List ℕ → Type 0 = All (IsTurn callers) in
    subst P (sym (filter_map-append (λ word. option_map nat_abs (number word)) (words_of line) (flat_map words_of lines)))
    (All-append (IsTurn callers) (turns_of (words_of line)) (turns_of (flat_map words_of lines)) (turns_are callers (words_of line) here) (lines_are callers (n + 1) lines parts.1))

-- the turns of an order file that is read are those of its callers
pub turns_within : (callers : ℕ) (text turns : List ℕ) → order_of callers text ≡ Ok turns → All (λ turn. (1 ≤ turn) × (turn ≤ callers)) turns
unfolding order_of
turns_within callers text turns h =
    let parts = all_good (bad_turns callers text) (turns_of (flat_map words_of (lines_of text))) turns h in
    let P : List ℕ → Type 0 = All (IsTurn callers) in subst P parts.1 (lines_are callers 1 (lines_of text) parts.0)
