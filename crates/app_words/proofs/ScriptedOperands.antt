-- What clap makes of the operands of a form with scripts, whose last argument has many values.
use Rattle.std.proofs.Common.{ap, refl, sym, codes, true, false, ℕ, List, Option, Some, None, [], ◌∷◌, ◌++◌, ◌≡◌, ◌≤◌, ◌-◌, ◌∙◌, ◌==◌, arith, ◌⊎◌, subst, length, take, drop, append_assoc, append-nil, Bool, map}
use Rattle.std.specs.Prelude.{Err, is_some, fold}
use Rattle.std.specs.List.{list_all}
use Rattle.std.proofs.lemmas.Bool.Decides.{nat_tests}
use Rattle.std.proofs.lemmas.List.{length-map, take_all}
use Rattle.clap.specs.Walk.{Row, Rule, Text, Walk, finished, first_of, nothing_held, positional, settled, walk, walk_from, walked}
use Rattle.clap.specs.Simple.{App, HasMatchesOf, Shape, built, entered, is_simple, matches_of}
use Rattle.clap.specs.Matches.{first_value as value_of, found_of}
use Rattle.clap.specs.Values.{kind_of, reading_of}
use Rattle.clap.specs.Facts.{parser_of_value}
use Rattle.clap.specs.Faults.{check_fault, defaults_fault, entered_fault, fault_of, is_simple_and_free, settle_fault, turn_fault, walk_fault}
use Rattle.clap.specs.Kinds.{HasKind, IsAmong, Kinds, or_else, range_kinds, values_kinds}
use Rattle.clap.specs.declared.builder.value_parser.ValueParser.TheVariants as vp
use Rattle.clap.specs.declared.error.Error.{Error}
use Rattle.clap.specs.declared.error.kind.ErrorKind.{ErrorKind}
use Rattle.clap.specs.declared.error.kind.ErrorKind.TheVariants as kind
use Rattle.clap.specs.declared.parser.matches.ArgMatches.{ArgMatches}
use Rattle.clap.specs.declared.parser.matches.ValueSource.TheVariants.{CommandLine}
use Rattle.clap.proofs.OnLiterals.{clap_on_literals}
use Rattle.config_rules.specs.Form.{given}
use Rattle.app_words.specs.Commands.{scripted_app}
use Rattle.app_words.specs.declared.words.Task.{Task}
use Rattle.app_words.specs.Words.{HasForm, is_operand, is_script_count, scripted, scripted_form, stop_of}
use Rattle.app_words.proofs.OperandLemmas.{empty, no_short, plain, refused, rest, row_value, unrefused}

pub scripted_is_simple : is_simple scripted_app ≡ true
unfolding clap_on_literals
scripted_is_simple = refl

pub scripted_is_free : is_simple_and_free scripted_app ≡ true
unfolding clap_on_literals
scripted_is_free = refl

-- ---- the walk

abbrev operand_shape : Shape
operand_shape = (built scripted_app).top

abbrev operand_rules : List Rule
operand_rules = operand_shape.rules

abbrev row : Text → Text → Row
row id value = record {
  id = id;
  values = value ∷ [];
  count = None;
  source = Some CommandLine;
  reading = reading_of (parser_of_value (Some vp.String));
}

abbrev three_rows : Text → Text → Text → List Row
three_rows a b c = row (codes "file") a ∷ row (codes "machine") b ∷ row (codes "course") c ∷ []

-- the walk behind the first three words and these scripts
abbrev behind : Text → Text → Text → List Text → Walk
behind a b c scripts = record {
  held = record { rows = three_rows a b c; pending = Some (codes "scripts", scripts); skip = 0 };
  waiting = positional;
  position = 4;
  is_trailing = false;
  stopped = None;
}

four_walked : (x y z w : ℕ) (xs ys zs ws : Text) → (x == 45) ≡ false → (y == 45) ≡ false → (z == 45) ≡ false → (w == 45) ≡ false
    → walk operand_rules [] nothing_held ((x ∷ xs) ∷ (y ∷ ys) ∷ (z ∷ zs) ∷ (w ∷ ws) ∷ []) ≡ behind (x ∷ xs) (y ∷ ys) (z ∷ zs) ((w ∷ ws) ∷ [])
unfolding clap_on_literals
four_walked x y z w xs ys zs ws e d f g = rw (e, no_short x xs e, d, no_short y ys d, f, no_short z zs f, g, no_short w ws g) refl

one_walked : (a b c : Text) (scripts : List Text) (x : ℕ) (xs : Text) → (x == 45) ≡ false
    → walked operand_rules [] (behind a b c scripts) (x ∷ xs) ≡ behind a b c (scripts ++ (x ∷ xs) ∷ [])
unfolding clap_on_literals
one_walked a b c scripts x xs e = rw (e, no_short x xs e) refl

more_walked : (a b c : Text) (scripts more : List Text) → list_all is_operand more ≡ true
    → fold (walked operand_rules []) (behind a b c scripts) more ≡ behind a b c (scripts ++ more)
more_walked a b c scripts [] all = ap (behind a b c) (sym (append-nil scripts))
more_walked a b c scripts ([] ∷ more) all = absurd (empty more all)
more_walked a b c scripts ((x ∷ xs) ∷ more) all =
    ap (λ (w : Walk). fold (walked operand_rules []) w more) (one_walked a b c scripts x xs (plain x xs more all))
    ∙ more_walked a b c (scripts ++ (x ∷ xs) ∷ []) more (rest (x ∷ xs) more all)
    ∙ ap (behind a b c) (append_assoc scripts ((x ∷ xs) ∷ []) more)

four_fault : (x y z w : ℕ) (xs ys zs ws : Text) → (x == 45) ≡ false → (y == 45) ≡ false → (z == 45) ≡ false → (w == 45) ≡ false
    → walk_fault operand_shape [] (walk_from nothing_held) ((x ∷ xs) ∷ (y ∷ ys) ∷ (z ∷ zs) ∷ (w ∷ ws) ∷ []) ≡ []
unfolding clap_on_literals
four_fault x y z w xs ys zs ws e d f g = rw (e, no_short x xs e, d, no_short y ys d, f, no_short z zs f, g, no_short w ws g) refl

one_fault : (a b c : Text) (scripts : List Text) (x : ℕ) (xs : Text) → (x == 45) ≡ false
    → walk_fault operand_shape [] (behind a b c scripts) ((x ∷ xs) ∷ []) ≡ []
unfolding clap_on_literals
one_fault a b c scripts x xs e = rw (e, no_short x xs e) refl

or_else_assoc : (a b c : Kinds) → or_else (or_else a b) c ≡ or_else a (or_else b c)
or_else_assoc [] b c = refl
or_else_assoc (k ∷ ks) b c = refl

-- the faults of these words, or those of the words behind them
fault_behind : (w : Walk) (some more : List Text)
    → walk_fault operand_shape [] w (some ++ more) ≡ or_else (walk_fault operand_shape [] w some) (walk_fault operand_shape [] (fold (walked operand_rules []) w some) more)
unfolding walk_fault
fault_behind w [] more = refl
fault_behind w (word ∷ some) more =
    ap (or_else (turn_fault operand_shape [] w word)) (fault_behind (walked operand_rules [] w word) some more)
    ∙ sym (or_else_assoc (turn_fault operand_shape [] w word) (walk_fault operand_shape [] (walked operand_rules [] w word) some) (walk_fault operand_shape [] (fold (walked operand_rules []) w (word ∷ some)) more))

no_words_left : (w : Walk) → walk_fault operand_shape [] w [] ≡ []
unfolding walk_fault
no_words_left w = refl

more_fault : (a b c : Text) (scripts more : List Text) → list_all is_operand more ≡ true → walk_fault operand_shape [] (behind a b c scripts) more ≡ []
more_fault a b c scripts [] all = no_words_left (behind a b c scripts)
more_fault a b c scripts ([] ∷ more) all = absurd (empty more all)
more_fault a b c scripts ((x ∷ xs) ∷ more) all =
    fault_behind (behind a b c scripts) ((x ∷ xs) ∷ []) more
    ∙ ap (λ (k : Kinds). or_else k (walk_fault operand_shape [] (walked operand_rules [] (behind a b c scripts) (x ∷ xs)) more)) (one_fault a b c scripts x xs (plain x xs more all))
    ∙ ap (λ (w : Walk). walk_fault operand_shape [] w more) (one_walked a b c scripts x xs (plain x xs more all))
    ∙ more_fault a b c (scripts ++ (x ∷ xs) ∷ []) more (rest (x ∷ xs) more all)

-- ---- the parse

-- three words that are operands, and a fourth
pub record FourWords (a b c d : Text) (more : List Text) : Type 0 where
  pub walked : walk operand_rules [] nothing_held (a ∷ b ∷ c ∷ d ∷ more) ≡ behind a b c (d ∷ more)
  pub fault : walk_fault operand_shape [] (walk_from nothing_held) (a ∷ b ∷ c ∷ d ∷ more) ≡ []

four_words : (a b c d : Text) (more : List Text) → list_all is_operand (a ∷ b ∷ c ∷ d ∷ more) ≡ true → FourWords a b c d more
four_words [] b c d more all = absurd (empty (b ∷ c ∷ d ∷ more) all)
four_words (x ∷ xs) [] c d more all = absurd (empty (c ∷ d ∷ more) (rest (x ∷ xs) ([] ∷ c ∷ d ∷ more) all))
four_words (x ∷ xs) (y ∷ ys) [] d more all =
    absurd (empty (d ∷ more) (rest (y ∷ ys) ([] ∷ d ∷ more) (rest (x ∷ xs) ((y ∷ ys) ∷ [] ∷ d ∷ more) all)))
four_words (x ∷ xs) (y ∷ ys) (z ∷ zs) [] more all =
    absurd (empty more (rest (z ∷ zs) ([] ∷ more) (rest (y ∷ ys) ((z ∷ zs) ∷ [] ∷ more) (rest (x ∷ xs) ((y ∷ ys) ∷ (z ∷ zs) ∷ [] ∷ more) all))))
four_words (x ∷ xs) (y ∷ ys) (z ∷ zs) (w ∷ ws) more all =
    let two : list_all is_operand ((y ∷ ys) ∷ (z ∷ zs) ∷ (w ∷ ws) ∷ more) ≡ true = rest (x ∷ xs) ((y ∷ ys) ∷ (z ∷ zs) ∷ (w ∷ ws) ∷ more) all in
    let three : list_all is_operand ((z ∷ zs) ∷ (w ∷ ws) ∷ more) ≡ true = rest (y ∷ ys) ((z ∷ zs) ∷ (w ∷ ws) ∷ more) two in
    let four : list_all is_operand ((w ∷ ws) ∷ more) ≡ true = rest (z ∷ zs) ((w ∷ ws) ∷ more) three in
    let e = plain x xs ((y ∷ ys) ∷ (z ∷ zs) ∷ (w ∷ ws) ∷ more) all in
    let d = plain y ys ((z ∷ zs) ∷ (w ∷ ws) ∷ more) two in
    let f = plain z zs ((w ∷ ws) ∷ more) three in
    let g = plain w ws more four in
    let first : List Text = (x ∷ xs) ∷ (y ∷ ys) ∷ (z ∷ zs) ∷ (w ∷ ws) ∷ [] in
    let begun = four_walked x y z w xs ys zs ws e d f g in
    record {
      walked = ap (λ (at : Walk). fold (walked operand_rules []) at more) begun ∙ more_walked (x ∷ xs) (y ∷ ys) (z ∷ zs) ((w ∷ ws) ∷ []) more (rest (w ∷ ws) more four);
      fault = fault_behind (walk_from nothing_held) first more
          ∙ ap (λ (k : Kinds). or_else k (walk_fault operand_shape [] (walk operand_rules [] nothing_held first) more)) (four_fault x y z w xs ys zs ws e d f g)
          ∙ ap (λ (at : Walk). walk_fault operand_shape [] at more) begun
          ∙ more_fault (x ∷ xs) (y ∷ ys) (z ∷ zs) ((w ∷ ws) ∷ []) more (rest (w ∷ ws) more four);
    }

-- the faults of a parse, by its walk and the faults of its words
abbrev parse_fault : Walk → Kinds → Kinds
parse_fault w faults =
    or_else faults (or_else (entered_fault (built scripted_app) w.stopped) (or_else (settle_fault operand_rules operand_shape.args_override_self w.held)
    (or_else (defaults_fault (settled operand_rules w.held).rows operand_rules) (check_fault operand_shape (finished operand_rules w.held) (is_some (entered (built scripted_app) w.stopped))))))

fault_by : (words : List Text) → fault_of scripted_app words ≡ parse_fault (walk operand_rules [] nothing_held words) (walk_fault operand_shape [] (walk_from nothing_held) words)
fault_by words = refl

last_fault : (a b c d : Text) (more : List Text)
    → parse_fault (behind a b c (d ∷ more)) [] ≡ or_else (or_else (range_kinds 1 16 (length (d ∷ more))) (values_kinds false vp.String (d ∷ more))) []
unfolding clap_on_literals
last_fault a b c d more = refl

no_values : (values : List Text) → values_kinds false vp.String values ≡ []
no_values [] = refl
no_values (v ∷ vs) = no_values vs

scripts_fault : (a b c d : Text) (more : List Text) → list_all is_operand (a ∷ b ∷ c ∷ d ∷ more) ≡ true
    → fault_of scripted_app (a ∷ b ∷ c ∷ d ∷ more) ≡ or_else (or_else (range_kinds 1 16 (length (d ∷ more))) []) []
scripts_fault a b c d more all =
    let four = four_words a b c d more all in
    fault_by (a ∷ b ∷ c ∷ d ∷ more)
    ∙ ap (λ (w : Walk). parse_fault w (walk_fault operand_shape [] (walk_from nothing_held) (a ∷ b ∷ c ∷ d ∷ more))) four.walked
    ∙ ap (parse_fault (behind a b c (d ∷ more))) four.fault
    ∙ last_fault a b c d more
    ∙ ap (λ (k : Kinds). or_else (or_else (range_kinds 1 16 (length (d ∷ more))) k) []) (no_values (d ∷ more))

few_scripts : (n : ℕ) → is_script_count n ≡ true → range_kinds 1 16 n ≡ []
few_scripts n h = grind (arith, nat_tests)

many_scripts : (n : ℕ) → 1 ≤ n → is_script_count n ≡ false → range_kinds 1 16 n ≡ kind.TooManyValues ∷ []
many_scripts n h k = grind (arith, nat_tests)

-- ---- what a parse gives

by_count : (task : Task) (a b c d : Text) (more : List Text) (few : Bool) → is_script_count (length (d ∷ more)) ≡ few → (k : ErrorKind)
    → (k ≡ kind.OutOfMemory) ⊎ IsAmong k (or_else (or_else (range_kinds 1 16 (length (d ∷ more))) []) []) → HasForm (given few (scripted task a b c (d ∷ more))) (Err (stop_of k))
by_count task a b c d more false is k why = refused _ k
by_count task a b c d more true is k why =
    unrefused (Some (scripted task a b c (d ∷ more))) k
    (subst (λ (kinds : Kinds). (k ≡ kind.OutOfMemory) ⊎ IsAmong k (or_else (or_else kinds []) [])) (few_scripts (length (d ∷ more)) is) why)

pub scripted_refusal : (task : Task) (words : List Text) → list_all is_operand words ≡ true → (k : ErrorKind) → (k ≡ kind.OutOfMemory) ⊎ IsAmong k (fault_of scripted_app words)
    → HasForm (scripted_form task words) (Err (stop_of k))
scripted_refusal task [] all k why = refused _ k
scripted_refusal task (a ∷ []) all k why = refused _ k
scripted_refusal task (a ∷ b ∷ []) all k why = refused _ k
scripted_refusal task (a ∷ b ∷ c ∷ []) all k why = refused _ k
scripted_refusal task (a ∷ b ∷ c ∷ d ∷ more) all k why =
    let P : Bool → Type 0 = λ few. HasForm (given few (scripted task a b c (d ∷ more))) (Err (stop_of k)) in
    by_count task a b c d more (is_script_count (length (d ∷ more))) refl k
    (subst (λ (kinds : Kinds). (k ≡ kind.OutOfMemory) ⊎ IsAmong k kinds) (scripts_fault a b c d more all) why)

three_fault : (x y z : ℕ) (xs ys zs : Text) → (x == 45) ≡ false → (y == 45) ≡ false → (z == 45) ≡ false
    → fault_of scripted_app ((x ∷ xs) ∷ (y ∷ ys) ∷ (z ∷ zs) ∷ []) ≡ kind.MissingRequiredArgument ∷ []
unfolding clap_on_literals
three_fault x y z xs ys zs e d f = rw (e, no_short x xs e, d, no_short y ys d, f, no_short z zs f) refl

-- three operands alone lack a script
no_scripts : (a b c : Text) → list_all is_operand (a ∷ b ∷ c ∷ []) ≡ true → fault_of scripted_app (a ∷ b ∷ c ∷ []) ≡ [] → ⊥
no_scripts [] b c all e = empty (b ∷ c ∷ []) all
no_scripts (x ∷ xs) [] c all e = empty (c ∷ []) (rest (x ∷ xs) ([] ∷ c ∷ []) all)
no_scripts (x ∷ xs) (y ∷ ys) [] all e = empty [] (rest (y ∷ ys) ([] ∷ []) (rest (x ∷ xs) ((y ∷ ys) ∷ [] ∷ []) all))
no_scripts (x ∷ xs) (y ∷ ys) (z ∷ zs) all e =
    let two : list_all is_operand ((y ∷ ys) ∷ (z ∷ zs) ∷ []) ≡ true = rest (x ∷ xs) ((y ∷ ys) ∷ (z ∷ zs) ∷ []) all in
    let three : list_all is_operand ((z ∷ zs) ∷ []) ≡ true = rest (y ∷ ys) ((z ∷ zs) ∷ []) two in
    let f = three_fault x y z xs ys zs (plain x xs ((y ∷ ys) ∷ (z ∷ zs) ∷ []) all) (plain y ys ((z ∷ zs) ∷ []) two) (plain z zs [] three) in
    absurd (cc)

not_many : (n : ℕ) (few : Bool) → 1 ≤ n → is_script_count n ≡ few → or_else (or_else (range_kinds 1 16 n) []) [] ≡ [] → few ≡ true
not_many n true some is e = refl
not_many n false some is e =
    let many : or_else (or_else (range_kinds 1 16 n) []) [] ≡ kind.TooManyValues ∷ [] = ap (λ (k : Kinds). or_else (or_else k []) []) (many_scripts n some is) in
    absurd (cc)

-- a parse of the operands gives the first three, and takes so many scripts
pub record TakesScripts (a b c : Text) (scripts : List Text) : Type 0 where
  pub count : is_script_count (length scripts) ≡ true
  pub file : first_of (codes "file") (matches_of scripted_app (a ∷ b ∷ c ∷ scripts)) ≡ Some a
  pub machine : first_of (codes "machine") (matches_of scripted_app (a ∷ b ∷ c ∷ scripts)) ≡ Some b
  pub course : first_of (codes "course") (matches_of scripted_app (a ∷ b ∷ c ∷ scripts)) ≡ Some c

matches_by : (words : List Text) → matches_of scripted_app words ≡ finished operand_rules (walk operand_rules [] nothing_held words).held
matches_by words = refl

first_behind : (a b c d : Text) (more : List Text) → first_of (codes "file") (finished operand_rules (behind a b c (d ∷ more)).held) ≡ Some a
unfolding clap_on_literals
first_behind a b c d more = refl

second_behind : (a b c d : Text) (more : List Text) → first_of (codes "machine") (finished operand_rules (behind a b c (d ∷ more)).held) ≡ Some b
unfolding clap_on_literals
second_behind a b c d more = refl

third_behind : (a b c d : Text) (more : List Text) → first_of (codes "course") (finished operand_rules (behind a b c (d ∷ more)).held) ≡ Some c
unfolding clap_on_literals
third_behind a b c d more = refl

value_behind : (id a b c d : Text) (more : List Text) (value : Text) → list_all is_operand (a ∷ b ∷ c ∷ d ∷ more) ≡ true
    → first_of id (finished operand_rules (behind a b c (d ∷ more)).held) ≡ Some value → first_of id (matches_of scripted_app (a ∷ b ∷ c ∷ d ∷ more)) ≡ Some value
value_behind id a b c d more value all is =
    ap (first_of id) (matches_by (a ∷ b ∷ c ∷ d ∷ more)) ∙ ap (λ (w : Walk). first_of id (finished operand_rules w.held)) (four_words a b c d more all).walked ∙ is

some_words : (d : Text) (more : List Text) → 1 ≤ length (d ∷ more)
some_words d more = omega arith

pub scripted_value : (a b c : Text) (scripts : List Text) → list_all is_operand (a ∷ b ∷ c ∷ scripts) ≡ true → fault_of scripted_app (a ∷ b ∷ c ∷ scripts) ≡ [] → TakesScripts a b c scripts
scripted_value a b c [] all e = absurd (no_scripts a b c all e)
scripted_value a b c (d ∷ more) all e = record {
  count = not_many (length (d ∷ more)) (is_script_count (length (d ∷ more))) (some_words d more) refl (sym (scripts_fault a b c d more all) ∙ e);
  file = value_behind (codes "file") a b c d more a all (first_behind a b c d more);
  machine = value_behind (codes "machine") a b c d more b all (second_behind a b c d more);
  course = value_behind (codes "course") a b c d more c all (third_behind a b c d more);
}

-- ---- as the code has it

pub scripted_error : (task : Task) (app : App) (words : List Text) (e : Error) → app ≡ scripted_app → list_all is_operand words ≡ true
    → (is_simple_and_free app ≡ true → HasKind (fault_of app words) e) → HasForm (scripted_form task words) (Err (stop_of (kind_of e)))
scripted_error task app words e is all kinds = scripted_refusal task words all (kind_of e) ((rw is at kinds) scripted_is_free)

-- what the getters read of a parse that succeeds
pub record ReadsScripted (a b c : Text) (scripts : List Text) (m : ArgMatches) : Type 0 where
  pub count : is_script_count (length scripts) ≡ true
  pub file : value_of (found_of m) (codes "file") ≡ Some a
  pub machine : value_of (found_of m) (codes "machine") ≡ Some b
  pub course : value_of (found_of m) (codes "course") ≡ Some c

pub scripted_found : (app : App) (a b c : Text) (scripts : List Text) (m : ArgMatches) → app ≡ scripted_app → list_all is_operand (a ∷ b ∷ c ∷ scripts) ≡ true
    → (is_simple_and_free app ≡ true → fault_of app (a ∷ b ∷ c ∷ scripts) ≡ []) → HasMatchesOf app (a ∷ b ∷ c ∷ scripts) m → ReadsScripted a b c scripts m
scripted_found app a b c scripts m is all kinds has =
    let words : List Text = a ∷ b ∷ c ∷ scripts in
    let takes = scripted_value a b c scripts all ((rw is at kinds) scripted_is_free) in
    let rows : HasMatchesOf scripted_app words m = rw is at has in
    record {
      count = takes.count;
      file = row_value scripted_app words m (codes "file") scripted_is_simple rows ∙ takes.file;
      machine = row_value scripted_app words m (codes "machine") scripted_is_simple rows ∙ takes.machine;
      course = row_value scripted_app words m (codes "course") scripted_is_simple rows ∙ takes.course;
    }

-- what a parse of the operands that succeeds says of them
pub record SaysScripted {X : Type 0} (task : Task) (f : X → Text) (operands : List X) (m : ArgMatches) : Type 0 where
  pub file : Text
  pub machine : Text
  pub course : Text
  pub is : scripted_form task (map f operands) ≡ Some (scripted task file machine course (map f (take (length operands - 3) (drop 3 operands))))
  pub some : 1 ≤ length (take (length operands - 3) (drop 3 operands))
  pub few : length (take (length operands - 3) (drop 3 operands)) ≤ 16
  pub reads_file : value_of (found_of m) (codes "file") ≡ Some file
  pub reads_machine : value_of (found_of m) (codes "machine") ≡ Some machine
  pub reads_course : value_of (found_of m) (codes "course") ≡ Some course

counted : (n : ℕ) → is_script_count n ≡ true → (1 ≤ n) × (n ≤ 16)
counted n h = (grind (arith, nat_tests), grind (arith, nat_tests))

behind_three : {X : Type 0} (x y z : X) (more : List X) → take (length (x ∷ y ∷ z ∷ more) - 3) more ≡ more
behind_three x y z more = take_all (length (x ∷ y ∷ z ∷ more) - 3) more (omega arith)

pub says_scripted : {X : Type 0} (task : Task) (f : X → Text) (operands : List X) (app : App) (m : ArgMatches) → 3 ≤ length operands → app ≡ scripted_app → list_all is_operand (map f operands) ≡ true
    → (is_simple_and_free app ≡ true → fault_of app (map f operands) ≡ []) → HasMatchesOf app (map f operands) m → SaysScripted task f operands m
says_scripted task f [] app m long is all kinds has = absurd (omega (arith, long))
says_scripted task f (x ∷ []) app m long is all kinds has = absurd (omega (arith, long))
says_scripted task f (x ∷ y ∷ []) app m long is all kinds has = absurd (omega (arith, long))
says_scripted {X} task f (x ∷ y ∷ z ∷ more) app m long is all kinds has =
    let reads = scripted_found app (f x) (f y) (f z) (map f more) m is all kinds has in
    let P : List X → Type 0 = λ xs. given (is_script_count (length (map f more))) (scripted task (f x) (f y) (f z) (map f more)) ≡ Some (scripted task (f x) (f y) (f z) (map f xs)) in
    let count = counted (length more) (subst (λ (n : ℕ). is_script_count n ≡ true) (length-map more f) reads.count) in
    record {
      file = f x;
      machine = f y;
      course = f z;
      is = subst P (sym (behind_three x y z more)) (ap (λ (b : Bool). given b (scripted task (f x) (f y) (f z) (map f more))) reads.count);
      some = subst (λ (xs : List X). 1 ≤ length xs) (sym (behind_three x y z more)) count.0;
      few = subst (λ (xs : List X). length xs ≤ 16) (sym (behind_three x y z more)) count.1;
      reads_file = reads.file;
      reads_machine = reads.machine;
      reads_course = reads.course;
    }

-- what was read is what is to be read
pub read_of : {value : Option Text} {read text : Text} → Some read ≡ value → value ≡ Some text → text ≡ read
read_of reads is = let e = reads ∙ is in cc
