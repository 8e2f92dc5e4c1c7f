-- How a condition is read, symbol by symbol.
use Rattle.std.specs.Prelude.{ℕ, ◌+◌, Bool, true, false, not, ◌&&◌, ◌||◌, nat_lt, if◌then◌else◌, List, [], ◌∷◌, Option, Some, None, option_map, option_and_then, codes}
use Rattle.cf_types.specs.declared.stmt.Piece.{Piece}
use Rattle.config_rules.specs.Form.{given, is_mark, ◌or◌}
use Rattle.file_rules.specs.Condition as rules
use Rattle.file_rules.specs.Condition.{symbol_of}
use Rattle.file_select.specs.declared.condition.Level.{Level}
use Rattle.file_select.specs.declared.condition.ConditionAnswer.{ConditionAnswer}
use Rattle.file_select.specs.declared.condition.ConditionAnswer.TheVariants.{NoForm, TooDeep, Value}
use Rattle.file_select.specs.declared.symbol.Symbol.{Symbol}
use Rattle.file_select.specs.declared.symbol.Symbol.TheVariants as symbol

-- a symbol, where a test says which names are true
abbrev pub valued : (List ℕ → Bool) → rules.Symbol → Symbol
valued test (rules.Word name) = symbol.Word (test name)
valued test rules.Not = symbol.Not
valued test rules.And = symbol.And
valued test rules.Or = symbol.Or
valued test rules.Open = symbol.Open
valued test rules.Close = symbol.Close

-- the disjunctions around, the innermost first, the one that is read, whether a term is next, and whether a name nested too deep
pub record State : Type 0 where
  pub outer : List Level
  pub level : Level
  pub wants : Bool
  pub deep : Bool

-- one more is open; beyond the limit they are not counted
abbrev pub deeper : ℕ → ℕ
deeper depth = if nat_lt 64 depth then depth else depth + 1

-- a disjunction begins where so many are open
abbrev pub fresh : ℕ → Level
fresh depth = record { any = false; all = true; negated = false; around = depth; depth = depth }

-- its value, where a conjunction ends
abbrev pub value_of : Level → Bool
value_of l = l.any || l.all

-- a term ends, which is true or not
abbrev pub with_term : Bool → Level → Level
with_term value l = record l { all = l.all && (if l.negated then not value else value); negated = false; depth = l.around }

abbrev pub with_not : Level → Level
with_not l = record l { negated = not l.negated; depth = deeper l.depth }

abbrev pub with_or : Level → Level
with_or l = record l { any = value_of l; all = true }

-- a name that is true or not
abbrev pub with_word : Bool → State → State
with_word value s = record s { level = with_term value s.level; wants = false; deep = s.deep || nat_lt 64 s.level.depth }

-- a disjunction in parentheses begins
abbrev pub opened : State → State
opened s = record s { outer = s.level ∷ s.outer; level = fresh (deeper s.level.depth) }

-- it ends
abbrev pub closed : State → List Level → Option State
closed s [] = None
closed s (o ∷ outer) = Some (record s { outer = outer; level = with_term (value_of s.level) o })

-- one symbol more, if it may stand here
abbrev pub step : Symbol → State → Option State
step (symbol.Word value) s = given s.wants (with_word value s)
step symbol.Not s = given s.wants (record s { level = with_not s.level })
step symbol.And s = given (not s.wants) (record s { wants = true })
step symbol.Or s = given (not s.wants) (record s { level = with_or s.level; wants = true })
step symbol.Open s = given s.wants (opened s)
step symbol.Close s = if s.wants then None else closed s s.outer

abbrev pub start : State
start = record { outer = []; level = fresh 0; wants = true; deep = false }

-- what was read, at its end
abbrev pub answer_of : State → ConditionAnswer
answer_of s = if s.wants || not (is_empty s.outer) then NoForm else (if s.deep then TooDeep else Value (value_of s.level))
  where
    is_empty : List Level → Bool
    is_empty [] = true
    is_empty (l ∷ levels) = false

-- a symbol that is no name
abbrev pub mark_of : Piece → Option Symbol
mark_of p =
    given (is_mark (codes "!") p) symbol.Not
    or (given (is_mark (codes "&") p) symbol.And
    or (given (is_mark (codes "|") p) symbol.Or
    or (given (is_mark (codes "(") p) symbol.Open
    or given (is_mark (codes ")") p) symbol.Close)))

-- all symbols of these pieces
unfoldable pub run : (List ℕ → Bool) → List Piece → State → Option State
run test [] s = Some s
run test (p ∷ ps) s = option_and_then (λ x. option_and_then (run test ps) (step x s)) (option_map (valued test) (symbol_of p))
