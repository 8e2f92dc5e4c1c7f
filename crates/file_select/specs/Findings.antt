-- What a condition and a `file` statement are found to be.
use Rattle.std.specs.Prelude.{◌≡◌, ◌<◌, ◌≤◌, ℕ, Bool, true, List, Option}
use Rattle.std.specs.Option.{option_map_or}
use Rattle.cf_types.specs.declared.stmt.Piece.{Piece}
use Rattle.file_rules.specs.Condition.{Cond, Disjunction, is_true, nesting}
use Rattle.file_rules.specs.Sources.{HasCode, IsCondition, IsSource, Source, is_selected}
use Rattle.file_select.specs.declared.condition.ConditionAnswer.{ConditionAnswer}
use Rattle.file_select.specs.declared.condition.ConditionAnswer.TheVariants.{NoForm, TooDeep, Value}
use Rattle.file_select.specs.declared.statement.Finding.{Finding}
use Rattle.file_select.specs.declared.statement.Finding.TheVariants.{Bad, Good}

-- no condition, one that nests too deep, or its value
abbrev pub Judges : (List ℕ → Bool) → List Piece → ConditionAnswer → Type 0
Judges test ps NoForm = (d : Disjunction) → ¬ Cond ps d
Judges test ps TooDeep = (d : Disjunction) × Cond ps d × (64 < nesting d)
Judges test ps (Value value) = (d : Disjunction) × Cond ps d × (nesting d ≤ 64) × (value ≡ is_true test d)

-- the same of what may be missing, which is true then
abbrev pub JudgesOptional : (List ℕ → Bool) → List Piece → ConditionAnswer → Type 0
JudgesOptional test ps NoForm = (condition : Option Disjunction) → ¬ IsCondition ps condition
JudgesOptional test ps TooDeep = (condition : Option Disjunction) × IsCondition ps condition × (64 < option_map_or nesting condition 0)
JudgesOptional test ps (Value value) =
    (condition : Option Disjunction) × IsCondition ps condition × (option_map_or nesting condition 0 ≤ 64) × (value ≡ option_map_or (is_true test) condition true)

-- the code of the statement, or whether its source is selected
abbrev pub Finds : (List ℕ → Bool) → List Piece → Finding → Type 0
Finds test ps (Bad code) = HasCode ps code
Finds test ps (Good selected) = (s : Source) × IsSource ps s × (selected ≡ is_selected test s)
