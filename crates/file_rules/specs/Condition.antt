-- The condition of a `file` statement, after files.conf of config(5): names with `!`, `&` and `|`, of which `!` binds most
-- and `|` least, and parentheses. The limit on nesting is this project's profile.
use Rattle.std.specs.Prelude.{◌≡◌, ℕ, ◌+◌, max, Bool, not, ◌&&◌, ◌||◌, List, [], ◌∷◌, ◌++◌, codes, Option, Some, option_map}
use Rattle.cf_types.specs.declared.stmt.Piece.{Piece}
use Rattle.config_rules.specs.Form.{each, given, is_mark, name_of, ◌or◌}

-- a symbol of a condition
pub data Symbol : Type 0 where
  Word : List ℕ → Symbol
  Not : Symbol
  And : Symbol
  Or : Symbol
  Open : Symbol
  Close : Symbol

-- a name or a mark
abbrev pub symbol_of : Piece → Option Symbol
symbol_of p =
    option_map Word (name_of p)
    or (given (is_mark (codes "!") p) Not
    or (given (is_mark (codes "&") p) And
    or (given (is_mark (codes "|") p) Or
    or (given (is_mark (codes "(") p) Open
    or given (is_mark (codes ")") p) Close))))

-- a disjunction is one or more conjunctions parted by `|`, a conjunction is one or more terms parted by `&`, and a term is
-- a name, `!` and a term, or a disjunction in parentheses
mutual
  pub data Disjunction : Type 0 where
    one_of : Conjunction → Disjunction
    either : Conjunction → Disjunction → Disjunction

  pub data Conjunction : Type 0 where
    all_of : Term → Conjunction
    both : Term → Conjunction → Conjunction

  pub data Term : Type 0 where
    named : List ℕ → Term
    negated : Term → Term
    grouped : Disjunction → Term

-- how they are written
abbrev mutual
  pub spelled : Disjunction → List Symbol
  spelled (one_of c) = spelled_conjunction c
  spelled (either c d) = spelled_conjunction c ++ Or ∷ spelled d

  pub spelled_conjunction : Conjunction → List Symbol
  spelled_conjunction (all_of t) = spelled_term t
  spelled_conjunction (both t c) = spelled_term t ++ And ∷ spelled_conjunction c

  pub spelled_term : Term → List Symbol
  spelled_term (named n) = Word n ∷ []
  spelled_term (negated t) = Not ∷ spelled_term t
  spelled_term (grouped d) = Open ∷ (spelled d ++ Close ∷ [])

-- the pieces are the condition
abbrev pub Cond : List Piece → Disjunction → Type 0
Cond ps d = each symbol_of ps ≡ Some (spelled d)

-- a condition is true, where a test says which names are
abbrev mutual
  pub is_true : (List ℕ → Bool) → Disjunction → Bool
  is_true test (one_of c) = is_true_conjunction test c
  is_true test (either c d) = is_true_conjunction test c || is_true test d

  pub is_true_conjunction : (List ℕ → Bool) → Conjunction → Bool
  is_true_conjunction test (all_of t) = is_true_term test t
  is_true_conjunction test (both t c) = is_true_term test t && is_true_conjunction test c

  pub is_true_term : (List ℕ → Bool) → Term → Bool
  is_true_term test (named n) = test n
  is_true_term test (negated t) = not (is_true_term test t)
  is_true_term test (grouped d) = is_true test d

-- how many parentheses and `!` are open at most at a name
abbrev mutual
  pub nesting : Disjunction → ℕ
  nesting (one_of c) = nesting_conjunction c
  nesting (either c d) = max (nesting_conjunction c) (nesting d)

  pub nesting_conjunction : Conjunction → ℕ
  nesting_conjunction (all_of t) = nesting_term t
  nesting_conjunction (both t c) = max (nesting_term t) (nesting_conjunction c)

  pub nesting_term : Term → ℕ
  nesting_term (named n) = 0
  nesting_term (negated t) = nesting_term t + 1
  nesting_term (grouped d) = nesting d + 1
