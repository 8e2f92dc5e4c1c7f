-- Which of the statements no later one names, and what is left where one more statement takes back what it names.
use Rattle.std.specs.Prelude.{Bool, true, false, not, ◌&&◌, ◌||◌, List, [], ◌∷◌}
use Rattle.std.specs.List.{list_any}
use Rattle.cf_types.specs.declared.stmt.Stmt.{Stmt}
use Rattle.cf_types.specs.declared.stmt.Stmt.TheVariants as stmt
use Rattle.config_rules.specs.Fault.{is_instance}
use Rattle.config_rules.specs.Select.{names}

-- a negation of instances
abbrev pub is_negation : Stmt → Bool
is_negation (stmt.NoInst base mark at) = true
is_negation (stmt.NoDevice at) = true
is_negation _ = false

-- for each statement whether no later one names it
unfoldable pub free : List Stmt → List Bool
free [] = []
free (s ∷ later) = not (list_any (λ n. names n s) later) ∷ free later

-- a statement takes back those that it names
unfoldable pub without : Stmt → List Stmt → List Bool → List Bool
without n [] marks = []
without n (s ∷ stmts) [] = []
without n (s ∷ stmts) (m ∷ marks) = (m && not (names n s)) ∷ without n stmts marks

-- a statement names one that is marked
unfoldable pub names_one : Stmt → List Stmt → List Bool → Bool
names_one n [] marks = false
names_one n (s ∷ stmts) [] = false
names_one n (s ∷ stmts) (m ∷ marks) = (names n s && m) || names_one n stmts marks

-- the marks of the instances
unfoldable pub instances : List Stmt → List Bool → List Bool
instances [] marks = []
instances (s ∷ stmts) [] = []
instances (s ∷ stmts) (m ∷ marks) = (is_instance s && m) ∷ instances stmts marks
