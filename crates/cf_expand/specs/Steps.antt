-- The reading of a file, statement by statement.
use Rattle.std.specs.Prelude.{◌≡◌, ℕ, ◌+◌, ◌-◌, ◌==◌, Bool, List, [], ◌∷◌, ◌++◌, if◌then◌else◌, true, Option, Some, None, IfOk, OnOk, Result, ⊤}
use Rattle.cf_types.specs.declared.stmt.Expanded.{Expanded}
use Rattle.cf_types.specs.declared.stmt.Stmt.{Stmt}
use Rattle.cf_types.specs.declared.stmt.Stmt.TheVariants as stmt
use Rattle.cf_expand.specs.declared.statement.Head.{Head}
use Rattle.cf_expand.specs.Asked.{AsksIn}
use Rattle.cf_grammar.specs.Statement.{AreWithin}
use Rattle.config_rules.specs.Reading.{Files, Here, condition_of, Statement, Reader, Reading, statements_in, place, pop_prefix, reader, refused, under_prefix}
use Rattle.cf_expand.specs.Levels.{Level, include, read_statement, read_statements, treat}
use Rattle.cf_lexer.specs.Rest.{MayRest, all_tokens, is_closed}
use Rattle.cf_lexer.specs.declared.rest.Cutting.{Cutting}
use Rattle.cf_expand.specs.declared.source.Include.{Include}
use Rattle.cf_expand.specs.declared.source.Opened.{Opened}
use Rattle.cf_expand.specs.declared.source.Source.{Source}

-- the file that is read, with so many conditions open around it
abbrev pub here_of : ℕ → Source → Here
here_of around s = record { file = s.name; number = s.number; around = around; deepest = s.levels == 0 }

-- a statement that was read, or what an include leads to
abbrev pub went_on : Files → Reader → Here → List Level → Statement → Option Include → Reading → Reading
went_on files below here levels s None r = r
went_on files below here levels s (Some i) r = include files below here levels s i.path i.optional r

-- what the language makes of a statement within some levels, behind what was read
abbrev pub Rule : Type 0
Rule = Files → Reader → Here → List Level → Statement → Reading → Reading

-- a call did what the rule says, up to a file that is still to be included, whatever the files are
abbrev pub Follows : {E : Type 0} → Rule → Source → List Level → Statement → Reading → Result (Option Include) E → Reading → Type 0
Follows rule source levels s old result new =
    IfOk result (λ i. (files : Files) (below : Reader) (around : ℕ) → source.room ≡ 16 - around
    → went_on files below (here_of around source) levels s i new ≡ rule files below (here_of around source) levels s old)

-- a `prefix` with this path, or with none
abbrev pub turned : Here → Statement → Option (List ℕ) → Reading → Reading
turned here s None r = pop_prefix here s r.prefixes r
turned here s (Some path) r =
    place here s (stmt.Prefix (Some path)) (record r { prefixes = under_prefix r.prefixes path ∷ r.prefixes })

-- what the language reads of an include in a source within these levels
abbrev pub include_at : Files → ℕ → Source → List Level → Statement → Include → Reading → Reading
include_at named around source levels s i r = include named (reader source.levels named) (here_of around source) levels s i.path i.optional r

-- of a statement there
abbrev pub statement_at : Files → ℕ → Source → List Level → Statement → Reading → Reading
statement_at named around source levels s r = read_statement named (reader source.levels named) (here_of around source) levels s r

-- where a file was opened, its statements are still to be read
abbrev pub entered : Files → ℕ → Option Opened → Reading → Reading
entered files around None r = r
entered files around (Some o) r =
    read_statements files (reader o.source.levels files) (here_of around o.source) [] (statements_in o.source.text (all_tokens o.source.text o.cutting)) r

-- a file of this name and text was opened, with so many levels below it: what is read from there on is the reading of it
abbrev pub Opens : ℕ → List ℕ → List ℕ → Reading → Option Opened → Reading → Type 0
Opens levels name text old opened new =
    (files : Files) (around : ℕ) → entered files around opened new ≡ reader (levels + 1) files around name text old

-- an include on this line whose file is absent
abbrev pub when_absent : Source → ℕ → List ℕ → Bool → Reading → Reading
when_absent s line path optional r =
    if optional then record r { placed = r.placed ++ record { stmt = stmt.Include path optional; file = s.number; line = line } ∷ [] }
    else refused s.name line 1 r

-- where the files are told
abbrev pub WhereTold : Option Files → (Files → Type 0) → Type 0
WhereTold told P = (files : Files) → told ≡ Some files → P files

-- what is handed out of what was read
abbrev pub expanded : Reading → Expanded
expanded r = record { placed = r.placed; files = r.files; fault = r.fault }

-- a text was cut up to its rest, and all of its tokens lie within it
pub record IsCutting (text : List ℕ) (c : Cutting) : Type 0 where
  pub within : AreWithin text (all_tokens text c)
  pub closed : is_closed c.tokens ≡ true
  pub rest : MayRest text c.rest

-- a file that was opened has so much room for conditions and so many levels below it, and its text was cut
abbrev pub IsBelow : ℕ → ℕ → Option Opened → Type 0
IsBelow room levels None = ⊤
IsBelow room levels (Some o) = (o.source.room ≡ room) × (o.source.levels ≡ levels) × IsCutting o.source.text o.cutting

-- a statement begins so
abbrev pub BeginsSo : Head → Statement → Type 0
BeginsSo head s = (s.line ≡ head.line) × (condition_of s ≡ head.word)

-- the language's rule for a statement of this form
abbrev pub treated : Files → ℕ → Source → List Level → Statement → Stmt → Reading → Reading
treated named around source levels s form r = treat named (reader source.levels named) (here_of around source) levels s form r

-- a statement that begins so and has this form was read by that rule
abbrev pub Treats : {E : Type 0} → Option Files → Source → List Level → Head → Stmt → Reading → Result (Unit {0}) E → Reading → Type 0
Treats told source levels head form old result new = WhereTold told (λ named. OnOk result
    ((around : ℕ) (s : Statement) → source.room ≡ 16 - around → BeginsSo head s → new ≡ treated named around source levels s form old))

-- and what that rule asks for was asked for
abbrev pub AsksTreating : {E : Type 0} → Option Files → Source → List Level → Head → Stmt → Reading → Result (Unit {0}) E → Option (List (List ℕ)) → Option (List (List ℕ)) → Type 0
AsksTreating told source levels head form old result before after =
    (s : Statement) → BeginsSo head s → AsksIn told source old (λ named around. treated named around source levels s form old) result before after
