-- What the placed statements are judged to be, and how far a loop over them has come.
use Rattle.std.specs.Prelude.{◌≡◌, ℕ, ◌≤◌, Bool, true, false, List, [], ◌++◌, length, take, drop, Option, Some, None}
use Rattle.cf_types.specs.declared.instance.Instance.{Instance}
use Rattle.cf_types.specs.declared.stmt.Placed.{Placed}
use Rattle.cf_types.specs.declared.stmt.Stmt.{Stmt}
use Rattle.cf_types.specs.declared.stmt.Stmt.TheVariants as stmt
use Rattle.cf_compile.specs.declared.judge.Verdict.{Verdict}
use Rattle.cf_compile.specs.declared.judge.Verdict.TheVariants as verdict
use Rattle.config_rules.specs.Declared.{Declared, declared}
use Rattle.config_rules.specs.Joined.{join}
use Rattle.config_rules.specs.Fault.{first_code, stmts_of}
use Rattle.config_rules.specs.Meaning.{if_joined, surviving}
use Rattle.cf_declare.specs.SoFar.{SoFar}

-- the instance of a statement at a place, behind what is declared
abbrev pub instance_at : Declared → ℕ → Stmt → Option Instance
instance_at d place (stmt.Inst base mark at pairs flags) = if_joined place mark flags (join d base at pairs)
instance_at d place _ = None

-- a statement that may have a code, may declare something or is an instance
abbrev pub is_judged : Stmt → Bool
is_judged (stmt.Define name locs needs) = true
is_judged (stmt.Class name) = true
is_judged (stmt.DefPseudo name locs needs) = true
is_judged (stmt.Device name locs needs) = true
is_judged (stmt.Attach device places name needs) = true
is_judged (stmt.Inst base mark at pairs flags) = true
is_judged (stmt.PseudoDevice name count) = true
is_judged _ = false

-- what they declare with the surviving instances, where none has a code, or else the first code
abbrev pub Judges : List (List ℕ) → List Placed → Verdict → Type 0
Judges files placed (verdict.Accepted selection) =
    (first_code files [] placed ≡ None) × (selection.declarations ≡ declared (stmts_of placed)) × (selection.instances ≡ surviving [] (stmts_of placed))
Judges files placed (verdict.Refused refusal) = first_code files [] placed ≡ Some refusal

-- the first statements declare d and have n instances without any code, and no more is declared than there are statements;
-- their surviving instances with those that are left are all
pub record Walked (files : List (List ℕ)) (placed : List Placed) (i : ℕ) (d : Declared) (insts : List Instance) (n : ℕ) : Type 0 where
  pub so_far : SoFar files placed i d n
  pub few_attrs : length d.attrs ≤ i
  pub few_devices : length d.devices ≤ i
  pub few_attaches : length d.attaches ≤ i
  pub few_instances : n ≤ i
  pub joined : insts ++ surviving (stmts_of (take i placed)) (stmts_of (drop i placed)) ≡ surviving [] (stmts_of placed)
