-- How far a loop over the placed statements has come that judges each and declares it.
use Rattle.std.specs.Prelude.{◌≡◌, ℕ, List, [], take, drop, count_by}
use Rattle.cf_types.specs.declared.stmt.Placed.{Placed}
use Rattle.config_rules.specs.Declared.{Declared, declared}
use Rattle.config_rules.specs.Fault.{is_instance, stmts_of, first_code}
use Rattle.cf_declare.specs.Settled.{Settled}
use Rattle.cf_declare.specs.Sound.{SoundDeclared}

-- the first statements declare d and have n instances, none has a code, and so the first code is among those that are left
pub record SoFar (files : List (List ℕ)) (placed : List Placed) (i : ℕ) (d : Declared) (n : ℕ) : Type 0 where
  pub all_declared : d ≡ declared (stmts_of (take i placed))
  pub all_counted : n ≡ count_by is_instance (stmts_of (take i placed))
  pub settled : Settled (stmts_of (take i placed))
  pub sound : SoundDeclared d
  pub no_code : first_code files (stmts_of (take i placed)) (drop i placed) ≡ first_code files [] placed
