-- A loop over the placed statements that looks for the first code.
use Rattle.std.proofs.Common.{◌≡◌, ℕ, ◌+◌, ◌<◌, ◌≤◌, cond, Some, None, List, [], ◌∷◌, ◌++◌, length, get_or, take, drop, ap, sym, ◌∙◌, subst}
use Rattle.std.specs.Prelude.{count_by, option_map, if◌then◌else◌}
use Rattle.std.proofs.lemmas.List.{at_drop_more, at_drop_all}
use Rattle.std.proofs.lemmas.List.Sums.{sum_by_push}
use Rattle.cf_types.specs.declared.stmt.Placed.{Placed}
use Rattle.cf_types.specs.declared.stmt.Stmt.{Stmt}
use Rattle.config_rules.specs.Form.{◌or◌}
use Rattle.config_rules.specs.Declared.{declared}
use Rattle.config_rules.specs.Fault.{is_instance, fault_of, stmts_of, refusal, first_code}
use Rattle.config_rules.proofs.PlacedLaws.{stmts_more}
use Rattle.cf_declare.specs.Declare.{declare}
use Rattle.cf_declare.specs.Settled.{Settled}
use Rattle.cf_declare.proofs.SettledLaws.{settled_more}
use Rattle.cf_declare.proofs.DeclareLaws.{declared_more}

-- ---- one more statement

-- the statements so far, with one more
-- how many instances there are
pub instances_more : (placed : List Placed) (i : ℕ) (p : Placed) → i < length placed → p ≡ get_or placed i p
    → count_by is_instance (stmts_of (take (i + 1) placed)) ≡ count_by is_instance (stmts_of (take i placed)) + (if is_instance p.stmt then 1 else 0)
instances_more placed i p h is = ap (count_by is_instance) (stmts_more placed i p h is) ∙ sum_by_push (λ s. cond (is_instance s) 1 0) (stmts_of (take i placed)) p.stmt

-- the statements stay settled
pub settled_placed : (placed : List Placed) (i : ℕ) (p : Placed) → i < length placed → p ≡ get_or placed i p
    → Settled (stmts_of (take i placed)) → fault_of (stmts_of (take i placed)) p.stmt ≡ None → Settled (stmts_of (take (i + 1) placed))
settled_placed placed i p h is settled accepted =
    subst (λ (ss : List Stmt). Settled ss) (sym (stmts_more placed i p h is)) (settled_more (stmts_of (take i placed)) p.stmt settled accepted)

-- what is declared
pub declared_placed : (placed : List Placed) (i : ℕ) (p : Placed) → i < length placed → p ≡ get_or placed i p
    → Settled (stmts_of (take i placed)) → fault_of (stmts_of (take i placed)) p.stmt ≡ None
    → declared (stmts_of (take (i + 1) placed)) ≡ declare (declared (stmts_of (take i placed))) p.stmt
declared_placed placed i p h is settled accepted = ap declared (stmts_more placed i p h is) ∙ declared_more (stmts_of (take i placed)) p.stmt settled accepted

-- ---- the first code, by the statements that are left

-- the first code is that of this statement, or else among those behind it
pub first_here : (files : List (List ℕ)) (placed : List Placed) (i : ℕ) (p : Placed) → i < length placed → p ≡ get_or placed i p
    → first_code files (stmts_of (take i placed)) (drop i placed)
    ≡ (option_map (refusal files p) (fault_of (stmts_of (take i placed)) p.stmt) or first_code files (stmts_of (take (i + 1) placed)) (drop (i + 1) placed))
first_here files placed i p h is =
    let before = stmts_of (take i placed) in
    at_drop_more (first_code files before) placed i p h
    ∙ ap (λ q. option_map (refusal files q) (fault_of before q.stmt) or first_code files (before ++ q.stmt ∷ []) (drop (i + 1) placed)) (sym is)
    ∙ ap (λ ss. option_map (refusal files p) (fault_of before p.stmt) or first_code files ss (drop (i + 1) placed)) (sym (stmts_more placed i p h is))

-- a statement without a code: the first code is among those behind it
pub first_goes_on : (files : List (List ℕ)) (placed : List Placed) (i : ℕ) (p : Placed) → i < length placed → p ≡ get_or placed i p
    → fault_of (stmts_of (take i placed)) p.stmt ≡ None
    → first_code files (stmts_of (take i placed)) (drop i placed) ≡ first_code files [] placed
    → first_code files (stmts_of (take (i + 1) placed)) (drop (i + 1) placed) ≡ first_code files [] placed
first_goes_on files placed i p h is none so_far =
    ap (λ o. option_map (refusal files p) o or first_code files (stmts_of (take (i + 1) placed)) (drop (i + 1) placed)) (sym none)
    ∙ sym (first_here files placed i p h is) ∙ so_far

-- a statement with a code: that is the first
pub first_stops : (files : List (List ℕ)) (placed : List Placed) (i : ℕ) (p : Placed) (code : ℕ) → i < length placed → p ≡ get_or placed i p
    → fault_of (stmts_of (take i placed)) p.stmt ≡ Some code
    → first_code files (stmts_of (take i placed)) (drop i placed) ≡ first_code files [] placed
    → first_code files [] placed ≡ Some (refusal files p code)
first_stops files placed i p code h is some so_far =
    sym so_far ∙ first_here files placed i p h is
    ∙ ap (λ o. option_map (refusal files p) o or first_code files (stmts_of (take (i + 1) placed)) (drop (i + 1) placed)) some

-- no statement is left: there is no code
pub first_ends : (files : List (List ℕ)) (placed : List Placed) (i : ℕ) → length placed ≤ i
    → first_code files (stmts_of (take i placed)) (drop i placed) ≡ first_code files [] placed
    → first_code files [] placed ≡ None
first_ends files placed i h so_far = sym so_far ∙ at_drop_all (first_code files (stmts_of (take i placed))) placed i h
