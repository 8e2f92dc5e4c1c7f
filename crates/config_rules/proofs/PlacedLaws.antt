-- The statements of placed statements.
use Rattle.std.proofs.Common.{◌≡◌, ℕ, ◌+◌, ◌<◌, ◌||◌, Bool, List, [], ◌∷◌, ◌++◌, length, get_or, take, refl, ap, sym, ◌∙◌}
use Rattle.std.specs.List.{list_any}
use Rattle.std.proofs.lemmas.List.{take_more, map-append}
use Rattle.cf_types.specs.declared.stmt.Placed.{Placed}
use Rattle.cf_types.specs.declared.stmt.Stmt.{Stmt}
use Rattle.config_rules.specs.Fault.{stmts_of}

pub any_stmts : (test : Stmt → Bool) (placed : List Placed) → list_any test (stmts_of placed) ≡ list_any (λ p. test p.stmt) placed
any_stmts test [] = refl
any_stmts test (p ∷ placed) = ap (λ b. test p.stmt || b) (any_stmts test placed)

-- one more statement
pub stmts_more : (placed : List Placed) (i : ℕ) (p : Placed) → i < length placed → p ≡ get_or placed i p → stmts_of (take (i + 1) placed) ≡ stmts_of (take i placed) ++ p.stmt ∷ []
stmts_more placed i p h is =
    ap stmts_of (take_more placed i p h) ∙ map-append (λ q. q.stmt) (take i placed) (get_or placed i p ∷ []) ∙ ap (λ (q : Placed). stmts_of (take i placed) ++ q.stmt ∷ []) (sym is)
