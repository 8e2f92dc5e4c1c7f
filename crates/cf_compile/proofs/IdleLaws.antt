-- The places of idle negations are those that warnings ask for.
use Rattle.std.proofs.Common.{◌≡◌, ℕ, Bool, true, false, List, [], ◌∷◌, ◌++◌, length, map, refl, ap, ◌∙◌}
use Rattle.std.specs.Prelude.{replicate, if◌then◌else◌, not, filter}
use Rattle.cf_types.specs.declared.stmt.Placed.{Placed}
use Rattle.cf_types.specs.declared.stmt.Stmt.{Stmt}
use Rattle.cf_types.specs.declared.stmt.Stmt.TheVariants as stmt
use Rattle.cf_types.specs.declared.tables.WarnKind.{WarnKind}
use Rattle.cf_types.specs.declared.tables.WarnKind.TheVariants as warns
use Rattle.config_rules.specs.Fault.{stmts_of}
use Rattle.config_rules.specs.Select.{takes_item, takes_back}
use Rattle.config_rules.specs.Meaning.{is_idle, idle_names, idle_insts, idle_items}
use Rattle.cf_rows.specs.Idle as rows
use Rattle.cf_rows.specs.Idle.{places_of, ArePlacesOfNegations, ArePlacesOfNames}

-- one place, or none
place_if : (b : Bool) (n : ℕ) → (if b then n ∷ [] else []) ≡ replicate (length ((if b then warns.Nothing ∷ [] else []) ++ [])) n
place_if true n = refl
place_if false n = refl

-- a place for each
place_each : (n : ℕ) (names : List (List ℕ)) → map (λ name. n) names ≡ replicate (length (map {B = WarnKind} (λ name. warns.Nothing) names)) n
place_each n [] = refl
place_each n (name ∷ names) = ap (λ ps. n ∷ ps) (place_each n names)

-- the place of a negation of instances that takes back nothing
negation_here : (before : List Stmt) (s : Stmt) → (if is_idle before s then length before ∷ [] else []) ≡ replicate (rows.idle_negations before s) (length before)
negation_here before (stmt.NoInst base mark at) = place_if (not (takes_back (stmt.NoInst base mark at) before)) (length before)
negation_here before (stmt.NoDevice at) = place_if (not (takes_back (stmt.NoDevice at) before)) (length before)
negation_here before _ = refl

-- the place of a negation of items, once for each name that takes back nothing
names_here : (before : List Stmt) (s : Stmt) → map (λ name. length before) (idle_names before s) ≡ replicate (rows.idle_names before s) (length before)
names_here before (stmt.NoItems kind names) = place_each (length before) (filter (λ name. not (takes_item kind name before)) names)
names_here before _ = refl

negations_from : (before later : List Stmt) → idle_insts before later ≡ places_of rows.idle_negations before later
unfolding idle_insts places_of
negations_from before [] = refl
negations_from before (s ∷ later) =
    ap (λ ps. ps ++ idle_insts (before ++ s ∷ []) later) (negation_here before s)
    ∙ ap (λ ps. replicate (rows.idle_negations before s) (length before) ++ ps) (negations_from (before ++ s ∷ []) later)

names_from : (before later : List Stmt) → idle_items before later ≡ places_of rows.idle_names before later
unfolding idle_items places_of
names_from before [] = refl
names_from before (s ∷ later) =
    ap (λ ps. ps ++ idle_items (before ++ s ∷ []) later) (names_here before s)
    ∙ ap (λ ps. replicate (rows.idle_names before s) (length before) ++ ps) (names_from (before ++ s ∷ []) later)

-- those of negations of instances
pub places_of_negations : (places : List ℕ) (placed : List Placed) → places ≡ idle_insts [] (stmts_of placed) → ArePlacesOfNegations places placed
places_of_negations places placed h = h ∙ negations_from [] (stmts_of placed)

-- those of negations of items
pub places_of_names : (places : List ℕ) (placed : List Placed) → places ≡ idle_items [] (stmts_of placed) → ArePlacesOfNames places placed
places_of_names places placed h = h ∙ names_from [] (stmts_of placed)
