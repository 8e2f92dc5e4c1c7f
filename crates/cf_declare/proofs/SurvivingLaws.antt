-- A loop over the statements that keeps the instances that survive, by one truth value for each statement.
use Rattle.std.proofs.Common.{◌≡◌, ℕ, ◌+◌, ◌<◌, ◌≤◌, zero, suc, true, false, Option, Some, None, List, [], ◌∷◌, ◌++◌, length, get_or, take, drop, refl, ap, sym, ◌∙◌, append_assoc, append-nil, arith}
use Rattle.std.specs.Prelude.{slice_get, slice_index_or, flat_map, option_and_then, if◌then◌else◌}
use Rattle.std.specs.Option.{option_map_or, option_to_list}
use Rattle.std.proofs.lemmas.List.{take_more, at_drop_more, at_drop_all, take-map, drop-map, length-map, get_or-map, flat_map_more}
use Rattle.std.proofs.lemmas.Option.{slice_get_read, get_or_from_slice_get}
use Rattle.cf_types.proofs.ListLemmas.{slice_get_some}
use Rattle.cf_types.specs.declared.stmt.Stmt.{Stmt}
use Rattle.cf_types.specs.declared.stmt.Placed.{Placed}
use Rattle.cf_types.specs.declared.instance.Instance.{Instance}
use Rattle.config_rules.specs.Fault.{is_instance, stmts_of}
use Rattle.config_rules.specs.Select.{survives, kept}
use Rattle.config_rules.specs.Meaning.{instance_of, surviving}
use Rattle.cf_types.specs.Numbers.{below}
use Rattle.config_rules.proofs.CutLaws.{both_left}

-- the truth value of a statement looks at those behind it
pub kept_at : (stmts : List Stmt) (i : ℕ) (s : Stmt) → slice_get stmts i ≡ Some s → slice_index_or (kept stmts) i false ≡ survives s (drop (i + 1) stmts)
unfolding kept
kept_at [] i s at = absurd (cc)
kept_at (x ∷ later) zero s at =
    let same : x ≡ s = cc in
    ap (λ t. survives t later) same
kept_at (x ∷ later) (suc i) s at =
    let e : suc (i + 1) ≡ suc i + 1 = omega arith in
    kept_at later i s at ∙ ap (λ n. survives s (drop n (x ∷ later))) e

-- one instance as a list
one_instance : (o : Option Instance) → option_map_or (λ i. i ∷ []) o [] ≡ option_to_list o
one_instance None = refl
one_instance (Some i) = refl

-- what survives of a statement and of those behind it
surviving_here : (stmts : List Stmt) (i : ℕ) (s : Stmt) → i < length stmts → s ≡ get_or stmts i s
    → surviving (take i stmts) (drop i stmts)
    ≡ (if slice_index_or (kept stmts) i false then option_to_list (instance_of (take i stmts) s) else []) ++ surviving (take (i + 1) stmts) (drop (i + 1) stmts)
unfolding surviving
surviving_here stmts i s h is =
    let before = take i stmts in
    let later = drop (i + 1) stmts in
    let more : take (i + 1) stmts ≡ before ++ s ∷ [] = take_more stmts i s h ∙ ap (λ t. before ++ t ∷ []) (sym is) in
    let at : slice_get stmts i ≡ Some s = slice_get_read stmts (length stmts) i s refl h is in
    at_drop_more (surviving before) stmts i s h
    ∙ ap (λ t. (if survives t later then option_map_or (λ x. x ∷ []) (instance_of before t) [] else []) ++ surviving (before ++ t ∷ []) later) (sym is)
    ∙ ap (λ b. (if b then option_map_or (λ x. x ∷ []) (instance_of before s) [] else []) ++ surviving (before ++ s ∷ []) later) (sym (kept_at stmts i s at))
    ∙ ap (λ xs. (if slice_index_or (kept stmts) i false then xs else []) ++ surviving (before ++ s ∷ []) later) (one_instance (instance_of before s))
    ∙ ap (λ ts. (if slice_index_or (kept stmts) i false then option_to_list (instance_of before s) else []) ++ surviving ts later) (sym more)

-- ---- so far with what is left

-- nothing is kept yet
pub surviving_begins : (stmts : List Stmt) → [] ++ surviving (take 0 stmts) (drop 0 stmts) ≡ surviving [] stmts
surviving_begins stmts = refl

-- only instances are kept
pub kept_instance : (stmts : List Stmt) (i : ℕ) (s : Stmt) → i < length stmts → s ≡ get_or stmts i s → slice_index_or (kept stmts) i false ≡ true → is_instance s ≡ true
kept_instance stmts i s h is marked =
    both_left (is_instance s) _ (sym (kept_at stmts i s (slice_get_read stmts (length stmts) i s refl h is)) ∙ marked)

-- a statement that is kept adds its instance
pub surviving_kept : (stmts : List Stmt) (i : ℕ) (s : Stmt) (x : Instance) (insts : List Instance) → i < length stmts → s ≡ get_or stmts i s
    → slice_index_or (kept stmts) i false ≡ true → instance_of (take i stmts) s ≡ Some x
    → insts ++ surviving (take i stmts) (drop i stmts) ≡ surviving [] stmts
    → (insts ++ x ∷ []) ++ surviving (take (i + 1) stmts) (drop (i + 1) stmts) ≡ surviving [] stmts
surviving_kept stmts i s x insts h is marked gives so_far =
    let rest = surviving (take (i + 1) stmts) (drop (i + 1) stmts) in
    append_assoc insts (x ∷ []) rest
    ∙ ap (λ o. insts ++ (option_to_list o ++ rest)) (sym gives)
    ∙ ap (λ b. insts ++ ((if b then option_to_list (instance_of (take i stmts) s) else []) ++ rest)) (sym marked)
    ∙ ap (λ xs. insts ++ xs) (sym (surviving_here stmts i s h is))
    ∙ so_far

-- any other adds nothing
pub surviving_left_out : (stmts : List Stmt) (i : ℕ) (s : Stmt) (insts : List Instance) → i < length stmts → s ≡ get_or stmts i s
    → slice_index_or (kept stmts) i false ≡ false
    → insts ++ surviving (take i stmts) (drop i stmts) ≡ surviving [] stmts
    → insts ++ surviving (take (i + 1) stmts) (drop (i + 1) stmts) ≡ surviving [] stmts
surviving_left_out stmts i s insts h is unmarked so_far =
    let rest = surviving (take (i + 1) stmts) (drop (i + 1) stmts) in
    ap (λ b. insts ++ ((if b then option_to_list (instance_of (take i stmts) s) else []) ++ rest)) (sym unmarked)
    ∙ ap (λ xs. insts ++ xs) (sym (surviving_here stmts i s h is))
    ∙ so_far

-- no statement is left
pub surviving_ends : (stmts : List Stmt) (i : ℕ) (insts : List Instance) → length stmts ≤ i → insts ++ surviving (take i stmts) (drop i stmts) ≡ surviving [] stmts → insts ≡ surviving [] stmts
unfolding surviving
surviving_ends stmts i insts h so_far = sym (append-nil insts) ∙ ap (λ xs. insts ++ xs) (sym (at_drop_all (surviving (take i stmts)) stmts i h)) ∙ so_far

-- ---- the same over placed statements

-- the statements of what is placed, taken and left
at_placed : (placed : List Placed) (i : ℕ) (insts : List Instance)
    → insts ++ surviving (stmts_of (take i placed)) (stmts_of (drop i placed)) ≡ insts ++ surviving (take i (stmts_of placed)) (drop i (stmts_of placed))
at_placed placed i insts =
    ap (λ ss. insts ++ surviving ss (stmts_of (drop i placed))) (sym (take-map (λ p. p.stmt) i placed))
    ∙ ap (λ ss. insts ++ surviving (take i (stmts_of placed)) ss) (sym (drop-map (λ p. p.stmt) i placed))

-- a place within what is placed
within_placed : (placed : List Placed) (i : ℕ) → i < length placed → i < length (stmts_of placed)
within_placed placed i h = omega (arith, length-map placed (λ p. p.stmt))

-- the statement at a place
read_placed : (placed : List Placed) (i : ℕ) (p : Placed) → i < length placed → p ≡ get_or placed i p → p.stmt ≡ get_or (stmts_of placed) i p.stmt
read_placed placed i p h is = ap (λ q. q.stmt) is ∙ sym (get_or-map (λ q. q.stmt) placed i p p.stmt h)

-- a statement that is kept adds its instance
pub placed_kept : (placed : List Placed) (i : ℕ) (p : Placed) (x : Instance) (insts : List Instance) → i < length placed → p ≡ get_or placed i p
    → slice_index_or (kept (stmts_of placed)) i false ≡ true → instance_of (stmts_of (take i placed)) p.stmt ≡ Some x
    → insts ++ surviving (stmts_of (take i placed)) (stmts_of (drop i placed)) ≡ surviving [] (stmts_of placed)
    → (insts ++ x ∷ []) ++ surviving (stmts_of (take (i + 1) placed)) (stmts_of (drop (i + 1) placed)) ≡ surviving [] (stmts_of placed)
placed_kept placed i p x insts h is marked gives so_far =
    at_placed placed (i + 1) (insts ++ x ∷ [])
    ∙ surviving_kept (stmts_of placed) i p.stmt x insts (within_placed placed i h) (read_placed placed i p h is) marked
    (ap (λ ss. instance_of ss p.stmt) (take-map (λ q. q.stmt) i placed) ∙ gives)
    (sym (at_placed placed i insts) ∙ so_far)

-- any other adds nothing
pub placed_left_out : (placed : List Placed) (i : ℕ) (p : Placed) (insts : List Instance) → i < length placed → p ≡ get_or placed i p
    → slice_index_or (kept (stmts_of placed)) i false ≡ false
    → insts ++ surviving (stmts_of (take i placed)) (stmts_of (drop i placed)) ≡ surviving [] (stmts_of placed)
    → insts ++ surviving (stmts_of (take (i + 1) placed)) (stmts_of (drop (i + 1) placed)) ≡ surviving [] (stmts_of placed)
placed_left_out placed i p insts h is unmarked so_far =
    at_placed placed (i + 1) insts
    ∙ surviving_left_out (stmts_of placed) i p.stmt insts (within_placed placed i h) (read_placed placed i p h is) unmarked (sym (at_placed placed i insts) ∙ so_far)

-- a statement adds its instance, where it is kept
pub placed_step : (placed : List Placed) (i : ℕ) (p : Placed) (insts : List Instance) → i < length placed → p ≡ get_or placed i p
    → insts ++ surviving (stmts_of (take i placed)) (stmts_of (drop i placed)) ≡ surviving [] (stmts_of placed)
    → (insts ++ (if slice_index_or (kept (stmts_of placed)) i false then option_to_list (instance_of (stmts_of (take i placed)) p.stmt) else []))
    ++ surviving (stmts_of (take (i + 1) placed)) (stmts_of (drop (i + 1) placed)) ≡ surviving [] (stmts_of placed)
placed_step placed i p insts h is so_far =
    let stmts = stmts_of placed in
    let own : List Stmt → List Instance = λ ss. if slice_index_or (kept stmts) i false then option_to_list (instance_of ss p.stmt) else [] in
    let rest = surviving (take (i + 1) stmts) (drop (i + 1) stmts) in
    at_placed placed (i + 1) (insts ++ own (stmts_of (take i placed)))
    ∙ ap (λ ss. (insts ++ own ss) ++ rest) (sym (take-map (λ q. q.stmt) i placed))
    ∙ append_assoc insts (own (take i stmts)) rest
    ∙ ap (λ xs. insts ++ xs) (sym (surviving_here stmts i p.stmt (within_placed placed i h) (read_placed placed i p h is)))
    ∙ sym (at_placed placed i insts) ∙ so_far

-- no statement is left
pub placed_end : (placed : List Placed) (i : ℕ) (insts : List Instance) → length placed ≤ i
    → insts ++ surviving (stmts_of (take i placed)) (stmts_of (drop i placed)) ≡ surviving [] (stmts_of placed) → insts ≡ surviving [] (stmts_of placed)
placed_end placed i insts h so_far =
    surviving_ends (stmts_of placed) i insts (omega (arith, length-map placed (λ p. p.stmt))) (sym (at_placed placed i insts) ∙ so_far)

-- ---- by places

-- the instance of the statement at a place, where it survives
abbrev pub surviving_at : List Stmt → ℕ → List Instance
surviving_at stmts i = if slice_index_or (kept stmts) i false then option_to_list (option_and_then (instance_of (take i stmts)) (slice_get stmts i)) else []

-- one more place
pub below_more : (stmts : List Stmt) (i : ℕ) → flat_map (surviving_at stmts) (below (i + 1)) ≡ flat_map (surviving_at stmts) (below i) ++ surviving_at stmts i
below_more stmts i =
    let e : i + 1 ≡ suc i = omega arith in
    ap (λ n. flat_map (surviving_at stmts) (below n)) e ∙ sym (flat_map_more (surviving_at stmts) [] (below i) i)

-- one place more
place_step : (stmts : List Stmt) (i : ℕ) (s : Stmt) → i < length stmts → slice_get stmts i ≡ Some s
    → flat_map (surviving_at stmts) (below (i + 1)) ++ surviving (take (i + 1) stmts) (drop (i + 1) stmts) ≡ flat_map (surviving_at stmts) (below i) ++ surviving (take i stmts) (drop i stmts)
place_step stmts i s h at =
    let so_far = flat_map (surviving_at stmts) (below i) in
    let rest = surviving (take (i + 1) stmts) (drop (i + 1) stmts) in
    ap (λ xs. xs ++ rest) (below_more stmts i)
    ∙ append_assoc so_far (surviving_at stmts i) rest
    ∙ ap (λ o. so_far ++ ((if slice_index_or (kept stmts) i false then option_to_list (option_and_then (instance_of (take i stmts)) o) else []) ++ rest)) at
    ∙ ap (λ xs. so_far ++ xs) (sym (surviving_here stmts i s h (sym (get_or_from_slice_get stmts i s s at))))

-- the places so far, with what is left
places_so_far : (stmts : List Stmt) (i : ℕ) → i ≤ length stmts → flat_map (surviving_at stmts) (below i) ++ surviving (take i stmts) (drop i stmts) ≡ surviving [] stmts
places_so_far stmts zero h = refl
places_so_far stmts (suc i) h =
    let e : suc i ≡ i + 1 = omega arith in
    let found = slice_get_some stmts i (omega arith) in
    ap (λ n. flat_map (surviving_at stmts) (below n) ++ surviving (take n stmts) (drop n stmts)) e
    ∙ place_step stmts i found.0 (omega arith) found.1
    ∙ places_so_far stmts i (omega arith)

-- the surviving instances are those of the places in order
pub surviving_by_places : (stmts : List Stmt) → surviving [] stmts ≡ flat_map (surviving_at stmts) (below (length stmts))
surviving_by_places stmts =
    sym (surviving_ends stmts (length stmts) (flat_map (surviving_at stmts) (below (length stmts))) (omega arith) (places_so_far stmts (length stmts) (omega arith)))
