-- What stands after one more statement.
use Rattle.std.proofs.Common.{◌≡◌, ℕ, ◌+◌, ◌<◌, ◌≤◌, ◌||◌, ◌&&◌, not, Bool, true, false, cond, suc, List, [], ◌∷◌, ◌++◌, length, get_or, map, take, drop, drop-cons, set, add-one, refl, ap, sym, ◌∙◌, append_assoc, arith}
use Rattle.std.specs.List.{list_any}
use Rattle.std.proofs.lemmas.List.{drop_all, append-nil, length-map, take_all, length-take-le, take_more_set, drop-set-lt}
use Rattle.std.proofs.lemmas.List.Folds.{list_any-append}
use Rattle.cf_types.specs.declared.stmt.Placed.{Placed}
use Rattle.cf_types.specs.declared.stmt.Stmt.{Stmt}
use Rattle.cf_types.specs.declared.stmt.Stmt.TheVariants as stmt
use Rattle.config_rules.specs.Fault.{is_instance, stmts_of}
use Rattle.config_rules.specs.Meaning.{idle_insts, is_idle}
use Rattle.config_rules.specs.Select.{kept, names, takes_back}
use Rattle.config_rules.proofs.PlacedLaws.{stmts_more}
use Rattle.cf_select.specs.Selected.{free, instances, is_negation, names_one, without}

-- ---- one more statement behind others

one_later : (a n : Bool) → not (a || (n || false)) ≡ (not a && not n)
one_later true n = refl
one_later false true = refl
one_later false false = refl

-- those that a statement names are no longer free
pub free_last : (stmts : List Stmt) (n : Stmt) → free (stmts ++ n ∷ []) ≡ without n stmts (free stmts) ++ true ∷ []
unfolding free without
free_last [] n = refl
free_last (s ∷ stmts) n =
    ap (λ b. not b ∷ free (stmts ++ n ∷ [])) (list_any-append (λ m. names m s) stmts (n ∷ []))
    ∙ ap (λ b. b ∷ free (stmts ++ n ∷ [])) (one_later (list_any (λ m. names m s) stmts) (names n s))
    ∙ ap (λ marks. (not (list_any (λ m. names m s) stmts) && not (names n s)) ∷ marks) (free_last stmts n)

-- a negation takes something back where it names something free
pub takes_free : (n : Stmt) (stmts : List Stmt) → takes_back n stmts ≡ names_one n stmts (free stmts)
unfolding takes_back names_one free
takes_free n [] = refl
takes_free n (s ∷ stmts) = ap (λ b. (names n s && not (list_any (λ m. names m s) stmts)) || b) (takes_free n stmts)

pub kept_free : (stmts : List Stmt) → instances stmts (free stmts) ≡ kept stmts
unfolding instances free kept
kept_free [] = refl
kept_free (s ∷ stmts) = ap (λ marks. (is_instance s && not (list_any (λ n. names n s) stmts)) ∷ marks) (kept_free stmts)

pub length_free : (stmts : List Stmt) → length (free stmts) ≡ length stmts
unfolding free
length_free [] = refl
length_free (s ∷ stmts) = ap suc (length_free stmts)

-- ---- statements that are no negations

names_none : (n s : Stmt) → is_negation n ≡ false → names n s ≡ false
names_none (stmt.Include path optional) s h = refl
names_none (stmt.Prefix path) s h = refl
names_none (stmt.Cond word name) s h = refl
names_none (stmt.Define name locs needs) s h = refl
names_none (stmt.Class name) s h = refl
names_none (stmt.DefPseudo name locs needs) s h = refl
names_none (stmt.Device name locs needs) s h = refl
names_none (stmt.Attach device places attach_name needs) s h = refl
names_none (stmt.Inst base mark at pairs flags) s h = refl
names_none (stmt.NoInst base mark at) s h = absurd (cc)
names_none (stmt.NoDevice at) s h = absurd (cc)
names_none (stmt.NoItems kind names_in) s h = refl
names_none (stmt.Options items) s h = refl
names_none (stmt.MakeOptions items) s h = refl
names_none (stmt.FileSystems names_in) s h = refl
names_none (stmt.PseudoDevice name count) s h = refl
names_none (stmt.Checked word) s h = refl
names_none (stmt.Free word rest) s h = refl

stays : (m b : Bool) → b ≡ false → (m && not b) ≡ m
stays true b h = ap not h
stays false b h = refl

-- they take nothing back
pub without_none : (n : Stmt) (stmts : List Stmt) (marks : List Bool) → is_negation n ≡ false → length marks ≡ length stmts → marks ≡ without n stmts marks
unfolding without
without_none n [] [] h e = refl
without_none n [] (m ∷ marks) h e = absurd (omega arith)
without_none n (s ∷ stmts) [] h e = absurd (omega arith)
without_none n (s ∷ stmts) (m ∷ marks) h e =
    let more : marks ≡ without n stmts marks = without_none n stmts marks h (omega arith) in
    ap (λ b. b ∷ marks) (sym (stays m (names n s) (names_none n s h))) ∙ ap (λ ms. (m && not (names n s)) ∷ ms) more

pub idle_free : (n : Stmt) (before : List Stmt) → is_idle before n ≡ (is_negation n && not (names_one n before (free before)))
idle_free (stmt.Include path optional) before = refl
idle_free (stmt.Prefix path) before = refl
idle_free (stmt.Cond word name) before = refl
idle_free (stmt.Define name locs needs) before = refl
idle_free (stmt.Class name) before = refl
idle_free (stmt.DefPseudo name locs needs) before = refl
idle_free (stmt.Device name locs needs) before = refl
idle_free (stmt.Attach device places attach_name needs) before = refl
idle_free (stmt.Inst base mark at pairs flags) before = refl
idle_free (stmt.NoInst base mark at) before = ap not (takes_free (stmt.NoInst base mark at) before)
idle_free (stmt.NoDevice at) before = ap not (takes_free (stmt.NoDevice at) before)
idle_free (stmt.NoItems kind names_in) before = refl
idle_free (stmt.Options items) before = refl
idle_free (stmt.MakeOptions items) before = refl
idle_free (stmt.FileSystems names_in) before = refl
idle_free (stmt.PseudoDevice name count) before = refl
idle_free (stmt.Checked word) before = refl
idle_free (stmt.Free word rest) before = refl

-- ---- the loops

instances_front : (placed : List Placed) (marks : List Bool) (i : ℕ) (p : Placed) → i < length placed → i < length marks → p ≡ get_or placed i p
    → instances (stmts_of (drop i placed)) (drop i marks) ≡ (is_instance p.stmt && get_or marks i false) ∷ instances (stmts_of (drop (i + 1) placed)) (drop (i + 1) marks)
unfolding instances
instances_front placed marks i p h r is =
    rw (add-one, drop-cons placed i p, drop-cons marks i false)
    (ap (λ (q : Placed). (is_instance q.stmt && get_or marks i false) ∷ instances (stmts_of (drop (suc i) placed)) (drop (suc i) marks)) (sym is))

pub instances_step : (placed : List Placed) (marks now next all : List Bool) (i : ℕ) (p : Placed) (b m : Bool) → i < length placed → length marks ≡ length placed → p ≡ get_or placed i p → b ≡ is_instance p.stmt → m ≡ get_or marks i false
    → now ++ instances (stmts_of (drop i placed)) (drop i marks) ≡ all → next ≡ now ++ (b && m) ∷ [] → next ++ instances (stmts_of (drop (i + 1) placed)) (drop (i + 1) marks) ≡ all
instances_step placed marks now next all i p b m h size is e f so_far new =
    let r : i < length marks = omega arith in
    let rest = instances (stmts_of (drop (i + 1) placed)) (drop (i + 1) marks) in
    ap (λ xs. xs ++ rest) new ∙ append_assoc now ((b && m) ∷ []) rest ∙ ap (λ x. now ++ (x && m) ∷ rest) e ∙ ap (λ x. now ++ (is_instance p.stmt && x) ∷ rest) f
    ∙ ap (λ xs. now ++ xs) (sym (instances_front placed marks i p h r is)) ∙ so_far

-- the mark of one more is set where it stands
pub instances_set : (placed : List Placed) (marks all : List Bool) (i : ℕ) (p : Placed) (b m : Bool) → i < length placed → length marks ≡ length placed → p ≡ get_or placed i p → b ≡ is_instance p.stmt → m ≡ get_or marks i false
    → take i marks ++ instances (stmts_of (drop i placed)) (drop i marks) ≡ all
    → take (i + 1) (set marks i (b && m)) ++ instances (stmts_of (drop (i + 1) placed)) (drop (i + 1) (set marks i (b && m))) ≡ all
instances_set placed marks all i p b m h size is e f so_far =
    ap (λ ms. take (i + 1) (set marks i (b && m)) ++ instances (stmts_of (drop (i + 1) placed)) ms) (drop-set-lt (i + 1) marks i (b && m) (omega arith))
    ∙ instances_step placed marks (take i marks) _ all i p b m h size is e f so_far (take_more_set marks i (b && m) (omega arith))

pub instances_end : (placed : List Placed) (marks now all : List Bool) (i : ℕ) → length placed ≤ i → now ++ instances (stmts_of (drop i placed)) (drop i marks) ≡ all → now ≡ all
unfolding instances
instances_end placed marks now all i h so_far = let none : now ++ [] ≡ all = rw (drop_all i placed h) at so_far in sym (append-nil now) ∙ none

pub free_none : free [] ≡ []
unfolding free
free_none = refl

pub free_more : (placed : List Placed) (i : ℕ) (p : Placed) (marks left next : List Bool) → i < length placed → p ≡ get_or placed i p → marks ≡ free (stmts_of (take i placed)) → left ≡ without p.stmt (stmts_of (take i placed)) marks → next ≡ left ++ true ∷ [] → next ≡ free (stmts_of (take (i + 1) placed))
free_more placed i p marks left next h is so_far e new =
    new ∙ ap (λ xs. xs ++ true ∷ []) (e ∙ ap (without p.stmt (stmts_of (take i placed))) so_far)
    ∙ sym (ap free (stmts_more placed i p h is) ∙ free_last (stmts_of (take i placed)) p.stmt)

idle_front : (placed : List Placed) (i : ℕ) (p : Placed) → i < length placed → p ≡ get_or placed i p
    → idle_insts (stmts_of (take i placed)) (stmts_of (drop i placed)) ≡ cond (is_idle (stmts_of (take i placed)) p.stmt) (length (stmts_of (take i placed)) ∷ []) [] ++ idle_insts (stmts_of (take (i + 1) placed)) (stmts_of (drop (i + 1) placed))
unfolding idle_insts
idle_front placed i p h is =
    rw (stmts_more placed i p h is, add-one, drop-cons placed i p)
    (ap (λ (q : Placed). cond (is_idle (stmts_of (take i placed)) q.stmt) (length (stmts_of (take i placed)) ∷ []) [] ++ idle_insts (stmts_of (take i placed) ++ q.stmt ∷ []) (stmts_of (drop (suc i) placed))) (sym is))

pub idle_more : (placed : List Placed) (i : ℕ) (p : Placed) (marks : List Bool) (idle : Bool) (now next all : List ℕ) → i < length placed → p ≡ get_or placed i p → marks ≡ free (stmts_of (take i placed))
    → idle ≡ (is_negation p.stmt && not (names_one p.stmt (stmts_of (take i placed)) marks))
    → now ++ idle_insts (stmts_of (take i placed)) (stmts_of (drop i placed)) ≡ all → next ≡ now ++ cond idle (i ∷ []) []
    → next ++ idle_insts (stmts_of (take (i + 1) placed)) (stmts_of (drop (i + 1) placed)) ≡ all
idle_more placed i p marks idle now next all h is free_is e so_far new =
    let before = stmts_of (take i placed) in
    let rest = idle_insts (stmts_of (take (i + 1) placed)) (stmts_of (drop (i + 1) placed)) in
    let place : i ≡ length before = omega (arith, length-map (take i placed) (λ q. q.stmt), length-take-le i placed (omega arith)) in
    let same : idle ≡ is_idle before p.stmt = e ∙ ap (λ ms. is_negation p.stmt && not (names_one p.stmt before ms)) free_is ∙ sym (idle_free p.stmt before) in
    ap (λ xs. xs ++ rest) (new ∙ ap (λ b. now ++ cond b (i ∷ []) []) same ∙ ap (λ k. now ++ cond (is_idle before p.stmt) (k ∷ []) []) place)
    ∙ append_assoc now (cond (is_idle before p.stmt) (length before ∷ []) []) rest ∙ ap (λ xs. now ++ xs) (sym (idle_front placed i p h is)) ∙ so_far

pub idle_ends : (placed : List Placed) (i : ℕ) (now all : List ℕ) → length placed ≤ i → now ++ idle_insts (stmts_of (take i placed)) (stmts_of (drop i placed)) ≡ all → now ≡ all
unfolding idle_insts
idle_ends placed i now all h so_far = let none : now ++ [] ≡ all = rw (drop_all i placed h) at so_far in sym (append-nil now) ∙ none

-- as many marks as statements
pub length_front : (placed : List Placed) (i : ℕ) (marks : List Bool) → marks ≡ free (stmts_of (take i placed)) → length marks ≡ length (take i placed)
length_front placed i marks e = ap length e ∙ length_free (stmts_of (take i placed)) ∙ length-map (take i placed) (λ q. q.stmt)

-- all of them
pub free_all : (placed : List Placed) (i : ℕ) (marks : List Bool) → length placed ≤ i → marks ≡ free (stmts_of (take i placed)) → marks ≡ free (stmts_of placed)
free_all placed i marks h e = e ∙ ap (λ ps. free (stmts_of ps)) (take_all i placed h)

pub kept_all : (placed : List Placed) (marks : List Bool) → marks ≡ free (stmts_of placed) → instances (stmts_of placed) marks ≡ kept (stmts_of placed)
kept_all placed marks e = ap (instances (stmts_of placed)) e ∙ kept_free (stmts_of placed)

-- ---- statements without a negation of instances

neither : (a b : Bool) → (a || b) ≡ false → (a ≡ false) × (b ≡ false)
neither false false h = (refl, refl)
neither true b h = absurd (cc)
neither false true h = absurd (cc)

not_named : (placed : List Placed) (s : Stmt) → list_any (λ p. is_negation p.stmt) placed ≡ false → list_any (λ n. names n s) (stmts_of placed) ≡ false
not_named [] s h = refl
not_named (p ∷ placed) s h =
    let parts = neither (is_negation p.stmt) (list_any (λ q. is_negation q.stmt) placed) h in
    ap (λ b. b || list_any (λ n. names n s) (stmts_of placed)) (names_none p.stmt s parts.0) ∙ not_named placed s parts.1

-- all instances survive
pub all_survive : (placed : List Placed) → list_any (λ p. is_negation p.stmt) placed ≡ false → map (λ p. is_instance p.stmt) placed ≡ kept (stmts_of placed)
unfolding kept
all_survive [] h = refl
all_survive (p ∷ placed) h =
    let rest = (neither (is_negation p.stmt) (list_any (λ q. is_negation q.stmt) placed) h).1 in
    ap (λ bs. is_instance p.stmt ∷ bs) (all_survive placed rest)
    ∙ ap (λ b. b ∷ kept (stmts_of placed)) (sym (stays (is_instance p.stmt) (list_any (λ n. names n p.stmt) (stmts_of placed)) (not_named placed p.stmt rest)))

-- and nothing is idle
pub none_idle : (placed : List Placed) (before : List Stmt) → list_any (λ p. is_negation p.stmt) placed ≡ false → idle_insts before (stmts_of placed) ≡ []
unfolding idle_insts
none_idle [] before h = refl
none_idle (p ∷ placed) before h =
    let parts = neither (is_negation p.stmt) (list_any (λ q. is_negation q.stmt) placed) h in
    ap (λ b. cond b (length before ∷ []) [] ++ idle_insts (before ++ p.stmt ∷ []) (stmts_of placed))
    (idle_free p.stmt before ∙ ap (λ b. b && not (names_one p.stmt before (free before))) parts.0)
    ∙ none_idle placed (before ++ p.stmt ∷ []) parts.1
