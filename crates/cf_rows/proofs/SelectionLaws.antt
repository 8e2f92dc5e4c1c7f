-- What callers know of the lists that they give: one more statement among the places of idle negations, and the order of
-- the surviving instances and of those that are marked among them.
use Rattle.std.proofs.Common.{◌≡◌, ℕ, suc, ◌+◌, ◌<◌, ◌≤◌, Bool, true, false, cond, List, [], ◌∷◌, ◌++◌, length, get_or, map, refl, ap, sym, ◌∙◌, subst, arith, All, append-nil, append_assoc, length-append}
use Rattle.std.specs.Prelude.{AllPairs, ℤ, Option, Some, None, Result, Ok, Err, not, replicate}
use Rattle.std.specs.Option.{option_map_or}
use Rattle.std.proofs.lemmas.List.Kept.{AllPairs-cons}
use Rattle.std.proofs.lemmas.List.Elements.{All-tail, All-cons}
use Rattle.cf_types.specs.declared.instance.Instance.{Instance}
use Rattle.cf_types.specs.declared.instance.Joined.{Joined}
use Rattle.cf_types.specs.declared.stmt.UnitMark.{UnitMark}
use Rattle.cf_types.specs.declared.stmt.Stmt.{Stmt}
use Rattle.cf_types.specs.declared.stmt.Stmt.TheVariants as stmt
use Rattle.config_rules.specs.Declared.{declared}
use Rattle.config_rules.specs.Joined.{join}
use Rattle.config_rules.specs.Select.{survives}
use Rattle.config_rules.specs.Meaning.{marked, surviving, instance_of, if_joined}
use Rattle.cf_rows.specs.Idle.{places_of, AreInOrder}

-- ---- places

-- one more statement
pub places_push : (count : List Stmt → Stmt → ℕ) (before stmts : List Stmt) (s : Stmt) → places_of count before (stmts ++ s ∷ []) ≡ places_of count before stmts ++ replicate (count (before ++ stmts) s) (length (before ++ stmts))
unfolding places_of
places_push count before [] s =
    append-nil (replicate (count before s) (length before)) ∙ ap (λ (ss : List Stmt). replicate (count ss s) (length ss)) (sym (append-nil before))
places_push count before (x ∷ stmts) s =
    ap (λ (ps : List ℕ). replicate (count before x) (length before) ++ ps) (places_push count (before ++ x ∷ []) stmts s)
    ∙ sym (append_assoc (replicate (count before x) (length before)) (places_of count (before ++ x ∷ []) stmts) _)
    ∙ ap (λ (ss : List Stmt). (replicate (count before x) (length before) ++ places_of count (before ++ x ∷ []) stmts) ++ replicate (count ss s) (length ss)) (append_assoc before (x ∷ []) stmts)

-- ---- parts of a list

pairs_head : {X : Type 0} (R : X → X → Type 0) (x : X) (xs : List X) → AllPairs R (x ∷ xs) → All (R x) xs
pairs_head R x xs h k d p = h 0 (suc k) d (omega arith) (omega arith)

pairs_tail : {X : Type 0} (R : X → X → Type 0) (x : X) (xs : List X) → AllPairs R (x ∷ xs) → AllPairs R xs
pairs_tail R x xs h i j d p q = h (suc i) (suc j) d (omega arith) (omega arith)

first_of : (b : Bool) (i : Instance) (m : Bool) (es : List (Instance × Bool)) → map {A = Instance × Bool} (λ e. e.0) (cond b ((i, m) ∷ es) es) ≡ cond b (i ∷ map {A = Instance × Bool} (λ e. e.0) es) (map {A = Instance × Bool} (λ e. e.0) es)
first_of true i m es = refl
first_of false i m es = refl

marked_cons : (w : Bool) (i : Instance) (insts : List Instance) (m : Bool) (marks : List Bool) → marked w (i ∷ insts) (m ∷ marks) ≡ cond (cond m w (not w)) (i ∷ marked w insts marks) (marked w insts marks)
marked_cons w i insts m marks = first_of (cond m w (not w)) i m _

all_if : (P : Instance → Type 0) (b : Bool) (i : Instance) (xs : List Instance) → P i → All P xs → All P (cond b (i ∷ xs) xs)
all_if P true i xs here h = All-cons P i xs here h
all_if P false i xs here h = h

-- what holds of each instance holds of each that is marked
pub marked_all : (P : Instance → Type 0) (w : Bool) (insts : List Instance) (marks : List Bool) → All P insts → All P (marked w insts marks)
marked_all P w [] marks h = λ k d p. absurd (omega arith)
marked_all P w (i ∷ insts) [] h = λ k d p. absurd (omega arith)
marked_all P w (i ∷ insts) (m ∷ marks) h =
    subst (λ (is : List Instance). All P is) (sym (marked_cons w i insts m marks)) (all_if P (cond m w (not w)) i _ (h 0 i (omega arith)) (marked_all P w insts marks (All-tail P i insts h)))

pairs_if : (R : Instance → Instance → Type 0) (b : Bool) (i : Instance) (xs : List Instance) → All (R i) xs → AllPairs R xs → AllPairs R (cond b (i ∷ xs) xs)
pairs_if R true i xs here h = AllPairs-cons R i xs here h
pairs_if R false i xs here h = h

no_pairs : (R : Instance → Instance → Type 0) → AllPairs R []
no_pairs R i j d p q = absurd (omega arith)

-- those that are marked keep their order
pub marked_pairs_kept : (R : Instance → Instance → Type 0) (w : Bool) (insts : List Instance) (marks : List Bool) → AllPairs R insts → AllPairs R (marked w insts marks)
marked_pairs_kept R w [] marks h = no_pairs R
marked_pairs_kept R w (i ∷ insts) [] h = no_pairs R
marked_pairs_kept R w (i ∷ insts) (m ∷ marks) h =
    subst (λ (is : List Instance). AllPairs R is) (sym (marked_cons w i insts m marks))
    (pairs_if R (cond m w (not w)) i _ (marked_all (R i) w insts marks (pairs_head R i insts h)) (marked_pairs_kept R w insts marks (pairs_tail R i insts h)))

-- ---- the surviving instances

joined_stmt : (n : ℕ) (mark : UnitMark) (flags : ℤ) (r : Result Joined ℕ) (i : Instance) → if_joined n mark flags r ≡ Some i → i.stmt ≡ n
joined_stmt n mark flags (Ok j) i e = let same : record { stmt = n; joined = j; mark = mark; flags = flags } ≡ i = cc in ap (λ (k : Instance). k.stmt) (sym same)
joined_stmt n mark flags (Err code) i e = absurd (cc)

instance_stmt : (before : List Stmt) (s : Stmt) (i : Instance) → instance_of before s ≡ Some i → i.stmt ≡ length before
instance_stmt before (stmt.Inst base mark at pairs flags) i e = joined_stmt (length before) mark flags (join (declared before) base at pairs) i e
instance_stmt before (stmt.Include path optional) i e = absurd (cc)
instance_stmt before (stmt.Prefix path) i e = absurd (cc)
instance_stmt before (stmt.Cond word name) i e = absurd (cc)
instance_stmt before (stmt.Define name locs needs) i e = absurd (cc)
instance_stmt before (stmt.Class name) i e = absurd (cc)
instance_stmt before (stmt.DefPseudo name locs needs) i e = absurd (cc)
instance_stmt before (stmt.Device name locs needs) i e = absurd (cc)
instance_stmt before (stmt.Attach device places name needs) i e = absurd (cc)
instance_stmt before (stmt.NoInst base mark at) i e = absurd (cc)
instance_stmt before (stmt.NoDevice at) i e = absurd (cc)
instance_stmt before (stmt.NoItems kind names) i e = absurd (cc)
instance_stmt before (stmt.Options items) i e = absurd (cc)
instance_stmt before (stmt.MakeOptions items) i e = absurd (cc)
instance_stmt before (stmt.FileSystems names) i e = absurd (cc)
instance_stmt before (stmt.PseudoDevice name count) i e = absurd (cc)
instance_stmt before (stmt.Checked word) i e = absurd (cc)
instance_stmt before (stmt.Free word rest) i e = absurd (cc)

-- in order, and none of a statement before the nth
abbrev pub FromPlace : List Instance → ℕ → Type 0
FromPlace insts n = AreInOrder insts × All (λ i. n ≤ i.stmt) insts

one_before : (o : Option Instance) (n : ℕ) (rest : List Instance) → ((i : Instance) → o ≡ Some i → i.stmt ≡ n) → FromPlace rest (n + 1) → FromPlace (option_map_or (λ i. i ∷ []) o [] ++ rest) n
one_before None n rest h kept = (kept.0, λ k d p. let lt : n + 1 ≤ (get_or rest k d).stmt = kept.1 k d p in omega arith)
one_before (Some i) n rest h kept =
    let here : i.stmt ≡ n = h i refl in (
      AllPairs-cons (λ a b. a.stmt < b.stmt) i rest (λ k d p. let lt : n + 1 ≤ (get_or rest k d).stmt = kept.1 k d p in omega arith) kept.0,
      All-cons (λ j. n ≤ j.stmt) i rest (omega arith) (λ k d p. let lt : n + 1 ≤ (get_or rest k d).stmt = kept.1 k d p in omega arith),
    )

none_or_one : (b : Bool) (o : Option Instance) (n : ℕ) (rest : List Instance) → ((i : Instance) → o ≡ Some i → i.stmt ≡ n) → FromPlace rest (n + 1) → FromPlace (cond b (option_map_or (λ i. i ∷ []) o []) [] ++ rest) n
none_or_one true o n rest h kept = one_before o n rest h kept
none_or_one false o n rest h kept = one_before None n rest (λ i e. absurd (cc)) kept

surviving_from : (before later : List Stmt) → FromPlace (surviving before later) (length before)
unfolding surviving
surviving_from before [] = (no_pairs (λ a b. a.stmt < b.stmt), λ k d p. absurd (omega arith))
surviving_from before (s ∷ later) =
    let size : length (before ++ s ∷ []) ≡ length before + 1 = omega (arith, length-append before (s ∷ [])) in
    none_or_one (survives s later) (instance_of before s) (length before) _ (instance_stmt before s)
    (subst (λ (n : ℕ). FromPlace (surviving (before ++ s ∷ []) later) n) size (surviving_from (before ++ s ∷ []) later))

-- the surviving instances stand in the order of their statements
pub surviving_ordered : (before later : List Stmt) → AreInOrder (surviving before later)
surviving_ordered before later = (surviving_from before later).0

-- and so do the rooted ones and the orphans among them
pub marked_ordered : (w : Bool) (insts : List Instance) (marks : List Bool) → AreInOrder insts → AreInOrder (marked w insts marks)
marked_ordered w insts marks h = marked_pairs_kept (λ a b. a.stmt < b.stmt) w insts marks h
