-- What a configuration without a code tells of each of its statements, and of all that they declare.
use Rattle.std.proofs.Common.{◌≡◌, ℕ, ◌+◌, ◌<◌, ◌≤◌, zero, suc, Bool, true, false, Option, Some, None, List, [], ◌∷◌, ◌++◌, length, get_or, take, drop, refl, ap, sym, ◌∙◌, subst, arith}
use Rattle.std.specs.Prelude.{ℤ, Result, Ok, Err, nat_le, option_map, count_by, if◌then◌else◌}
use Rattle.std.proofs.lemmas.Bool.{leb-false}
use Rattle.std.proofs.lemmas.List.{take_all}
use Rattle.std.proofs.lemmas.List.Sums.{sum_by_push}
use Rattle.std.proofs.lemmas.Option.{get_or_from_slice_get}
use Rattle.cf_types.specs.declared.code.configuration.TheConstants.{TOO_MANY_INSTANCES}
use Rattle.cf_types.proofs.ListLemmas.{slice_get_some}
use Rattle.config_rules.proofs.GivenLaws.{no_code, no_first}
use Rattle.cf_types.specs.declared.stmt.Placed.{Placed}
use Rattle.cf_types.specs.declared.stmt.Stmt.{Stmt}
use Rattle.cf_types.specs.declared.stmt.Stmt.TheVariants as stmt
use Rattle.cf_types.specs.declared.stmt.AtSpec.{AtSpec}
use Rattle.cf_types.specs.declared.stmt.GivenLoc.{GivenLoc}
use Rattle.cf_types.specs.declared.stmt.UnitMark.{UnitMark}
use Rattle.cf_types.specs.declared.instance.Instance.{Instance}
use Rattle.cf_types.specs.declared.instance.Joined.{Joined}
use Rattle.config_rules.specs.Joined.{join}
use Rattle.config_rules.specs.Declared.{declared}
use Rattle.config_rules.specs.Fault.{is_instance, err_of, fault_of, stmts_of, refusal, first_code}
use Rattle.config_rules.specs.Meaning.{if_joined, instance_of}
use Rattle.cf_declare.specs.Settled.{Settled}
use Rattle.cf_declare.specs.Sound.{SoundDeclared}
use Rattle.cf_declare.proofs.SettledLaws.{settled_nothing}
use Rattle.cf_declare.proofs.FirstLaws.{first_here, settled_placed}
use Rattle.cf_declare.proofs.SoundFacts.{sound_nothing}
use Rattle.cf_declare.proofs.SoundLaws.{sound_placed}

-- ---- each statement

-- a code that isn't there gives no refusal
no_refusal : {A B : Type 0} (f : A → B) (o : Option A) → option_map f o ≡ None → o ≡ None
no_refusal f None h = refl
no_refusal f (Some x) h = absurd (cc)

-- one statement without a code, and those behind it
none_here : (files : List (List ℕ)) (placed : List Placed) (i : ℕ) (p : Placed) → i < length placed → p ≡ get_or placed i p
    → first_code files (stmts_of (take i placed)) (drop i placed) ≡ None
    → (fault_of (stmts_of (take i placed)) p.stmt ≡ None) × (first_code files (stmts_of (take (i + 1) placed)) (drop (i + 1) placed) ≡ None)
none_here files placed i p h is none =
    let parts = no_first (option_map (refusal files p) (fault_of (stmts_of (take i placed)) p.stmt)) _ (sym (first_here files placed i p h is) ∙ none) in
    (no_refusal (refusal files p) (fault_of (stmts_of (take i placed)) p.stmt) parts.0, parts.1)

-- no statement from a place on has a code
none_from : (files : List (List ℕ)) (placed : List Placed) → first_code files [] placed ≡ None → (i : ℕ) → i ≤ length placed → first_code files (stmts_of (take i placed)) (drop i placed) ≡ None
none_from files placed none zero h = none
none_from files placed none (suc i) h =
    let e : suc i ≡ i + 1 = omega arith in
    let found = slice_get_some placed i (omega arith) in
    ap (λ n. first_code files (stmts_of (take n placed)) (drop n placed)) e
    ∙ (none_here files placed i found.0 (omega arith) (sym (get_or_from_slice_get placed i found.0 found.0 found.1)) (none_from files placed none i (omega arith))).1

-- each statement has no code after those before it
pub accepted_at : (files : List (List ℕ)) (placed : List Placed) (i : ℕ) (p : Placed) → i < length placed → p ≡ get_or placed i p
    → first_code files [] placed ≡ None → fault_of (stmts_of (take i placed)) p.stmt ≡ None
accepted_at files placed i p h is none = (none_here files placed i p h is (none_from files placed none i (omega arith))).0

-- ---- what all declare

-- the first statements are settled, and what they declare is sound
pub sound_so_far : (files : List (List ℕ)) (placed : List Placed) → first_code files [] placed ≡ None → (i : ℕ) → i ≤ length placed
    → Settled (stmts_of (take i placed)) × SoundDeclared (declared (stmts_of (take i placed)))
unfolding declared
sound_so_far files placed none zero h = (settled_nothing, sound_nothing)
sound_so_far files placed none (suc i) h =
    let e : i + 1 ≡ suc i = omega arith in
    let found = slice_get_some placed i (omega arith) in
    let is : found.0 ≡ get_or placed i found.0 = sym (get_or_from_slice_get placed i found.0 found.0 found.1) in
    let good = accepted_at files placed i found.0 (omega arith) is none in
    let before = sound_so_far files placed none i (omega arith) in
    subst (λ (n : ℕ). Settled (stmts_of (take n placed)) × SoundDeclared (declared (stmts_of (take n placed)))) e
    (settled_placed placed i found.0 (omega arith) is before.0 good, sound_placed placed i found.0 (omega arith) is before.0 good before.1)

-- statements without a code are settled, and what they declare is sound
pub accepted_sound : (files : List (List ℕ)) (placed : List Placed) → first_code files [] placed ≡ None → Settled (stmts_of placed) × SoundDeclared (declared (stmts_of placed))
accepted_sound files placed none =
    subst (λ (ps : List Placed). Settled (stmts_of ps) × SoundDeclared (declared (stmts_of ps))) (take_all (length placed) placed (omega arith))
    (sound_so_far files placed none (length placed) (omega arith))

-- ---- instances

-- a result without a code has a value
value_of : {A : Type 0} (r : Result A ℕ) → err_of r ≡ None → (x : A) × (r ≡ Ok x)
value_of (Ok x) h = (x, refl)
value_of (Err code) h = absurd (cc)

-- an instance without a code joins something, and there are fewer than 8,192 before it
pub accepted_joins : (before : List Stmt) (base : List ℕ) (mark : UnitMark) (at : AtSpec) (pairs : List GivenLoc) (flags : ℤ) → fault_of before (stmt.Inst base mark at pairs flags) ≡ None
    → (count_by is_instance before < 8192) × ((j : Joined) × (join (declared before) base at pairs ≡ Ok j))
unfolding fault_of
accepted_joins before base mark at pairs flags h =
    let parts = no_code (nat_le 8192 (count_by is_instance before)) TOO_MANY_INSTANCES (err_of (join (declared before) base at pairs)) h in
    (leb-false 8192 (count_by is_instance before) parts.0, value_of (join (declared before) base at pairs) parts.1)

-- so it is an instance
pub accepted_instance : (before : List Stmt) (s : Stmt) → fault_of before s ≡ None → is_instance s ≡ true → (x : Instance) × (instance_of before s ≡ Some x)
accepted_instance before (stmt.Inst base mark at pairs flags) h is =
    let joined = (accepted_joins before base mark at pairs flags h).1 in
    (record { stmt = length before; joined = joined.0; mark = mark; flags = flags }, ap (if_joined (length before) mark flags) joined.1)
accepted_instance before _ h is = absurd (cc)

-- and there is room for it
few_before : (before : List Stmt) (s : Stmt) → fault_of before s ≡ None → is_instance s ≡ true → count_by is_instance before < 8192
few_before before (stmt.Inst base mark at pairs flags) h is = (accepted_joins before base mark at pairs flags h).0
few_before before _ h is = absurd (cc)

-- one more, or none
few_if : (b : Bool) (n more : ℕ) → more ≡ n + (if b then 1 else 0) → (b ≡ true → n < 8192) → n ≤ 8192 → more ≤ 8192
few_if true n more e room few = let below : n < 8192 = room refl in omega arith
few_if false n more e room few = omega arith

-- there are never more than 8,192 instances
pub instances_few : (before : List Stmt) (s : Stmt) → fault_of before s ≡ None → count_by is_instance before ≤ 8192 → count_by is_instance (before ++ s ∷ []) ≤ 8192
instances_few before s h few =
    few_if (is_instance s) (count_by is_instance before) (count_by is_instance (before ++ s ∷ [])) (sum_by_push (λ t. if is_instance t then 1 else 0) before s) (few_before before s h) few
