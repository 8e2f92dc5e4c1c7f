-- The surviving instances of a configuration without a code name what it declares.
use Rattle.std.proofs.Common.{◌≡◌, ℕ, ◌+◌, ◌<◌, ◌≤◌, zero, suc, Bool, true, false, Option, Some, None, List, [], ◌++◌, length, get_or, take, ap, sym, ◌∙◌, subst, arith}
use Rattle.std.specs.Prelude.{ℤ, Result, Ok, Err, IfOk, flat_map, slice_get, slice_index_or, option_map, option_and_then, if◌then◌else◌}
use Rattle.std.specs.Option.{option_to_list}
use Rattle.std.proofs.lemmas.List.{take-map, take_all, length-map}
use Rattle.std.proofs.lemmas.List.Elements.{All-append, All-weaker, All-nil}
use Rattle.std.proofs.lemmas.Option.{get_or_from_slice_get, slice_get-map}
use Rattle.cf_types.proofs.ListLemmas.{slice_get_some}
use Rattle.cf_types.specs.declared.stmt.Placed.{Placed}
use Rattle.cf_types.specs.declared.stmt.Stmt.{Stmt}
use Rattle.cf_types.specs.declared.stmt.Stmt.TheVariants as stmt
use Rattle.cf_types.specs.declared.stmt.UnitMark.{UnitMark}
use Rattle.cf_types.specs.declared.instance.Instance.{Instance}
use Rattle.cf_types.specs.declared.instance.Joined.{Joined}
use Rattle.config_rules.specs.Joined.{join}
use Rattle.config_rules.specs.Declared.{Declared, declared}
use Rattle.config_rules.specs.Fault.{fault_of, stmts_of, first_code}
use Rattle.config_rules.specs.Select.{kept}
use Rattle.config_rules.specs.Meaning.{if_joined, instance_of, surviving}
use Rattle.cf_types.specs.Numbers.{below}
use Rattle.cf_declare.specs.Declare.{declare}
use Rattle.cf_declare.specs.Settled.{Settled}
use Rattle.cf_declare.specs.Sound.{SoundDeclared}
use Rattle.cf_declare.specs.Instances.{SoundInstances, SoundJoined}
use Rattle.cf_declare.proofs.ListFacts.{all_of_option}
use Rattle.cf_declare.proofs.FirstLaws.{declared_placed}
use Rattle.cf_declare.proofs.SurvivingLaws.{surviving_at, below_more, surviving_by_places}
use Rattle.cf_declare.proofs.AcceptedLaws.{accepted_at, sound_so_far}
use Rattle.cf_declare.proofs.JoinLaws.{joined_sound, joined_more}

-- ---- one instance

-- the instance of what is joined
of_joined : (d : Declared) (n : ℕ) (mark : UnitMark) (flags : ℤ) (r : Result Joined ℕ) (x : Instance) → IfOk r (SoundJoined d) → if_joined n mark flags r ≡ Some x → SoundJoined d x.joined
of_joined d n mark flags (Ok j) x h e = let same : j ≡ x.joined = ap (λ (y : Instance). y.joined) (same_some e) in subst (λ (k : Joined). SoundJoined d k) same h
  where
    same_some : {y : Instance} → Some y ≡ Some x → y ≡ x
    same_some p = cc
of_joined d n mark flags (Err code) x h e = absurd (cc)

-- an instance names what is declared before it
pub instance_sound : (before : List Stmt) (s : Stmt) (x : Instance) → SoundDeclared (declared before) → instance_of before s ≡ Some x → SoundJoined (declared before) x.joined
instance_sound before (stmt.Inst base mark at pairs flags) x sound e =
    of_joined (declared before) (length before) mark flags (join (declared before) base at pairs) x (joined_sound (declared before) sound base at pairs) e
instance_sound before _ x sound e = absurd (cc)

-- instances go on naming what is declared, along the placed statements
pub instances_placed : (placed : List Placed) (i : ℕ) (p : Placed) (insts : List Instance) → i < length placed → p ≡ get_or placed i p
    → Settled (stmts_of (take i placed)) → fault_of (stmts_of (take i placed)) p.stmt ≡ None
    → SoundInstances (declared (stmts_of (take i placed))) insts → SoundInstances (declared (stmts_of (take (i + 1) placed))) insts
instances_placed placed i p insts h is settled accepted sound =
    let d = declared (stmts_of (take i placed)) in
    subst (λ (e : Declared). SoundInstances e insts) (sym (declared_placed placed i p h is settled accepted))
    (All-weaker (λ x. SoundJoined d x.joined) (λ x. SoundJoined (declare d p.stmt) x.joined) (λ x. joined_more d p.stmt x.joined) insts sound)

-- ---- all that survive

-- the instance of one statement, where it survives
piece_sound : (stmts : List Stmt) (i : ℕ) (s : Stmt) → slice_get stmts i ≡ Some s → SoundDeclared (declared (take i stmts)) → SoundInstances (declared (take i stmts)) (surviving_at stmts i)
piece_sound stmts i s at sound =
    let d = declared (take i stmts) in
    let one = all_of_option (λ x. SoundJoined d x.joined) (instance_of (take i stmts) s) (λ x e. instance_sound (take i stmts) s x sound e) in
    subst (λ (o : Option Stmt). SoundInstances d (if slice_index_or (kept stmts) i false then option_to_list (option_and_then (instance_of (take i stmts)) o) else [])) (sym at)
    (by_mark d (slice_index_or (kept stmts) i false) (option_to_list (instance_of (take i stmts) s)) one)
  where
    by_mark : (d : Declared) (b : Bool) (xs : List Instance) → SoundInstances d xs → SoundInstances d (if b then xs else [])
    by_mark d true xs h = h
    by_mark d false xs h = All-nil (λ x. SoundJoined d x.joined)

-- the same over placed statements
placed_sound : (placed : List Placed) (i : ℕ) (p : Placed) → slice_get placed i ≡ Some p → SoundDeclared (declared (stmts_of (take i placed)))
    → SoundInstances (declared (stmts_of (take i placed))) (surviving_at (stmts_of placed) i)
placed_sound placed i p at sound =
    let same : take i (stmts_of placed) ≡ stmts_of (take i placed) = take-map (λ q. q.stmt) i placed in
    let here : slice_get (stmts_of placed) i ≡ Some p.stmt = slice_get-map (λ q. q.stmt) placed i ∙ ap (λ o. option_map (λ q. q.stmt) o) at in
    subst (λ (ss : List Stmt). SoundInstances (declared ss) (surviving_at (stmts_of placed) i)) same
    (piece_sound (stmts_of placed) i p.stmt here (subst (λ (ss : List Stmt). SoundDeclared (declared ss)) (sym same) sound))

-- the instances of the first statements
instances_so_far : (files : List (List ℕ)) (placed : List Placed) → first_code files [] placed ≡ None → (i : ℕ) → i ≤ length placed
    → SoundInstances (declared (stmts_of (take i placed))) (flat_map (surviving_at (stmts_of placed)) (below i))
instances_so_far files placed none zero h = All-nil (λ x. SoundJoined (declared []) x.joined)
instances_so_far files placed none (suc i) h =
    let e : i + 1 ≡ suc i = omega arith in
    let found = slice_get_some placed i (omega arith) in
    let is : found.0 ≡ get_or placed i found.0 = sym (get_or_from_slice_get placed i found.0 found.0 found.1) in
    let good = accepted_at files placed i found.0 (omega arith) is none in
    let before = sound_so_far files placed none i (omega arith) in
    let so_far = flat_map (surviving_at (stmts_of placed)) (below i) in
    let new = surviving_at (stmts_of placed) i in
    let both = All-append (λ x. SoundJoined (declared (stmts_of (take i placed))) x.joined) so_far new (instances_so_far files placed none i (omega arith)) (placed_sound placed i found.0 found.1 before.1) in
    subst (λ (n : ℕ). SoundInstances (declared (stmts_of (take n placed))) (flat_map (surviving_at (stmts_of placed)) (below n))) e
    (subst (λ (xs : List Instance). SoundInstances (declared (stmts_of (take (i + 1) placed))) xs) (sym (below_more (stmts_of placed) i))
    (instances_placed placed i found.0 (so_far ++ new) (omega arith) is before.0 good both))

-- the surviving instances of a configuration without a code name what it declares
pub surviving_sound : (files : List (List ℕ)) (placed : List Placed) → first_code files [] placed ≡ None → SoundInstances (declared (stmts_of placed)) (surviving [] (stmts_of placed))
surviving_sound files placed none =
    let stmts = stmts_of placed in
    let size : length placed ≡ length stmts = sym (length-map placed (λ p. p.stmt)) in
    subst (λ (xs : List Instance). SoundInstances (declared stmts) xs) (sym (surviving_by_places stmts))
    (subst (λ (n : ℕ). SoundInstances (declared stmts) (flat_map (surviving_at stmts) (below n))) size
    (subst (λ (ps : List Placed). SoundInstances (declared (stmts_of ps)) (flat_map (surviving_at stmts) (below (length placed)))) (take_all (length placed) placed (omega arith))
    (instances_so_far files placed none (length placed) (omega arith))))
