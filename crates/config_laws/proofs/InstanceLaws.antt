-- The surviving instances of a configuration without a code: how many they are, their units, and those at the root.
use Rattle.std.proofs.Common.{◌≡◌, ℕ, ◌+◌, ◌≤◌, suc, zero, Bool, true, false, cond, ◌&&◌, Option, Some, None, List, [], ◌∷◌, ◌++◌, length, get_or, take, refl, ap, sym, subst, arith}
use Rattle.std.specs.Prelude.{ℤ, IfOk, Result, Ok, Err, count_by, filter, find, not, ok_or, if◌then◌else◌}
use Rattle.std.specs.List.{All, list_any, zip}
use Rattle.std.specs.Option.{option_map_or}
use Rattle.std.proofs.lemmas.List.{length-map, take_all}
use Rattle.std.proofs.lemmas.List.Elements.{All-append, All-cons, All-head, All-nil, All-tail}
use Rattle.std.proofs.lemmas.List.Sums.{count_by-le-length, length-filter}
use Rattle.std.proofs.lemmas.Option.{get_or_from_slice_get}
use Rattle.std.proofs.lemmas.Slice.Zip.{length-zip}
use Rattle.cf_types.proofs.ListLemmas.{slice_get_some, found_passes}
use Rattle.cf_types.specs.Locators.{locators_at}
use Rattle.cf_types.specs.declared.instance.AttachPlace.{AttachPlace}
use Rattle.cf_types.specs.declared.instance.Instance.{Instance}
use Rattle.cf_types.specs.declared.instance.Joined.{Joined}
use Rattle.cf_types.specs.declared.instance.Target.{Target}
use Rattle.cf_types.specs.declared.instance.Target.TheVariants.{AtRoot, Below, On}
use Rattle.cf_types.specs.declared.stmt.AtSpec.{AtSpec}
use Rattle.cf_types.specs.declared.stmt.GivenLoc.{GivenLoc}
use Rattle.cf_types.specs.declared.stmt.Placed.{Placed}
use Rattle.cf_types.specs.declared.stmt.Stmt.{Stmt}
use Rattle.cf_types.specs.declared.stmt.Stmt.TheVariants as stmt
use Rattle.cf_types.specs.declared.stmt.UnitMark.{UnitMark}
use Rattle.cf_types.specs.declared.stmt.UnitMark.TheVariants.{Fixed, Star}
use Rattle.cf_types.specs.declared.tables.Place.{Place}
use Rattle.cf_types.specs.declared.tables.Place.TheVariants.{Root, At}
use Rattle.config_rules.specs.Declared.{Declared, declared}
use Rattle.config_rules.specs.Fault.{first_code, is_instance, stmts_of}
use Rattle.config_rules.specs.Joined.{attached, device_or, fill, join, parent_of, spots_of, suits, target_of}
use Rattle.config_rules.specs.Meaning.{if_joined, instance_of, marked, surviving}
use Rattle.config_rules.specs.Select.{is_root_place, names, survives}
use Rattle.config_rules.specs.Written.{IsUnit, IsWritten}
use Rattle.config_rules.proofs.CutLaws.{if_bind}
use Rattle.config_rules.proofs.PlacedLaws.{stmts_more}
use Rattle.cf_declare.proofs.AcceptedLaws.{accepted_at, instances_few}
use Rattle.cf_declare.proofs.JoinLaws.{some_of}
use Rattle.cf_rows.specs.Rows.{UnitFits}

-- ---- all that survive

-- what holds of every instance that these statements can be holds of those that survive
pub surviving_all : (P : Instance → Type 0) (before later : List Stmt) → All (λ s. (b : List Stmt) (i : Instance) → instance_of b s ≡ Some i → P i) later → All P (surviving before later)
unfolding surviving
surviving_all P before [] h = All-nil P
surviving_all P before (s ∷ later) h =
    let here : (b : List Stmt) (i : Instance) → instance_of b s ≡ Some i → P i = All-head (λ t. (b : List Stmt) (i : Instance) → instance_of b t ≡ Some i → P i) s later h in
    let rest = surviving_all P (before ++ s ∷ []) later (All-tail (λ t. (b : List Stmt) (i : Instance) → instance_of b t ≡ Some i → P i) s later h) in
    All-append P (cond (survives s later) (option_map_or (λ i. i ∷ []) (instance_of before s) []) []) (surviving (before ++ s ∷ []) later)
    (perhaps (survives s later) (instance_of before s) (here before)) rest
  where
    perhaps : (b : Bool) (o : Option Instance) → ((i : Instance) → o ≡ Some i → P i) → All P (cond b (option_map_or (λ i. i ∷ []) o []) [])
    perhaps true None k = All-nil P
    perhaps true (Some i) k = All-cons P i [] (k i refl) (All-nil P)
    perhaps false o k = All-nil P

-- ---- units

unit_fits : (i : Instance) (mark : UnitMark) → i.mark ≡ mark → IsUnit mark → UnitFits i
unit_fits i (Fixed unit) e h = rw e h
unit_fits i Star e h = rw e tt

joined_mark : (n : ℕ) (mark : UnitMark) (flags : ℤ) (r : Result Joined ℕ) (i : Instance) → if_joined n mark flags r ≡ Some i → i.mark ≡ mark
joined_mark n mark flags (Ok j) i e = let same : record { stmt = n; joined = j; mark = mark; flags = flags } ≡ i = cc in ap (λ (k : Instance). k.mark) (sym same)
joined_mark n mark flags (Err code) i e = absurd (cc)

instance_fits : (s : Stmt) → IsWritten s → (before : List Stmt) (i : Instance) → instance_of before s ≡ Some i → UnitFits i
instance_fits (stmt.Inst base mark at pairs flags) h before i e =
    unit_fits i mark (joined_mark (length before) mark flags (join (declared before) base at pairs) i e) h.1
instance_fits _ h before i e = absurd (cc)

-- the units of surviving instances are in range
pub surviving_fit : (stmts : List Stmt) → All IsWritten stmts → All UnitFits (surviving [] stmts)
surviving_fit stmts h = surviving_all UnitFits [] stmts (λ k d lt. instance_fits (get_or stmts k d) (h k d lt))

-- ---- the root

-- an instance at the root names no parent
abbrev pub IsAlone : Joined → Type 0
IsAlone j = is_root_place j.place ≡ true → j.parent ≡ None

alone_at : (d : Declared) (target : Target) (place : Place) → suits d target place ≡ true → is_root_place place ≡ true → parent_of target ≡ None
alone_at d AtRoot place h e = refl
alone_at d (Below parent) Root h e = absurd (cc)
alone_at d (Below parent) (At a) h e = absurd (cc)
alone_at d (On b) place h e = refl

joins_alone : (d : Declared) (base : List ℕ) (at : AtSpec) (pairs : List GivenLoc) → IfOk (join d base at pairs) IsAlone
unfolding join
joins_alone d base at pairs =
    if_bind IsAlone (device_or d base) _ (λ device e1.
    if_bind IsAlone (attached d device) _ (λ one e2.
    if_bind IsAlone (target_of d at) _ (λ target e3.
    if_bind IsAlone (ok_or (find (λ s. suits d target s.place) (spots_of d device)) 12) _ (λ s e4.
    if_bind IsAlone (fill (locators_at d.attrs s.place) pairs) _ (λ locs e5.
    alone_at d target s.place (found_passes (λ (x : AttachPlace). suits d target x.place) (spots_of d device) s (some_of _ 12 s e4)))))))

joined_alone : (n : ℕ) (mark : UnitMark) (flags : ℤ) (r : Result Joined ℕ) (i : Instance) → IfOk r IsAlone → if_joined n mark flags r ≡ Some i → IsAlone i.joined
joined_alone n mark flags (Ok j) i h e =
    let same : record { stmt = n; joined = j; mark = mark; flags = flags } ≡ i = cc in
    subst (λ (k : Instance). IsAlone k.joined) same h
joined_alone n mark flags (Err code) i h e = absurd (cc)

instance_alone : (s : Stmt) (before : List Stmt) (i : Instance) → instance_of before s ≡ Some i → IsAlone i.joined
instance_alone (stmt.Inst base mark at pairs flags) before i e =
    joined_alone (length before) mark flags (join (declared before) base at pairs) i (joins_alone (declared before) base at pairs) e
instance_alone _ before i e = absurd (cc)

-- so none of the surviving instances does
pub surviving_alone : (stmts : List Stmt) → All (λ i. IsAlone i.joined) (surviving [] stmts)
surviving_alone stmts = surviving_all (λ i. IsAlone i.joined) [] stmts (λ k d lt. instance_alone (get_or stmts k d))

-- ---- how many

-- no more survive than there are instances
surviving_few : (before later : List Stmt) → length (surviving before later) ≤ length (filter is_instance later)
unfolding surviving
surviving_few before [] = omega arith
surviving_few before (s ∷ later) =
    one (is_instance s) (list_any (λ n. names n s) later) (instance_of before s) (surviving_few (before ++ s ∷ []) later)
  where
    one : (a b : Bool) (o : Option Instance) → length (surviving (before ++ s ∷ []) later) ≤ length (filter is_instance later)
        → length (cond (a && not b) (option_map_or (λ i. i ∷ []) o []) [] ++ surviving (before ++ s ∷ []) later) ≤ length (cond a (s ∷ filter is_instance later) (filter is_instance later))
    one true true o h = omega arith
    one true false None h = omega arith
    one true false (Some i) h = omega arith
    one false b o h = h

count_so_far : (files : List (List ℕ)) (placed : List Placed) → first_code files [] placed ≡ None → (i : ℕ) → i ≤ length placed → count_by is_instance (stmts_of (take i placed)) ≤ 8192
count_so_far files placed none zero h = omega arith
count_so_far files placed none (suc i) h =
    let e : i + 1 ≡ suc i = omega arith in
    let found = slice_get_some placed i (omega arith) in
    let is : found.0 ≡ get_or placed i found.0 = sym (get_or_from_slice_get placed i found.0 found.0 found.1) in
    let few = instances_few (stmts_of (take i placed)) found.0.stmt (accepted_at files placed i found.0 (omega arith) is none) (count_so_far files placed none i (omega arith)) in
    subst (λ (n : ℕ). count_by is_instance (stmts_of (take n placed)) ≤ 8192) e
    (subst (λ (ss : List Stmt). count_by is_instance ss ≤ 8192) (sym (stmts_more placed i found.0 (omega arith) is)) few)

-- at most 8,192 instances are marked
pub marked_few : (files : List (List ℕ)) (placed : List Placed) (marks : List Bool) → first_code files [] placed ≡ None → length (marked true (surviving [] (stmts_of placed)) marks) ≤ 8192
marked_few files placed marks none =
    let insts = surviving [] (stmts_of placed) in
    let all : count_by is_instance (stmts_of placed) ≤ 8192 =
    subst (λ (ps : List Placed). count_by is_instance (stmts_of ps) ≤ 8192) (take_all (length placed) placed (omega arith)) (count_so_far files placed none (length placed) (omega arith)) in
    omega (
      arith,
      length-map (filter (λ (e : Instance × Bool). if e.1 then true else not true) (zip insts marks)) (λ e. e.0),
      length-filter (λ (e : Instance × Bool). if e.1 then true else not true) (zip insts marks),
      count_by-le-length (λ (e : Instance × Bool). if e.1 then true else not true) (zip insts marks),
      length-zip insts marks,
      surviving_few [] (stmts_of placed),
      length-filter is_instance (stmts_of placed),
    )
