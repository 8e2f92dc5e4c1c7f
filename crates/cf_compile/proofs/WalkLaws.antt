-- A loop over the placed statements that judges each, joins its instance where it survives, and declares it.
use Rattle.std.proofs.Common.{◌≡◌, ◌≢◌, ℕ, suc, ◌∷◌, ◌+◌, ◌<◌, ◌≤◌, Some, None, List, [], ◌++◌, length, get_or, take, drop, refl, ap, sym, ◌∙◌, subst, arith}
use Rattle.std.specs.Prelude.{slice_index_or, false, if◌then◌else◌, Bool, true, Option}
use Rattle.std.specs.Option.{option_to_list}
use Rattle.std.proofs.lemmas.List.{length-map, length-take}
use Rattle.cf_types.specs.declared.instance.Instance.{Instance}
use Rattle.cf_types.specs.declared.stmt.Placed.{Placed}
use Rattle.cf_types.specs.declared.stmt.Stmt.{Stmt}
use Rattle.cf_types.specs.declared.stmt.Stmt.TheVariants as stmt
use Rattle.config_rules.specs.Declared.{Declared, declared}
use Rattle.config_rules.specs.Fault.{is_instance, code_of, stmts_of, first_code, refusal}
use Rattle.config_rules.specs.Select.{kept}
use Rattle.config_rules.specs.Written.{AreWritten, IsWritten}
use Rattle.config_laws.proofs.DeclaredLaws.{few_written}
use Rattle.cf_declare.specs.Limits.{HasFewLocators}
use Rattle.config_rules.specs.Meaning.{instance_of, surviving}
use Rattle.cf_declare.specs.Declare.{declare}
use Rattle.cf_declare.specs.Graphs.{FitsDeclared}
use Rattle.cf_declare.proofs.LimitLaws.{attrs_at_most, devices_at_most, attaches_at_most}
use Rattle.cf_declare.proofs.LoopLaws.{so_far_begins, so_far_goes_on, so_far_stops, so_far_ends}
use Rattle.cf_declare.proofs.SurvivingLaws.{placed_step, placed_end}
use Rattle.cf_compile.specs.Judged.{Walked, instance_at}

-- the instance of a statement, by what is declared before it
at_instance : (before : List Stmt) (s : Stmt) → instance_at (declared before) (length before) s ≡ instance_of before s
at_instance before (stmt.Inst base mark at pairs flags) = refl
at_instance before _ = refl

-- the places before one are as many as it says
as_many : (placed : List Placed) (i : ℕ) → i ≤ length placed → length (stmts_of (take i placed)) ≡ i
as_many placed i h = omega (arith, length-map (take i placed) (λ (q : Placed). q.stmt), length-take i placed)

-- nothing was walked over
pub walked_begins : (files : List (List ℕ)) (placed : List Placed) (d : Declared) (insts : List Instance) → d ≡ record { attrs = []; devices = []; attaches = [] } → insts ≡ [] → Walked files placed 0 d insts 0
walked_begins files placed d insts nothing none =
    subst (λ (e : Declared). Walked files placed 0 e insts 0) (sym nothing) (subst (λ (is : List Instance). Walked files placed 0 (record { attrs = []; devices = []; attaches = [] }) is 0) (sym none) (record {
      so_far = so_far_begins files placed;
      few_attrs = omega arith;
      few_devices = omega arith;
      few_attaches = omega arith;
      few_instances = omega arith;
      joined = refl;
    }))

-- what is declared so far fits
pub walked_fits : (files : List (List ℕ)) (placed : List Placed) (i : ℕ) (d : Declared) (insts : List Instance) (n : ℕ) → i ≤ 65536 → Walked files placed i d insts n → FitsDeclared d
walked_fits files placed i d insts n h walked = record {
  attrs = omega (arith, h, walked.few_attrs);
  devices = omega (arith, h, walked.few_devices);
  attaches = omega (arith, h, walked.few_attaches);
}

-- a statement without a code
pub walked_goes_on : (files : List (List ℕ)) (placed : List Placed) (i : ℕ) (d d' : Declared) (insts insts' : List Instance) (n n' m : ℕ) (p : Placed)
    → i < length placed → p ≡ get_or placed i p → Walked files placed i d insts n → code_of d n p.stmt ≡ None
    → insts' ≡ insts ++ (if slice_index_or (kept (stmts_of placed)) i false then option_to_list (instance_at d i p.stmt) else [])
    → d' ≡ declare d p.stmt → m ≡ (if is_instance p.stmt then 1 else 0) → n' ≡ n + m → Walked files placed (i + 1) d' insts' n'
walked_goes_on files placed i d d' insts insts' n n' m p h is walked none more new one count =
    let before = stmts_of (take i placed) in
    let here : instance_at d i p.stmt ≡ instance_of before p.stmt =
    ap (λ e. instance_at e i p.stmt) walked.so_far.all_declared ∙ ap (λ k. instance_at (declared before) k p.stmt) (sym (as_many placed i (omega (arith, h)))) ∙ at_instance before p.stmt in
    let found : insts' ≡ insts ++ (if slice_index_or (kept (stmts_of placed)) i false then option_to_list (instance_of before p.stmt) else []) =
    more ∙ ap (λ o. insts ++ (if slice_index_or (kept (stmts_of placed)) i false then option_to_list o else [])) here in
    let counted : n' ≡ n + (if is_instance p.stmt then 1 else 0) = count ∙ ap (λ k. n + k) one in
    let small : (if is_instance p.stmt then 1 else 0) ≤ 1 = at_most_one (is_instance p.stmt) in
    let attrs : length d'.attrs ≤ length d.attrs + 1 = subst (λ (e : Declared). length e.attrs ≤ length d.attrs + 1) (sym new) (attrs_at_most d p.stmt) in
    let devices : length d'.devices ≤ length d.devices + 1 = subst (λ (e : Declared). length e.devices ≤ length d.devices + 1) (sym new) (devices_at_most d p.stmt) in
    let attaches : length d'.attaches ≤ length d.attaches + 1 = subst (λ (e : Declared). length e.attaches ≤ length d.attaches + 1) (sym new) (attaches_at_most d p.stmt) in
    record {
      so_far = rw (new, counted) (so_far_goes_on files placed i d n p h is walked.so_far none);
      few_attrs = omega (arith, attrs, walked.few_attrs);
      few_devices = omega (arith, devices, walked.few_devices);
      few_attaches = omega (arith, attaches, walked.few_attaches);
      few_instances = omega (arith, counted, small, walked.few_instances);
      joined = ap (λ is'. is' ++ surviving (stmts_of (take (i + 1) placed)) (stmts_of (drop (i + 1) placed))) found ∙ placed_step placed i p insts h is walked.joined;
    }
  where
    at_most_one : (b : Bool) → (if b then 1 else 0) ≤ 1
    at_most_one true = omega arith
    at_most_one false = omega arith

-- a statement with a code
pub walked_stops : (files : List (List ℕ)) (placed : List Placed) (i : ℕ) (d : Declared) (insts : List Instance) (n : ℕ) (p : Placed) (code : ℕ)
    → i < length placed → p ≡ get_or placed i p → Walked files placed i d insts n → code_of d n p.stmt ≡ Some code → first_code files [] placed ≡ Some (refusal files p code)
walked_stops files placed i d insts n p code h is walked some = so_far_stops files placed i d n p code h is walked.so_far some

-- behind the last statement
pub walked_ends : (files : List (List ℕ)) (placed : List Placed) (i : ℕ) (d : Declared) (insts : List Instance) (n : ℕ) → length placed ≤ i → Walked files placed i d insts n
    → (first_code files [] placed ≡ None) × (d ≡ declared (stmts_of placed)) × (insts ≡ surviving [] (stmts_of placed))
walked_ends files placed i d insts n h walked =
    let ends = so_far_ends files placed i d n h walked.so_far in
    (ends.0, ends.1, placed_end placed i insts h walked.joined)

kept_length : (stmts : List Stmt) → length (kept stmts) ≡ length stmts
unfolding kept
kept_length [] = refl
kept_length (s ∷ later) = ap suc (kept_length later)

-- there is a truth value for each statement
pub survive_within : (placed : List Placed) (survive : List Bool) (i : ℕ) → survive ≡ kept (stmts_of placed) → i < length placed → i < length survive
survive_within placed survive i e h =
    let size : length survive ≡ length (stmts_of placed) = ap length e ∙ kept_length (stmts_of placed) in
    omega (arith, h, size, length-map placed (λ (q : Placed). q.stmt))

-- an option that is nothing
pub none_left : {X : Type 0} (o : Option X) → ((x : X) → o ≢ Some x) → o ≡ None
none_left None h = refl
none_left (Some x) h = absurd (h x refl)

-- each of those that are placed has few locators
pub few_placed : (placed : List Placed) (i : ℕ) (p : Placed) → AreWritten placed → i < length placed → p ≡ get_or placed i p → HasFewLocators p.stmt
few_placed placed i p written h is = few_written p.stmt (subst (λ (q : Placed). IsWritten q.stmt) (sym is) (written.each i p h))
