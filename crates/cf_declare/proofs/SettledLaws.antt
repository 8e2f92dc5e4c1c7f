-- Statements without a code stay settled: they name only what is declared before them.
use Rattle.std.proofs.Common.{◌≡◌, ℕ, ◌-◌, ◌<◌, ◌≤◌, true, ◌⊎◌, inl, inr, Some, None, List, [], ◌∷◌, ◌++◌, length, take, drop, refl, ap, sym, ◌∙◌, length-append, arith}
use Rattle.std.specs.Prelude.{bytes_eq, filter_map, slice_get, count_by}
use Rattle.std.proofs.lemmas.List.{take-append-drop, take-append-le, take_at}
use Rattle.std.proofs.lemmas.List.Elements.{filter_map-append}
use Rattle.std.proofs.lemmas.Option.{slice_get_within}
use Rattle.std.proofs.lemmas.Slice.Eq.{bytes_eq-Decides}
use Rattle.cf_types.specs.declared.stmt.Stmt.{Stmt}
use Rattle.cf_types.proofs.ListLemmas.{slice_get-append_front, slice_get-append_back}
use Rattle.config_rules.specs.Declared.{attr_name, device_name, declared}
use Rattle.config_rules.specs.Fault.{is_instance, fault_of}
use Rattle.cf_declare.specs.Settled.{is_among, names_among, Settled}
use Rattle.cf_declare.proofs.ListFacts.{position_found, any_given}
use Rattle.cf_declare.proofs.CodeLaws.{accepted_names}
use Rattle.cf_declare.proofs.NumberLaws.{names_more, names_known}

-- a statement without a code names what is declared before it
pub accepted_among : (before : List Stmt) (s : Stmt) → fault_of before s ≡ None → names_among (filter_map attr_name before) (filter_map device_name before) s ≡ true
unfolding fault_of
accepted_among before s h = names_known before s (accepted_names (declared before) (count_by is_instance before) s h)

-- where there are no statements, they are settled
pub settled_nothing : Settled []
settled_nothing = record { earlier = λ i s h. absurd (cc) }

-- names that are declared by the first statements are declared by all
among_all : (stmts : List Stmt) (i : ℕ) (s : Stmt) → names_among (filter_map attr_name (take i stmts)) (filter_map device_name (take i stmts)) s ≡ true
    → names_among (filter_map attr_name stmts) (filter_map device_name stmts) s ≡ true
among_all stmts i s h =
    let attrs : filter_map attr_name (take i stmts) ++ filter_map attr_name (drop i stmts) ≡ filter_map attr_name stmts = sym (filter_map-append attr_name (take i stmts) (drop i stmts)) ∙ ap (filter_map attr_name) (take-append-drop i stmts) in
    let devices : filter_map device_name (take i stmts) ++ filter_map device_name (drop i stmts) ≡ filter_map device_name stmts = sym (filter_map-append device_name (take i stmts) (drop i stmts)) ∙ ap (filter_map device_name) (take-append-drop i stmts) in
    ap (λ ns. names_among ns (filter_map device_name stmts) s) (sym attrs)
    ∙ ap (λ ns. names_among (filter_map attr_name (take i stmts) ++ filter_map attr_name (drop i stmts)) ns s) (sym devices)
    ∙ names_more (filter_map attr_name (take i stmts)) (filter_map attr_name (drop i stmts)) (filter_map device_name (take i stmts)) (filter_map device_name (drop i stmts)) s h

-- settled statements name what they all declare
pub settled_names : (stmts : List Stmt) → Settled stmts → (i : ℕ) (s : Stmt) → slice_get stmts i ≡ Some s → names_among (filter_map attr_name stmts) (filter_map device_name stmts) s ≡ true
settled_names stmts settled i s at = among_all stmts i s (settled.earlier i s at)

-- the attribute that a statement declares is among those that are declared
pub own_known : (stmts : List Stmt) (i : ℕ) (s : Stmt) → slice_get stmts i ≡ Some s → (name : List ℕ) → attr_name s ≡ Some name → is_among (filter_map attr_name stmts) name ≡ true
own_known stmts i s at name e =
    position_found (λ n. bytes_eq n name) (filter_map attr_name stmts)
    ∙ any_given (λ n. bytes_eq n name) attr_name stmts i s name at e ((bytes_eq-Decides name name).1 refl)

-- each of the statements with one more, before it and at it
more_at : (before : List Stmt) (s : Stmt) → Settled before → fault_of before s ≡ None → (i : ℕ) (t : Stmt) → slice_get (before ++ s ∷ []) i ≡ Some t → (i < length before) ⊎ (length before ≤ i)
    → names_among (filter_map attr_name (take i (before ++ s ∷ []))) (filter_map device_name (take i (before ++ s ∷ []))) t ≡ true
more_at before s settled accepted i t at (inl p) =
    ap (λ ts. names_among (filter_map attr_name ts) (filter_map device_name ts) t) (take-append-le i before (s ∷ []) (omega arith))
    ∙ settled.earlier i t (sym (slice_get-append_front before (s ∷ []) i p) ∙ at)
more_at before s settled accepted i t at (inr p) =
    let within : i < length (before ++ s ∷ []) = slice_get_within (before ++ s ∷ []) i t at in
    let last : length before ≡ i = omega (arith, length-append before (s ∷ [])) in
    let none : i - length before ≡ 0 = omega arith in
    let here : Some s ≡ Some t = ap (slice_get (s ∷ [])) (sym none) ∙ sym (slice_get-append_back before (s ∷ []) i p) ∙ at in
    let same : s ≡ t = cc in
    ap (λ ts. names_among (filter_map attr_name ts) (filter_map device_name ts) t) (take_at before (s ∷ []) i last)
    ∙ ap (names_among (filter_map attr_name before) (filter_map device_name before)) (sym same)
    ∙ accepted_among before s accepted

-- statements stay settled with one more that has no code
pub settled_more : (before : List Stmt) (s : Stmt) → Settled before → fault_of before s ≡ None → Settled (before ++ s ∷ [])
settled_more before s settled accepted = record { earlier = λ i t at. more_at before s settled accepted i t at (grind arith) }
