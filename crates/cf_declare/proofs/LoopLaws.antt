-- The steps of a loop over the placed statements that judges each and declares it.
use Rattle.std.proofs.Common.{◌≡◌, ℕ, ◌+◌, ◌<◌, ◌≤◌, Some, None, List, [], length, get_or, take, refl, ap, sym, ◌∙◌}
use Rattle.std.specs.Prelude.{count_by, if◌then◌else◌}
use Rattle.std.proofs.lemmas.List.{take_all}
use Rattle.cf_types.specs.declared.stmt.Placed.{Placed}
use Rattle.cf_types.specs.declared.stmt.Stmt.{Stmt}
use Rattle.cf_types.specs.declared.tables.Refusal.{Refusal}
use Rattle.config_rules.specs.Form.{◌or◌}
use Rattle.config_rules.specs.Reading.{Reading}
use Rattle.config_rules.specs.Declared.{Declared, declared}
use Rattle.config_rules.specs.Fault.{is_instance, code_of, fault_of, stmts_of, refusal, first_code, fault_in}
use Rattle.cf_declare.specs.Declare.{declare}
use Rattle.cf_declare.specs.SoFar.{SoFar}
use Rattle.cf_declare.proofs.SettledLaws.{settled_nothing}
use Rattle.cf_declare.proofs.FirstLaws.{instances_more, settled_placed, declared_placed, first_goes_on, first_stops, first_ends}
use Rattle.cf_declare.proofs.SoundFacts.{sound_nothing}
use Rattle.cf_declare.proofs.SoundLaws.{sound_more}

-- before the first statement nothing is declared
pub so_far_begins : (files : List (List ℕ)) (placed : List Placed) → SoFar files placed 0 (record { attrs = []; devices = []; attaches = [] }) 0
unfolding declared
so_far_begins files placed = record { all_declared = refl; all_counted = refl; settled = settled_nothing; sound = sound_nothing; no_code = refl }

-- the code of a statement, from what was declared and counted
fault_is : (before : List Stmt) (s : Stmt) (d : Declared) (n : ℕ) → d ≡ declared before → n ≡ count_by is_instance before → fault_of before s ≡ code_of d n s
unfolding fault_of
fault_is before s d n e f = ap (λ x. code_of x (count_by is_instance before) s) (sym e) ∙ ap (λ k. code_of d k s) (sym f)

-- a statement without a code is declared
pub so_far_goes_on : (files : List (List ℕ)) (placed : List Placed) (i : ℕ) (d : Declared) (n : ℕ) (p : Placed) → i < length placed → p ≡ get_or placed i p
    → SoFar files placed i d n → code_of d n p.stmt ≡ None → SoFar files placed (i + 1) (declare d p.stmt) (n + (if is_instance p.stmt then 1 else 0))
so_far_goes_on files placed i d n p h is so_far none =
    let before = stmts_of (take i placed) in
    let accepted : fault_of before p.stmt ≡ None = fault_is before p.stmt d n so_far.all_declared so_far.all_counted ∙ none in
    record {
      all_declared = ap (λ x. declare x p.stmt) so_far.all_declared ∙ sym (declared_placed placed i p h is so_far.settled accepted);
      all_counted = ap (λ k. k + (if is_instance p.stmt then 1 else 0)) so_far.all_counted ∙ sym (instances_more placed i p h is);
      settled = settled_placed placed i p h is so_far.settled accepted;
      sound = sound_more d n p.stmt so_far.sound none;
      no_code = first_goes_on files placed i p h is accepted so_far.no_code;
    }

-- a statement with a code has the first
pub so_far_stops : (files : List (List ℕ)) (placed : List Placed) (i : ℕ) (d : Declared) (n : ℕ) (p : Placed) (code : ℕ) → i < length placed → p ≡ get_or placed i p
    → SoFar files placed i d n → code_of d n p.stmt ≡ Some code → first_code files [] placed ≡ Some (refusal files p code)
so_far_stops files placed i d n p code h is so_far some =
    first_stops files placed i p code h is (fault_is (stmts_of (take i placed)) p.stmt d n so_far.all_declared so_far.all_counted ∙ some) so_far.no_code

-- behind the last statement there is no code, and all is declared
pub so_far_ends : (files : List (List ℕ)) (placed : List Placed) (i : ℕ) (d : Declared) (n : ℕ) → length placed ≤ i → SoFar files placed i d n
    → (first_code files [] placed ≡ None) × (d ≡ declared (stmts_of placed))
so_far_ends files placed i d n h so_far =
    (first_ends files placed i h so_far.no_code, so_far.all_declared ∙ ap (λ ps. declared (stmts_of ps)) (take_all i placed h))

-- ---- the first fault of what was read

-- it is that of the first statement with a code
pub fault_in_stops : (r : Reading) (x : Refusal) → first_code r.files [] r.placed ≡ Some x → fault_in r ≡ Some x
unfolding fault_in
fault_in_stops r x h = ap (λ o. o or r.fault) h

-- or else that of the reading
pub fault_in_ends : (r : Reading) → first_code r.files [] r.placed ≡ None → fault_in r ≡ r.fault
unfolding fault_in
fault_in_ends r h = ap (λ o. o or r.fault) h
