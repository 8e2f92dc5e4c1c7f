-- Statements without a code define nothing by the name `root`, and names that differ pass the test of it.
use Rattle.std.proofs.Common.{◌≡◌, ◌≢◌, ℕ, suc, Bool, true, false, ◌&&◌, ◌||◌, None, List, [], ◌∷◌, get_or, map, refl, ap, arith}
use Rattle.std.specs.Prelude.{bytes_eq, codes, not, unwrap_or, is_some, count_by}
use Rattle.std.specs.List.{All}
use Rattle.std.proofs.lemmas.Bool.{and_from, or_parts}
use Rattle.std.proofs.lemmas.List.Elements.{All-head, All-tail}
use Rattle.std.proofs.lemmas.Slice.Eq.{bytes_eq-Decides}
use Rattle.cf_types.specs.declared.code.configuration.TheConstants.{NAME_TAKEN, UNKNOWN_DEVICE}
use Rattle.std.proofs.lemmas.List.{get_or_default}
use Rattle.config_rules.proofs.GivenLaws.{no_code, no_last, no_first}
use Rattle.cf_types.specs.declared.stmt.Placed.{Placed}
use Rattle.cf_types.specs.declared.stmt.Stmt.{Stmt}
use Rattle.cf_types.specs.declared.stmt.Stmt.TheVariants as stmt
use Rattle.cf_types.specs.Lookups.{has_attach}
use Rattle.cf_text.specs.Shapes.{is_written}
use Rattle.config_rules.specs.Declared.{Declared, is_root, declared}
use Rattle.config_rules.specs.Fault.{code_of, fault_of, first_code, has_attr, has_device, is_instance, places_fault}
use Rattle.config_rules.specs.MachineText.{differ, is_free_name, is_one}
use Rattle.config_rules.specs.Written.{IsName}
use Rattle.cf_declare.specs.Sound.{NamesDiffer}
use Rattle.cf_declare.proofs.AcceptedLaws.{accepted_at}
use Rattle.config_laws.specs.Free.{IsFree}

-- ---- `root`

-- a statement without a code defines nothing of this name
free_code : (d : Declared) (n : ℕ) (s : Stmt) → code_of d n s ≡ None → IsFree s
free_code d n (stmt.Define name locs needs) h = (or_parts (is_root name) (has_attr d name) (no_code _ NAME_TAKEN _ h).0).0
free_code d n (stmt.Class name) h = (or_parts (is_root name) (has_attr d name) (no_last _ NAME_TAKEN h)).0
free_code d n (stmt.DefPseudo name locs needs) h = (or_parts (is_root name) (has_attr d name) (no_code _ NAME_TAKEN _ h).0).0
free_code d n (stmt.Device name locs needs) h =
    let first = or_parts (is_root name || has_device d name) (is_some locs && has_attr d name) (no_code _ NAME_TAKEN _ h).0 in
    (or_parts (is_root name) (has_device d name) first.0).0
free_code d n (stmt.Attach device places name needs) h =
    let first = no_code (not (has_device d device)) UNKNOWN_DEVICE _ h in
    let second = no_first (places_fault d places) _ first.1 in
    (or_parts (is_root (unwrap_or name device)) (has_attach d.attaches (unwrap_or name device)) (no_code _ NAME_TAKEN _ second.1).0).0
free_code d n _ h = tt

free_fault : (before : List Stmt) (s : Stmt) → fault_of before s ≡ None → IsFree s
unfolding fault_of
free_fault before s h = free_code (declared before) (count_by is_instance before) s h

-- so do all statements of a configuration without a code
pub all_free : (files : List (List ℕ)) (placed : List Placed) → first_code files [] placed ≡ None → All (λ p. IsFree p.stmt) placed
all_free files placed none k d lt =
    let p = get_or placed k d in
    free_fault _ p.stmt (accepted_at files placed k p lt (get_or_default placed k d p lt) none)

-- a name that is written and isn't `root`
pub free_name : (name : List ℕ) → IsName name → is_root name ≡ false → is_free_name name ≡ true
free_name name shaped free = and_from (is_written name) (not (bytes_eq name (codes "root"))) shaped (ap not free)

-- ---- names that differ

-- none of these names is the same
none_same : {X : Type 0} (name_of : X → List ℕ) (name : List ℕ) (xs : List X) → All (λ x. name ≢ name_of x) xs → is_one (map name_of xs) name ≡ false
none_same name_of name [] h = refl
none_same name_of name (x ∷ xs) h =
    one (bytes_eq name (name_of x)) refl (none_same name_of name xs (All-tail (λ y. name ≢ name_of y) x xs h))
  where
    one : (b : Bool) → bytes_eq name (name_of x) ≡ b → is_one (map name_of xs) name ≡ false → (b || is_one (map name_of xs) name) ≡ false
    one true e rest = absurd (All-head (λ y. name ≢ name_of y) x xs h ((bytes_eq-Decides name (name_of x)).0 e))
    one false e rest = rest

-- names that differ
pub names_differ : {X : Type 0} (name_of : X → List ℕ) (xs : List X) → NamesDiffer name_of xs → differ (map name_of xs) ≡ true
names_differ name_of [] h = refl
names_differ name_of (x ∷ xs) h =
    and_from (not (is_one (map name_of xs) (name_of x))) (differ (map name_of xs))
    (ap not (none_same name_of (name_of x) xs (λ k d lt. h 0 (suc k) d (omega arith) (omega arith))))
    (names_differ name_of xs (λ i j d lt within. h (suc i) (suc j) d (omega arith) (omega arith)))
