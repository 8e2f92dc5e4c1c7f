-- The truth values of the surviving instances, and of the negations that take back something, are the relations by places.
use Rattle.std.proofs.Common.{not, ◌&&◌, ◌≡◌, ℕ, zero, suc, ◌<◌, true, false, ◌||◌, Some, List, [], ◌∷◌, refl, sym, ap, ◌∙◌, subst, arith, inl, inr}
use Rattle.std.specs.Prelude.{slice_get, slice_index_or}
use Rattle.std.specs.List.{list_any}
use Rattle.std.proofs.lemmas.Bool.{or_parts, or_right, not-true, or_cases}
use Rattle.cf_types.specs.declared.stmt.Stmt.{Stmt}
use Rattle.config_rules.specs.Fault.{is_instance}
use Rattle.config_rules.specs.Select.{names, survives, kept, Survives, takes_back, TakesBack}
use Rattle.config_rules.proofs.CutLaws.{both_left, both_right}

-- none of these statements names it, one by one
none_names : (s : Stmt) (later : List Stmt) (j : ℕ) (n : Stmt) → list_any (λ m. names m s) later ≡ false → slice_get later j ≡ Some n → names n s ≡ false
none_names s [] j n h at = absurd (cc)
none_names s (m ∷ later) zero n h at =
    let same : m ≡ n = cc in
    ap (λ k. names k s) (sym same) ∙ (or_parts (names m s) (list_any (λ k. names k s) later) h).0
none_names s (m ∷ later) (suc j) n h at = none_names s later j n (or_parts (names m s) (list_any (λ k. names k s) later) h).1 at

-- and if none does one by one, none does
no_names : (s : Stmt) (later : List Stmt) → ((j : ℕ) (n : Stmt) → slice_get later j ≡ Some n → names n s ≡ false) → list_any (λ m. names m s) later ≡ false
no_names s [] h = refl
no_names s (m ∷ later) h = rw (h 0 m refl) (no_names s later (λ j n at. h (suc j) n at))

behind_first : (s x : Stmt) (later : List Stmt) → list_any (λ m. names m s) later ≡ false → (j : ℕ) (n : Stmt) → 0 < j → slice_get (x ∷ later) j ≡ Some n → names n s ≡ false
behind_first s x later h zero n lt at = absurd (omega arith)
behind_first s x later h (suc j) n lt at = none_names s later j n h at

one_further : (s x : Stmt) (later : List Stmt) (i : ℕ) → ((j : ℕ) (n : Stmt) → i < j → slice_get later j ≡ Some n → names n s ≡ false)
    → (j : ℕ) (n : Stmt) → suc i < j → slice_get (x ∷ later) j ≡ Some n → names n s ≡ false
one_further s x later i h zero n lt at = absurd (omega arith)
one_further s x later i h (suc j) n lt at = h j n (omega arith) at

first_survives : (x : Stmt) (later : List Stmt) → survives x later ≡ true → Survives (x ∷ later) 0 x
first_survives x later h = record {
  here = refl;
  instance = both_left (is_instance x) _ h;
  not_named = behind_first x x later (not-true (list_any (λ m. names m x) later) (both_right (is_instance x) _ h));
}

-- where the truth value says so, the instance survives
pub kept_survives : (stmts : List Stmt) (i : ℕ) (s : Stmt) → slice_get stmts i ≡ Some s → slice_index_or (kept stmts) i false ≡ true → Survives stmts i s
unfolding kept
kept_survives [] i s at h = absurd (cc)
kept_survives (x ∷ later) zero s at h =
    let same : x ≡ s = cc in
    subst (λ (y : Stmt). Survives (x ∷ later) 0 y) same (first_survives x later h)
kept_survives (x ∷ later) (suc i) s at h =
    let more : Survives later i s = kept_survives later i s at h in
    record { here = at; instance = more.instance; not_named = one_further s x later i more.not_named }

-- and the other way round
pub survives_kept : (stmts : List Stmt) (i : ℕ) (s : Stmt) → Survives stmts i s → slice_index_or (kept stmts) i false ≡ true
unfolding kept
survives_kept [] i s h = absurd (let none = h.here in cc)
survives_kept (x ∷ later) zero s h =
    let at = h.here in
    let same : x ≡ s = cc in
    let instance : is_instance s ≡ true = h.instance in
    let free : list_any (λ m. names m s) later ≡ false = no_names s later (λ j n e. h.not_named (suc j) n (omega arith) e) in
    ap (λ y. survives y later) same ∙ rw (instance, free) refl
survives_kept (x ∷ later) (suc i) s h =
    survives_kept later i s (record { here = h.here; instance = h.instance; not_named = λ j n lt e. h.not_named (suc j) n (omega arith) e })

-- ---- what a negation takes back

takes_first : (n x : Stmt) (between : List Stmt) → (names n x && not (list_any (λ m. names m x) between)) ≡ true → TakesBack (x ∷ between) n 0 x
takes_first n x between h = record {
  here = refl;
  named = both_left (names n x) _ h;
  not_named = behind_first x x between (not-true (list_any (λ m. names m x) between) (both_right (names n x) _ h));
}

takes_further : (n x s : Stmt) (between : List Stmt) (i : ℕ) → TakesBack between n i s → TakesBack (x ∷ between) n (suc i) s
takes_further n x s between i t = record { here = t.here; named = t.named; not_named = one_further s x between i t.not_named }

-- where the truth value says so, it takes back some statement
pub takes_back_sound : (n : Stmt) (before : List Stmt) → takes_back n before ≡ true → (i : ℕ) × (s : Stmt) × TakesBack before n i s
unfolding takes_back
takes_back_sound n [] h = absurd (cc)
takes_back_sound n (x ∷ between) h =
    elim (or_cases (names n x && not (list_any (λ m. names m x) between)) (takes_back n between) h) [
      | inl here ↦ (0, x, takes_first n x between here)
      | inr more ↦ let t = takes_back_sound n between more in (suc t.0, t.1, takes_further n x t.1 between t.0 t.2)
    ]

-- and the other way round
pub takes_back_complete : (n : Stmt) (before : List Stmt) (i : ℕ) (s : Stmt) → TakesBack before n i s → takes_back n before ≡ true
unfolding takes_back
takes_back_complete n [] i s t = absurd (let none = t.here in cc)
takes_back_complete n (x ∷ between) zero s t =
    let at = t.here in
    let same : x ≡ s = cc in
    let named : names n s ≡ true = t.named in
    let free : list_any (λ m. names m s) between ≡ false = no_names s between (λ j m e. t.not_named (suc j) m (omega arith) e) in
    ap (λ y. (names n y && not (list_any (λ m. names m y) between)) || takes_back n between) same ∙ rw (named, free) refl
takes_back_complete n (x ∷ between) (suc i) s t =
    or_right _ _ (takes_back_complete n between i s (record { here = t.here; named = t.named; not_named = λ j m lt e. t.not_named (suc j) m (omega arith) e }))
