-- The slots agree with the devices after a device has come.
use Rattle.std.proofs.Common.{◌≡◌, ◌≢◌, ℕ, zero, suc, ◌<◌, Bool, true, false, ◌||◌, ◌==◌, cond, List, [], ◌∷◌, ◌++◌, map, length, find, Option, Some, None, slice_get, slice_set, refl, sym, ◌∙◌, ap, inl, inr, arith, length-append, eq-eqb}
use Rattle.std.specs.List.{list_any}
use Rattle.std.specs.Option.{option_or}
use Rattle.std.proofs.lemmas.Bool.{cases_lt, eqb-true}
use Rattle.std.proofs.lemmas.List.{set-append_left, map-append}
use Rattle.std.proofs.lemmas.List.Folds.{find-append}
use Rattle.std.proofs.Math.Seq.{set-append_seam}
use Rattle.cf_types.proofs.ListLemmas.{slice_get-append_front}
use Rattle.run_rules.specs.declared.world.Dev.{Dev}
use Rattle.cf_types.specs.Numbers.{below}
use Rattle.run_rules.specs.Search.{is_occupied}
use Rattle.ref_ledger.specs.declared.state.SlotState.{SlotState}
use Rattle.ref_ledger.specs.declared.state.SlotState.TheVariants.{Free, Live}
use Rattle.deed_effect.specs.Agreement.{state_at}

pub length_map_below : {A : Type 0} (f : ℕ → A) (n : ℕ) → length (map f (below n)) ≡ n
length_map_below f zero = refl
length_map_below f (suc n) = rw (map-append f (below n) (n ∷ []), length-append (map f (below n)) (f n ∷ []), length_map_below f n) (omega arith)

pub map_below_same : {A : Type 0} (f g : ℕ → A) (n : ℕ) → ((y : ℕ) → y < n → f y ≡ g y) → map f (below n) ≡ map g (below n)
map_below_same f g zero h = refl
map_below_same f g (suc n) h = rw (map-append f (below n) (n ∷ []), map-append g (below n) (n ∷ []), map_below_same f g n (λ y lt. h y (omega arith)), h n (omega arith)) refl

pub set_map_below : {A : Type 0} (f g : ℕ → A) (n x : ℕ) → x < n → ((y : ℕ) → y ≢ x → f y ≡ g y) → slice_set (map f (below n)) x (g x) ≡ map g (below n)
set_map_below f g zero x lt h = absurd (omega arith)
set_map_below {A} f g (suc n) x lt h =
    rw (map-append f (below n) (n ∷ []), map-append g (below n) (n ∷ []))
    (elim (cases_lt x n) [
      | inl less ↦
          let last : f n ≡ g n = h n (λ e. omega (arith, e)) in
          rw (set-append_left (map f (below n)) (f n ∷ []) x (g x) (omega (arith, length_map_below f n)), set_map_below f g n x less h, last) refl
      | inr more ↦
          let same : x ≡ n = omega arith in
          let place : n ≡ length (map f (below n)) = sym (length_map_below f n) in
          rw same (ap (λ (k : ℕ). slice_set (map f (below n) ++ f n ∷ []) k (g n)) place ∙ set-append_seam (map f (below n)) (f n) [] (g n)
          ∙ ap (λ (l : List A). l ++ g n ∷ []) (map_below_same f g n (λ y less. h y (λ e. omega (arith, e)))))
    ])

get_seam : {A : Type 0} (xs : List A) (y : A) (i : ℕ) → i ≡ length xs → slice_get (xs ++ y ∷ []) i ≡ Some y
get_seam [] y zero e = refl
get_seam [] y (suc i) e = absurd (omega arith)
get_seam (x ∷ xs) y zero e = absurd (omega arith)
get_seam (x ∷ xs) y (suc i) e = get_seam xs y i (omega arith)

pub get_map_below : {A : Type 0} (f : ℕ → A) (n x : ℕ) → x < n → slice_get (map f (below n)) x ≡ Some (f x)
get_map_below f zero x lt = absurd (omega arith)
get_map_below {A} f (suc n) x lt =
    rw (map-append f (below n) (n ∷ []))
    (elim (cases_lt x n) [
      | inl less ↦ slice_get-append_front (map f (below n)) (f n ∷ []) x (omega (arith, length_map_below f n)) ∙ get_map_below f n x less
      | inr more ↦
          let same : x ≡ n = omega arith in
          get_seam (map f (below n)) (f n) x (omega (arith, length_map_below f n)) ∙ ap (λ (k : ℕ). Some (f k)) (sym same)
    ])

-- ---- the state of a slot

nothing_found : {A : Type 0} (p : A → Bool) (xs : List A) → list_any p xs ≡ false → find p xs ≡ None
nothing_found p [] h = refl
nothing_found {A} p (x ∷ xs) h = cases (λ k. nothing_found p xs k) (p x) h
  where
    cases : (list_any p xs ≡ false → find p xs ≡ None) → (b : Bool) → (b || list_any p xs) ≡ false → cond b (Some x) (find p xs) ≡ None
    cases more true k = absurd cc
    cases more false k = more k

pub state_free : (live : List Dev) (x : ℕ) → is_occupied live x ≡ false → state_at live x ≡ Free
state_free live x h = rw (nothing_found (λ d. d.spot == x) live h) refl

pub state_new : (live : List Dev) (d : Dev) → is_occupied live d.spot ≡ false → d.condemned ≡ None → state_at (live ++ d ∷ []) d.spot ≡ Live
state_new live d h fresh =
    let here : (d.spot == d.spot) ≡ true = eq-eqb d.spot d.spot refl in
    rw (find-append (λ e. e.spot == d.spot) live (d ∷ []), nothing_found (λ e. e.spot == d.spot) live h, here, fresh) refl

or_none : {A : Type 0} (o : Option A) → option_or o None ≡ o
or_none None = refl
or_none (Some x) = refl

pub state_other : (live : List Dev) (d : Dev) (y : ℕ) → y ≢ d.spot → state_at live y ≡ state_at (live ++ d ∷ []) y
state_other live d y ne =
    let other : (d.spot == y) ≡ false = differs (d.spot == y) (λ e. ne (sym (eqb-true d.spot y e))) in
    rw (find-append (λ e. e.spot == y) live (d ∷ []), other, or_none (find (λ e. e.spot == y) live)) refl
  where
    differs : (b : Bool) → (b ≡ true → ⊥) → b ≡ false
    differs true h = absurd (h refl)
    differs false h = refl

pub slots_come : (live : List Dev) (d : Dev) (n : ℕ) → d.spot < n → is_occupied live d.spot ≡ false → d.condemned ≡ None
    → slice_set (map (state_at live) (below n)) d.spot Live ≡ map (state_at (live ++ d ∷ [])) (below n)
slots_come live d n lt bare fresh =
    ap (λ (v : SlotState). slice_set (map (state_at live) (below n)) d.spot v) (sym (state_new live d bare fresh))
    ∙ set_map_below (state_at live) (state_at (live ++ d ∷ [])) n d.spot lt (λ y ne. state_other live d y ne)
