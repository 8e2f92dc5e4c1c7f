-- Lists of rows by a number: one list more, one row more.
use Rattle.std.proofs.Common.{◌≡◌, ℕ, zero, suc, ◌<◌, Bool, true, false, cond, ◌==◌, List, [], ◌∷◌, ◌++◌, length, slice_set, sym, ◌∙◌, ap, append-nil, arith, eq-eqb, refl}
use Rattle.std.specs.Global.{Global}
use Rattle.std.specs.List.{slice_index_or}
use Rattle.std.specs.Prelude.{Vec}
use Rattle.std.proofs.lemmas.Bool.{eqb-true, false≢true}
use Rattle.std.proofs.lemmas.List.{get_or-set_other, get_or-set_same, length-map, map-append}
use Rattle.plain_rows.specs.Lists.{list_at, lists_of}

more_empty : (lists : List (List ℕ)) (k : ℕ) → ◌≡◌ {A = List ℕ} (slice_index_or (lists ++ [] ∷ []) k []) (slice_index_or lists k [])
more_empty [] zero = refl
more_empty [] (suc k) = refl
more_empty (l ∷ lists) zero = refl
more_empty (l ∷ lists) (suc k) = more_empty lists k

pub empty_more : (lists new : List (Vec ℕ Global)) (list : Vec ℕ Global) → new ≡ lists ++ list ∷ [] → list.items ≡ [] → (k : ℕ) → list_at new k ≡ list_at lists k
empty_more lists new list more e k =
    ap (λ ls. list_at ls k) more ∙ ap (λ ls. slice_index_or ls k []) (map-append (λ (v : Vec ℕ Global). v.items) lists (list ∷ []))
    ∙ ap (λ (xs : List ℕ). slice_index_or (lists_of lists ++ xs ∷ []) k []) e ∙ more_empty (lists_of lists) k

lists_set : (lists : List (Vec ℕ Global)) (i : ℕ) (list : Vec ℕ Global) → lists_of (slice_set lists i list) ≡ slice_set (lists_of lists) i list.items
lists_set [] i list = refl
lists_set (l ∷ lists) zero list = refl
lists_set (l ∷ lists) (suc i) list = ap (λ ls. l.items ∷ ls) (lists_set lists i list)

pub row_more : (lists new : List (Vec ℕ Global)) (number row : ℕ) (list : Vec ℕ Global) → number < length lists → list.items ≡ list_at lists number ++ row ∷ []
    → new ≡ slice_set lists number list → (k : ℕ) → list_at new k ≡ list_at lists k ++ cond (number == k) (row ∷ []) []
row_more lists new number row list lt more set k =
    ap (λ ls. list_at ls k) set ∙ ap (λ ls. slice_index_or ls k []) (lists_set lists number list) ∙ cases (number == k) refl
  where
    size : length (lists_of lists) ≡ length lists
    size = length-map lists (λ (v : Vec ℕ Global). v.items)

    cases : (b : Bool) → (number == k) ≡ b → slice_index_or (slice_set (lists_of lists) number list.items) k [] ≡ list_at lists k ++ cond b (row ∷ []) []
    cases true e =
        let same : number ≡ k = eqb-true number k e in
        let here : slice_index_or (slice_set (lists_of lists) number list.items) number [] ≡ list.items = get_or-set_same (lists_of lists) number list.items [] (omega (arith, size, lt)) in
        ap (λ i. slice_index_or (slice_set (lists_of lists) number list.items) i []) (sym same) ∙ here ∙ more ∙ ap (λ i. list_at lists i ++ row ∷ []) same
    cases false e =
        get_or-set_other (lists_of lists) number k list.items [] (λ q. false≢true (sym e ∙ eq-eqb number k (sym q))) ∙ sym (append-nil (list_at lists k))
