-- The searches of the spots so far, one spot more.
use Rattle.std.proofs.Common.{◌≡◌, ◌<◌, ◌+◌, ◌∙◌, ℕ, List, [], ◌∷◌, ◌++◌, length, Option, None, refl, sym, ap, subst, arith, inl, inr, length-append}
use Rattle.std.specs.List.{slice_index_or}
use Rattle.std.proofs.lemmas.Bool.{cases_lt}
use Rattle.std.proofs.lemmas.List.{get_or_append_left, get_or_push}
use Rattle.run_rules.specs.declared.world.Setup.{Setup}
use Rattle.match_reasons.specs.declared.told.Search.{Search}
use Rattle.boot_looks.specs.declared.visit.Look.{Look}
use Rattle.boot_looks.specs.Looks.{look_at}
use Rattle.why_answers.specs.Seen.{IsSearchIn}

pub record SearchedTo (s : Setup) (looks : List (Option Look)) (n : ℕ) (searches : List (Option Search)) : Type 0 where
  pub count : length searches ≡ n
  pub each : (x : ℕ) → x < n → IsSearchIn s x (look_at looks x) (slice_index_or searches x None)

pub searched_none : (s : Setup) (looks : List (Option Look)) → SearchedTo s looks 0 []
searched_none s looks = record { count = refl; each = λ x lt. absurd (omega arith) }

pub searched_more : (s : Setup) (looks : List (Option Look)) (n : ℕ) (searches more : List (Option Search)) (found : Option Search) → IsSearchIn s n (look_at looks n) found
    → more ≡ searches ++ found ∷ [] → SearchedTo s looks n searches → SearchedTo s looks (n + 1) more
searched_more s looks n searches more found is longer so = record {
  count = omega (arith, ap length longer, length-append searches (found ∷ []), so.count);
  each = λ x lt. elim (cases_lt x n) [
    | inl less ↦ subst (IsSearchIn s x (look_at looks x)) (sym (old x less)) (so.each x less)
    | inr past ↦ let same : x ≡ n = omega arith in subst (λ (y : ℕ). IsSearchIn s y (look_at looks y) (slice_index_or more y None)) (sym same) (subst (IsSearchIn s n (look_at looks n)) (sym new) is)
  ];
}
  where
    old : (x : ℕ) → x < n → slice_index_or more x None ≡ slice_index_or searches x None
    old x less = ap (λ (l : List (Option Search)). slice_index_or l x None) longer ∙ get_or_append_left searches (found ∷ []) None x (omega (arith, less, so.count))

    new : slice_index_or more n None ≡ found
    new = ap (λ (l : List (Option Search)). slice_index_or l n None) longer ∙ get_or_push searches found None n so.count
