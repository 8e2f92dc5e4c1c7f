-- The parts of a statement.
use Rattle.std.proofs.Common.{◌≡◌, ℕ, ◌+◌, ◌<◌, ◌≤◌, arith, Bool, true, false, cond, Option, Some, None, List, [], ◌∷◌, length, refl, ap, sym, subst, ◌∙◌, inl, inr}
use Rattle.std.specs.Prelude.{is_some}
use Rattle.std.specs.List.{prefix_len}
use Rattle.std.specs.Option.{option_map_or}
use Rattle.cf_types.specs.declared.code.configuration.TheConstants.{NO_PATH, NO_CONDITION, TOO_DEEP}
use Rattle.cf_types.specs.declared.stmt.Piece.{Piece}
use Rattle.file_rules.specs.Condition.{Disjunction, is_true, nesting}
use Rattle.file_rules.specs.Sources.{HasForm, IsCondition, Source, condition_in, is_tail, path_in, tail_in}
use Rattle.file_select.specs.Findings.{Finds, JudgesOptional}
use Rattle.file_select.specs.declared.condition.ConditionAnswer.TheVariants.{NoForm, TooDeep, Value}
use Rattle.file_select.specs.declared.statement.Finding.TheVariants.{Bad, Good}

pub prefix_within : {X : Type 0} (p : X → Bool) (xs : List X) → prefix_len p xs ≤ length xs
prefix_within p [] = omega arith
prefix_within p (x ∷ xs) = by_test (p x) (prefix_within p xs)
  where
    by_test : (b : Bool) → prefix_len p xs ≤ length xs → cond b (1 + prefix_len p xs) 0 ≤ length (x ∷ xs)
    by_test true h = omega arith
    by_test false h = omega arith

-- ---- what a `file` statement is found to be

module _ (test : List ℕ → Bool) where
  pub found_no_path : (ps : List Piece) → false ≡ is_some (path_in ps) → Finds test ps (Bad NO_PATH)
  found_no_path ps e = inl (refl, none (path_in ps) e)
    where
      none : (o : Option (List ℕ)) → false ≡ is_some o → o ≡ None
      none None h = refl
      none (Some x) h = absurd (cc)

  pub found_no_tail : (ps behind : List Piece) → true ≡ is_some (path_in ps) → behind ≡ tail_in ps → false ≡ is_tail behind → Finds test ps (Bad NO_CONDITION)
  found_no_tail ps behind path is e =
      inr (inl (refl, (sym path, λ s f. let clash : is_tail (tail_in ps) ≡ false = ap is_tail (sym is) ∙ sym e in let has : is_tail (tail_in ps) ≡ true = f.tail in absurd (cc (clash, has)))))

  found_source : (ps behind : List Piece) (condition : Option Disjunction) → true ≡ is_some (path_in ps) → behind ≡ tail_in ps → true ≡ is_tail behind → IsCondition (condition_in ps) condition → (s : Source) × HasForm ps s × (s.condition ≡ condition)
  found_source ps behind condition path is e c = by (path_in ps) refl (sym path)
    where
      by : (o : Option (List ℕ)) → path_in ps ≡ o → is_some o ≡ true → (s : Source) × HasForm ps s × (s.condition ≡ condition)
      by None is_o h = absurd (cc)
      by (Some x) is_o h = (record { path = x; condition = condition }, record { path = is_o; condition = c; «tail» = ap is_tail (sym is) ∙ sym e }, refl)

  pub found_no_form : (ps part : List Piece) → true ≡ is_some (path_in ps) → part ≡ condition_in ps → JudgesOptional test part NoForm → Finds test ps (Bad NO_CONDITION)
  found_no_form ps part path is h =
      let k : JudgesOptional test (condition_in ps) NoForm = subst (λ (qs : List Piece). JudgesOptional test qs NoForm) is h in
      inr (inl (refl, (sym path, λ s f. k s.condition f.condition)))

  pub found_too_deep : (ps part behind : List Piece) → true ≡ is_some (path_in ps) → part ≡ condition_in ps → behind ≡ tail_in ps → true ≡ is_tail behind → JudgesOptional test part TooDeep → Finds test ps (Bad TOO_DEEP)
  found_too_deep ps part behind path is rest e h =
      let k : JudgesOptional test (condition_in ps) TooDeep = subst (λ (qs : List Piece). JudgesOptional test qs TooDeep) is h in
      let s = found_source ps behind k.0 path rest e k.1 in
      inr (inr (refl, (s.0, s.1, subst (λ (c : Option Disjunction). 64 < option_map_or nesting c 0) (sym s.2) k.2)))

  pub found_good : (ps part behind : List Piece) (value : Bool) → true ≡ is_some (path_in ps) → part ≡ condition_in ps → behind ≡ tail_in ps → true ≡ is_tail behind → JudgesOptional test part (Value value) → Finds test ps (Good value)
  found_good ps part behind value path is rest e h =
      let k : JudgesOptional test (condition_in ps) (Value value) = subst (λ (qs : List Piece). JudgesOptional test qs (Value value)) is h in
      let s = found_source ps behind k.0 path rest e k.1 in (
        s.0,
        record { form = s.1; depth = subst (λ (c : Option Disjunction). option_map_or nesting c 0 ≤ 64) (sym s.2) k.2 },
        k.3 ∙ ap (λ c. option_map_or (is_true test) c true) (sym s.2),
      )
