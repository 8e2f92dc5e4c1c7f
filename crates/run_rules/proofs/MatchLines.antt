-- The match lines of each spot: one line more, and the values that they give.
use Rattle.std.proofs.Common.{◌≡◌, ℕ, zero, suc, ◌+◌, ◌<◌, Bool, true, false, cond, ◌&&◌, ◌==◌, List, [], ◌∷◌, ◌++◌, length, filter, find, reverse, slice_index_or, slice_set, refl, sym, ◌∙◌, ap, subst, inl, inr, arith, append-nil, eq-eqb, Some}
use Rattle.std.specs.Global.{Global}
use Rattle.std.specs.Prelude.{Option, Vec}
use Rattle.std.specs.Option.{option_map_or}
use Rattle.std.proofs.Math.Seq.{get_or-append_seam}
use Rattle.std.proofs.lemmas.Bool.{cases_lt, eqb-true, false≢true}
use Rattle.std.proofs.lemmas.List.{get_or-set_other, get_or-set_same, get_or_append_left, length-append, length-map, length-set, map-append, reverse-append}
use Rattle.std.proofs.lemmas.List.Elements.{filter-append}
use Rattle.cf_types.specs.declared.machine.MatchLine.{MatchLine}
use Rattle.run_rules.specs.World.{is_number}
use Rattle.run_rules.specs.MatchLines.{AreOwnLines, HaveLineMore, is_for, last_value, lines_in}

pub own_none : AreOwnLines 0 [] []
own_none = record { spots = refl; each = λ x lt. absurd (omega arith) }

-- one spot more, without lines
pub spot_more : (n : ℕ) (lists new : List (Vec MatchLine Global)) (list : Vec MatchLine Global) → new ≡ lists ++ list ∷ [] → list.items ≡ [] → AreOwnLines n [] (lines_in lists) → AreOwnLines (n + 1) [] (lines_in new)
spot_more n lists new list more e h =
    let same : lines_in new ≡ lines_in lists ++ [] ∷ [] = ap lines_in more ∙ map-append (λ (v : Vec MatchLine Global). v.items) lists (list ∷ []) ∙ ap (λ ls. lines_in lists ++ ls ∷ []) e in
    subst (AreOwnLines (n + 1) []) (sym same) (record {
      spots = omega (arith, length-append (lines_in lists) ([] ∷ []), h.spots);
      each = λ x less. elim (cases_lt x n) [
        | inl under ↦ get_or_append_left (lines_in lists) ([] ∷ []) [] x (omega (arith, h.spots)) ∙ h.each x under
        | inr above ↦
            let here : x ≡ length (lines_in lists) = omega (arith, h.spots) in
            ap (λ i. slice_index_or (lines_in lists ++ [] ∷ []) i []) here ∙ get_or-append_seam (lines_in lists) [] [] []
      ];
    })

-- ---- one line more

lines_set : (lists : List (Vec MatchLine Global)) (i : ℕ) (list : Vec MatchLine Global) → lines_in (slice_set lists i list) ≡ slice_set (lines_in lists) i list.items
lines_set [] i list = refl
lines_set (l ∷ lists) zero list = refl
lines_set (l ∷ lists) (suc i) list = ap (λ ls. l.items ∷ ls) (lines_set lists i list)

-- the lines for a spot, with one more
pub own_more : (spot : Option ℕ) (lines : List MatchLine) (line : MatchLine) → filter (is_for spot) (lines ++ line ∷ []) ≡ filter (is_for spot) lines ++ cond (is_for spot line) (line ∷ []) []
own_more spot lines line = filter-append (is_for spot) lines (line ∷ [])

-- it is for a spot that there is
pub line_there : (place : ℕ) (lists new : List (Vec MatchLine Global)) (list : Vec MatchLine Global) (old : List MatchLine) (line : MatchLine) → line.spot ≡ Some place → place < length lists
    → old ≡ slice_index_or (lines_in lists) place [] → list.items ≡ old ++ line ∷ [] → new ≡ slice_set lists place list
    → HaveLineMore line (lines_in lists) (lines_in new)
line_there place lists new list old line spot lt at more set n lines h =
    let same : lines_in new ≡ slice_set (lines_in lists) place list.items = ap lines_in set ∙ lines_set lists place list in
    subst (AreOwnLines n (lines ++ line ∷ [])) (sym same) (record {
      spots = length-set (lines_in lists) place list.items ∙ h.spots;
      each = λ x less. by_spot x less (place == x) refl;
    })
  where
    by_spot : (x : ℕ) → x < n → (b : Bool) → (place == x) ≡ b → slice_index_or (slice_set (lines_in lists) place list.items) x [] ≡ filter (is_for (Some x)) (lines ++ line ∷ [])
    by_spot x less true e =
        let here : x ≡ place = sym (eqb-true place x e) in
        let size : length (lines_in lists) ≡ length lists = length-map lists (λ (v : Vec MatchLine Global). v.items) in
        ap (λ i. slice_index_or (slice_set (lines_in lists) place list.items) i []) here
        ∙ get_or-set_same (lines_in lists) place list.items [] (omega (arith, size, lt))
        ∙ more
        ∙ ap (λ ls. ls ++ line ∷ []) (at ∙ ap (λ i. slice_index_or (lines_in lists) i []) (sym here) ∙ h.each x less)
        ∙ sym (own_more (Some x) lines line ∙ ap (λ b. filter (is_for (Some x)) lines ++ cond b (line ∷ []) []) (ap (λ o. is_number o x) spot ∙ e))
    by_spot x less false e =
        get_or-set_other (lines_in lists) place x list.items [] (λ q. false≢true (sym e ∙ eq-eqb place x (sym q)))
        ∙ h.each x less
        ∙ sym (own_more (Some x) lines line ∙ ap (λ b. filter (is_for (Some x)) lines ++ cond b (line ∷ []) []) (ap (λ o. is_number o x) spot ∙ e) ∙ append-nil (filter (is_for (Some x)) lines))

-- ---- the values that they give

kept_find : (p q : MatchLine → Bool) (xs : List MatchLine) → find (λ l. p l && q l) (filter q xs) ≡ find (λ l. p l && q l) xs
kept_find p q [] = refl
kept_find p q (x ∷ xs) = by_test (q x) refl (kept_find p q xs)
  where
    fails : (a : Bool) → (a && false) ≡ false
    fails true = refl
    fails false = refl

    by_test : (b : Bool) → q x ≡ b → find (λ l. p l && q l) (filter q xs) ≡ find (λ l. p l && q l) xs → find (λ l. p l && q l) (cond (q x) (x ∷ filter q xs) (filter q xs)) ≡ cond (p x && q x) (Some x) (find (λ l. p l && q l) xs)
    by_test true e same = ap (λ b. find (λ l. p l && q l) (cond b (x ∷ filter q xs) (filter q xs))) e ∙ ap (cond (p x && q x) (Some x)) same
    by_test false e same =
        ap (λ b. find (λ l. p l && q l) (cond b (x ∷ filter q xs) (filter q xs))) e ∙ same
        ∙ ap (λ b. cond b (Some x) (find (λ l. p l && q l) xs)) (sym (ap (λ b. p x && b) e ∙ fails (p x)))

reversed : {X : Type 0} (q : X → Bool) (xs : List X) → reverse (filter q xs) ≡ filter q (reverse xs)
reversed q [] = refl
reversed q (x ∷ xs) =
    by_test (q x) ∙ ap (λ ys. ys ++ filter q (x ∷ [])) (reversed q xs) ∙ sym (filter-append q (reverse xs) (x ∷ [])) ∙ ap (filter q) (sym (reverse-append (x ∷ []) xs))
  where
    by_test : (b : Bool) → reverse (cond b (x ∷ filter q xs) (filter q xs)) ≡ reverse (filter q xs) ++ cond b (x ∷ []) []
    by_test true = reverse-append (x ∷ []) (filter q xs)
    by_test false = sym (append-nil (reverse (filter q xs)))

pub own_value : (x : ℕ) (lines own : List MatchLine) (a given : ℕ) → own ≡ filter (is_for (Some x)) lines → last_value (Some x) own a given ≡ last_value (Some x) lines a given
own_value x lines own a given e =
    ap (λ ls. last_value (Some x) ls a given) e
    ∙ ap (λ ls. option_map_or (λ line. line.value) (find (λ line. line.attach == a && is_for (Some x) line) ls) given) (reversed (is_for (Some x)) lines)
    ∙ ap (λ o. option_map_or (λ line. line.value) o given) (kept_find (λ line. line.attach == a) (is_for (Some x)) (reverse lines))
