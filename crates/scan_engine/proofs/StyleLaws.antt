-- The styles that are kept, with a list more and with a line more.
use Rattle.std.proofs.Common.{◌≡◌, ℕ, zero, suc, ◌<◌, Bool, true, false, ◌&&◌, ◌==◌, cond, List, [], ◌∷◌, ◌++◌, length, reverse, find, slice_set, get_or, Some, eq-eqb, refl, sym, ap, ◌∙◌, arith}
use Rattle.std.specs.BTreeMap.{BTreeMap, IsEmpty}
use Rattle.std.specs.Map.{lookup}
use Rattle.std.specs.Option.{option_map_or}
use Rattle.std.specs.Ordering.{is_eq, nat_cmp}
use Rattle.std.specs.Prelude.{unwrap_or}
use Rattle.std.proofs.lemmas.Bool.{eqb-true}
use Rattle.std.proofs.lemmas.List.{reverse-append}
use Rattle.cf_types.specs.declared.machine.StyleLine.{StyleLine}
use Rattle.scan_engine.specs.Styled.{AreStylesBy, style_in, styled}

-- a list more that has nothing
pub none_more : (xs : List (BTreeMap ℕ Bool)) (e : BTreeMap ℕ Bool) (a i : ℕ) → IsEmpty e → style_in (xs ++ e ∷ []) a i ≡ style_in xs a i
none_more [] e zero i h = ap (λ es. unwrap_or (lookup (λ k. is_eq (nat_cmp i k)) es) false) h
none_more [] e (suc a) i h = refl
none_more (x ∷ xs) e zero i h = refl
none_more (x ∷ xs) e (suc a) i h = none_more xs e a i h

-- a list is another one
same_set : (xs : List (BTreeMap ℕ Bool)) (new : BTreeMap ℕ Bool) (k i : ℕ) → k < length xs → style_in (slice_set xs k new) k i ≡ styled new i
same_set [] new k i lt = absurd (omega arith)
same_set (x ∷ xs) new zero i lt = refl
same_set (x ∷ xs) new (suc k) i lt = same_set xs new k i (omega arith)

other_set : (xs : List (BTreeMap ℕ Bool)) (new : BTreeMap ℕ Bool) (k a i : ℕ) → (k ≡ a → ⊥) → style_in (slice_set xs k new) a i ≡ style_in xs a i
other_set [] new k a i ne = refl
other_set (x ∷ xs) new zero zero i ne = absurd (ne refl)
other_set (x ∷ xs) new zero (suc a) i ne = refl
other_set (x ∷ xs) new (suc k) zero i ne = refl
other_set (x ∷ xs) new (suc k) (suc a) i ne = other_set xs new k a i (λ e. ne (ap suc e))

its_styles : (xs : List (BTreeMap ℕ Bool)) (d : BTreeMap ℕ Bool) (k i : ℕ) → k < length xs → styled (get_or xs k d) i ≡ style_in xs k i
its_styles [] d k i lt = absurd (omega arith)
its_styles (x ∷ xs) d zero i lt = refl
its_styles (x ∷ xs) d (suc k) i lt = its_styles xs d k i (omega arith)

-- a line more
pub line_more : (lines : List StyleLine) (line : StyleLine) (xs : List (BTreeMap ℕ Bool)) (old new : BTreeMap ℕ Bool) → line.attach < length xs → old ≡ get_or xs line.attach old
    → ((i : ℕ) → styled new i ≡ cond (line.attr == i) line.indirect (styled old i)) → AreStylesBy lines xs → AreStylesBy (lines ++ line ∷ []) (slice_set xs line.attach new)
line_more lines line xs old new lt at noted are = λ a i.
    by_attach a i (line.attach == a) refl ∙ sym (ap (λ ls. option_map_or (λ (l : StyleLine). l.indirect) (find (λ l. l.attach == a && l.attr == i) ls) false) (reversed lines line))
  where
    clash : {b : Bool} → b ≡ true → b ≡ false → ⊥
    clash is isnt = absurd cc

    reversed : (ls : List StyleLine) (l : StyleLine) → reverse (ls ++ l ∷ []) ≡ l ∷ reverse ls
    reversed ls l = reverse-append ls (l ∷ [])

    by_attr : (a i : ℕ) (b : Bool) → cond b line.indirect (style_in xs a i) ≡ option_map_or (λ (l : StyleLine). l.indirect) (cond b (Some line) (find (λ l. l.attach == a && l.attr == i) (reverse lines))) false
    by_attr a i true = refl
    by_attr a i false = are a i

    by_attach : (a i : ℕ) (b : Bool) → (line.attach == a) ≡ b
        → style_in (slice_set xs line.attach new) a i ≡ option_map_or (λ (l : StyleLine). l.indirect) (cond (b && line.attr == i) (Some line) (find (λ l. l.attach == a && l.attr == i) (reverse lines))) false
    by_attach a i true e =
        let same : line.attach ≡ a = eqb-true line.attach a e in
        ap (λ k. style_in (slice_set xs line.attach new) k i) (sym same) ∙ same_set xs new line.attach i lt ∙ noted i ∙ ap (cond (line.attr == i) line.indirect) (ap (λ l. styled l i) at ∙ its_styles xs old line.attach i lt ∙ ap (λ k. style_in xs k i) same) ∙ by_attr a i (line.attr == i)
    by_attach a i false e = other_set xs new line.attach a i (λ same. clash (eq-eqb line.attach a same) e) ∙ are a i
