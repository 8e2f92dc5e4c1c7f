-- The spans of spots, one spot more; and what stands outside of one.
use Rattle.std.proofs.Common.{◌≡◌, ℕ, ◌+◌, ◌<◌, Bool, true, false, ◌&&◌, List, length, slice_get, Option, Some, None, refl, sym, ap, subst, ◌∙◌, inl, inr, arith}
use Rattle.std.specs.Option.{option_map_or}
use Rattle.std.proofs.lemmas.Bool.{cases_lt, eqb-true, false_from_ne_true}
use Rattle.std.proofs.lemmas.Option.{none-some, same_Some, slice_get_past}
use Rattle.cf_types.specs.declared.machine.Machine.{Machine}
use Rattle.cf_types.specs.declared.machine.Spot.{Spot}
use Rattle.cf_types.specs.declared.tables.Place.{Place}
use Rattle.run_rules.specs.declared.world.Span.{Span}
use Rattle.run_rules.specs.Search.{is_child, same_spot}
use Rattle.run_rules.specs.Spans.{AreSpansOf, Covers, HoldsChildren, span_at}
use Rattle.run_rules.specs.World.{same_place}
use Rattle.run_rules.proofs.Below.{and_both}

-- ---- they are made spot by spot

-- each of the first n spots stands in the span of its parent
abbrev pub AreSpansTo : Machine → ℕ → List Span → Type 0
AreSpansTo m n spans = (x : ℕ) (spot : Spot) → x < n → slice_get m.spots x ≡ Some spot → Covers (span_at spans spot.parent) x

pub spans_more : (m : Machine) (n : ℕ) (spot : Spot) (old new : List Span) → slice_get m.spots n ≡ Some spot → Covers (span_at new spot.parent) n
    → ((p : Option ℕ) (x : ℕ) → x < n → Covers (span_at old p) x → Covers (span_at new p) x) → AreSpansTo m n old → AreSpansTo m (n + 1) new
spans_more m n spot old new at here rest h = λ x s lt is. elim (cases_lt x n) [
  | inl less ↦ rest s.parent x less (h x s less is)
  | inr past ↦
      let same : n ≡ x = omega arith in
      let its : spot ≡ s = same_Some spot s (sym at ∙ ap (slice_get m.spots) same ∙ is) in
      subst (Covers (span_at new s.parent)) same (subst (λ (u : Spot). Covers (span_at new u.parent) n) its here)
]

pub spans_all : (m : Machine) (n : ℕ) (spans : List Span) → n ≡ length m.spots → AreSpansTo m n spans → AreSpansOf m spans
spans_all m n spans e h = λ x s is. elim (cases_lt x n) [
  | inl less ↦ h x s less is
  | inr past ↦ absurd (none-some s (sym (slice_get_past m.spots x (omega (arith, e))) ∙ is))
]

-- ---- the span of a parent has all spots below it

same_spot_is : (a b : Option ℕ) → same_spot a b ≡ true → a ≡ b
same_spot_is None None h = refl
same_spot_is (Some x) (Some y) h = ap Some (eqb-true x y h)
same_spot_is None (Some y) h = absurd cc
same_spot_is (Some x) None h = absurd cc

pub spans_hold : (m : Machine) (spans : List Span) (parent : Option ℕ) → AreSpansOf m spans → HoldsChildren m parent (span_at spans parent)
spans_hold m spans parent h = λ place x child. by_spot place x (slice_get m.spots x) refl child
  where
    by_spot : (place : Place) (x : ℕ) (o : Option Spot) → slice_get m.spots x ≡ o
        → option_map_or (λ spot. same_spot spot.parent parent && same_place spot.place place) o false ≡ true → Covers (span_at spans parent) x
    by_spot place x None is child = absurd cc
    by_spot place x (Some spot) is child =
        let same : spot.parent ≡ parent = same_spot_is spot.parent parent (and_both (same_spot spot.parent parent) (same_place spot.place place) child).0 in
        subst (λ p. Covers (span_at spans p) x) same (h x spot is)

-- outside of it no spot is a child
pub no_child : (m : Machine) (parent : Option ℕ) (span : Span) (place : Place) (x : ℕ) (b : Bool) → HoldsChildren m parent span → (Covers span x → ⊥) → (is_child m parent place x && b) ≡ false
no_child m parent span place x b h outside = ap (λ c. c && b) (false_from_ne_true (is_child m parent place x) (λ child. outside (h place x child)))
