-- Before the span of a parent, and behind it, no spot is a child.
use Rattle.std.proofs.Common.{◌≡◌, ℕ, ◌<◌, ◌≤◌, Bool, true, false, not, ◌&&◌, nat_lt, Option, refl, ap, ◌∙◌, inl, inr, arith, max}
use Rattle.std.proofs.Math.Bool.{and-false}
use Rattle.std.proofs.lemmas.Bool.{cases_lt}
use Rattle.std.proofs.lemmas.Bool.Decides.{nat_tests}
use Rattle.cf_types.specs.declared.machine.Machine.{Machine}
use Rattle.cf_types.specs.declared.tables.Place.{Place}
use Rattle.run_rules.specs.declared.world.Span.{Span}
use Rattle.run_rules.specs.Search.{is_child}
use Rattle.run_rules.specs.Spans.{HoldsChildren}
use Rattle.run_rules.proofs.Spans.{no_child}

pub before_span : (m : Machine) (parent : Option ℕ) (span : Span) (place : Place) (from x : ℕ) → HoldsChildren m parent span → x < max from span.first
    → (is_child m parent place x && not (nat_lt x from)) ≡ false
before_span m parent span place from x h lt = elim (cases_lt x from) [
  | inl less ↦ ap (λ b. is_child m parent place x && not b) (low less) ∙ and-false (is_child m parent place x)
  | inr le ↦ no_child m parent span place x (not (nat_lt x from)) h (λ covers. omega (arith, covers.0, lt, le))
]
  where
    low : x < from → nat_lt x from ≡ true
    low less = grind (arith, nat_tests)

pub behind_span : (m : Machine) (parent : Option ℕ) (span : Span) (place : Place) (from x : ℕ) → HoldsChildren m parent span → span.end ≤ x
    → (is_child m parent place x && not (nat_lt x from)) ≡ false
behind_span m parent span place from x h le = no_child m parent span place x (not (nat_lt x from)) h (λ covers. omega (arith, covers.1, le))
