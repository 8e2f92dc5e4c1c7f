-- The first unit of starred rows depends on the members of a list of units alone.
use Rattle.std.proofs.Common.{◌≡◌, ℕ, ◌+◌, ◌<◌, ◌≤◌, max, List, [], ◌∷◌, arith}
use Rattle.std.specs.Prelude.{fold}
use Rattle.std.specs.List.{All}
use Rattle.std.proofs.lemmas.List.Elements.{All-cons, All-head, All-nil, All-tail}
use Rattle.config_rules.specs.Meaning.{first_unit}

abbrev after : ℕ → List ℕ → ℕ
after start units = fold (λ n unit. max n (unit + 1)) start units

no_less : (start : ℕ) (units : List ℕ) → start ≤ after start units
no_less start [] = omega arith
no_less start (u ∷ units) = omega (arith, no_less (max start (u + 1)) units)

each_below : (start : ℕ) (units : List ℕ) → All (λ u. u < after start units) units
each_below start [] = All-nil (λ u. u < start)
each_below start (u ∷ units) =
    All-cons (λ v. v < after (max start (u + 1)) units) u units (omega (arith, no_less (max start (u + 1)) units)) (each_below (max start (u + 1)) units)

no_more : (m start : ℕ) (units : List ℕ) → start ≤ m → All (λ u. u < m) units → after start units ≤ m
no_more m start [] le h = le
no_more m start (u ∷ units) le h =
    let here : u < m = All-head (λ v. v < m) u units h in
    no_more m (max start (u + 1)) units (omega arith) (All-tail (λ v. v < m) u units h)

-- each unit is below the first one that is free behind all
pub below_first : (units : List ℕ) → All (λ u. u < first_unit units) units
below_first units = each_below 0 units

-- lists of which each is below the first unit of the other have the same
pub same_first : (xs ys : List ℕ) → All (λ u. u < first_unit ys) xs → All (λ u. u < first_unit xs) ys → first_unit xs ≡ first_unit ys
same_first xs ys h k = omega (arith, no_more (first_unit ys) 0 xs (omega arith) h, no_more (first_unit xs) 0 ys (omega arith) k)
