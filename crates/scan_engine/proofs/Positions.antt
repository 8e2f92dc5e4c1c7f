-- Positions are in one order, and the one behind a position is the next.
use Rattle.std.proofs.Common.{◌≡◌, ℕ, ◌<◌, true, false, nat_lt, arith, ap, ◌∙◌}
use Rattle.std.proofs.lemmas.Bool.Decides.{nat_tests}
use Rattle.run_rules.specs.declared.world.Position.{Position}
use Rattle.run_rules.specs.Search.{is_before}
use Rattle.scan_engine.specs.Turns.{past}

-- what is before a position is before all that are not before it
pub before_later : (a b c : Position) → is_before a b ≡ true → is_before c b ≡ false → is_before a c ≡ true
unfolding is_before
before_later a b c h k = grind (arith, nat_tests)

pub before_past : (a : Position) → is_before a (past a) ≡ true
unfolding is_before
before_past a = grind (arith, nat_tests)

pub past_behind : (a : Position) → is_before (past a) a ≡ false
unfolding is_before
past_behind a = grind (arith, nat_tests)

-- what is after a position that is not before another one is not before that one either
pub after_from : (from a b : Position) → is_before a from ≡ false → is_before a b ≡ true → is_before b from ≡ false
unfolding is_before
after_from from a b h k = grind (arith, nat_tests)

-- what is after a position is not before the one behind it
pub after_past : (a b : Position) → is_before a b ≡ true → is_before b (past a) ≡ false
unfolding is_before
after_past a b h = grind (arith, nat_tests)

-- ---- by the place, by the row at the same place, and by the spot in the same row

pub by_attr : (a b : Position) → a.attr < b.attr → is_before a b ≡ true
unfolding is_before
by_attr a b lt = grind (arith, nat_tests)

pub not_by_attr : (a b : Position) → b.attr < a.attr → is_before a b ≡ false
unfolding is_before
not_by_attr a b lt = grind (arith, nat_tests)

pub by_row : (a b : Position) → a.attr ≡ b.attr → a.row < b.row → is_before a b ≡ true
unfolding is_before
by_row a b same lt = grind (arith, nat_tests)

pub not_by_row : (a b : Position) → a.attr ≡ b.attr → b.row < a.row → is_before a b ≡ false
unfolding is_before
not_by_row a b same lt = grind (arith, nat_tests)

pub on_row : (a r x y : ℕ) → is_before (record { attr = a; row = r; spot = x }) (record { attr = a; row = r; spot = y }) ≡ nat_lt x y
unfolding is_before
on_row a r x y = grind (arith, nat_tests)

pub from_start : (a r x : ℕ) → is_before (record { attr = a; row = r; spot = x }) (record { attr = a; row = 0; spot = 0 }) ≡ false
unfolding is_before
from_start a r x = grind (arith, nat_tests)

pub position_is : (from : Position) (a r : ℕ) → from.attr ≡ a → from.row ≡ r → from ≡ record { attr = a; row = r; spot = from.spot }
position_is from a r h k =
    ap (λ (x : ℕ). record { attr = x; row = from.row; spot = from.spot }) h ∙ ap (λ (x : ℕ). record { attr = a; row = x; spot = from.spot }) k
