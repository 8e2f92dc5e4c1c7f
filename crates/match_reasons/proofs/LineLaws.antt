-- The match value is that of the line that counts.
use Rattle.std.proofs.Common.{◌≡◌, ℕ, Bool, not, ◌&&◌, ◌==◌, List, [], ◌∷◌, find, reverse, is_some, Option, Some, None, refl, ap}
use Rattle.std.specs.Option.{option_map_or, option_or}
use Rattle.cf_types.specs.declared.machine.Machine.{Machine}
use Rattle.cf_types.specs.declared.machine.MatchLine.{MatchLine}
use Rattle.run_rules.specs.Search.{match_value, same_spot}
use Rattle.run_rules.specs.World.{is_number}
use Rattle.match_reasons.specs.Reasons.{counting_line, last_line}

find_same : {A : Type 0} (p q : A → Bool) (xs : List A) → ((x : A) → p x ≡ q x) → find p xs ≡ find q xs
find_same p q [] same = refl
find_same p q (x ∷ xs) same = rw (same x, find_same p q xs same) refl

own_same : (spot : Option ℕ) (x : ℕ) → is_number spot x ≡ same_spot spot (Some x)
own_same None x = refl
own_same (Some y) x = refl

all_same : (spot : Option ℕ) → not (is_some spot) ≡ same_spot spot None
all_same None = refl
all_same (Some y) = refl

pub value_by_line : (m : Machine) (a x : ℕ) → match_value m a x ≡ option_map_or (λ line. line.value) (counting_line m a x) 0
unfolding match_value
value_by_line m a x = rw (own, every) (either (last_line m.matches a (Some x)))
  where
    own : find (λ line. line.attach == a && is_number line.spot x) (reverse m.matches) ≡ last_line m.matches a (Some x)
    own = find_same (λ (line : MatchLine). line.attach == a && is_number line.spot x) (λ (line : MatchLine). line.attach == a && same_spot line.spot (Some x)) (reverse m.matches)
        (λ line. ap (λ b. line.attach == a && b) (own_same line.spot x))

    every : find (λ line. line.attach == a && not (is_some line.spot)) (reverse m.matches) ≡ last_line m.matches a None
    every = find_same (λ (line : MatchLine). line.attach == a && not (is_some line.spot)) (λ (line : MatchLine). line.attach == a && same_spot line.spot None) (reverse m.matches)
        (λ line. ap (λ b. line.attach == a && b) (all_same line.spot))

    either : (o : Option MatchLine) → option_map_or (λ line. line.value) o (option_map_or (λ line. line.value) (last_line m.matches a None) 0)
        ≡ option_map_or (λ line. line.value) (option_or o (last_line m.matches a None)) 0
    either None = refl
    either (Some line) = refl
