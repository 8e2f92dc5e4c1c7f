-- A list without the first that passes a test, by the place of that one.
use Rattle.std.proofs.Common.{◌≡◌, ℕ, ◌<◌, ◌≤◌, Bool, true, false, cond, List, ◌++◌, length, drop, suc, append-nil, refl, sym, ap, ◌∙◌, arith}
use Rattle.std.specs.Prelude.{position, Some, None, nat_lt}
use Rattle.std.specs.List.{position_or_len, remove}
use Rattle.std.proofs.lemmas.Bool.Decides.{nat_tests}
use Rattle.std.proofs.lemmas.List.{drop_all, take_all}
use Rattle.run_rules.specs.References.{without_first}
use Rattle.run_rules.proofs.References.{remove_is}

pub taken_at : {A : Type 0} (p : A → Bool) (xs : List A) (i : ℕ) → position p xs ≡ Some i → (i < length xs) × (remove xs i ≡ without_first p xs)
taken_at p xs i at = by (nat_lt (position_or_len p xs) (length xs)) refl at
  where
    by : (b : Bool) → nat_lt (position_or_len p xs) (length xs) ≡ b → cond b (Some (position_or_len p xs)) None ≡ Some i → (i < length xs) × (remove xs i ≡ without_first p xs)
    by true less e = let same : position_or_len p xs ≡ i = cc in rw (← same) (grind (arith, nat_tests), remove_is p xs)
    by false more e = absurd cc

pub none_taken : {A : Type 0} (p : A → Bool) (xs : List A) → position p xs ≡ None → xs ≡ without_first p xs
none_taken p xs none = by (nat_lt (position_or_len p xs) (length xs)) refl none
  where
    by : (b : Bool) → nat_lt (position_or_len p xs) (length xs) ≡ b → cond b (Some (position_or_len p xs)) None ≡ None → xs ≡ without_first p xs
    by true less e = absurd cc
    by false more e =
        let past : length xs ≤ position_or_len p xs = grind (arith, nat_tests) in
        let past_it : length xs ≤ suc (position_or_len p xs) = omega arith in
        sym (ap (λ ys. ys ++ drop (suc (position_or_len p xs)) xs) (take_all (position_or_len p xs) xs past) ∙ ap (λ ys. xs ++ ys) (drop_all (suc (position_or_len p xs)) xs past_it) ∙ append-nil xs) ∙ remove_is p xs
