-- The last seat of those of the first callers.
use Rattle.std.proofs.Common.{◌≡◌, ℕ, zero, suc, List, [], ◌∷◌, ◌++◌, length, sym, refl, ap, ◌∙◌, length-append, arith, ◌+◌}
use Rattle.atomic_table.specs.Seated.{TableId}
use Rattle.lease_table.specs.Shown.{SeatShown, first_seat, first_seats}
use Rattle.board_lock.specs.Seats.{fresh_seat, seats_below}

abbrev front : List SeatShown → List SeatShown
front [] = []
front (x ∷ []) = []
front (x ∷ y ∷ xs) = x ∷ front (y ∷ xs)

abbrev end : SeatShown → List SeatShown → SeatShown
end d [] = d
end d (x ∷ xs) = end x xs

front_of : (xs : List SeatShown) (a : SeatShown) → front (xs ++ a ∷ []) ≡ xs
front_of [] a = refl
front_of (x ∷ []) a = refl
front_of (x ∷ y ∷ xs) a = ap (λ (z : List SeatShown). x ∷ z) (front_of (y ∷ xs) a)

end_of : (d : SeatShown) (xs : List SeatShown) (a : SeatShown) → end d (xs ++ a ∷ []) ≡ a
end_of d [] a = refl
end_of d (x ∷ xs) a = end_of x xs a

pub record Last (z : TableId) (n : ℕ) (xs : List SeatShown) (s : SeatShown) : Type 0 where
  pub before : xs ≡ first_seats z n (length xs)
  pub seat : s ≡ first_seat z n (suc (length xs))

pub last_seat : (z : TableId) (n : ℕ) (all xs : List SeatShown) (s : SeatShown) → all ≡ first_seats z n (length all) → all ≡ xs ++ s ∷ [] → Last z n xs s
last_seat z n all xs s first is =
    let long : length all ≡ suc (length xs) = ap length is ∙ (length-append xs (s ∷ []) ∙ next (length xs)) in
    let same : xs ++ s ∷ [] ≡ first_seats z n (length xs) ++ first_seat z n (suc (length xs)) ∷ [] = sym is ∙ (first ∙ ap (first_seats z n) long) in
    record {
      before = sym (front_of xs s) ∙ (ap front same ∙ front_of (first_seats z n (length xs)) (first_seat z n (suc (length xs))));
      seat = sym (end_of s xs s) ∙ (ap (end s) same ∙ end_of s (first_seats z n (length xs)) (first_seat z n (suc (length xs))));
    }
  where
    next : (k : ℕ) → k + 1 ≡ suc k
    next k = omega arith

pub length_seats : (z : TableId) (n k : ℕ) → length (first_seats z n k) ≡ k
length_seats z n zero = refl
length_seats z n (suc k) = length-append (first_seats z n k) (first_seat z n (suc k) ∷ []) ∙ (ap (λ (m : ℕ). m + 1) (length_seats z n k) ∙ next k)
  where
    next : (k : ℕ) → k + 1 ≡ suc k
    next k = omega arith

pub length_last : (all xs : List SeatShown) (s : SeatShown) → all ≡ xs ++ s ∷ [] → length all ≡ suc (length xs)
length_last all xs s is = ap length is ∙ (length-append xs (s ∷ []) ∙ next (length xs))
  where
    next : (k : ℕ) → k + 1 ≡ suc k
    next k = omega arith

pub length_below : (n k : ℕ) → length (seats_below n k) ≡ k
length_below n zero = refl
length_below n (suc k) = length-append (seats_below n k) (fresh_seat n (suc k) ∷ []) ∙ (ap (λ (m : ℕ). m + 1) (length_below n k) ∙ next k)
  where
    next : (k : ℕ) → k + 1 ≡ suc k
    next k = omega arith
