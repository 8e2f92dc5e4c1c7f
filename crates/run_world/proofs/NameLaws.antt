-- Which digits spell a number, and which name a device has.
use Rattle.std.proofs.Common.{◌≡◌, ◌≢◌, ◌<◌, ◌≤◌, ◌+◌, ◌-◌, ◌%◌, ◌/◌, ◌^◌, ◌∙◌, ℕ, zero, suc, Bool, true, false, ◌&&◌, ◌==◌, List, [], ◌∷◌, ◌++◌, length, get_or, take, drop, bytes_eq, decimal, refl, sym, ap, arith, inl, inr, eq-eqb, ne_eqb, append_assoc, length-append, drop-cons}
use Rattle.std.proofs.lemmas.Bool.{and_parts, cases_lt, eqb-true}
use Rattle.std.proofs.lemmas.Fmt.{decimal_digit, decimal_step, decimal_nonempty}
use Rattle.std.proofs.lemmas.List.{take-append-drop}
use Rattle.std.proofs.lemmas.Slice.Eq.{bytes_eq-Decides}

-- two truth values of which each follows from the other
pub same_truth : (a b : Bool) → (a ≡ true → b ≡ true) → (b ≡ true → a ≡ true) → a ≡ b
same_truth true b f g = sym (f refl)
same_truth false true f g = g refl
same_truth false false f g = refl

pub not_equal : (xs ys : List ℕ) → xs ≢ ys → bytes_eq xs ys ≡ false
not_equal xs ys h = same_truth (bytes_eq xs ys) false (λ e. absurd (h ((bytes_eq-Decides xs ys).0 e))) (λ e. absurd cc)

pub equal_to : (xs ys : List ℕ) → bytes_eq xs ys ≡ true → xs ≡ ys
equal_to xs ys = (bytes_eq-Decides xs ys).0

pub equal_from : (xs ys : List ℕ) → xs ≡ ys → bytes_eq xs ys ≡ true
equal_from xs ys = (bytes_eq-Decides xs ys).1

-- ---- texts by their last bytes

ends_alike : (xs ys : List ℕ) (x y : ℕ) → xs ++ x ∷ [] ≡ ys ++ y ∷ [] → (y ≡ x) × (xs ≡ ys)
ends_alike [] [] x y e = let same : x ≡ y = cc in (sym same, refl)
ends_alike [] (b ∷ ys) x y e = absurd (omega (arith, ap length e, length-append ys (y ∷ [])))
ends_alike (a ∷ xs) [] x y e = absurd (omega (arith, ap length e, length-append xs (x ∷ [])))
ends_alike (a ∷ xs) (b ∷ ys) x y e =
    let heads : a ≡ b = cc in
    let tails : xs ++ x ∷ [] ≡ ys ++ y ∷ [] = cc in
    let more = ends_alike xs ys x y tails in
    (more.0, ap (λ (c : ℕ). c ∷ xs) heads ∙ ap (λ (zs : List ℕ). b ∷ zs) more.1)

by_ends : (xs ys : List ℕ) (x y : ℕ) → bytes_eq (xs ++ x ∷ []) (ys ++ y ∷ []) ≡ ((y == x) && bytes_eq xs ys)
by_ends xs ys x y =
    same_truth _ _ (λ e. let parts = ends_alike xs ys x y (equal_to _ _ e) in rw (eq-eqb y x parts.0, equal_from xs ys parts.1) refl)
    (λ e. let parts = and_parts (y == x) (bytes_eq xs ys) e in
    equal_from _ _ (ap (λ (zs : List ℕ). zs ++ x ∷ []) (equal_to xs ys parts.1) ∙ ap (λ (z : ℕ). ys ++ z ∷ []) (sym (eqb-true y x parts.0))))

-- ---- a text with a decimal number behind it

pub none_named : (front : List ℕ) (v : ℕ) (name : List ℕ) → v < 2 ^ 32 → length name < 1 → bytes_eq (front ++ decimal v) name ≡ false
none_named front v name low few =
    not_equal (front ++ decimal v) name (λ e. omega (arith, few, ap length e, length-append front (decimal v), decimal_nonempty v (omega (arith, low))))

over_all : {A : Type 0} (xs : List A) (n : ℕ) → length xs ≤ n → drop n xs ≡ []
over_all [] zero h = refl
over_all [] (suc n) h = refl
over_all (x ∷ xs) zero h = absurd (omega (arith, h))
over_all (x ∷ xs) (suc n) h = over_all xs n (omega (arith, h))

-- a text as all but its last byte, and that one
by_last : (ds : List ℕ) → 1 ≤ length ds → take (length ds - 1) ds ++ get_or ds (length ds - 1) 0 ∷ [] ≡ ds
by_last ds some =
    let n : ℕ = length ds - 1 in
    let over : drop (suc n) ds ≡ [] = over_all ds (suc n) (omega (arith, some)) in
    let end : drop n ds ≡ get_or ds n 0 ∷ [] = drop-cons ds n 0 (omega (arith, some)) ∙ ap (λ (xs : List ℕ). get_or ds n 0 ∷ xs) over in
    ap (λ (xs : List ℕ). take n ds ++ xs) (sym end) ∙ take-append-drop n ds

pub last_digit : (front : List ℕ) (v : ℕ) (name : List ℕ) → v < 10 → 1 ≤ length name → get_or name (length name - 1) 0 ≡ 48 + v % 10
    → bytes_eq (front ++ decimal v) name ≡ bytes_eq front (take (length name - 1) name)
last_digit front v name low some is =
    let rest : List ℕ = take (length name - 1) name in
    let here : get_or name (length name - 1) 0 ≡ 48 + v = is ∙ omega (arith, low) in
    ap (bytes_eq (front ++ decimal v)) (sym (by_last name some))
    ∙ ap (λ (xs : List ℕ). bytes_eq (front ++ xs) (rest ++ get_or name (length name - 1) 0 ∷ [])) (decimal_digit v low)
    ∙ by_ends front rest (48 + v) (get_or name (length name - 1) 0)
    ∙ ap (λ b. b && bytes_eq front rest) (eq-eqb _ _ here)

named_by_last : (front : List ℕ) (v : ℕ) (name : List ℕ) → 10 ≤ v → v < 2 ^ 32 → 1 ≤ length name
    → bytes_eq (front ++ decimal v) name ≡ ((get_or name (length name - 1) 0 == 48 + v % 10) && bytes_eq (front ++ decimal (v / 10)) (take (length name - 1) name))
named_by_last front v name high low some =
    let rest : List ℕ = take (length name - 1) name in
    ap (bytes_eq (front ++ decimal v)) (sym (by_last name some))
    ∙ ap (λ (xs : List ℕ). bytes_eq xs (rest ++ get_or name (length name - 1) 0 ∷ []))
    (ap (λ (xs : List ℕ). front ++ xs) (decimal_step v high (omega (arith, low))) ∙ sym (append_assoc front (decimal (v / 10)) ((48 + v % 10) ∷ [])))
    ∙ by_ends (front ++ decimal (v / 10)) rest (48 + v % 10) (get_or name (length name - 1) 0)

pub more_digits : (front : List ℕ) (v : ℕ) (name : List ℕ) → 10 ≤ v → v < 2 ^ 32 → 1 ≤ length name → get_or name (length name - 1) 0 ≡ 48 + v % 10
    → bytes_eq (front ++ decimal v) name ≡ bytes_eq (front ++ decimal (v / 10)) (take (length name - 1) name)
more_digits front v name high low some is =
    named_by_last front v name high low some ∙ ap (λ b. b && bytes_eq (front ++ decimal (v / 10)) (take (length name - 1) name)) (eq-eqb _ _ is)

not_last : (front : List ℕ) (v : ℕ) (name : List ℕ) → v < 2 ^ 32 → 1 ≤ length name → get_or name (length name - 1) 0 ≢ 48 + v % 10 → front ++ decimal v ≢ name
not_last front v name low some isnt = elim (cases_lt v 10) [ inl one ↦ λ e. isnt (alone one e) | inr more ↦ λ e. isnt (last more e) ]
  where
    alone : v < 10 → front ++ decimal v ≡ name → get_or name (length name - 1) 0 ≡ 48 + v % 10
    alone one e =
        let ends : (get_or name (length name - 1) 0 == 48 + v) && bytes_eq front (take (length name - 1) name) ≡ true =
        sym (ap (bytes_eq (front ++ decimal v)) (sym (by_last name some))
        ∙ ap (λ (xs : List ℕ). bytes_eq (front ++ xs) (take (length name - 1) name ++ get_or name (length name - 1) 0 ∷ [])) (decimal_digit v one)
        ∙ by_ends front (take (length name - 1) name) (48 + v) (get_or name (length name - 1) 0))
        ∙ equal_from (front ++ decimal v) name e in
        eqb-true _ _ (and_parts _ _ ends).0 ∙ omega (arith, one)

    last : 10 ≤ v → front ++ decimal v ≡ name → get_or name (length name - 1) 0 ≡ 48 + v % 10
    last more e = eqb-true _ _ (and_parts _ _ (sym (named_by_last front v name more low some) ∙ equal_from (front ++ decimal v) name e)).0

pub other_digit : (front : List ℕ) (v last zero_digit : ℕ) (name : List ℕ) → v < 2 ^ 32 → 1 ≤ length name → last ≡ get_or name (length name - 1) 0 → zero_digit ≡ 48
    → last ≢ zero_digit + v % 10 → bytes_eq (front ++ decimal v) name ≡ (last == zero_digit + v % 10)
other_digit front v last zero_digit name low some here is isnt =
    not_equal (front ++ decimal v) name (not_last front v name low some (λ e. isnt (here ∙ e ∙ ap (λ z. z + v % 10) (sym is)))) ∙ sym (ne_eqb last (zero_digit + v % 10) isnt)
