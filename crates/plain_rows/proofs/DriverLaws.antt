-- The rows of a driver: one row more; and how often a row with a unit is among them.
use Rattle.std.proofs.Common.{◌≡◌, ℕ, zero, suc, ◌+◌, ◌<◌, ◌≤◌, Bool, true, false, ◌&&◌, ◌==◌, nat_lt, List, [], ◌∷◌, ◌++◌, length, filter, Option, Some, None, get_or, slice_get, slice_index_or, slice_set, drop, cond, sym, ◌∙◌, ap, add-one, add-zero, append-nil, zero-add, refl, eq-eqb, arith}
use Rattle.std.specs.List.{count_by}
use Rattle.std.specs.Option.{option_map_or}
use Rattle.std.proofs.lemmas.Bool.{eqb-true, false≢true}
use Rattle.std.proofs.lemmas.Bool.Decides.{nat_tests}
use Rattle.std.proofs.lemmas.List.{drop_more, get_or-set_other, get_or-set_same}
use Rattle.std.proofs.lemmas.List.Elements.{filter-append}
use Rattle.std.proofs.lemmas.List.Sums.{sum_by-append}
use Rattle.std.proofs.lemmas.Option.{slice_get_read, slice_get_within}
use Rattle.cf_types.specs.declared.tables.Row.{Row}
use Rattle.cf_types.specs.Numbers.{below}
use Rattle.plain_rows.specs.Drivers.{AreByDriver, is_driven, rows_driven}
use Rattle.plain_rows.specs.Taken.{has_unit, is_of, one_if, times}

-- the rows of a driver among one row more
pub driven_more : (rows : List Row) (driver i : ℕ) (row : Row) → i < length rows → row ≡ get_or rows i row
    → filter (is_driven rows driver) (below (i + 1)) ≡ filter (is_driven rows driver) (below i) ++ cond (row.device == driver) (i ∷ []) []
driven_more rows driver i row lt at =
    rw add-one (filter-append (is_driven rows driver) (below i) (i ∷ []))
    ∙ ap (λ (o : Option Row). filter (is_driven rows driver) (below i) ++ cond (option_map_or (λ r. r.device == driver) o false) (i ∷ []) []) (slice_get_read rows (length rows) i row refl lt at)

-- ---- how often a row is among the numbers that pass a test

abbrev hits : (ℕ → Bool) → ℕ → ℕ → ℕ
hits u r q = cond (q == r && u q) 1 0

count_last : (u : ℕ → Bool) (r n : ℕ) (xs : List ℕ) → count_by (λ q. q == r && u q) (xs ++ n ∷ []) ≡ count_by (λ q. q == r && u q) xs + hits u r n
count_last u r n xs = omega (arith, sum_by-append (hits u r) xs (n ∷ []))

last_kept : (p u : ℕ → Bool) (r n : ℕ) (xs : List ℕ) → count_by (λ q. q == r && u q) (xs ++ cond (p n) (n ∷ []) []) ≡ count_by (λ q. q == r && u q) xs + one_if (n == r && (p r && u r))
last_kept p u r n xs = by (p n) refl (n == r) refl
  where
    by : (b : Bool) → p n ≡ b → (s : Bool) → (n == r) ≡ s → count_by (λ q. q == r && u q) (xs ++ cond b (n ∷ []) []) ≡ count_by (λ q. q == r && u q) xs + one_if (s && (p r && u r))
    by true e true same =
        let is : n ≡ r = eqb-true n r same in
        count_last u r n xs
        ∙ ap (λ (k : ℕ). count_by (λ q. q == r && u q) xs + k)
        (ap (λ (c : Bool). one_if (c && u n)) same ∙ ap (λ (i : ℕ). one_if (u i)) is ∙ ap (λ (c : Bool). one_if (c && u r)) (sym (ap p (sym is) ∙ e)))
    by true e false other = count_last u r n xs ∙ ap (λ (c : Bool). count_by (λ q. q == r && u q) xs + one_if (c && u n)) other
    by false e true same =
        let is : n ≡ r = eqb-true n r same in
        ap (λ (ys : List ℕ). count_by (λ q. q == r && u q) ys) (append-nil xs)
        ∙ sym (ap (λ (c : Bool). count_by (λ q. q == r && u q) xs + one_if (c && u r)) (ap p (sym is) ∙ e) ∙ add-zero (count_by (λ q. q == r && u q) xs))
    by false e false other = ap (λ (ys : List ℕ). count_by (λ q. q == r && u q) ys) (append-nil xs) ∙ sym (add-zero (count_by (λ q. q == r && u q) xs))

sum_is : (b : Bool) (n r m : ℕ) → m ≡ suc n → one_if (nat_lt r n && b) + one_if (n == r && b) ≡ one_if (nat_lt r m && b)
sum_is b n r m e = by (nat_lt r n) (n == r) (nat_lt r m) b refl refl refl
  where
    by : (less same more b : Bool) → nat_lt r n ≡ less → (n == r) ≡ same → nat_lt r m ≡ more → one_if (less && b) + one_if (same && b) ≡ one_if (more && b)
    by true false true true p q s = refl
    by true false true false p q s = refl
    by false true true true p q s = refl
    by false true true false p q s = refl
    by false false false true p q s = refl
    by false false false false p q s = refl
    by true true more b p q s = grind (arith, nat_tests)
    by true false false b p q s = grind (arith, nat_tests)
    by false true false b p q s = grind (arith, nat_tests)
    by false false true b p q s = grind (arith, nat_tests)

once : (p u : ℕ → Bool) (n r : ℕ) → count_by (λ q. q == r && u q) (filter p (below n)) ≡ one_if (nat_lt r n && (p r && u r))
once p u zero r = let e : nat_lt r 0 ≡ false = grind (arith, nat_tests) in sym (ap (λ (c : Bool). one_if (c && (p r && u r))) e)
once p u (suc n) r =
    ap (λ (ys : List ℕ). count_by (λ q. q == r && u q) ys) (filter-append p (below n) (n ∷ []))
    ∙ last_kept p u r n (filter p (below n))
    ∙ ap (λ (k : ℕ). k + one_if (n == r && (p r && u r))) (once p u n r)
    ∙ sum_is (p r && u r) n r (suc n) refl

turned : (a b : ℕ) → (a == b) ≡ (b == a)
turned a b = grind (arith, nat_tests)

-- a row is once among those of its driver, where it has the unit
pub once_driven : (rows : List Row) (driver unit r : ℕ) → times rows unit (rows_driven rows driver) r ≡ one_if (is_of rows driver unit r)
once_driven rows driver unit r = once (is_driven rows driver) (has_unit rows unit) (length rows) r ∙ by (slice_get rows r) refl
  where
    none : (b : Bool) → one_if (b && false) ≡ 0
    none true = refl
    none false = refl

    by : (o : Option Row) → slice_get rows r ≡ o
        → one_if (nat_lt r (length rows) && (option_map_or (λ row. row.device == driver) o false && option_map_or (λ row. unit == row.unit) o false))
        ≡ one_if (option_map_or (λ row. driver == row.device && unit == row.unit) o false)
    by None e = none (nat_lt r (length rows))
    by (Some row) e =
        let lt : r < length rows = slice_get_within rows r row e in
        let here : nat_lt r (length rows) ≡ true = grind (arith, nat_tests) in
        ap (λ (c : Bool). one_if (c && (row.device == driver && unit == row.unit))) here ∙ ap (λ (c : Bool). one_if (c && unit == row.unit)) (turned row.device driver)

-- ---- the numbers of rows, one of the list more

pub unit_within : (rows : List Row) (unit q : ℕ) → has_unit rows unit q ≡ true → q < length rows
unit_within rows unit q h = by (slice_get rows q) refl
  where
    by : (o : Option Row) → slice_get rows q ≡ o → q < length rows
    by None e = let no : false ≡ true = rw e at h in absurd cc
    by (Some row) e = slice_get_within rows q row e

times_first : (rows : List Row) (unit q : ℕ) (list : List ℕ) (r : ℕ) → times rows unit (q ∷ list) r ≡ hits (has_unit rows unit) r q + times rows unit list r
times_first rows unit q list r = omega (arith, sum_by-append (hits (has_unit rows unit) r) (q ∷ []) list)

times_more : (rows : List Row) (unit : ℕ) (list : List ℕ) (i d r : ℕ) → i < length list → times rows unit (drop i list) r ≡ hits (has_unit rows unit) r (get_or list i d) + times rows unit (drop (i + 1) list) r
times_more rows unit list i d r lt = ap (λ (ys : List ℕ). times rows unit ys r) (drop_more list i d lt) ∙ times_first rows unit (get_or list i d) (drop (i + 1) list) r

-- a row without the unit counts for nothing
pub passed_by : (rows : List Row) (unit : ℕ) (list : List ℕ) (i d r : ℕ) → i < length list → has_unit rows unit (get_or list i d) ≡ false → times rows unit (drop (i + 1) list) r ≡ times rows unit (drop i list) r
passed_by rows unit list i d r lt h = sym (times_more rows unit list i d r lt ∙ ap (λ (k : ℕ). k + times rows unit (drop (i + 1) list) r) (none (get_or list i d == r) (has_unit rows unit (get_or list i d)) h) ∙ zero-add (times rows unit (drop (i + 1) list) r))
  where
    none : (a b : Bool) → b ≡ false → one_if (a && b) ≡ 0
    none true b e = rw e refl
    none false b e = refl

-- one with it counts once
pub counted : (rows : List Row) (unit : ℕ) (list : List ℕ) (i d r : ℕ) → i < length list → has_unit rows unit (get_or list i d) ≡ true
    → times rows unit (drop i list) r ≡ one_if (get_or list i d == r) + times rows unit (drop (i + 1) list) r
counted rows unit list i d r lt h = times_more rows unit list i d r lt ∙ ap (λ (k : ℕ). k + times rows unit (drop (i + 1) list) r) (one (get_or list i d == r) (has_unit rows unit (get_or list i d)) h)
  where
    one : (a b : Bool) → b ≡ true → one_if (a && b) ≡ one_if a
    one true b e = rw e refl
    one false b e = refl

-- a number is set at a place
pub set_at : (old : List ℕ) (q v r : ℕ) → q < length old → slice_index_or (slice_set old q v) r 0 ≡ cond (q == r) v (slice_index_or old r 0)
set_at old q v r lt = by (q == r) refl
  where
    by : (b : Bool) → (q == r) ≡ b → slice_index_or (slice_set old q v) r 0 ≡ cond b v (slice_index_or old r 0)
    by true e = let same : q ≡ r = eqb-true q r e in ap (λ (i : ℕ). slice_index_or (slice_set old q v) i 0) (sym same) ∙ get_or-set_same old q v 0 lt
    by false e = get_or-set_other old q r v 0 (λ s. false≢true (sym e ∙ eq-eqb q r (sym s)))

pub raised : (rows : List Row) (unit : ℕ) (list : List ℕ) (i : ℕ) (old new : List ℕ) (r all : ℕ) → i < length list → has_unit rows unit (get_or list i 0) ≡ true → length old ≡ length rows
    → new ≡ slice_set old (get_or list i 0) (get_or old (get_or list i 0) 0 + 1) → slice_index_or old r 0 + times rows unit (drop i list) r ≡ all
    → slice_index_or new r 0 + times rows unit (drop (i + 1) list) r ≡ all
raised rows unit list i old new r all lt h size set is = by (get_or list i 0 == r) refl
  where
    within : get_or list i 0 < length old
    within = let less : get_or list i 0 < length rows = unit_within rows unit (get_or list i 0) h in omega (arith, size)

    here : slice_index_or new r 0 ≡ cond (get_or list i 0 == r) (get_or old (get_or list i 0) 0 + 1) (slice_index_or old r 0)
    here = ap (λ (xs : List ℕ). slice_index_or xs r 0) set ∙ set_at old (get_or list i 0) (get_or old (get_or list i 0) 0 + 1) r within

    by : (b : Bool) → (get_or list i 0 == r) ≡ b → slice_index_or new r 0 + times rows unit (drop (i + 1) list) r ≡ all
    by true e =
        let same : get_or list i 0 ≡ r = eqb-true (get_or list i 0) r e in
        let one : slice_index_or new r 0 ≡ slice_index_or old r 0 + 1 = here ∙ ap (λ (b : Bool). cond b (get_or old (get_or list i 0) 0 + 1) (slice_index_or old r 0)) e ∙ ap (λ (k : ℕ). get_or old k 0 + 1) same in
        let more : times rows unit (drop i list) r ≡ 1 + times rows unit (drop (i + 1) list) r = counted rows unit list i 0 r lt h ∙ ap (λ (b : Bool). one_if b + times rows unit (drop (i + 1) list) r) e in
        omega (arith, one, more, is)
    by false e =
        let kept : slice_index_or new r 0 ≡ slice_index_or old r 0 = here ∙ ap (λ (b : Bool). cond b (get_or old (get_or list i 0) 0 + 1) (slice_index_or old r 0)) e in
        let more : times rows unit (drop i list) r ≡ 0 + times rows unit (drop (i + 1) list) r = counted rows unit list i 0 r lt h ∙ ap (λ (b : Bool). one_if b + times rows unit (drop (i + 1) list) r) e in
        omega (arith, kept, more, is)

-- how often a row is among the rows of a driver, as they are listed
pub listed_times : (rows table : List Row) (lists : List (List ℕ)) (listed : List ℕ) (driver unit r : ℕ) → rows ≡ table → AreByDriver table lists
    → listed ≡ slice_index_or lists driver [] → times rows unit listed r ≡ one_if (is_of table driver unit r)
listed_times rows table lists listed driver unit r same by is =
    ap (λ (xs : List Row). times xs unit listed r) same ∙ ap (λ (xs : List ℕ). times table unit xs r) (is ∙ by driver) ∙ once_driven table driver unit r

pub at_most_one : (b : Bool) → one_if b ≤ 1
at_most_one true = omega arith
at_most_one false = omega arith
