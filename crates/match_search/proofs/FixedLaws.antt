-- The rows without a star by device and unit: one row more, and the rows that are set.
use Rattle.std.proofs.Common.{◌≡◌, ℕ, zero, suc, ◌+◌, ◌<◌, Bool, true, false, not, ◌&&◌, ◌||◌, ◌==◌, cond, List, [], ◌∷◌, ◌++◌, length, get_or, slice_set, refl, sym, ◌∙◌, ap, inl, inr, eq-eqb, arith}
use Rattle.std.specs.Global.{Global}
use Rattle.std.specs.Prelude.{Vec}
use Rattle.std.specs.Option.{option_map_or}
use Rattle.std.proofs.lemmas.Bool.{cases_lt, eqb-true, false≢true}
use Rattle.std.proofs.lemmas.List.{ext_get_or, get_or-set_other, get_or-set_same, length-set}
use Rattle.cf_types.proofs.OfferLemmas.{is_in-append}
use Rattle.cf_types.specs.declared.tables.Row.{Row}
use Rattle.cf_types.specs.Gather.{is_in}
use Rattle.match_search.specs.Fixed.{AreFixed, HasToo, fixed_in, hits, hits_at, lists_of, place_in, rows_set}
use Rattle.std.proofs.lemmas.Option.{slice_get_read}
use Rattle.match_search.proofs.PlacedLaws.{in_left, in_right}

-- ---- one row more

pub lists_set : (lists : List (Vec ℕ Global)) (i : ℕ) (list : Vec ℕ Global) → lists_of (slice_set lists i list) ≡ slice_set (lists_of lists) i list.items
lists_set [] i list = refl
lists_set (l ∷ lists) zero list = refl
lists_set (l ∷ lists) (suc i) list = ap (λ ls. l.items ∷ ls) (lists_set lists i list)

-- a row that hits is of the device and the unit
record Hit (row : Row) (device unit : ℕ) : Type 0 where
  free : row.star ≡ false
  driver : device ≡ row.device
  number : unit ≡ row.unit

hit : (row : Row) (device unit : ℕ) → hits row device unit ≡ true → Hit row device unit
hit row device unit h = by row.star (device == row.device) (unit == row.unit) refl refl refl h
  where
    by : (star one other : Bool) → row.star ≡ star → (device == row.device) ≡ one → (unit == row.unit) ≡ other → (not star && (one && other)) ≡ true → Hit row device unit
    by true one other a b c h = absurd cc
    by false true true a b c h = record { free = a; driver = eqb-true device row.device b; number = eqb-true unit row.unit c }
    by false true false a b c h = absurd cc
    by false false other a b c h = absurd cc

pub self_in : (number : ℕ) (xs : List ℕ) → is_in number (xs ++ number ∷ []) ≡ true
self_in number xs = in_right number xs (number ∷ []) (or_here (number == number) (eq-eqb number number refl))
  where
    or_here : (b : Bool) → b ≡ true → (b || false) ≡ true
    or_here b h = rw h refl

-- a row with a star is in no list
pub too_starred : (lists : List (List ℕ)) (number : ℕ) (row : Row) → row.star ≡ true → HasToo lists lists number row
too_starred lists number row star = record {
  count = refl;
  kept = λ r device unit h. h;
  more = λ device unit h. let it = hit row device unit h in absurd (false≢true (sym it.free ∙ star));
}

-- another one is put into the list of its device and unit
pub too_pushed : (lists : List (List ℕ)) (place number : ℕ) (row : Row) → place < length lists → place ≡ place_in (length lists) row.device row.unit
    → HasToo lists (slice_set lists place (get_or lists place [] ++ number ∷ [])) number row
too_pushed lists place number row lt is = record {
  count = size;
  kept = λ r device unit h.
      ap (λ n. is_in r (get_or new (place_in n device unit) [])) size
      ∙ at r (place_in (length lists) device unit) (place == place_in (length lists) device unit) refl h;
  more = λ device unit h.
      let it = hit row device unit h in
      let there : place_in (length lists) device unit ≡ place = rw (it.driver, it.number) (sym is) in
      ap (λ n. is_in number (get_or new (place_in n device unit) [])) size
      ∙ ap (λ p. is_in number (get_or new p [])) there
      ∙ ap (is_in number) (get_or-set_same lists place list [] lt)
      ∙ self_in number (get_or lists place []);
}
  where
    list : List ℕ
    list = get_or lists place [] ++ number ∷ []

    new : List (List ℕ)
    new = slice_set lists place list

    size : length new ≡ length lists
    size = length-set lists place list

    at : (r p : ℕ) (b : Bool) → (place == p) ≡ b → is_in r (get_or lists p []) ≡ true → is_in r (get_or new p []) ≡ true
    at r p true e h =
        let here : p ≡ place = sym (eqb-true place p e) in
        ap (λ q. is_in r (get_or new q [])) here
        ∙ ap (is_in r) (get_or-set_same lists place list [] lt)
        ∙ in_left r (get_or lists place []) (number ∷ []) (ap (λ q. is_in r (get_or lists q [])) (sym here) ∙ h)
    at r p false e h = ap (is_in r) (get_or-set_other lists place p list [] (λ q. false≢true (sym e ∙ eq-eqb place p (sym q)))) ∙ h

-- the rows before an index are in their lists
pub record AreIn (rows : List Row) (n : ℕ) (lists : List (List ℕ)) : Type 0 where
  pub some : 0 < length lists
  pub all : (r device unit : ℕ) → r < n → hits_at rows r device unit ≡ true → is_in r (fixed_in lists device unit) ≡ true

pub none_in : (rows : List Row) (lists : List (List ℕ)) → 0 < length lists → AreIn rows 0 lists
none_in rows lists some = record { some = some; all = λ r device unit lt h. absurd (omega arith) }

pub one_in : (rows : List Row) (n : ℕ) (row : Row) (old new : List (List ℕ)) → n < length rows → row ≡ get_or rows n row → AreIn rows n old → HasToo old new n row → AreIn rows (n + 1) new
one_in rows n row old new lt at before too = record {
  some = omega (arith, before.some, too.count);
  all = λ r device unit less h. elim (cases_lt r n) [
    | inl under ↦ too.kept r device unit (before.all r device unit under h)
    | inr above ↦
        let here : r ≡ n = omega arith in
        let this : hits row device unit ≡ true = sym (ap (λ o. option_map_or (λ x. hits x device unit) o false) (slice_get_read rows (length rows) n row refl lt at)) ∙ ap (λ i. hits_at rows i device unit) (sym here) ∙ h in
        ap (λ i. is_in i (fixed_in new device unit)) here ∙ too.more device unit this
  ];
}

-- a row that hits is one of the rows
pub within : (rows : List Row) (r device unit : ℕ) → hits_at rows r device unit ≡ true → r < length rows
within [] r device unit h = absurd cc
within (x ∷ rows) zero device unit h = omega arith
within (x ∷ rows) (suc r) device unit h = let lt = within rows r device unit h in omega (arith, lt)

pub all_in : (rows : List Row) (n : ℕ) (lists : List (List ℕ)) → n ≡ length rows → AreIn rows n lists → AreFixed rows lists
all_in rows n lists end it = record {
  some = it.some;
  all = λ r device unit h. let lt = within rows r device unit h in it.all r device unit (omega arith) h;
}

-- ---- the rows that are set

-- of the rows in a list those of the device and the unit say whether they are live, and each other one what it said
pub record AreSet (rows : List Row) (old new : List Bool) (list : List ℕ) (device unit : ℕ) (live : Bool) : Type 0 where
  pub count : length new ≡ length old
  pub each : (r : ℕ) → r < length old → get_or new r false ≡ cond (hits_at rows r device unit && is_in r list) live (get_or old r false)

and_false : (b : Bool) → (b && false) ≡ false
and_false true = refl
and_false false = refl

pub none_set : (rows : List Row) (old : List Bool) (device unit : ℕ) (live : Bool) → AreSet rows old old [] device unit live
none_set rows old device unit live = record {
  count = refl;
  each = λ r lt. sym (ap (λ b. cond b live (get_or old r false)) (and_false (hits_at rows r device unit)));
}

-- one row more of the list: another row is in the longer list where it was in the shorter one
other_in : (r q : ℕ) (list : List ℕ) → (q == r) ≡ false → is_in r (list ++ q ∷ []) ≡ is_in r list
other_in r q list e = is_in-append r list (q ∷ []) ∙ ap (λ b. is_in r list || (b || false)) e ∙ or_false (is_in r list)
  where
    or_false : (b : Bool) → (b || false) ≡ b
    or_false true = refl
    or_false false = refl

pub hit_set : (rows : List Row) (old new : List Bool) (list : List ℕ) (q device unit : ℕ) (live : Bool) → length old ≡ length rows
    → hits_at rows q device unit ≡ true → AreSet rows old new list device unit live → AreSet rows old (slice_set new q live) (list ++ q ∷ []) device unit live
hit_set rows old new list q device unit live same h it = record {
  count = length-set new q live ∙ it.count;
  each = λ r lt. by r lt (q == r) refl;
}
  where
    inside : q < length new
    inside = let lt = within rows q device unit h in omega (arith, lt, it.count, same)

    by : (r : ℕ) → r < length old → (b : Bool) → (q == r) ≡ b → get_or (slice_set new q live) r false ≡ cond (hits_at rows r device unit && is_in r (list ++ q ∷ [])) live (get_or old r false)
    by r lt true e =
        let here : r ≡ q = sym (eqb-true q r e) in
        ap (λ i. get_or (slice_set new q live) i false) here
        ∙ get_or-set_same new q live false inside
        ∙ sym (
        ap (λ i. cond (hits_at rows i device unit && is_in i (list ++ q ∷ [])) live (get_or old i false)) here
        ∙ ap (λ b. cond (b && is_in q (list ++ q ∷ [])) live (get_or old q false)) h
        ∙ ap (λ b. cond b live (get_or old q false)) (self_in q list)
        )
    by r lt false e =
        get_or-set_other new q r live false (λ p. false≢true (sym e ∙ eq-eqb q r (sym p)))
        ∙ it.each r lt
        ∙ sym (ap (λ b. cond (hits_at rows r device unit && b) live (get_or old r false)) (other_in r q list e))

pub miss_set : (rows : List Row) (old new : List Bool) (list : List ℕ) (q device unit : ℕ) (live : Bool)
    → hits_at rows q device unit ≡ false → AreSet rows old new list device unit live → AreSet rows old new (list ++ q ∷ []) device unit live
miss_set rows old new list q device unit live h it = record {
  count = it.count;
  each = λ r lt. it.each r lt ∙ by r (q == r) refl;
}
  where
    by : (r : ℕ) (b : Bool) → (q == r) ≡ b → cond (hits_at rows r device unit && is_in r list) live (get_or old r false) ≡ cond (hits_at rows r device unit && is_in r (list ++ q ∷ [])) live (get_or old r false)
    by r true e =
        let none : hits_at rows r device unit ≡ false = ap (λ i. hits_at rows i device unit) (sym (eqb-true q r e)) ∙ h in
        ap (λ b. cond (b && is_in r list) live (get_or old r false)) none
        ∙ sym (ap (λ b. cond (b && is_in r (list ++ q ∷ [])) live (get_or old r false)) none)
    by r false e = sym (ap (λ b. cond (hits_at rows r device unit && b) live (get_or old r false)) (other_in r q list e))

set_count : (rows : List Row) (old : List Bool) (device unit : ℕ) (live : Bool) → length old ≡ length rows → length (rows_set rows old device unit live) ≡ length old
set_count [] [] device unit live same = refl
set_count [] (b ∷ bs) device unit live same = absurd (omega (arith, same))
set_count (x ∷ xs) [] device unit live same = absurd (omega (arith, same))
set_count (x ∷ xs) (b ∷ bs) device unit live same = ap suc (set_count xs bs device unit live (omega (arith, same)))

set_at : (rows : List Row) (old : List Bool) (device unit : ℕ) (live : Bool) (r : ℕ) → length old ≡ length rows → r < length old
    → get_or (rows_set rows old device unit live) r false ≡ cond (hits_at rows r device unit) live (get_or old r false)
set_at [] old device unit live r same lt = absurd (omega (arith, same))
set_at (x ∷ xs) [] device unit live r same lt = absurd (omega arith)
set_at (x ∷ xs) (b ∷ bs) device unit live zero same lt = refl
set_at (x ∷ xs) (b ∷ bs) device unit live (suc r) same lt = set_at xs bs device unit live r (omega (arith, same)) (omega arith)

-- where all that hit are in the list, these are the rows as they are set
pub all_set : (rows : List Row) (old new : List Bool) (list : List ℕ) (device unit : ℕ) (live : Bool) → length old ≡ length rows
    → ((r : ℕ) → hits_at rows r device unit ≡ true → is_in r list ≡ true) → AreSet rows old new list device unit live → new ≡ rows_set rows old device unit live
all_set rows old new list device unit live same all it =
    ext_get_or false new (rows_set rows old device unit live) (it.count ∙ sym (set_count rows old device unit live same)) (λ r lt.
    let less : r < length old = omega (arith, it.count) in
    it.each r less ∙ by r (hits_at rows r device unit) refl ∙ sym (set_at rows old device unit live r same less))
  where
    by : (r : ℕ) (b : Bool) → hits_at rows r device unit ≡ b → cond (hits_at rows r device unit && is_in r list) live (get_or old r false) ≡ cond (hits_at rows r device unit) live (get_or old r false)
    by r true e =
        ap (λ b. cond (b && is_in r list) live (get_or old r false)) e ∙ ap (λ b. cond b live (get_or old r false)) (all r e)
        ∙ sym (ap (λ b. cond b live (get_or old r false)) e)
    by r false e = ap (λ b. cond (b && is_in r list) live (get_or old r false)) e ∙ sym (ap (λ b. cond b live (get_or old r false)) e)
