-- What is told of the rows below a number, one row more; and each row is told or counted.
use Rattle.std.proofs.Common.{◌≡◌, ◌≤◌, ◌+◌, ◌∙◌, ℕ, zero, suc, Bool, true, false, not, ◌&&◌, ◌==◌, cond, List, [], ◌∷◌, ◌++◌, filter, map, length, slice_get, Option, Some, None, refl, sym, ap, subst, add-one, arith}
use Rattle.std.specs.List.{Contains, count_by, list_any}
use Rattle.std.specs.Option.{IfSome, option_map_or}
use Rattle.std.proofs.lemmas.Bool.Decides.{nat_tests}
use Rattle.std.proofs.lemmas.List.{length-append, map-append}
use Rattle.std.proofs.lemmas.List.Elements.{filter-append}
use Rattle.std.proofs.lemmas.List.Sums.{sum_by-append}
use Rattle.cf_types.specs.declared.tables.Attach.{Attach}
use Rattle.cf_types.specs.declared.tables.Place.{Place}
use Rattle.cf_types.specs.declared.tables.Row.{Row}
use Rattle.cf_types.specs.Numbers.{below}
use Rattle.cf_types.proofs.ListLemmas.{all_at, slice_get_some}
use Rattle.config_rules.specs.Formed.{FormedRow, FormedTables}
use Rattle.run_rules.specs.declared.world.Dev.{Dev}
use Rattle.run_rules.specs.declared.world.ParentRef.{ParentRef}
use Rattle.run_rules.specs.declared.world.Setup.{Setup}
use Rattle.run_rules.specs.Search.{names_parent, parent_offers, parent_ref}
use Rattle.run_rules.specs.World.{device_at, row_at, same_place}
use Rattle.run_rules.proofs.Free.{winner_below}
use Rattle.match_reasons.specs.declared.reason.RowReason.{RowReason}
use Rattle.match_reasons.specs.Searches.{parent_by}
use Rattle.match_reasons.specs.Laws.{TellsAll}
use Rattle.match_reasons.specs.Reasons.{could_stand, others, reasons, row_reason, spot_place, told_of}
use Rattle.match_reasons.proofs.Finds.{any_at, any_in}
use Rattle.match_reasons.proofs.ReasonLaws.{passes_of, winner_candidate}

-- of the rows below n these are told, and so many are not
pub record HasTold (s : Setup) (live : List Dev) (p : ParentRef) (place : Place) (x n : ℕ) (told : List RowReason) (left : ℕ) : Type 0 where
  pub rows : told ≡ map (row_reason s live p place x) (filter (could_stand s.tables place) (below n))
  pub others : left ≡ count_by (λ r. not (could_stand s.tables place r)) (below n)
  pub low : left ≤ n

filter_last : (f : ℕ → Bool) (n : ℕ) → filter f (below (n + 1)) ≡ filter f (below n) ++ filter f (n ∷ [])
filter_last f n = rw add-one (filter-append f (below n) (n ∷ []))

count_last : (f : ℕ → Bool) (n : ℕ) → count_by f (below (n + 1)) ≡ count_by f (below n) + count_by f (n ∷ [])
count_last f n = rw add-one (sum_by-append (λ r. cond (f r) 1 0) (below n) (n ∷ []))

pub told_none : (s : Setup) (live : List Dev) (p : ParentRef) (place : Place) (x : ℕ) → HasTold s live p place x 0 [] 0
told_none s live p place x = record { rows = refl; others = refl; low = omega arith }

pub told_one : (s : Setup) (live : List Dev) (p : ParentRef) (place : Place) (x n : ℕ) (rows more : List RowReason) (others : ℕ)
    → could_stand s.tables place n ≡ true → more ≡ rows ++ row_reason s live p place x n ∷ [] → HasTold s live p place x n rows others → HasTold s live p place x (n + 1) more others
told_one s live p place x n rows more others could e h =
    let stands : ℕ → Bool = could_stand s.tables place in
    let last : filter stands (n ∷ []) ≡ n ∷ [] = rw could refl in
    let none : count_by (λ r. not (stands r)) (n ∷ []) ≡ 0 = rw could refl in
    record {
      rows = e ∙ ap (λ xs. xs ++ row_reason s live p place x n ∷ []) h.rows
          ∙ sym (ap (map (row_reason s live p place x)) (filter_last stands n ∙ ap (λ xs. filter stands (below n) ++ xs) last)
          ∙ map-append (row_reason s live p place x) (filter stands (below n)) (n ∷ []));
      others = omega (arith, h.others, count_last (λ r. not (stands r)) n, none);
      low = omega (arith, h.low);
    }

pub told_other : (s : Setup) (live : List Dev) (p : ParentRef) (place : Place) (x n : ℕ) (rows : List RowReason) (others : ℕ)
    → could_stand s.tables place n ≡ false → HasTold s live p place x n rows others → HasTold s live p place x (n + 1) rows (others + 1)
told_other s live p place x n rows others could h =
    let stands : ℕ → Bool = could_stand s.tables place in
    let last : filter stands (n ∷ []) ≡ [] = rw could refl in
    let one : count_by (λ r. not (stands r)) (n ∷ []) ≡ 1 = rw could refl in
    record {
      rows = h.rows ∙ sym (ap (map (row_reason s live p place x)) (filter_last stands n ∙ ap (λ xs. filter stands (below n) ++ xs) last ∙ append-nil (filter stands (below n))));
      others = omega (arith, h.others, count_last (λ r. not (stands r)) n, one);
      low = omega (arith, h.low);
    }
  where
    append-nil : {A : Type 0} (xs : List A) → xs ++ [] ≡ xs
    append-nil [] = refl
    append-nil (y ∷ ys) = ap (λ zs. y ∷ zs) (append-nil ys)

-- ---- each row is told or counted

rest_of : (f : ℕ → Bool) (n : ℕ) → length (filter f (below n)) + count_by (λ r. not (f r)) (below n) ≡ n
rest_of f zero = refl
rest_of f (suc n) = at (rest_of f n) (f n) refl
  where
    count : count_by (λ r. not (f r)) (below (suc n)) ≡ count_by (λ r. not (f r)) (below n) + count_by (λ r. not (f r)) (n ∷ [])
    count = sum_by-append (λ r. cond (not (f r)) 1 0) (below n) (n ∷ [])

    kept : length (filter f (below (suc n))) ≡ length (filter f (below n)) + length (filter f (n ∷ []))
    kept = ap length (filter-append f (below n) (n ∷ [])) ∙ length-append (filter f (below n)) (filter f (n ∷ []))

    at : length (filter f (below n)) + count_by (λ r. not (f r)) (below n) ≡ n → (b : Bool) → f n ≡ b → length (filter f (below (suc n))) + count_by (λ r. not (f r)) (below (suc n)) ≡ suc n
    at so_far true h =
        let one : length (filter f (n ∷ [])) ≡ 1 = rw h refl in
        let none : count_by (λ r. not (f r)) (n ∷ []) ≡ 0 = rw h refl in
        omega (arith, so_far, count, kept, one, none)
    at so_far false h =
        let none : length (filter f (n ∷ [])) ≡ 0 = rw h refl in
        let one : count_by (λ r. not (f r)) (n ∷ []) ≡ 1 = rw h refl in
        omega (arith, so_far, count, kept, one, none)

-- ---- the winner is told

same_number : (a b : ℕ) → (a == b) ≡ true → a ≡ b
same_number a b h = grind (arith, nat_tests)

-- a row at the place has an attachment there
placed : (s : Setup) (place : Place) (r : ℕ) (row : Row) → row_at s r ≡ Some row → FormedRow s.tables row → same_place row.place place ≡ true → could_stand s.tables place r ≡ true
placed s place r row there formed same = rw there (by_attach (slice_get s.tables.attaches row.attach) refl formed.attach_of_device formed.listed_place)
  where
    tester : Attach → Bool
    tester = λ a. a.device == row.device && list_any (λ q. same_place q place) a.places

    by_attach : (o : Option Attach) → slice_get s.tables.attaches row.attach ≡ o → option_map_or (λ a. a.device == row.device) o false ≡ true
        → IfSome o (λ a. Contains a.places row.place) → list_any tester s.tables.attaches ≡ true
    by_attach None e device listed = absurd cc
    by_attach (Some a) e device listed =
        let at : list_any (λ q. same_place q place) a.places ≡ true = any_in (λ q. same_place q place) a.places row.place listed same in
        let both : tester a ≡ true = rw (device, at) refl in
        any_at tester s.tables.attaches row.attach a e both

three : (a b c : Bool) → (a && b && c) ≡ true → a ≡ true
three true b c h = refl
three false b c h = absurd cc

pub tells_all : (s : Setup) (live : List Dev) (p : ParentRef) (place : Place) (x : ℕ) → FormedTables s.tables → TellsAll s live p place x
tells_all s live p place x formed = record {
  winner = λ r e.
      let lt = winner_below s live p place x r e in
      let found = slice_get_some s.tables.rows r lt in
      let passes = passes_of s live p place x r found.0 found.1 (winner_candidate s live p place x r e) in
      placed s place r found.0 found.1 (all_at (FormedRow s.tables) s.tables.rows r found.0 formed.rows found.1)
      (three (same_place (found.0).place place) (parent_offers s.tables p place) (names_parent (found.0).parent p) passes.fits);
  rest = rest_of (could_stand s.tables place) (length s.tables.rows);
}

-- ---- the end

told_here : (s : Setup) (live : List Dev) (p x : ℕ) (told : List RowReason) (left : ℕ) → HasTold s live (parent_ref s live p) (spot_place s.machine x) x (length s.tables.rows) told left
    → record { rows = told; others = left } ≡ told_of s live p x
unfolding told_of
told_here s live p x told left h =
    ap (λ (rs : List RowReason). record { rows = rs; others = left }) h.rows
    ∙ ap (λ (n : ℕ). record { rows = reasons s live (parent_ref s live p) (spot_place s.machine x) x; others = n }) h.others

pub told_all : (s : Setup) (live : List Dev) (p x : ℕ) (parent : Option Dev) (place : Place) (spot n : ℕ) (told : List RowReason) (left : ℕ)
    → parent ≡ device_at live p → place ≡ spot_place s.machine x → spot ≡ x → n ≡ length s.tables.rows → HasTold s live (parent_by s parent) place spot n told left
    → record { rows = told; others = left } ≡ told_of s live p x
told_all s live p x parent place spot n told left e f g k h =
    told_here s live p x told left
    (subst (λ (o : Option Dev). HasTold s live (parent_by s o) (spot_place s.machine x) x (length s.tables.rows) told left) e
    (subst (λ (q : Place). HasTold s live (parent_by s parent) q x (length s.tables.rows) told left) f
    (subst (λ (i : ℕ). HasTold s live (parent_by s parent) place i (length s.tables.rows) told left) g
    (subst (λ (m : ℕ). HasTold s live (parent_by s parent) place spot m told left) k h))))
