-- The marks of the rows are their liveness, before any device and once one has come or gone.
use Rattle.std.proofs.Common.{◌≡◌, ℕ, suc, Bool, true, false, not, ◌&&◌, ◌||◌, ◌==◌, cond, List, [], ◌∷◌, ◌++◌, map, length, refl, ◌∙◌, ap}
use Rattle.std.proofs.lemmas.List.Folds.{list_any-append}
use Rattle.cf_types.specs.declared.tables.Row.{Row}
use Rattle.run_rules.specs.declared.world.Setup.{Setup}
use Rattle.run_rules.specs.declared.world.Dev.{Dev}
use Rattle.run_rules.specs.World.{driver_of}
use Rattle.run_rules.specs.Search.{is_taken, is_live_row}
use Rattle.match_search.specs.Best.{live_rows}
use Rattle.match_search.specs.Fixed.{hits, rows_set}

-- before any device each row is live
star_or : (b : Bool) → true ≡ (b || true)
star_or true = refl
star_or false = refl

first_of : (s : Setup) (rows : List Row) → map (λ r. true) rows ≡ map (is_live_row s []) rows
first_of s [] = refl
first_of s (r ∷ rs) = rw (← star_or r.star) (ap (λ (bs : List Bool). true ∷ bs) (first_of s rs))

pub first_marks : (s : Setup) → map (λ r. true) s.tables.rows ≡ live_rows s []
first_marks s = first_of s s.tables.rows

-- ---- the rows of a device and a unit are set

marked_by : (device unit : ℕ) (live : Bool) (f g : Row → Bool) (rows : List Row) → ((r : Row) → cond (hits r device unit) live (f r) ≡ g r)
    → rows_set rows (map f rows) device unit live ≡ map g rows
marked_by device unit live f g [] each = refl
marked_by device unit live f g (r ∷ rs) each = rw (each r, marked_by device unit live f g rs each) refl

-- they say what the devices mean that live now, if each of them does
pub marks_by : (s : Setup) (was are : List Dev) (device unit : ℕ) (live : Bool) (old new : List Bool)
    → ((r : Row) → cond (hits r device unit) live (is_live_row s was r) ≡ is_live_row s are r)
    → old ≡ live_rows s was → new ≡ rows_set s.tables.rows old device unit live → new ≡ live_rows s are
marks_by s was are device unit live old new each before is =
    is ∙ ap (λ (bs : List Bool). rows_set s.tables.rows bs device unit live) before
    ∙ marked_by device unit live (is_live_row s was) (is_live_row s are) s.tables.rows each

-- ---- one device more

still_live : (star taken same own : Bool) → cond (not star && (same && own)) false (star || not taken) ≡ (star || not (taken || ((same && own) || false)))
still_live true taken same own = refl
still_live false true true true = refl
still_live false false true true = refl
still_live false true true false = refl
still_live false false true false = refl
still_live false true false own = refl
still_live false false false own = refl

pub more_marks : (s : Setup) (live : List Dev) (d : Dev) (old new : List Bool)
    → old ≡ live_rows s live → new ≡ rows_set s.tables.rows old (driver_of s d.row) d.unit false → new ≡ live_rows s (live ++ d ∷ [])
more_marks s live d old new = marks_by s live (live ++ d ∷ []) (driver_of s d.row) d.unit false old new each
  where
    each : (r : Row) → cond (hits r (driver_of s d.row) d.unit) false (is_live_row s live r) ≡ is_live_row s (live ++ d ∷ []) r
    each r =
        let taken : is_taken s (live ++ d ∷ []) r.device r.unit ≡ (is_taken s live r.device r.unit || ((driver_of s d.row == r.device && d.unit == r.unit) || false)) =
        list_any-append (λ e. driver_of s e.row == r.device && e.unit == r.unit) live (d ∷ []) in
        rw taken (still_live r.star (is_taken s live r.device r.unit) (driver_of s d.row == r.device) (d.unit == r.unit))

pub same_length : (s : Setup) (live : List Dev) (marks : List Bool) → marks ≡ live_rows s live → length marks ≡ length s.tables.rows
same_length s live marks e = ap length e ∙ of s.tables.rows
  where
    of : (rows : List Row) → length (map (is_live_row s live) rows) ≡ length rows
    of [] = refl
    of (r ∷ rs) = ap suc (of rs)
