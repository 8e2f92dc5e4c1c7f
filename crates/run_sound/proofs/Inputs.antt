-- What formed tables give a run: low units.
use Rattle.std.proofs.Common.{◌≡◌, ◌≤◌, ◌+◌, ℕ, Bool, true, false, not, ◌&&◌, ◌==◌, List, [], ◌∷◌, max, Some, None, slice_get, refl, arith}
use Rattle.std.specs.Prelude.{fold, if◌then◌else◌}
use Rattle.std.specs.List.{AllByRecursion, cons_option}
use Rattle.std.proofs.lemmas.List.Elements.{recursion_from_All}
use Rattle.cf_types.specs.declared.tables.Row.{Row}
use Rattle.cf_types.specs.declared.tables.Tables.{Tables}
use Rattle.config_rules.specs.Formed.{FormedTables, FormedRow, fixed_units}
use Rattle.run_rules.proofs.Devices.{all_imp}
use Rattle.run_rules.proofs.OwnNames.{all_at}

low_max : (bound first : ℕ) (units : List ℕ) → first ≤ bound + 1 → AllByRecursion (λ u. u ≤ bound) units → fold (λ n unit. max n (unit + 1)) first units ≤ bound + 1
low_max bound first [] le h = le
low_max bound first (u ∷ us) le h = low_max bound (max first (u + 1)) us (omega (arith, h.0)) h.1

abbrev pub IsLow : Row → Type 0
IsLow r = r.star ≡ false → r.unit ≤ 65535

low_fixed : (rows : List Row) (d : ℕ) → AllByRecursion IsLow rows → AllByRecursion (λ u. u ≤ 65535) (fixed_units rows d)
low_fixed [] d h = tt
low_fixed (r ∷ rs) d h = cases r.star (r.device == d) h.0 (low_fixed rs d h.1)
  where
    cases : (star own : Bool) → (star ≡ false → r.unit ≤ 65535) → AllByRecursion (λ u. u ≤ 65535) (fixed_units rs d)
        → AllByRecursion (λ u. u ≤ 65535) (cons_option (if not star && own then Some r.unit else None) (fixed_units rs d))
    cases true own low more = more
    cases false true low more = (low refl, more)
    cases false false low more = more

pub low_unit : (t : Tables) (r : Row) → AllByRecursion IsLow t.rows → FormedRow t r → r.unit ≤ 65536
low_unit t r low f = cases r.star refl
  where
    cases : (b : Bool) → r.star ≡ b → r.unit ≤ 65536
    cases true e = omega (arith, f.starred_unit e, low_max 65535 0 (fixed_units t.rows r.device) (omega arith) (low_fixed t.rows r.device low))
    cases false e = omega (arith, f.fixed_unit e)

-- each row's unit, or the first one of a starred row, is low
pub low_units : (t : Tables) (i : ℕ) (r : Row) → FormedTables t → slice_get t.rows i ≡ Some r → r.unit ≤ 65536
low_units t i r h e =
    let rows = recursion_from_All (FormedRow t) t.rows h.rows in
    low_unit t r (all_imp (FormedRow t) IsLow (λ q g. g.fixed_unit) t.rows rows) (all_at (FormedRow t) t.rows i r rows e)
