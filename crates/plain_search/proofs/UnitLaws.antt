-- A row whose driver and first unit no device has gives that unit.
use Rattle.std.proofs.Common.{◌≡◌, ◌+◌, ℕ, Bool, true, false, cond, List, Option, Some, refl, ap, sym, ◌∙◌, arith}
use Rattle.std.specs.Prelude.{nat_lt, slice_get}
use Rattle.std.specs.List.{slice_index_or}
use Rattle.std.specs.Option.{option_map_or}
use Rattle.cf_types.specs.declared.tables.Row.{Row}
use Rattle.run_rules.proofs.Units.{free_after_is}
use Rattle.run_rules.specs.Search.{free_after, is_taken, unit_of}
use Rattle.run_rules.specs.declared.world.Dev.{Dev}
use Rattle.run_rules.specs.declared.world.Setup.{Setup}
use Rattle.plain_rows.specs.Taken.{AreTakers}
use Rattle.plain_search.proofs.OpenLaws.{taken_by}

first_is_free : (s : Setup) (live : List Dev) (device first : ℕ) → is_taken s live device first ≡ false → free_after s live device first ≡ 0
first_is_free s live device first free =
    let here : first + 0 ≡ first = omega arith in
    free_after_is s live device first 0 (omega arith) (ap (is_taken s live device) here ∙ free) (λ q lt. absurd (omega (arith, lt)))

by_star : (b : Bool) (unit after : ℕ) → after ≡ 0 → cond b (unit + after) unit ≡ unit
by_star true unit after none = omega (arith, none)
by_star false unit after none = refl

pub first_unit : (s : Setup) (live : List Dev) (counts : List ℕ) (r : ℕ) (row : Row) → AreTakers s live counts → slice_get s.tables.rows r ≡ Some row → nat_lt 0 (slice_index_or counts r 0) ≡ false
    → unit_of s live r ≡ row.unit
unfolding unit_of
first_unit s live counts r row follows at none =
    ap (λ (o : Option Row). option_map_or (λ row. cond row.star (row.unit + free_after s live row.device row.unit) row.unit) o 0) at
    ∙ by_star row.star row.unit (free_after s live row.device row.unit)
    (first_is_free s live row.device row.unit (sym (ap (nat_lt 0) (follows r) ∙ taken_by s live r row at) ∙ none))

-- a row that is not starred gives its own
pub own_unit : (s : Setup) (live : List Dev) (r : ℕ) (row : Row) → slice_get s.tables.rows r ≡ Some row → row.star ≡ false → unit_of s live r ≡ row.unit
unfolding unit_of
own_unit s live r row at fixed =
    ap (λ (o : Option Row). option_map_or (λ row. cond row.star (row.unit + free_after s live row.device row.unit) row.unit) o 0) at
    ∙ ap (λ b. cond b (row.unit + free_after s live row.device row.unit) row.unit) fixed
