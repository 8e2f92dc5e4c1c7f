-- Where a row stands in the listing.
use Rattle.std.proofs.Common.{◌≡◌, ◌<◌, ◌≤◌, ◌+◌, ◌-◌, ◌∙◌, ℕ, suc, List, [], ◌++◌, length, map, Bool, Option, Some, None, refl, ap, subst, arith, length-append}
use Rattle.std.specs.Prelude.{option_map, slice_get}
use Rattle.std.specs.List.{enumerate_from}
use Rattle.std.specs.Option.{option_map_or}
use Rattle.std.proofs.lemmas.List.{length-map}
use Rattle.std.proofs.lemmas.List.FromFn.{length-enumerate_from}
use Rattle.std.proofs.lemmas.Option.{slice_get-map, slice_get_past}
use Rattle.cf_types.proofs.ListLemmas.{slice_get-append_back, slice_get-append_front, slice_get-enumerate}
use Rattle.cf_types.specs.declared.tables.Row.{Row}
use Rattle.cf_types.specs.declared.tables.Tables.{Tables}
use Rattle.config_rules.specs.Listing.{attach_line, attr_line, definition_lines, device_line, driver_lines, end_lines, entry_lines, instance_lines, lines, pseudo_line, row_line, tail_lines}
use Rattle.ioconf_text.specs.Seeking.{PutsLine}
use Rattle.why_answers.specs.Rows.{first_row, row_text}

defined : (t : Tables) → length (definition_lines t) ≡ length t.attrs + (length t.devices + length t.attaches)
defined t =
    let attrs = length-map t.attrs attr_line in
    let devices = length-map (enumerate_from 0 t.devices) (device_line t) in
    let numbered = length-enumerate_from 0 t.devices in
    let attaches = length-map t.attaches (attach_line t) in
    let drivers = length-append (map (device_line t) (enumerate_from 0 t.devices)) (map (attach_line t) t.attaches) in
    let all = length-append (map attr_line t.attrs) (driver_lines t) in
    omega (arith, attrs, devices, numbered, attaches, drivers, all)

counted : (t : Tables) → length (map (row_line t) (enumerate_from 0 t.rows)) ≡ length t.rows
counted t = let all = length-map (enumerate_from 0 t.rows) (row_line t) in let numbered = length-enumerate_from 0 t.rows in omega (arith, all, numbered)

-- the line of a row by its number
own : (t : Tables) (r : ℕ) → slice_get (map (row_line t) (enumerate_from 0 t.rows)) r ≡ option_map (λ (row : Row). row_line t (r, row)) (slice_get t.rows r)
own t r =
    slice_get-map (row_line t) (enumerate_from 0 t.rows) r
    ∙ ap (option_map (row_line t)) (slice_get-enumerate 0 t.rows r)
    ∙ joined (slice_get t.rows r)
  where
    zero_more : 0 + r ≡ r
    zero_more = omega arith

    joined : (o : Option Row) → option_map (row_line t) (option_map (λ (x : Row). (0 + r, x)) o) ≡ option_map (λ (row : Row). row_line t (r, row)) o
    joined None = refl
    joined (Some row) = ap (λ (k : ℕ). Some (row_line t (k, row))) zero_more

in_tail : (t : Tables) (r : ℕ) → r < length t.rows → slice_get (tail_lines t) r ≡ slice_get (map (row_line t) (enumerate_from 0 t.rows)) r
in_tail t r lt =
    let all : length (map (row_line t) (enumerate_from 0 t.rows)) ≡ length t.rows = counted t in
    let more : length (instance_lines t) ≡ length (map (row_line t) (enumerate_from 0 t.rows)) + length (map pseudo_line t.pseudos) =
    length-append (map (row_line t) (enumerate_from 0 t.rows)) (map pseudo_line t.pseudos) in
    slice_get-append_front (instance_lines t) (end_lines t) r (omega (arith, all, more, lt))
    ∙ slice_get-append_front (map (row_line t) (enumerate_from 0 t.rows)) (map pseudo_line t.pseudos) r (omega (arith, all, lt))

in_entries : (t : Tables) (r : ℕ) → slice_get (entry_lines t) (length t.attrs + (length t.devices + length t.attaches) + r) ≡ slice_get (tail_lines t) r
in_entries t r =
    let n : ℕ = length t.attrs + (length t.devices + length t.attaches) in
    let all : length (definition_lines t) ≡ n = defined t in
    let left : n + r - length (definition_lines t) ≡ r = omega (arith, all) in
    slice_get-append_back (definition_lines t) (tail_lines t) (n + r) (omega (arith, all)) ∙ ap (slice_get (tail_lines t)) left

-- the row is the line behind those of the definitions
pub row_at : (t : Tables) (r : ℕ) → r < length t.rows → slice_get (lines t) (first_row t + r) ≡ option_map (λ (row : Row). row_line t (r, row)) (slice_get t.rows r)
row_at t r lt =
    let n : ℕ = length t.attrs + (length t.devices + length t.attaches) in
    let next : first_row t + r ≡ suc (n + r) = omega arith in
    ap (slice_get (lines t)) next ∙ in_entries t r ∙ in_tail t r lt ∙ own t r

-- what was put as the line of a row is the row's text
pub put_row : (t : Tables) (r n : ℕ) (more : Bool) (old new : List ℕ) → r < length t.rows → n ≡ first_row t + r → old ≡ [] → PutsLine (slice_get (lines t) n) more old new → new ≡ row_text t r
put_row t r n more old new lt at none puts =
    let line : slice_get (lines t) n ≡ option_map (λ (row : Row). row_line t (r, row)) (slice_get t.rows r) = ap (slice_get (lines t)) at ∙ row_at t r lt in
    cases (slice_get t.rows r) (subst (λ (o : Option (List ℕ)). PutsLine o more old new) line puts)
  where
    cases : (o : Option Row) → PutsLine (option_map (λ (row : Row). row_line t (r, row)) o) more old new → new ≡ option_map_or (λ (row : Row). row_line t (r, row)) o []
    cases None p = p.1 ∙ none
    cases (Some row) p = p.1 ∙ ap (λ (xs : List ℕ). xs ++ row_line t (r, row)) none

pub no_row : (t : Tables) (r : ℕ) → length t.rows ≤ r → row_text t r ≡ []
no_row t r le = ap (λ (o : Option Row). option_map_or (λ (row : Row). row_line t (r, row)) o []) (slice_get_past t.rows r le)
