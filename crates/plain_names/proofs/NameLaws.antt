-- How long the names of devices are, and how they end.
use Rattle.std.proofs.Common.{◌≡◌, ◌<◌, ◌≤◌, ◌+◌, ◌-◌, ◌/◌, ◌%◌, ◌^◌, ◌++◌, ◌∙◌, ℕ, zero, suc, true, false, List, [], ◌∷◌, Option, Some, inl, inr, refl, sym, ap, length, map, decimal, slice_get, append_assoc, arith, length-append}
use Rattle.std.specs.Prelude.{bytes_eq}
use Rattle.std.specs.List.{All}
use Rattle.std.specs.Option.{option_map_or}
use Rattle.std.proofs.lemmas.Bool.{cases_lt, false_from_ne_true}
use Rattle.std.proofs.lemmas.Fmt.{decimal_digit, decimal_step, length-decimal-le, decimal_nonempty}
use Rattle.std.proofs.lemmas.Slice.Eq.{bytes_eq-Decides}
use Rattle.cf_text.specs.Shapes.{is_written}
use Rattle.cf_types.specs.declared.tables.Device.{Device}
use Rattle.config_rules.specs.Formed.{FormedTables}
use Rattle.config_rules.specs.MachineText.{is_free_name}
use Rattle.run_rules.specs.declared.world.Setup.{Setup}
use Rattle.run_rules.specs.World.{driver_name, driver_of, unit_name}
use Rattle.run_rules.proofs.Below.{and_both}
use Rattle.run_rules.proofs.FormedNames.{written_length}

short_name : (name : List ℕ) → is_free_name name ≡ true → length name ≤ 63
short_name name h = (written_length name (and_both (is_written name) _ h).0).1

short_names : (ds : List Device) (i : ℕ) → All (λ n. is_free_name n ≡ true) (map (λ d. d.name) ds) → length (option_map_or (λ d. d.name) (slice_get ds i) []) ≤ 63
short_names [] i all = omega arith
short_names (d ∷ ds) zero all = short_name d.name (all 0 [] (omega arith))
short_names (d ∷ ds) (suc i) all = short_names ds i (λ k e lt. all (suc k) e (omega (arith, lt)))

-- a name is that of a driver of at most 63 bytes and a number of at most ten digits
pub name_fits : (s : Setup) (r u : ℕ) → FormedTables s.tables → u < 2 ^ 32 → (1 ≤ length (unit_name s r u)) × (length (unit_name s r u) ≤ 80)
unfolding unit_name
name_fits s r u formed low =
    let name : List ℕ = driver_name s (driver_of s r) in
    let short : length name ≤ 63 = short_names s.tables.devices (driver_of s r) formed.device_names.shaped in
    (omega (arith, length-append name (decimal u), decimal_nonempty u (omega (arith, low))), omega (arith, length-append name (decimal u), short, length-decimal-le 10 u (omega arith) (omega arith) (omega (arith, low))))

-- ---- the last digit of a unit

-- a number in decimal ends with its last digit
last_digit : (u : ℕ) → u < 2 ^ 32 → (front : List ℕ) × (decimal u ≡ front ++ (48 + u % 10) ∷ [])
last_digit u low = elim (cases_lt u 10) [
  | inl less ↦ ([], decimal_digit u less ∙ ap (λ n. (48 + n) ∷ []) (sym (mod_small u less)))
  | inr more ↦ (decimal (u / 10), decimal_step u more (omega (arith, low)))
]
  where
    mod_small : (n : ℕ) → n < 10 → n % 10 ≡ n
    mod_small n lt = omega arith

last_of : (xs : List ℕ) (d : ℕ) → slice_get (xs ++ d ∷ []) (length (xs ++ d ∷ []) - 1) ≡ Some d
last_of [] d = refl
last_of (x ∷ xs) d = ap (λ i. slice_get (x ∷ xs ++ d ∷ []) i) (shorter (length (xs ++ d ∷ [])) some) ∙ last_of xs d
  where
    some : 1 ≤ length (xs ++ d ∷ [])
    some = omega (arith, length-append xs (d ∷ []))

    shorter : (n : ℕ) → 1 ≤ n → suc n - 1 ≡ suc (n - 1)
    shorter n lt = omega arith

-- what ends otherwise is no name with this unit
pub other_end : (name front : List ℕ) (u : ℕ) (o : Option ℕ) → u < 2 ^ 32 → o ≡ slice_get name (length name - 1) → (o ≡ Some (48 + u % 10) → ⊥) → bytes_eq (front ++ decimal u) name ≡ false
other_end name front u o low is other = false_from_ne_true _ (λ same.
    let digit = last_digit u low in
    let whole : (front ++ digit.0) ++ (48 + u % 10) ∷ [] ≡ name =
    append_assoc front digit.0 ((48 + u % 10) ∷ []) ∙ ap (λ ds. front ++ ds) (sym digit.1) ∙ (bytes_eq-Decides (front ++ decimal u) name).0 same in
    other (is ∙ ap (λ ns. slice_get ns (length ns - 1)) (sym whole) ∙ last_of (front ++ digit.0) (48 + u % 10)))
