-- The devices of formed tables have names that may be written, that do not end in a digit and that differ.
use Rattle.std.proofs.Common.{◌≡◌, ◌≢◌, ◌<◌, true, false, not, List, [], ◌∷◌, map, length, bytes_eq}
use Rattle.std.specs.List.{AllByRecursion}
use Rattle.std.proofs.lemmas.Bool.{not-true, not_from_false}
use Rattle.std.proofs.lemmas.List.Elements.{recursion_from_All}
use Rattle.std.proofs.lemmas.Slice.Eq.{bytes_eq-Decides}
use Rattle.cf_text.specs.Shapes.{is_written, ends_with_digit}
use Rattle.cf_types.specs.declared.tables.Device.{Device}
use Rattle.cf_types.specs.declared.tables.Row.{Row}
use Rattle.cf_types.specs.declared.tables.Tables.{Tables}
use Rattle.config_rules.specs.Formed.{FormedTables, FormedRow}
use Rattle.config_rules.specs.MachineText.{differ, is_one, is_free_name}
use Rattle.run_rules.specs.Formed.{IsNamed, HasFormedDevices}
use Rattle.run_rules.specs.Sound.{EachLater}
use Rattle.run_rules.proofs.Below.{and_both}
use Rattle.run_rules.proofs.Devices.{all_both, all_imp, or_false}
use Rattle.run_sound.proofs.Callers.{clash}

of_mapped : {A B : Type 0} (P : B → Type 0) (f : A → B) (xs : List A) → AllByRecursion P (map f xs) → AllByRecursion (λ x. P (f x)) xs
of_mapped P f [] h = tt
of_mapped P f (x ∷ xs) h = (h.0, of_mapped P f xs h.1)

other_names : (d : Device) (ds : List Device) → is_one (map (λ e. e.name) ds) d.name ≡ false → AllByRecursion (λ e. d.name ≢ e.name) ds
other_names d [] h = tt
other_names d (e ∷ es) h =
    let parts = or_false (bytes_eq d.name e.name) (is_one (map (λ x. x.name) es) d.name) h in
    (λ same. clash (bytes_eq d.name e.name) ((bytes_eq-Decides d.name e.name).1 same) parts.0, other_names d es parts.1)

names_apart : (ds : List Device) → differ (map (λ e. e.name) ds) ≡ true → EachLater (λ d e. d.name ≢ e.name) ds
names_apart [] h = tt
names_apart (d ∷ ds) h =
    let parts = and_both (not (is_one (map (λ x. x.name) ds) d.name)) (differ (map (λ x. x.name) ds)) h in
    (other_names d ds (not-true _ parts.0), names_apart ds parts.1)

pub formed_devices : (t : Tables) → FormedTables t → HasFormedDevices t
formed_devices t h = record {
  named = all_both (λ (d : Device). is_free_name d.name ≡ true) (λ (d : Device). ends_with_digit d.name ≡ false) IsNamed
      (λ d w e. record { written = (and_both (is_written d.name) _ w).0; plain_end = not_from_false (ends_with_digit d.name) e }) t.devices
      (of_mapped (λ name. is_free_name name ≡ true) (λ (d : Device). d.name) t.devices (recursion_from_All _ _ h.device_names.shaped)) (recursion_from_All _ t.devices h.digits_for_units);
  apart = names_apart t.devices h.device_names.different;
  rows = all_imp (FormedRow t) (λ (r : Row). r.device < length t.devices) (λ r f. f.device) t.rows (recursion_from_All _ t.rows h.rows);
}
