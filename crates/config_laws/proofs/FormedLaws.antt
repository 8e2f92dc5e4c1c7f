-- The tables of an accepted configuration are formed.
use Rattle.std.proofs.Common.{◌≡◌, ℕ, ◌<◌, ◌≤◌, Bool, true, None, List, [], length, refl, arith}
use Rattle.std.specs.List.{All}
use Rattle.std.proofs.lemmas.List.{length-map}
use Rattle.std.proofs.lemmas.List.Elements.{All-map, All-weaker}
use Rattle.cf_types.specs.declared.stmt.Placed.{Placed}
use Rattle.config_rules.specs.Declared.{declared}
use Rattle.config_rules.specs.Fault.{first_code, stmts_of}
use Rattle.config_rules.specs.Formed.{FormedTables}
use Rattle.config_rules.specs.Meaning.{marked, surviving, tables_of}
use Rattle.config_rules.specs.Reading.{Reading}
use Rattle.config_rules.specs.Written.{AreWritten, IsWritten}
use Rattle.cf_declare.specs.Sound.{AreAttrs, SoundAttach, SoundDevice}
use Rattle.cf_declare.proofs.AcceptedLaws.{accepted_sound}
use Rattle.cf_declare.proofs.InstanceLaws.{surviving_sound}
use Rattle.cf_rows.proofs.SelectionLaws.{marked_all}
use Rattle.config_laws.proofs.DeclaredLaws.{IsGood, attach_names, attr_names, device_names, few_attaches, few_attrs, few_devices, few_locators, plain_devices}
use Rattle.config_laws.proofs.FreeLaws.{all_free}
use Rattle.config_laws.proofs.InstanceLaws.{marked_few, surviving_alone, surviving_fit}
use Rattle.config_laws.proofs.OfferedLaws.{few_by_device, few_offered, locators_differ, own_within, places_open}
use Rattle.config_laws.proofs.OrderLaws.{rows_few}
use Rattle.config_laws.proofs.RowLaws.{IsSound, rows_formed}

-- each statement is written and defines nothing by the name `root`
all_good : (files : List (List ℕ)) (placed : List Placed) → AreWritten placed → first_code files [] placed ≡ None → All IsGood (stmts_of placed)
all_good files placed written none = All-map IsGood (λ (p : Placed). p.stmt) placed (λ k d lt. (written.each k d lt, all_free files placed none k d lt))

-- each instance that survives is sound
all_sound : (files : List (List ℕ)) (placed : List Placed) → AreWritten placed → first_code files [] placed ≡ None → All (IsSound (declared (stmts_of placed))) (surviving [] (stmts_of placed))
all_sound files placed written none =
    let stmts = stmts_of placed in
    let joins = surviving_sound files placed none in
    let fit = surviving_fit stmts (All-map IsWritten (λ (p : Placed). p.stmt) placed written.each) in
    let alone = surviving_alone stmts in
    λ k d lt. record { joins = joins k d lt; fits = fit k d lt; alone = alone k d lt }

-- the tables of what was read, where no statement has a code, are formed, whichever of the instances are marked
pub accepted_formed : (r : Reading) (marks : List Bool) → AreWritten r.placed → first_code r.files [] r.placed ≡ None → FormedTables (tables_of r marks)
accepted_formed r marks written none =
    let stmts = stmts_of r.placed in
    let d = declared stmts in
    let insts = marked true (surviving [] stmts) marks in
    let sound = (accepted_sound r.files r.placed none).1 in
    let good = all_good r.files r.placed written none in
    let few : length stmts ≤ 65536 = omega (arith, length-map r.placed (λ p. p.stmt), written.few) in
    record {
      counted = record { attrs = omega (arith, few_attrs stmts); attaches = omega (arith, few_attaches stmts); locators = few_locators stmts good };
      graph = record {
        few_attrs = omega (arith, few_attrs stmts);
        few_devices = omega (arith, few_devices stmts);
        earlier_needs = sound.needs_are_earlier;
        own = own_within d sound;
        device_needs = All-weaker (SoundDevice d.attrs) (λ x. AreAttrs d.attrs x.needs) (λ x one. one.names_attrs) d.devices sound.devices_are_sound;
        few_offered = few_offered d sound;
        few_offered_by_device = few_by_device d sound;
      };
      few_rows = omega (arith, rows_few (length d.devices) insts, marked_few r.files r.placed marks none);
      attr_names = attr_names stmts good sound;
      device_names = device_names stmts good sound;
      attach_names = attach_names stmts good sound;
      digits_for_units = plain_devices stmts good;
      different_locators = locators_differ d sound;
      attach_devices = All-weaker (SoundAttach d.attrs d.devices) (λ x. x.device < length d.devices) (λ x one. one.has_device) d.attaches sound.attaches_are_sound;
      attach_places = places_open d sound;
      attach_needs = All-weaker (SoundAttach d.attrs d.devices) (λ x. AreAttrs d.attrs x.needs) (λ x one. one.names_attrs) d.attaches sound.attaches_are_sound;
      rows = rows_formed (tables_of r marks) d insts refl refl refl refl (marked_all (IsSound d) true (surviving [] stmts) marks (all_sound r.files r.placed written none));
    }
