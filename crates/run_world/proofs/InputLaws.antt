-- What a board uses of formed tables and of a machine that fits them.
use Rattle.std.proofs.Common.{◌≤◌}
use Rattle.std.proofs.lemmas.List.Elements.{recursion_from_All}
use Rattle.cf_types.specs.declared.tables.Row.{Row}
use Rattle.cf_types.specs.declared.tables.Tables.{Tables}
use Rattle.config_rules.specs.Formed.{FormedTables, FormedRow}
use Rattle.run_rules.specs.declared.world.Setup.{Setup}
use Rattle.run_rules.proofs.Devices.{all_imp}
use Rattle.run_sound.specs.Kept.{MayRun}
use Rattle.run_sound.proofs.FormedDevices.{formed_devices}
use Rattle.run_sound.proofs.Inputs.{IsLow, low_unit}
use Rattle.run_world.specs.Input.{BoundedTables, Bounded}

-- ---- units

pub bounded_tables : (t : Tables) → FormedTables t → BoundedTables t
bounded_tables t h =
    let rows = recursion_from_All (FormedRow t) t.rows h.rows in
    record {
      formed = formed_devices t h;
      few_attrs = h.counted.attrs;
      few_rows = h.few_rows;
      low_units = all_imp (FormedRow t) (λ (r : Row). r.unit ≤ 65536) (λ r f. low_unit t r (all_imp (FormedRow t) IsLow (λ q g. g.fixed_unit) t.rows rows) f) t.rows rows;
      few_offered = h.graph.few_offered_by_device;
    }

pub bounded : (s : Setup) → MayRun s → Bounded s
bounded s may = record { tables = bounded_tables s.tables may.tables; few_spots = may.machine.few_spots }
