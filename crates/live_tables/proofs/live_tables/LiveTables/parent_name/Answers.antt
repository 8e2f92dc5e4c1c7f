use Rattle.std.proofs.Common.{◌<◌, ◌==◌, ◌∙◌, length, sym}
use Rattle.run_rules.proofs.Devices.{found_in}
use Rattle.live_tables.proofs.live_tables.LiveTables.parent_name.Goals as goal

pub name_of-requires : goal.name_of-requires
name_of-requires c =
    rw (← c.self.view_is) (record { row = found_in (λ d. d.row < length c.self.inside.site.setup.tables.rows) (λ d. d.serial == c.args.serial) c.self.inside.tree.live c.in-Some.device c.self.invariant.kept.sound.rows (sym c.get.ensures ∙ c.in-Some.is) })
