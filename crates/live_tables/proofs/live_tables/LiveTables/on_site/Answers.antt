use Rattle.std.proofs.Common.{◌∙◌, refl, subst, List}
use Rattle.deed_effect.proofs.MarkLaws.{first_marks}
use Rattle.run_world.proofs.UnitLaws.{first_units}
use Rattle.live_rules.specs.declared.plan.Group.{Group}
use Rattle.live_rules.proofs.Kept.{opening_sound}
use Rattle.live_tables.specs.Running.{AreFirst}
use Rattle.live_tables.proofs.live_tables.LiveTables.on_site.Goals as goal

pub invariant_of-result : goal.invariant_of-result
invariant_of-result c =
    let first : AreFirst c.args.site.setup c.args.groups c.in-Ok.driver_groups.items c.in-Ok.on c.in-Ok.rows c.in-Ok.units =
    subst (λ (gs : List Group). AreFirst c.args.site.setup gs c.in-Ok.driver_groups.items c.in-Ok.on c.in-Ok.rows c.in-Ok.units) c.items.ensures c.in-Ok.ensures in
    rw (c.make.ensures, first.on) (record {
      kept = record {
        sound = opening_sound (record { setup = c.args.site.setup; groups = c.args.groups });
        rows = first.rows ∙ first_marks c.args.site.setup;
        units = first_units c.args.site.setup c.in-Ok.units first.units;
        drivers = refl;
        groups = first.groups;
      };
      count = refl;
    })
