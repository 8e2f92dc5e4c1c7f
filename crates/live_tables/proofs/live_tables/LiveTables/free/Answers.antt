use Rattle.std.proofs.Common.{◌≡◌, ◌∙◌, [], ap, subst, sym}
use Rattle.std.specs.List.{Contains}
use Rattle.run_rules.specs.World.{children}
use Rattle.dev_tree.proofs.DriverLaws.{drivers_without}
use Rattle.deed_effect.proofs.GoneLaws.{marks_gone, units_gone}
use Rattle.live_rules.proofs.Doomed.{found_itself}
use Rattle.live_tables.specs.Kept.{live_view}
use Rattle.live_tables.specs.Running.{Running}
use Rattle.live_tables.proofs.Goings.{sound_without}
use Rattle.live_tables.proofs.live_tables.LiveTables.free.Goals as goal

pub invariant_of-self : goal.invariant_of-self
invariant_of-self c =
    let r : Running = live_view c.self.inside in
    let s = r.site.setup in
    let kept = c.self.invariant.kept in
    let d = c.args.device in
    let there : Contains r.world.live d = subst (λ (q : Running). Contains q.world.live d) (sym c.self.view_is) c.requires.there in
    let bare : children r.world.live d.serial ≡ [] = ap (λ (q : Running). children q.world.live d.serial) c.self.view_is ∙ c.requires.bare in
    let at = found_itself s r.world.live r.world.next d kept.sound.devices there in
    rw c.free.ensures (record {
      kept = record {
        sound = sound_without r.site r.world d.serial kept.sound bare;
        rows = marks_gone s r.world.live d.serial d c.self.inside.rows c.set.new.rows kept.sound.devices.apart at kept.rows (rw c.driver_of-driver.ensures at c.set.ensures);
        units = units_gone s r.world.live d.serial d c.self.inside.units c.give.new.self kept.sound.devices.apart at kept.units (rw c.driver_of-driver.ensures at c.give.ensures);
        drivers = drivers_without s c.self.inside.tree d.serial kept.drivers;
        groups = kept.groups;
      };
      count = c.self.invariant.count;
    })
