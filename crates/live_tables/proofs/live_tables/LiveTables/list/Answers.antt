use Rattle.std.proofs.Common.{◌≡◌, ◌∙◌, ◌∷◌, [], ap, subst, sym, arith, refl}
use Rattle.std.proofs.lemmas.List.{map-append}
use Rattle.run_rules.specs.declared.world.Dev.{Dev}
use Rattle.run_rules.specs.Search.{is_taken, unit_of}
use Rattle.run_rules.specs.World.{driver_of}
use Rattle.run_world.proofs.UnitLaws.{more_units}
use Rattle.dev_tree.proofs.DriverLaws.{named_is}
use Rattle.deed_effect.proofs.ArriveLaws.{ok_of}
use Rattle.deed_effect.proofs.MarkLaws.{more_marks}
use Rattle.live_rules.specs.Live.{new_device}
use Rattle.live_rules.proofs.Kept.{bare_spot, sound_attached}
use Rattle.live_tables.specs.Coming.{MayCome}
use Rattle.live_tables.specs.Kept.{live_view}
use Rattle.live_tables.specs.Running.{Running}
use Rattle.live_tables.proofs.Counts.{few_live}
use Rattle.live_tables.proofs.live_tables.LiveTables.list.Goals as goal

pub attach-requires-clause-name : goal.attach-requires-clause-name
attach-requires-clause-name c =
    let r : Running = live_view c.self.inside in
    let may : MayCome r c.args.parent c.args.spot c.args.row = subst (λ (q : Running). MayCome q c.args.parent c.args.spot c.args.row) (sym c.self.view_is) c.requires.may in
    let unit : c.args.unit ≡ unit_of r.site.setup r.world.live c.args.row = rw (← c.self.view_is) at c.requires.unit in
    rw c.driver_of-driver.ensures
    (named_is r.site.setup c.self.inside.tree (driver_of r.site.setup c.args.row) c.args.unit c.self.invariant.kept.drivers
    ∙ ap (is_taken r.site.setup r.world.live (driver_of r.site.setup c.args.row)) unit ∙ may.unit)

pub attach-requires-clause-spot : goal.attach-requires-clause-spot
attach-requires-clause-spot c =
    let r : Running = live_view c.self.inside in
    let may : MayCome r c.args.parent c.args.spot c.args.row = subst (λ (q : Running). MayCome q c.args.parent c.args.spot c.args.row) (sym c.self.view_is) c.requires.may in
    bare_spot r.site r.world c.args.spot may.free

pub attach-requires-clause-serials : goal.attach-requires-clause-serials
attach-requires-clause-serials c =
    let r : Running = live_view c.self.inside in
    let may : MayCome r c.args.parent c.args.spot c.args.row = subst (λ (q : Running). MayCome q c.args.parent c.args.spot c.args.row) (sym c.self.view_is) c.requires.may in
    omega (arith, may.serials, few_live r.site r.world c.self.invariant.kept.sound, c.self.inside.site.bounded.few_spots)

pub invariant_of-self-2 : goal.invariant_of-self-2
invariant_of-self-2 c =
    let r : Running = live_view c.self.inside in
    let p = c.args.parent in
    let x = c.args.spot in
    let may : MayCome r p x c.args.row = subst (λ (q : Running). MayCome q p x c.args.row) (sym c.self.view_is) c.requires.may in
    let unit : c.args.unit ≡ unit_of r.site.setup r.world.live c.args.row = rw (← c.self.view_is) at c.requires.unit in
    let tree = ok_of _ c.attach.result c.is_err.result c.is_err.ensures.value c.if-is_err.false c.attach.ensures.ok in
    let d : Dev = new_device r.site r.world p x c.args.row in
    let kept = c.self.invariant.kept in
    rw (tree, unit) (record {
      kept = record {
        sound = sound_attached r.site r.world p x c.args.row kept.sound may.known may.free may.on may.unit may.row;
        rows = more_marks r.site.setup r.world.live d c.self.inside.rows c.set.new.rows kept.rows (rw (c.driver_of-driver.ensures, unit) at c.set.ensures);
        units = more_units r.site.setup r.world.live d c.self.inside.units c.take.new.self kept.units (rw (c.driver_of-driver.ensures, unit) at c.in_ok-take.ensures.ok);
        drivers = rw (kept.drivers, c.driver_of-driver.ensures, map-append (λ (e : Dev). driver_of r.site.setup e.row) r.world.live (d ∷ [])) refl;
        groups = kept.groups;
      };
      count = c.self.invariant.count;
    })
