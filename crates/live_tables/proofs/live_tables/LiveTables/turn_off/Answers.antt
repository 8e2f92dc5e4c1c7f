use Rattle.std.proofs.Common.{◌≡◌, false, arith, subst, sym}
use Rattle.std.specs.List.{AllByRecursion}
use Rattle.live_rules.specs.Live.{is_in}
use Rattle.live_tables.specs.Kept.{live_view}
use Rattle.live_tables.specs.Running.{Running}
use Rattle.live_tables.proofs.Offs.{off_sound}
use Rattle.live_tables.proofs.live_tables.LiveTables.turn_off.Goals as goal

pub turn_off-requires : goal.turn_off-requires
turn_off-requires c = let there = rw (← c.self.view_is) at c.requires.there in record { there = omega (arith, there, c.self.invariant.count) }

pub invariant_of-self : goal.invariant_of-self
invariant_of-self c =
    let r : Running = live_view c.self.inside in
    let kept = c.self.invariant.kept in
    rw c.turn_off.ensures (record {
      kept = record {
        sound = off_sound r.site r.world c.args.group kept.sound (subst (λ (q : Running). AllByRecursion (λ d. is_in q.site c.args.group d.row ≡ false) q.world.live) (sym c.self.view_is) c.requires.none);
        rows = kept.rows;
        units = kept.units;
        drivers = kept.drivers;
        groups = kept.groups;
      };
      count = c.self.invariant.count;
    })
