use Rattle.std.proofs.Common.{arith, refl}
use Rattle.live_rules.specs.Live.{turned_on}
use Rattle.live_rules.proofs.Kept.{turned_sound}
use Rattle.live_tables.specs.Kept.{live_view}
use Rattle.live_tables.specs.Running.{Running}
use Rattle.live_tables.proofs.live_tables.LiveTables.turn_on.Goals as goal

pub turn_on-requires-clause-there : goal.turn_on-requires-clause-there
turn_on-requires-clause-there c = let there = rw (← c.self.view_is) at c.requires.there in omega (arith, there, c.self.invariant.count)

pub invariant_of-self : goal.invariant_of-self
unfolding turned_on
invariant_of-self c =
    let r : Running = live_view c.self.inside in
    let kept = c.self.invariant.kept in
    rw c.turn_on.ensures (record {
      kept = record { sound = turned_sound r.site r.world c.args.group kept.sound; rows = kept.rows; units = kept.units; drivers = kept.drivers; groups = kept.groups };
      count = c.self.invariant.count;
    })

pub returns : goal.returns
unfolding turned_on
returns c = rw (← c.self.view_is, c.turn_on.ensures) refl
