use Rattle.dev_tree.proofs.Alike.{sleep_plain}
use Rattle.dev_tree.proofs.DriverLaws.{drivers_asleep}
use Rattle.run_rules.specs.After.{with_sleep}
use Rattle.deed_effect.proofs.GoneLaws.{marks_marked, units_marked}
use Rattle.deed_effect.proofs.effect.rest.Goals as goal

pub returns-clause-books : goal.returns-clause-books
returns-clause-books c = λ s b.
    (let live = c.args.core.now.tree.live in
    rw c.set_asleep.ensures (record {
      marks = marks_marked s (with_sleep c.args.of c.args.asleep) (sleep_plain c.args.of c.args.asleep) live c.args.core.now.rows b.marks;
      units = units_marked s (with_sleep c.args.of c.args.asleep) (sleep_plain c.args.of c.args.asleep) live c.args.core.now.units b.units;
      drivers = drivers_asleep s c.args.core.now.tree c.args.of c.args.asleep b.drivers;
      recent = b.recent;
    }))
