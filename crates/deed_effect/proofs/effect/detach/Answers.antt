use Rattle.dev_tree.proofs.Alike.{condemner_plain}
use Rattle.dev_tree.proofs.DriverLaws.{drivers_condemned}
use Rattle.run_rules.specs.After.{after, with_condemner}
use Rattle.deed_effect.proofs.GoneLaws.{marks_marked, units_marked}
use Rattle.deed_effect.proofs.effect.detach.Goals as goal

pub returns-clause-books : goal.returns-clause-books
returns-clause-books c = λ s b.
    (let live = c.args.core.now.tree.live in
    c.begin.ensures.books s (rw c.condemn.ensures (record {
      marks = marks_marked s (with_condemner c.args.core.now.tree.live c.args.caller c.args.of) (condemner_plain c.args.core.now.tree.live c.args.caller c.args.of) live c.args.core.now.rows b.marks;
      units = units_marked s (with_condemner c.args.core.now.tree.live c.args.caller c.args.of) (condemner_plain c.args.core.now.tree.live c.args.caller c.args.of) live c.args.core.now.units b.units;
      drivers = drivers_condemned s c.args.core.now.tree c.args.of c.args.caller b.drivers;
      recent = b.recent;
    })))

pub returns-clause-world : goal.returns-clause-world
unfolding after
returns-clause-world c = λ s. (rw c.condemn.ensures at c.begin.ensures.world s)
