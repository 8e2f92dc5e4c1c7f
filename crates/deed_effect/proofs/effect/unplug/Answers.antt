use Rattle.dev_tree.proofs.Alike.{condemner_plain}
use Rattle.dev_tree.proofs.DriverLaws.{drivers_condemned}
use Rattle.run_rules.specs.After.{after, with_condemner}
use Rattle.deed_effect.proofs.GoneLaws.{marks_marked, units_marked}
use Rattle.deed_effect.proofs.effect.unplug.Goals as goal

pub returns-in-Some-clause-books : goal.returns-in-Some-clause-books
returns-in-Some-clause-books c = λ s b.
    (let live = c.args.core.now.tree.live in
    let of = c.in-Some.of in
    c.begin.ensures.books s (rw c.condemn.ensures (record {
      marks = marks_marked s (with_condemner live c.args.caller of) (condemner_plain live c.args.caller of) live c.args.core.now.rows b.marks;
      units = units_marked s (with_condemner live c.args.caller of) (condemner_plain live c.args.caller of) live c.args.core.now.units b.units;
      drivers = drivers_condemned s c.args.core.now.tree of c.args.caller b.drivers;
      recent = b.recent;
    })))

pub returns-in-Some-clause-ok : goal.returns-in-Some-clause-ok
unfolding after
returns-in-Some-clause-ok c = λ s. rw c.in-Some.is (rw (c.condemn.ensures, c.in_ok-put_first.ensures.ok) at c.begin.ensures.world s)

pub returns-in-None-clause-ok : goal.returns-in-None-clause-ok
unfolding after
returns-in-None-clause-ok c = λ s. rw c.in-None.is (rw c.in_ok-put_first.ensures.ok at c.finish.ensures.world s)
