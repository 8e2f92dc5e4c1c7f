use Rattle.std.proofs.Common.{ap, ◌∙◌}
use Rattle.std.proofs.lemmas.Iterator.{YieldsList-from_zip, YieldsList-from_slice}
use Rattle.std.proofs.lemmas.Iterator.Consumers.{YieldsList-end}
use Rattle.cf_rows.specs.Rows.{seen}
use Rattle.cf_rows.proofs.MarkLemmas.{marked_seen, marked_places}
use Rattle.cf_rows.proofs.marks.split_by_marks.Goals as goal

pub returns-clause-rooted : goal.returns-clause-rooted
returns-clause-rooted c =
    let t = YieldsList-end (YieldsList-from_zip {s = c.into_iter-instance-iterator.result} (YieldsList-from_slice {s = c.into_iter-instance-iterator.result.a} c.args.instances.now (cc)) (YieldsList-from_slice {s = c.into_iter-instance-iterator.result.b} c.args.marks.now (cc))) c.loop-instance.yielded c.loop-instance.instance-iterator c.loop-instance.yielded_by c.next.result c.next.new.self c.in-None.is c.next.ensures.steps in
    ap seen c.loop-instance.invariant.rooted ∙ marked_seen c.loop-instance.yielded c.args.instances.now c.args.marks.now t.0

pub returns-clause-orphans : goal.returns-clause-orphans
returns-clause-orphans c =
    let t = YieldsList-end (YieldsList-from_zip {s = c.into_iter-instance-iterator.result} (YieldsList-from_slice {s = c.into_iter-instance-iterator.result.a} c.args.instances.now (cc)) (YieldsList-from_slice {s = c.into_iter-instance-iterator.result.b} c.args.marks.now (cc))) c.loop-instance.yielded c.loop-instance.instance-iterator c.loop-instance.yielded_by c.next.result c.next.new.self c.in-None.is c.next.ensures.steps in
    c.loop-instance.invariant.orphans ∙ marked_places c.loop-instance.yielded c.args.instances.now c.args.marks.now t.0
