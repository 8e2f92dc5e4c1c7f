use Rattle.cf_expand.proofs.AloneLemmas.{alone_there}
use Rattle.cf_expand.proofs.alone.alone.Goals as goal

pub returns-in-Some-2-clause-reads : goal.returns-in-Some-2-clause-reads
returns-in-Some-2-clause-reads c =
    alone_there c.args.text.now c.args.cutting.now c.items.result.now c.in-Some.first.now c.in-Some.rest.now c.make-statement.result c.word.result c.line-line.result c.in-Some-2.stmt
    c.requires.whole c.if-is_some.ensures c.items.ensures c.in-Some.ensures c.if-not-is_empty.ensures c.make-statement.ensures c.word.ensures c.if-is_some-2.ensures c.line-line.ensures
    (rw c.in-Some-2.is at c.in_ok-stmt.ensures.form) (rw c.in-Some-2.is at c.in_ok-stmt.ensures.at_once)
