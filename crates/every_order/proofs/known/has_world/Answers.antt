use Rattle.std.proofs.Common.{sym, subst}
use Rattle.std.proofs.lemmas.Bool.{false≢true}
use Rattle.every_order.proofs.Indexing.{IsAtOrBefore, from_earlier, from_last}
use Rattle.every_order.proofs.known.has_world.Goals as goal

pub loop-at-init : goal.loop-at-init
loop-at-init c = from_last c.args.known.now c.args.print c.args.plain.now c.head_of-at.result c.requires.indexed c.requires.print c.head_of-at.ensures

pub returns-then-same_world-clause-yes : goal.returns-then-same_world-clause-yes
returns-then-same_world-clause-yes c = λ yes.
    let so = subst (IsAtOrBefore c.args.known.now.met.items c.args.print c.args.plain.now) c.in-Some.is c.loop-at.invariant in
    (c.in-Some.place, (c.index-one.result.now, (so.0, sym c.index-one.ensures), λ s. (c.if-same_world.ensures s).0 yes))

pub loop-at-preserved : goal.loop-at-preserved
loop-at-preserved c =
    let so = subst (IsAtOrBefore c.args.known.now.met.items c.args.print c.args.plain.now) c.in-Some.is c.loop-at.invariant in
    from_earlier c.args.known.now c.args.print c.args.plain.now c.in-Some.place c.index-one.result.now c.requires.indexed c.requires.print (so.0, sym c.index-one.ensures) so (λ s same. false≢true ((c.if-same_world.ensures s).1 same))
