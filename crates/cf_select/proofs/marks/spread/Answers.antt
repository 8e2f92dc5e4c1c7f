use Rattle.std.proofs.Common.{◌≡◌, ◌∙◌, ◌<◌, ◌≤◌, length, map, get_or, arith, ap}
use Rattle.config_rules.specs.Select.{carries_at}
use Rattle.config_rules.specs.Meaning.{inst_of}
use Rattle.cf_select.specs.Carried.{offered_in}
use Rattle.cf_select.proofs.RootedLemmas.{listed_below, read_at, known_at, spread_all, spread_more}
use Rattle.cf_select.proofs.WantLemmas.{carried_wants, inst_got}
use Rattle.cf_select.proofs.marks.spread.Goals as goal

pub instance_at-instance-requires : goal.instance_at-instance-requires
instance_at-instance-requires c =
    let within : c.loop-next.next < length c.loop-next.reached.order.items = omega (arith, c.loop-next-test.true, c.len.ensures) in
    let read : c.index.result.now ≡ get_or c.loop-next.reached.order.items c.loop-next.next 0 = read_at c.loop-next.reached.order.items c.loop-next.next c.index.result.now within c.index.ensures in
    omega (arith, read, (listed_below _ _ _ _ _ _ _ _ within c.loop-next.invariant).1)

pub serve-requires-clause-known : goal.serve-requires-clause-known
serve-requires-clause-known c = known_at c.args.graph.now c.args.instances.now c.index.result.now c.instance_at-instance.result.now c.requires.known c.instance_at-instance.ensures

pub loop-next-preserved : goal.loop-next-preserved
loop-next-preserved c =
    let within : c.loop-next.next < length c.loop-next.reached.order.items = omega (arith, c.loop-next-test.true, c.len.ensures) in
    let read : c.index.result.now ≡ get_or c.loop-next.reached.order.items c.loop-next.next 0 = read_at c.loop-next.reached.order.items c.loop-next.next c.index.result.now within c.index.ensures in
    spread_more _ _ _ _ _ _ _ _ _ _ _ _ within c.loop-next.invariant c.in_ok-serve.ensures
    (λ x. carried_wants c.args.graph.now (map inst_of c.args.instances.now) c.index.result.now (inst_of c.instance_at-instance.result.now) x (inst_got c.args.instances.now c.index.result.now c.instance_at-instance.result.now c.instance_at-instance.ensures)
    ∙ ap (λ k. carries_at (offered_in c.args.graph.now) (map inst_of c.args.instances.now) k x) read)

pub returns : goal.returns
returns c =
    let past : length c.loop-next.reached.order.items ≤ c.loop-next.next = omega (arith, c.loop-next-test.false, c.len.ensures) in
    spread_all _ _ _ _ _ _ _ _ past c.loop-next.invariant
