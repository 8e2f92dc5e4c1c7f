use Rattle.std.proofs.Common.{◌∙◌, arith}
use Rattle.run_world.proofs.WantedLaws.{one_more, not_missed, all_there}
use Rattle.run_world.proofs.rescan_filter.wanted_of.Goals as goal

pub unreachable-requires : goal.unreachable-requires
unreachable-requires c =
    not_missed c.args.locators.now c.args.given.now c.loop-value.value-index c.value-item.result c.loop-value.list c.loop-value-test.true c.value-item.is c.loop-value.invariant
    ((rw c.bytes.ensures.bytes at c.locator_place.ensures.place) ∙ c.in-None.is)

pub loop-value-preserved : goal.loop-value-preserved
loop-value-preserved c =
    rw (c.in_ok-push-in-Some.ensures.ok, c.wanted_at.ensures)
    (one_more c.args.locators.now c.args.given.now c.loop-value.value-index c.value-item.result c.loop-value.list c.in-Some.place c.loop-value-test.true c.value-item.is c.loop-value.invariant
    ((rw c.bytes.ensures.bytes at c.locator_place.ensures.place) ∙ c.in-Some.is))

pub returns : goal.returns
returns c = all_there c.args.locators.now c.args.given.now c.loop-value.value-index c.loop-value.list (omega arith) c.loop-value.invariant
