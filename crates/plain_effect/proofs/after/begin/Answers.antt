use Rattle.std.proofs.Common.{ap, arith}
use Rattle.run_rules.specs.World.{Caller}
use Rattle.plain_world.specs.Plain.{world_of}
use Rattle.plain_effect.proofs.CallerLaws.{has_still, set_is, with_callers}
use Rattle.plain_effect.proofs.after.begin.Goals as goal

pub returns-clause-caller : goal.returns-clause-caller
returns-clause-caller c =
    let same = ap (λ (x : Caller). x.over) c.begin.ensures in
    let still = has_still c.args.plain.now.callers.items c.args.caller 500 0 c.index_mut.result.now c.begin.new.self c.requires.there c.index_mut.ensures.value c.requires.low (omega (arith, same)) in
    record { there = still.0; low = omega (arith, still.1) }

pub returns-clause-world : goal.returns-clause-world
returns-clause-world c = λ s.
    ap (with_callers (world_of s c.args.plain.now))
    (set_is (λ (x : Caller). record { over = x.over; doing = c.args.doing; stack = x.stack }) c.args.plain.now.callers.items c.args.caller c.index_mut.result.now c.begin.new.self
    c.requires.there c.index_mut.ensures.value c.begin.ensures)
