use Rattle.std.proofs.Common.{ap}
use Rattle.run_rules.specs.After.{moved_top}
use Rattle.run_rules.specs.World.{Caller}
use Rattle.plain_world.specs.Plain.{restacked, world_of}
use Rattle.plain_effect.proofs.CallerLaws.{has_still, restacked_low, set_is, with_callers}
use Rattle.plain_effect.proofs.after.advance.Goals as goal

pub returns-clause-caller : goal.returns-clause-caller
returns-clause-caller c =
    let x = c.index_mut.result.now in
    let still = has_still c.args.plain.now.callers.items c.args.caller 500 1 x c.advance.new.self c.requires.there c.index_mut.ensures.value c.requires.low
    (restacked_low x c.advance.new.self (moved_top c.args.to x.stack) c.advance.ensures) in
    record { there = still.0; low = still.1 }

pub returns-clause-world : goal.returns-clause-world
returns-clause-world c = λ s.
    ap (with_callers (world_of s c.args.plain.now))
    (set_is (λ (x : Caller). restacked x (moved_top c.args.to x.stack)) c.args.plain.now.callers.items c.args.caller c.index_mut.result.now c.advance.new.self
    c.requires.there c.index_mut.ensures.value c.advance.ensures)
