use Rattle.std.proofs.Common.{◌∷◌, ap}
use Rattle.run_rules.specs.World.{Caller}
use Rattle.plain_world.specs.Plain.{restacked, world_of}
use Rattle.plain_effect.proofs.CallerLaws.{has_still, ok_more, restacked_low, set_is, with_callers}
use Rattle.plain_effect.proofs.after.push.Goals as goal

pub returns-clause-caller : goal.returns-clause-caller
returns-clause-caller c = λ n has.
    ok_more c.push.result c.push.ensures (λ e.
    let x = c.index_mut.result.now in
    let still = has_still c.args.plain.now.callers.items c.args.caller n 1 x c.push.new.self c.requires.there c.index_mut.ensures.value has.low (restacked_low x c.push.new.self (c.args.frame ∷ x.stack) e) in
    record { there = still.0; low = still.1 })

pub returns-clause-world : goal.returns-clause-world
returns-clause-world c = λ s.
    ok_more c.push.result c.push.ensures (λ e.
    ap (with_callers (world_of s c.args.plain.now))
    (set_is (λ (x : Caller). restacked x (c.args.frame ∷ x.stack)) c.args.plain.now.callers.items c.args.caller c.index_mut.result.now c.push.new.self c.requires.there c.index_mut.ensures.value e))
