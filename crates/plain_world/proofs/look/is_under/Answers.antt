use Rattle.std.proofs.Common.{◌≡◌, ◌≢◌, suc, ◌-◌, ◌+◌, length, sym, ap, ◌∙◌, arith}
use Rattle.run_rules.specs.World.{has, lineage, is_under}
use Rattle.run_rules.proofs.Chains.{chain_found, chain_more, chain_nothing, chain_ends}
use Rattle.plain_world.proofs.look.is_under.Goals as goal

pub loop-level-init : goal.loop-level-init
loop-level-init c = ap (λ k. has (lineage k c.args.live.now.devices c.args.serial) c.args.above) (omega arith)

pub loop-level-preserved : goal.loop-level-preserved
loop-level-preserved c =
    let live = c.args.live.now.devices in
    let more : suc (length live - (c.loop-level._level + 1)) ≡ length live - c.loop-level._level = omega arith in
    rw c.parent_of-current.ensures
    (sym (chain_more live (length live - (c.loop-level._level + 1)) c.loop-level.current c.args.above c.if-current-above.false)
    ∙ ap (λ k. has (lineage k live c.loop-level.current) c.args.above) more ∙ c.loop-level.invariant)

pub returns-then-current-above : goal.returns-then-current-above
unfolding is_under
returns-then-current-above c =
    sym (chain_found c.args.live.now.devices (length c.args.live.now.devices - c.loop-level._level) c.loop-level.current c.args.above (omega arith) c.if-current-above.true) ∙ c.loop-level.invariant

pub returns-then-current-eq0 : goal.returns-then-current-eq0
unfolding is_under
returns-then-current-eq0 c =
    let ne : 0 ≢ c.args.above = λ e. c.if-current-above.false (c.if-current-eq0.true ∙ e) in
    sym (ap (λ x. has (lineage (length c.args.live.now.devices - c.loop-level._level) c.args.live.now.devices x) c.args.above) c.if-current-eq0.true
    ∙ chain_ends c.args.live.now.devices (length c.args.live.now.devices - c.loop-level._level) c.args.above c.stands.ensures.above ne) ∙ c.loop-level.invariant

pub returns : goal.returns
unfolding is_under
returns c =
    sym (chain_nothing c.args.live.now.devices (length c.args.live.now.devices - c.loop-level._level) c.loop-level.current c.args.above (omega arith)) ∙ c.loop-level.invariant
