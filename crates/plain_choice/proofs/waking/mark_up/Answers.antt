use Rattle.std.proofs.Common.{◌≡◌, ◌≢◌, suc, ◌-◌, ◌+◌, length, sym, ap, ◌∙◌, arith}
use Rattle.run_rules.specs.World.{has, is_under, lineage}
use Rattle.run_rules.proofs.Chains.{chain_ends, chain_more, chain_nothing}
use Rattle.plain_choice.proofs.Unmarked.{unmarked}
use Rattle.plain_choice.proofs.waking.mark_up.Goals as goal

pub loop-level-init : goal.loop-level-init
loop-level-init c = λ s free. ap (λ k. has (lineage k c.args.live.now.devices c.args.target) s) (omega arith)

pub loop-level-preserved : goal.loop-level-preserved
loop-level-preserved c = λ s free.
    let live = c.args.live.now.devices in
    let current = c.loop-level.current in
    let more : suc (length live - (c.loop-level._level + 1)) ≡ length live - c.loop-level._level = omega arith in
    let other = unmarked c.loop-level.marks current s (omega arith) free in
    rw c.parent_of-current.ensures
    (sym (chain_more live (length live - (c.loop-level._level + 1)) current s other.1)
    ∙ ap (λ k. has (lineage k live current) s) more ∙ c.loop-level.invariant s other.0)

pub returns-then-current-eq0 : goal.returns-then-current-eq0
unfolding is_under
returns-then-current-eq0 c = λ s free.
    let live = c.args.live.now.devices in
    let left = length live - c.loop-level._level in
    let other = unmarked c.loop-level.marks c.loop-level.current s (omega arith) free in
    let ne : 0 ≢ s = λ e. other.1 (c.if-current-eq0.true ∙ e) in
    sym (c.loop-level.invariant s other.0) ∙ ap (λ x. has (lineage left live x) s) c.if-current-eq0.true
    ∙ chain_ends live left s c.stands.ensures.above ne

pub returns : goal.returns
unfolding is_under
returns c = λ s free.
    let live = c.args.live.now.devices in
    sym (c.loop-level.invariant s free) ∙ chain_nothing live (length live - c.loop-level._level) c.loop-level.current s (omega arith)
