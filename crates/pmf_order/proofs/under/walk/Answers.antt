use Rattle.std.proofs.Common.{◌%◌, sym, ◌∙◌, arith}
use Rattle.run_rules.proofs.Climbs.{climb_ends, climb_first, climb_meets, climb_more, climb_root, kept_misses}
use Rattle.pmf_order.proofs.Numbered.{all_positive}
use Rattle.pmf_order.proofs.under.walk.Goals as goal

pub loop-level-init : goal.loop-level-init
loop-level-init c = climb_first c.args.tree.now.live c.args.target c.args.serial

pub loop-level-preserved : goal.loop-level-preserved
loop-level-preserved c =
    rw c.parent_of-current.ensures
    (climb_more c.args.tree.now.live c.args.target c.args.serial c.loop-level._level c.loop-level.current (omega arith) c.if-current-target.false c.loop-level.invariant)

pub returns-then-current-target : goal.returns-then-current-target
returns-then-current-target c = climb_meets c.args.tree.now.live c.args.target c.args.serial c.loop-level._level c.loop-level.current (omega arith) c.if-current-target.true c.loop-level.invariant

pub returns-then-current-eq0 : goal.returns-then-current-eq0
returns-then-current-eq0 c =
    climb_root c.args.tree.now.live c.args.target c.args.serial c.loop-level._level c.loop-level.current (all_positive c.args.tree.now.live c.args.tree.now.next c.stands.ensures.placed) c.if-current-target.false c.if-current-eq0.true c.loop-level.invariant

pub returns-then-has : goal.returns-then-has
returns-then-has c =
    c.loop-level.invariant.never
    (kept_misses c.args.tree.now.live c.args.target c.args.strangers.now.serials (c.loop-level.current % 64) c.loop-level.current c.requires c.if-current-eq0.false (sym c.has.ensures ∙ c.if-has.true))

pub returns : goal.returns
returns c = climb_ends c.args.tree.now.live c.args.target c.args.serial c.loop-level._level c.loop-level.current (omega arith) c.loop-level.invariant
