use Rattle.std.proofs.Common.{◌∙◌, ap, ◌++◌, ℕ, List, arith}
use Rattle.run_rules.specs.declared.world.Dev.{Dev}
use Rattle.plain_names.proofs.KinLaws.{no_level, told_whole}
use Rattle.plain_names.proofs.tree.+push_below.Goals as goal

pub returns-then-levels-eq0 : goal.returns-then-levels-eq0
returns-then-levels-eq0 t c = no_level c.args.kin.now.live.now c.args.levels c.args.depth c.args.parent c.args.placed.now.items c.if-levels-eq0.true

pub returns : goal.returns
returns t c =
    c.loop-index.invariant
    ∙ ap (λ (more : List (ℕ × Dev)). c.args.placed.now.items ++ more)
    (told_whole c.near-near.result.now c.args.kin.now.live.now c.args.levels c.args.depth c.args.parent c.loop-index.index c.if-levels-eq0.false (omega arith) c.near-near.ensures)
