use Rattle.std.proofs.Common.{ap, arith, length}
use Rattle.run_rules.specs.declared.world.Setup.{Setup}
use Rattle.dev_board.proofs.WhoGoes.{all_lines}
use Rattle.dev_board.proofs.waiting.lines_of.Goals as goal

pub returns : goal.returns
returns c =
    let all = c.loop-i-test.false in
    let few = c.loop-i.auto.i-end in
    let many = c.len-scripts.ensures in
    all_lines c.args.going.now c.loop-i.i c.loop-i.lines (omega (arith, ap (λ (s : Setup). length s.scripts) c.setup.ensures)) c.loop-i.invariant
