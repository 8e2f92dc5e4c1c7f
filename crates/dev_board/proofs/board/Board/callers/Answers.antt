use Rattle.std.proofs.Common.{◌≡◌, ◌∙◌, ap, arith, length}
use Rattle.run_rules.specs.declared.world.Setup.{Setup}
use Rattle.dev_board.proofs.board.Board.callers.Goals as goal

pub overflow_cast-result : goal.overflow_cast-result
overflow_cast-result c = omega (arith, c.len.ensures, ap (λ (s : Setup). length s.scripts) c.setup.ensures, c.stands.ensures.goes_on.may.few_scripts)
