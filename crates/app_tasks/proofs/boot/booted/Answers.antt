use Rattle.std.proofs.Common.{List, ap, arith, length, sym, subst}
use Rattle.std.specs.Prelude.{All}
use Rattle.std.proofs.lemmas.List.Elements.{All-nil}
use Rattle.cf_types.specs.declared.machine.Command.{Command}
use Rattle.config_rules.specs.ScriptText.{FormedScript}
use Rattle.app_tasks.proofs.RanLaws.{boot_of}
use Rattle.app_tasks.proofs.boot.booted.Goals as goal

pub booted_board-requires-clause-few_scripts : goal.booted_board-requires-clause-few_scripts
booted_board-requires-clause-few_scripts c = omega (arith, ap length c.make.ensures)

pub booted_board-requires-clause-scripts : goal.booted_board-requires-clause-scripts
booted_board-requires-clause-scripts c = subst (λ (scripts : List (List Command)). All FormedScript scripts) (sym c.make.ensures) (All-nil FormedScript)

pub returns : goal.returns
returns c = boot_of c.args.tables c.args.machine c.make.result c.in_ok-board.board _ c.requires.formed c.requires.fits c.make.ensures c.in_ok-board.ensures
