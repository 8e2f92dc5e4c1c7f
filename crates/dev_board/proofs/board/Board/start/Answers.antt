use Rattle.std.proofs.Common.{◌≡◌, subst, sym}
use Rattle.std.specs.Prelude.{IfOk}
use Rattle.run_rules.specs.declared.world.Setup.{Setup}
use Rattle.run_rules.specs.World.{opening, setup_of}
use Rattle.run_sound.specs.Kept.{MayRun}
use Rattle.run_world.proofs.InputLaws.{bounded}
use Rattle.run_world.specs.Scripted.{FormedScripts}
use Rattle.dev_board.proofs.ScriptedLaws.{scripts_may}
use Rattle.dev_board.proofs.board.Board.start.Goals as goal

pub make-requires : goal.make-requires
make-requires c =
    bounded (setup_of c.args.tables c.args.machine c.args.scripts)
    (scripts_may c.args.tables c.args.machine c.args.scripts c.requires.tables c.requires.machine c.requires.few_scripts c.requires.scripts)

pub on_site-requires-clause-may : goal.on_site-requires-clause-may
on_site-requires-clause-may c =
    subst MayRun (sym c.in-Ok.ensures) (scripts_may c.args.tables c.args.machine c.args.scripts c.requires.tables c.requires.machine c.requires.few_scripts c.requires.scripts)

pub on_site-requires-clause-scripts : goal.on_site-requires-clause-scripts
on_site-requires-clause-scripts c = subst FormedScripts (sym c.in-Ok.ensures) (record { formed = c.requires.scripts })

pub returns-in-Ok-clause-world : goal.returns-in-Ok-clause-world
returns-in-Ok-clause-world c = subst (λ (s : Setup). IfOk c.on_site.result (λ b. b.world ≡ opening s)) c.in-Ok.ensures c.on_site.ensures.world
