use Rattle.std.proofs.Common.{◌<◌, length, subst, sym, ◌∙◌}
use Rattle.run_rules.specs.declared.world.Setup.{Setup}
use Rattle.run_rules.specs.World.{opening, setup_of}
use Rattle.run_rules.specs.Run.{Run}
use Rattle.boot_laws.proofs.Thorough.{thorough}
use Rattle.dev_board.proofs.Began.{opening_setup}
use Rattle.dev_board.proofs.ScriptedLaws.{scripts_may}
use Rattle.board_lock.specs.Carried.{CarriedRun}
use Rattle.board_lock.proofs.Opened.{same_setup}
use Rattle.whole_laws.proofs.Ordered.{all_in_order}
use Rattle.app_run.proofs.Left.{run_out}
use Rattle.app_run.proofs.scripts.side_by_side.Goals as goal

pub run_scripts-requires-clause-some : goal.run_scripts-requires-clause-some
run_scripts-requires-clause-some g c = λ κs bounds. subst (λ (s : Setup). 0 < length s.scripts) (sym c.in_ok-board.ensures.setup) c.requires.some

pub returns : goal.returns
returns g c =
    let is = c.in_ok-board.ensures.setup in
    let left = c.in_ok-left.left.board in
    let begun = same_setup left (opening c.in_ok-board.board.world.setup) c.in_ok-left.ensures.opening in
    let s : Setup = setup_of c.args.tables c.args.machine c.args.scripts in
    let run : Run (opening s) left.events left.world = subst (λ (x : Setup). Run (opening x) left.events left.world) is c.in_ok-left.ensures.run in
    let may = scripts_may c.args.tables c.args.machine c.args.scripts c.requires.formed c.requires.fits c.requires.few c.requires.scripts in
    run_out g.M.Medium.carried s c.in_ok-left.left (λ reliable. record {
      run = run;
      transfers = subst (λ (x : Setup). CarriedRun g.M.Medium.carried (opening x) left.events left.world) is c.in_ok-left.ensures.carried;
      made = begun ∙ (opening_setup c.in_ok-board.board.world.setup ∙ is);
      ordered = all_in_order s left.events left.world may run;
      reliable = reliable;
      thorough = thorough s left.events left.world may run;
    }) c.in_ok-left.ensures.over
