use Rattle.std.proofs.Common.{◌≡◌, length, subst, sym, ap, ◌∙◌}
use Rattle.std.proofs.lemmas.Result.{IfOk-weaker}
use Rattle.run_rules.specs.Counts.{ends_of}
use Rattle.run_rules.specs.Run.{Run}
use Rattle.run_rules.specs.World.{World}
use Rattle.dev_board.specs.Shown.{began}
use Rattle.board_lock.specs.Boards.{FinishedShown, scripts_of}
use Rattle.board_lock.specs.Carried.{CarriedRun}
use Rattle.drv_workers.proofs.Rooms.{some_done, some_scripts}
use Rattle.drv_workers.proofs.Wholes.{same_count}
use Rattle.drv_workers.proofs.run.run_named.Goals as goal

pub finish-requires-clause-some : goal.finish-requires-clause-some
finish-requires-clause-some g c =
    some_done (scripts_of c.args.board.world) (length c.in_ok-shared.seats) (length c.in_ok-done.done) c.requires.some c.in_ok-shared.ensures.each c.in_ok-done.ensures

pub over_only-requires-clause-scripts : goal.over_only-requires-clause-scripts
over_only-requires-clause-scripts g c = (
  c.len-scripts.ensures ∙ c.in_ok-shared.ensures.each ∙ same_count c.args.board c.finish.result.board g.N.Naming.opening c.requires.names.opening c.finish.ensures.opening,
  some_scripts (scripts_of c.args.board.world) (length c.in_ok-shared.seats) c.len-scripts.result c.requires.some c.in_ok-shared.ensures.each c.len-scripts.ensures,
)

pub returns-clause-ended : goal.returns-clause-ended
returns-clause-ended g c =
    IfOk-weaker c.over_only.result (λ (r : FinishedShown). r ≡ c.finish.result) (λ (r : FinishedShown). r.ended ≡ ends_of r.board.events)
    (λ r same. ap (λ (x : FinishedShown). x.ended) same ∙ (c.finish.ensures.ends ∙ ap (λ (x : FinishedShown). ends_of x.board.events) (sym same)))
    c.over_only.ensures.same

pub returns-clause-opening : goal.returns-clause-opening
returns-clause-opening g c =
    IfOk-weaker c.over_only.result (λ (r : FinishedShown). r ≡ c.finish.result) (λ (r : FinishedShown). began r.board ≡ began c.args.board)
    (λ r same. ap (λ (x : FinishedShown). began x.board) same ∙ (c.finish.ensures.opening ∙ sym c.requires.names.opening))
    c.over_only.ensures.same

pub returns-clause-run : goal.returns-clause-run
returns-clause-run g c =
    IfOk-weaker c.over_only.result (λ (r : FinishedShown). r ≡ c.finish.result)
    (λ (r : FinishedShown). Run (began c.args.board) r.board.events r.board.world)
    (λ r same. subst (λ (x : FinishedShown). Run (began c.args.board) x.board.events x.board.world) (sym same)
    (subst (λ (w : World). Run w c.finish.result.board.events c.finish.result.board.world) (sym c.requires.names.opening) c.finish.ensures.run))
    c.over_only.ensures.same

pub returns-clause-carried : goal.returns-clause-carried
returns-clause-carried g c =
    IfOk-weaker c.over_only.result (λ (r : FinishedShown). r ≡ c.finish.result)
    (λ (r : FinishedShown). CarriedRun g.N.Naming.carried (began c.args.board) r.board.events r.board.world)
    (λ r same. subst (λ (x : FinishedShown). CarriedRun g.N.Naming.carried (began c.args.board) x.board.events x.board.world) (sym same)
    (subst (λ (w : World). CarriedRun g.N.Naming.carried w c.finish.result.board.events c.finish.result.board.world) (sym c.requires.names.opening)
    c.finish.ensures.carried))
    c.over_only.ensures.same
