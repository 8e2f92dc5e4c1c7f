use Rattle.std.proofs.Common.{◌∙◌, subst, sym}
use Rattle.dev_board.specs.Shown.{Shown}
use Rattle.dev_board.specs.Booting.{GoesOn, Boots}
use Rattle.dev_board.proofs.Began.{calm_booted}
use Rattle.dev_board.proofs.Boots.{goes_further, boots_now}
use Rattle.dev_board.proofs.boot.run_boot.Goals as goal

pub loop-preserved : goal.loop-preserved
loop-preserved g c =
    let did = c.in-Did.ensures.step in
    let so : GoesOn c.args.board.now c.step.new.self = goes_further c.args.board.now c.loop.board c.step.new.self c.in-Did.field-0 c.in-Did.field-1 c.loop.invariant.so_far did.2 in
    record { agree = c.step.ensures.agree; goes_on = so.1.stopped ∙ c.requires.goes_on; so_far = so }

pub returns-in-Closed-clause-booted : goal.returns-in-Closed-clause-booted
returns-in-Closed-clause-booted g c =
    let closed = c.in-Closed.ensures.step in
    subst (λ (b : Shown). Boots c.args.board.now b) (sym closed.2) (boots_now c.args.board.now c.loop.board c.loop.invariant.so_far closed.1)

pub returns-in-Closed-clause-calm : goal.returns-in-Closed-clause-calm
returns-in-Closed-clause-calm g c =
    let closed = c.in-Closed.ensures.step in
    let booted : Boots c.args.board.now c.step.new.self =
    subst (λ (b : Shown). Boots c.args.board.now b) (sym closed.2) (boots_now c.args.board.now c.loop.board c.loop.invariant.so_far closed.1) in
    calm_booted c.args.board.now c.step.new.self c.stands.ensures.may c.stands.ensures.run booted
