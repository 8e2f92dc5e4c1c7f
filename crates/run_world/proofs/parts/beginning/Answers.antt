use Rattle.std.proofs.Common.{◌∙◌, ◌∷◌, [], ap, arith, length}
use Rattle.run_rules.specs.World.{Caller, beginning, scan_of, opening}
use Rattle.run_world.specs.View.{callers_of}
use Rattle.run_world.proofs.Beginnings.{one_more, all_scripts}
use Rattle.run_world.proofs.parts.beginning.Goals as goal

pub loop-script-preserved : goal.loop-script-preserved
loop-script-preserved c =
    ap callers_of c.in_ok-push-2.ensures.items
    ∙ one_more c.loop-script.callers.items c.beginning.result (beginning (scan_of 0 ∷ [])) (beginning []) c.args.setup.now.scripts c.loop-script._script-index
    (omega (arith, c.loop-script-test.true, ap length c.items-script-items.ensures)) c.loop-script.invariant (ap (λ (x : Caller). x ∷ []) c.beginning.ensures)

pub returns : goal.returns
unfolding opening
returns c =
    all_scripts (callers_of c.loop-script.callers.items) (beginning (scan_of 0 ∷ [])) (beginning []) c.args.setup.now.scripts c.loop-script._script-index
    (omega (arith, c.loop-script-test.false, ap length c.items-script-items.ensures)) c.loop-script.invariant
