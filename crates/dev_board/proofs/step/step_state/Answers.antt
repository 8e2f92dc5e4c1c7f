use Rattle.std.proofs.Common.{◌∙◌, ℕ, ap, arith, refl, subst}
use Rattle.run_rules.specs.World.{opening}
use Rattle.run_rules.specs.declared.world.Setup.{Setup}
use Rattle.dev_board.specs.Witness.{told_stop}
use Rattle.dev_board.specs.Stepping.{StepIs}
use Rattle.dev_board.specs.StateKept.{shown_of}
use Rattle.dev_board.proofs.NextLaws.{of_boot}
use Rattle.dev_board.proofs.step.step_state.Goals as goal

pub returns-in-None-clause-boot : goal.returns-in-None-clause-boot
returns-in-None-clause-boot g c = λ boots.
    (let old = shown_of c.args.state.now in
    let new = shown_of c.next_step.new.state in
    of_boot old new c.next_step.result c.stands.ensures.goes_on.kept (subst (λ (k : ℕ). StepIs old k c.next_step.result new) boots c.next_step.ensures.stepped.step))

pub returns-in-None-clause-step : goal.returns-in-None-clause-step
returns-in-None-clause-step g c = c.next_step.ensures.stepped.step

pub returns-in-None-clause-kept : goal.returns-in-None-clause-kept
returns-in-None-clause-kept g c = c.next_step.ensures.stepped.kept

pub returns-in-None-clause-agree : goal.returns-in-None-clause-agree
returns-in-None-clause-agree g c = c.next_step.ensures.stepped.agree

pub returns-in-None-clause-denials : goal.returns-in-None-clause-denials
returns-in-None-clause-denials g c = c.next_step.ensures.denials

pub returns-in-None-clause-falls : goal.returns-in-None-clause-falls
returns-in-None-clause-falls g c = c.next_step.ensures.stepped.falls

pub returns-in-Some-clause-kept : goal.returns-in-Some-clause-kept
returns-in-Some-clause-kept g c = c.requires.kept

pub returns-in-Some-clause-agree : goal.returns-in-Some-clause-agree
returns-in-Some-clause-agree g c = c.requires.agree

pub returns-in-Some-clause-denials : goal.returns-in-Some-clause-denials
returns-in-Some-clause-denials g c = (refl, refl)

pub returns-in-Some-clause-falls : goal.returns-in-Some-clause-falls
returns-in-Some-clause-falls g c = λ did. absurd did

pub next_step-requires : goal.next_step-requires
next_step-requires g c = record {
  may = record {
    kept = c.requires.kept;
    caller = omega (arith, c.requires.caller, c.stands.ensures.goes_on.kept.ranges.callers.as_many);
    agree = c.requires.agree;
    goes_on = c.in-None.is;
  };
}

pub returns-in-Some-clause-boot : goal.returns-in-Some-clause-boot
returns-in-Some-clause-boot g c = λ boots. tt

pub returns-in-Some-clause-step : goal.returns-in-Some-clause-step
returns-in-Some-clause-step g c = (c.in-Some.is, c.of_stop.ensures ∙ ap (λ (s : Setup). told_stop (opening s) c.args.caller c.in-Some.first) c.setup.ensures, refl)
