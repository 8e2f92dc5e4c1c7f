use Rattle.std.proofs.Common.{◌≡◌, ◌<◌, ◌∙◌, ℕ, ap, arith, length, subst, sym}
use Rattle.run_rules.specs.declared.deed.Choice.TheVariants.{Does}
use Rattle.run_rules.specs.declared.deed.Deed.TheVariants.{Free}
use Rattle.deed_effect.specs.SlotDeeds.{WaitsForLeases}
use Rattle.run_rules.specs.World.{World}
use Rattle.run_rules.specs.Next.{next}
use Rattle.run_rules.specs.After.{after}
use Rattle.run_sound.specs.Left.{boot_left}
use Rattle.run_sound.proofs.Callers.{doing_so}
use Rattle.run_sound.proofs.Falls.{boot_falls}
use Rattle.dev_board.specs.Stepping.{WaitIs}
use Rattle.dev_board.specs.Witness.{lease_step}
use Rattle.dev_board.proofs.Kept.{does_next, kept_shown, kept_step}
use Rattle.dev_board.proofs.NextLaws.{none_kept}
use Rattle.dev_board.proofs.step.step_by.Goals as goal

pub perform-requires : goal.perform-requires
perform-requires g c = record {
  kept = c.requires.may.kept;
  agree = c.requires.may.agree;
  chosen = c.requires.chosen;
}

pub returns-in-Ok-clause-stepped : goal.returns-in-Ok-clause-stepped
returns-in-Ok-clause-stepped g c =
    let old = c.args.state.now in
    let w : World = old.going in
    let k = c.args.caller in
    let d = c.args.deed.now in
    let did = c.in-Ok.ensures.ok in
    let goes = c.stands.ensures.goes_on in
    let place : c.len-place.result ≡ length old.events.items = omega (arith, c.len-place.ensures, old.events.ok) in
    record {
      step = (
        c.requires.may.goes_on,
        none_kept w k d goes.kept c.requires.chosen c.requires.other,
        does_next old c.perform.new.state k d c.len-place.result _ c.in-Ok.told c.requires.chosen did place (ap (λ (v : World). lease_step w v k) did.world) c.in-Ok.ensures.told,
      );
      kept = kept_step old c.perform.new.state k d c.requires.may.kept c.requires.chosen did;
      agree = c.perform.ensures.agree;
      falls = λ is boots.
          (let chosen : next w 0 ≡ Does d = subst (λ (j : ℕ). next w j ≡ Does d) boots c.requires.chosen in
          rw did.world (subst (λ (j : ℕ). boot_left (after w j d) < boot_left w) (sym boots) (boot_falls w d goes.may goes.kept chosen)));
    }

pub returns-in-Ok-clause-denials : goal.returns-in-Ok-clause-denials
returns-in-Ok-clause-denials g c = c.in-Ok.ensures.quiet

pub returns-in-Err-Memory-clause-stepped : goal.returns-in-Err-Memory-clause-stepped
returns-in-Err-Memory-clause-stepped g c = record {
  step = (c.requires.may.goes_on, (doing_so c.args.state.now.going c.args.caller c.args.deed.now c.requires.chosen).unended, c.in-Err-Memory.ensures.err);
  kept = kept_shown c.args.state.now c.perform.new.state c.in-Err-Memory.ensures.err c.requires.may.kept;
  agree = c.perform.ensures.agree;
  falls = λ did. absurd did;
}

pub returns-in-Err-Waits-clause-stepped : goal.returns-in-Err-Waits-clause-stepped
returns-in-Err-Waits-clause-stepped g c =
    let w : World = c.args.state.now.going in
    let halt : (of : ℕ) × (c.args.deed.now ≡ Free of) × WaitsForLeases w.live of (g.S.Slots.denials c.args.slots.now) c.in-Err-Waits.why (g.S.Slots.denials c.perform.new.slots) (g.S.Slots.last_denial c.perform.new.slots) =
    rw c.in-Err-Waits.field-0-is at c.in-Err-Waits.ensures.halt in
    record {
      step = (c.requires.may.goes_on, subst (WaitIs w c.args.caller) (sym halt.2.why_is) (c.requires.chosen ∙ ap Does halt.1), c.in-Err-Waits.ensures.err);
      kept = kept_shown c.args.state.now c.perform.new.state c.in-Err-Waits.ensures.err c.requires.may.kept;
      agree = c.perform.ensures.agree;
      falls = λ did. absurd did;
    }
