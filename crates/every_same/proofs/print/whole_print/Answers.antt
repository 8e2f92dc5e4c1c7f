use Rattle.std.proofs.Common.{◌≡◌, ◌∙◌, ℕ, List, ap}
use Rattle.std.specs.Prelude.{fold}
use Rattle.run_rules.specs.declared.world.Deferred.{Deferred}
use Rattle.run_rules.specs.declared.world.Setup.{Setup}
use Rattle.run_rules.specs.World.{Caller}
use Rattle.every_same.specs.Print.{mixed, option_number, with_caller, with_deferred}
use Rattle.every_same.proofs.print.whole_print.Goals as goal

pub returns : goal.returns
returns c = λ s.
    c.mix_callers.ensures
    ∙ ap (λ (l : List Caller). fold with_caller c.mix_all_deferred.result l) c.deref.ensures.value
    ∙ ap (λ (n : ℕ). fold with_caller n c.args.plain.now.callers.items)
    (c.mix_all_deferred.ensures
    ∙ ap (λ (l : List Deferred). fold with_deferred c.mix_option-print.result l) c.list.ensures
    ∙ ap (λ (n : ℕ). fold with_deferred n c.args.plain.now.deferred)
    (c.mix_option-print.ensures ∙ ap (λ (n : ℕ). mixed n (option_number c.args.plain.now.power_owner)) (c.hardware_print.ensures s)))
