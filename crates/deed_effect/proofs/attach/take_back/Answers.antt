use Rattle.std.proofs.Common.{◌∙◌, ap}
use Rattle.run_rules.specs.declared.world.Key.TheVariants as key
use Rattle.run_rules.specs.declared.world.Placing.{Placing}
use Rattle.run_world.specs.Arrivals.{put_off_too}
use Rattle.deed_effect.proofs.ArriveLaws.{taken_back}
use Rattle.deed_effect.proofs.attach.take_back.Goals as goal

pub returns-in-Queued : goal.returns-in-Queued
returns-in-Queued c = λ es serial was.
    taken_back es c.args.deferred.now c.take_last.new.self key.Interrupts serial c.take_last.result (was ∙ ap (λ (p : Placing). put_off_too p es c.args.parent serial) c.in-Queued.is) c.take_last.ensures

pub returns-in-PutOff : goal.returns-in-PutOff
returns-in-PutOff c = λ es serial was.
    taken_back es c.args.deferred.now c.take_last-in-PutOff.new.self (key.Parent c.args.parent) serial c.take_last-in-PutOff.result
    (was ∙ ap (λ (p : Placing). put_off_too p es c.args.parent serial) c.in-PutOff.is) c.take_last-in-PutOff.ensures
