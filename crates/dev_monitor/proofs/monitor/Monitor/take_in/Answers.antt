use Rattle.std.proofs.Common.{◌+◌, ◌∙◌, ℕ, List, ap, refl, subst, take, arith}
use Rattle.std.proofs.lemmas.List.{take_all}
use Rattle.run_rules.specs.declared.event.Event.{Event}
use Rattle.dev_monitor.specs.Queues.{IsOf, TakesSome}
use Rattle.dev_monitor.specs.Subscribers.{with_all}
use Rattle.dev_monitor.proofs.BoardLaws.{at_first, living_at, one_further, stopped_at}
use Rattle.dev_monitor.proofs.WatchLaws.{on_err}
use Rattle.dev_monitor.proofs.monitor.Monitor.take_in.Goals as goal

pub loop-place-init : goal.loop-place-init
loop-place-init c = record { taken = refl; stands = λ w of front. at_first w c.args.board.now.events c.args.self.now of front }

pub loop-place-preserved : goal.loop-place-preserved
loop-place-preserved c =
    let b = c.args.board.now in
    record {
      taken = c.in_ok-take_event.ensures.taken ∙ ap (λ (n : ℕ). n + 1) c.loop-place.invariant.taken;
      stands = λ w of front.
          one_further w b.events _ c.loop-place.place c.event.result.now c.event.ensures
          (c.in_ok-take_event.ensures.ok (with_all w (take c.loop-place.place b.events)) (c.loop-place.invariant.stands w of front)
          (living_at b.world.setup b.events b.world c.loop-place.place c.event.result.now c.stands.ensures.may c.stands.ensures.run c.event.ensures));
    }

pub returns-in_err-take_event-clause-err : goal.returns-in_err-take_event-clause-err
returns-in_err-take_event-clause-err c =
    let b = c.args.board.now in
    on_err (TakesSome c.args.self.now b.events c.take_event.new.self) c.from_residual.result
    (λ w of front. stopped_at w b.events c.args.self.now c.take_event.new.self c.loop-place.place of front c.loop-place.auto.place
    (c.in_err-take_event.ensures.err (with_all w (take c.loop-place.place b.events)) (c.loop-place.invariant.stands w of front)))

pub returns-clause-ok : goal.returns-clause-ok
returns-clause-ok c = λ w of front.
    subst (λ (h : List Event). IsOf (with_all w h) c.loop-place.self) (take_all c.loop-place.place c.args.board.now.events (omega arith)) (c.loop-place.invariant.stands w of front)
