use Rattle.std.proofs.Common.{◌∷◌, ◌∙◌, List, ap, arith}
use Rattle.std.proofs.lemmas.List.{length-map}
use Rattle.std.specs.Prelude.{OnErr}
use Rattle.std.specs.declared.result.Result.{Result}
use Rattle.std.specs.declared.result.Result.TheVariants.{Ok, Err}
use Rattle.run_rules.specs.declared.world.Activity.TheVariants as activity
use Rattle.run_rules.specs.declared.world.Frame.{Frame}
use Rattle.run_rules.specs.World.{Caller}
use Rattle.run_world.specs.View.{caller_of, world_of}
use Rattle.run_world.proofs.CallerLaws.{caller_set, room_made}
use Rattle.run_world.proofs.CallerLaws.{with_callers}
use Rattle.run_world.proofs.CallerLaws.{scans_on}
use Rattle.run_world.proofs.activity.begin_scan.Goals as goal

on_err : {A B P : Type 0} (r : Result A B) → P → OnErr r P
on_err (Ok x) p = tt
on_err (Err x) p = p

pub returns-in_err-reserve-clause-err : goal.returns-in_err-reserve-clause-err
returns-in_err-reserve-clause-err c =
    on_err c.from_residual.result (λ s.
    ap (with_callers (world_of s c.args.core.now))
    (room_made c.args.core.now.callers.items c.args.caller c.index_mut-state.result.now c.reserve.new.self c.requires.caller c.index_mut-state.ensures.value c.in_err-reserve.ensures.frames))

pub returns-clause-ok : goal.returns-clause-ok
returns-clause-ok c = λ s.
    (let x = c.index_mut-state.result.now in
    ap (with_callers (world_of s c.args.core.now))
    (caller_set (λ (y : Caller). record { over = y.over; doing = activity.Scans; stack = c.args.frame ∷ y.stack }) c.args.core.now.callers.items c.args.caller x c.push.new.self c.requires.caller c.index_mut-state.ensures.value
    (c.push.ensures.caller ∙ ap (λ (fs : List Frame). record { over = x.over; doing = activity.Scans; stack = c.args.frame ∷ fs }) c.in_ok-reserve.ensures.frames))
    ∙ scans_on (world_of s c.args.core.now) c.args.caller c.args.frame (omega (arith, c.requires.caller, length-map c.args.core.now.callers.items caller_of)))
