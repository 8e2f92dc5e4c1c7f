use Rattle.std.proofs.Common.{◌<◌, ◌^◌, List, length, sym, subst, arith}
use Rattle.plain_world.specs.declared.rules.Rules.{Rules}
use Rattle.plain_world.specs.Plain.{world_of}
use Rattle.every_order.specs.declared.known.Met.{Met}
use Rattle.every_order.specs.Noted.{IsFoundIn}
use Rattle.every_order.specs.Search.{AreMet}
use Rattle.every_order.proofs.Noting.{is_every}
use Rattle.every_order.proofs.Whole.{of_none, of_some}
use Rattle.every_order.proofs.every.every_from.Goals as goal

pub found_in-requires : goal.found_in-requires
found_in-requires c =
    let s = c.args.seeker.now.rules.now in
    let rules = c.in_ok-met.ensures.rules in
    let whole = of_some s (world_of s c.args.start) c.args.most c.in_ok-met.field-0 c.in-Some.met c.in-Some.is c.in_ok-met.ensures.worlds in
    record {
      met = subst (λ (r : Rules). AreMet r c.deref.result.now) (sym rules) (subst (AreMet s) (sym c.deref.ensures.value) whole.0.kept);
      few = subst (λ (l : List Met). length l < 2 ^ 32) (sym c.deref.ensures.value) (omega (arith, whole.1, c.ranges.most));
    }

pub returns-in_ok-every-in-Some : goal.returns-in_ok-every-in-Some
returns-in_ok-every-in-Some c =
    let s = c.args.seeker.now.rules.now in
    let rules = c.in_ok-met.ensures.rules in
    let whole = of_some s (world_of s c.args.start) c.args.most c.in_ok-met.field-0 c.in-Some.met c.in-Some.is c.in_ok-met.ensures.worlds in
    is_every s (world_of s c.args.start) c.args.most c.in-Some.met.items c.in_ok-every-in-Some.every whole.0 whole.1
    (subst (λ (l : List Met). IsFoundIn s l c.in_ok-every-in-Some.every) c.deref.ensures.value (subst (λ (r : Rules). IsFoundIn r c.deref.result.now c.in_ok-every-in-Some.every) rules c.in_ok-every-in-Some.ensures))

pub returns-in-None : goal.returns-in-None
returns-in-None c =
    let s = c.args.seeker.now.rules.now in
    of_none s (world_of s c.args.start) c.args.most c.in_ok-met.field-0 c.in-None.is c.in_ok-met.ensures.worlds
