use Rattle.std.proofs.Common.{◌≡◌, ◌==◌, ◌∙◌, Option, Some, [], ap, subst, sym}
use Rattle.std.specs.Option.{option_map_or}
use Rattle.std.specs.Prelude.{IfOk}
use Rattle.run_rules.specs.declared.event.Act.{Act}
use Rattle.run_rules.specs.declared.world.Dev.{Dev}
use Rattle.run_rules.specs.World.{device_at, name_of}
use Rattle.run_world.specs.Recent.{called}
use Rattle.deed_event.specs.Resting.{rest_of}
use Rattle.told_names.proofs.LateLaws.{any_found}
use Rattle.deed_event.proofs.RecentLaws.{rest_told}
use Rattle.deed_event.proofs.event.rest.Goals as goal

pub unreachable-requires : goal.unreachable-requires
unreachable-requires c = any_found (λ d. d.serial == c.args.of) c.args.going.now.live c.requires.live (sym c.device.ensures.found ∙ c.in_default.is)

pub returns-in_ok-clone-in-Some-kept_act-clause-act : goal.returns-in_ok-clone-in-Some-kept_act-clause-act
returns-in_ok-clone-in-Some-kept_act-clause-act c =
    let s = c.args.going.now.setup in
    let d = c.in-Some.device in
    let at : device_at c.args.going.now.live c.args.of ≡ Some d = sym c.device.ensures.found ∙ c.in-Some.is in
    c.in_ok-clone-in-Some-kept_act.ensures
    ∙ c.in-Some-kept_act.ensures
    ∙ rw (c.resting.ensures, c.of.ensures) (rest_told s c.args.asleep (called d))
    ∙ ap (λ (o : Option Dev). rest_of c.args.asleep (option_map_or (name_of s) o [])) (sym at)

pub returns-in-None-clause-act : goal.returns-in-None-clause-act
returns-in-None-clause-act c =
    let s = c.args.going.now.setup in
    let at : device_at c.args.going.now.live c.args.of ≡ Some c.in-Some.device = sym c.device.ensures.found ∙ c.in-Some.is in
    subst (λ (a : Act). IfOk c.first_rest.result (λ told. told ≡ a)) (ap (λ (o : Option Dev). rest_of c.args.asleep (option_map_or (name_of s) o [])) (sym at))
    c.first_rest.ensures.act
