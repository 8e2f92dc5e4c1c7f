use Rattle.std.proofs.Common.{◌+◌, ◌∙◌, ℕ, refl, sym, ap}
use Rattle.std.specs.Prelude.{Option}
use Rattle.std.specs.Option.{option_map_or}
use Rattle.run_rules.specs.World.{Caller, caller_at}
use Rattle.run_rules.specs.declared.deed.Choice.TheVariants.{Does, Waits}
use Rattle.run_rules.specs.declared.world.Wait.TheVariants as wait
use Rattle.run_rules.specs.Next.{command_deed}
use Rattle.next_deed.proofs.next.plan_start.Goals as goal

pub returns-in-Some : goal.returns-in-Some
returns-in-Some c =
    let w = c.args.going.now in
    ap (λ (o : Option ℕ). option_map_or (λ j. Waits (wait.Power j)) o (Does (command_deed w c.args.caller ((caller_at w c.args.caller).over + 1) c.args.said.now))) c.in-Some.ensures

pub returns-in_ok-deed-in-None : goal.returns-in_ok-deed-in-None
returns-in_ok-deed-in-None c =
    let w = c.args.going.now in
    let k = c.args.caller in
    ap (λ (o : Option ℕ). option_map_or (λ j. Waits (wait.Power j)) o (Does (command_deed w k ((caller_at w k).over + 1) c.args.said.now))) c.in-None.ensures
    ∙ ap (λ (n : ℕ). Does (command_deed w k (n + 1) c.args.said.now)) (sym (ap (λ (c : Caller). c.over) c.caller.ensures.state))
    ∙ ap Does c.in_ok-deed-in-None.ensures
