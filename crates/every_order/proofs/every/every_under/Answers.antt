use Rattle.std.proofs.Common.{◌≡◌, ◌∙◌, sym, subst}
use Rattle.run_rules.specs.World.{opening}
use Rattle.plain_world.specs.declared.rules.Rules.{Rules}
use Rattle.plain_world.specs.Plain.{world_of}
use Rattle.every_order.specs.Every.{IsEveryOrMore, IsEveryOrder}
use Rattle.every_order.specs.Search.{HasBooted}
use Rattle.every_order.proofs.Whole.{if_ok}
use Rattle.every_order.proofs.every.every_under.Goals as goal

pub booted-requires : goal.booted-requires
booted-requires c =
    let rules = c.in_ok-seeker.ensures.rules in
    record {
      opens = subst (λ (r : Rules). world_of r c.in_ok-plain.plain ≡ opening r) (sym rules) c.in_ok-plain.ensures;
      follows = c.in_ok-seeker.ensures.follows;
    }

pub every_from-requires : goal.every_from-requires
every_from-requires c =
    let rules : c.booted.new.seeker.rules.now ≡ c.args.rules.now = c.in_ok-start.ensures.rules ∙ c.in_ok-seeker.ensures.rules in
    let booted = subst (λ (r : Rules). HasBooted r c.in_ok-start.start) (sym c.in_ok-start.ensures.rules) c.in_ok-start.ensures.booted in
    record { kept = booted.kept; low = booted.low }

pub returns : goal.returns
returns c =
    let s = c.args.rules.now in
    let rules : c.booted.new.seeker.rules.now ≡ c.args.rules.now = c.in_ok-start.ensures.rules ∙ c.in_ok-seeker.ensures.rules in
    let booted : HasBooted s c.in_ok-start.start = subst (λ (r : Rules). HasBooted r c.in_ok-start.start) c.in_ok-seeker.ensures.rules c.in_ok-start.ensures.booted in
    if_ok (IsEveryOrMore (world_of c.booted.new.seeker.rules.now c.in_ok-start.start) c.args.most) (IsEveryOrder s c.args.most) c.every_from.result c.every_from.ensures (λ all so. record {
      world = world_of s c.in_ok-start.start;
      booted = booted.booted;
      every = subst (λ (r : Rules). IsEveryOrMore (world_of r c.in_ok-start.start) c.args.most all) rules so;
    })
