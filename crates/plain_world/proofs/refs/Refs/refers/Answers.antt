use Rattle.std.proofs.Common.{◌∙◌, ◌==◌, List, ap}
use Rattle.std.specs.Prelude.{nat_lt}
use Rattle.run_rules.specs.declared.world.Ref.{Ref}
use Rattle.run_rules.specs.World.{refers_to}
use Rattle.plain_world.proofs.TallyLaws.{any_counted}
use Rattle.plain_world.proofs.refs.Refs.refers.Goals as goal

pub returns : goal.returns
returns c =
    let s = c.args.serial in
    c.has.ensures ∙ ap (nat_lt 0) (c.self.invariant.by_all s) ∙ any_counted (λ (r : Ref). r.serial == s) c.self.inside.refs.items
    ∙ ap (λ (rs : List Ref). refers_to rs s) c.self.view_is
