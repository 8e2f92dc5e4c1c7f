use Rattle.std.proofs.Common.{◌∙◌, ℕ, List, ap}
use Rattle.std.specs.Prelude.{nat_lt}
use Rattle.run_rules.specs.declared.world.Ref.{Ref}
use Rattle.run_rules.specs.References.{is_of}
use Rattle.run_rules.specs.World.{holds_in}
use Rattle.plain_world.specs.Tallies.{tally_at}
use Rattle.plain_world.proofs.TallyLaws.{any_counted}
use Rattle.plain_world.proofs.refs.Refs.holds.Goals as goal

pub returns : goal.returns
returns c =
    let k = c.args.caller in
    let s = c.args.serial in
    ap (nat_lt 0) (c.count_at.ensures ∙ ap (λ (ts : List (List ℕ)). tally_at ts k s) c.deref.ensures.value ∙ c.self.invariant.by_each k s)
    ∙ any_counted (is_of k s) c.self.inside.refs.items ∙ ap (λ (rs : List Ref). holds_in rs k s) c.self.view_is
