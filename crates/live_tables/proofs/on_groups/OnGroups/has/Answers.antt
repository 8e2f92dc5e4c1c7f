use Rattle.std.proofs.Common.{◌∙◌, ap, sym}
use Rattle.run_rules.specs.World.{has}
use Rattle.live_tables.specs.Groups.{Switches}
use Rattle.live_tables.proofs.GroupLaws.{has_reversed}
use Rattle.live_tables.proofs.on_groups.OnGroups.has.Goals as goal

pub returns : goal.returns
returns c =
    c.is_marked.ensures ∙ c.self.invariant.marked c.args.group ∙ sym (has_reversed c.self.inside.list.items c.args.group)
    ∙ ap (λ (s : Switches). has s.on c.args.group) c.self.view_is
