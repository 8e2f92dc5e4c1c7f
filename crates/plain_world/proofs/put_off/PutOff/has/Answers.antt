use Rattle.std.proofs.Common.{◌∙◌, ◌==◌, List, ap}
use Rattle.std.specs.Prelude.{nat_lt}
use Rattle.std.specs.List.{list_any}
use Rattle.run_rules.specs.declared.world.Deferred.{Deferred}
use Rattle.plain_world.proofs.TallyLaws.{any_counted}
use Rattle.plain_world.proofs.put_off.PutOff.has.Goals as goal

pub returns : goal.returns
returns c =
    c.has.ensures ∙ ap (nat_lt 0) (c.self.invariant c.args.serial) ∙ any_counted (λ (e : Deferred). e.child == c.args.serial) c.self.inside.scans.items
    ∙ ap (λ (es : List Deferred). list_any (λ e. e.child == c.args.serial) es) c.self.view_is
