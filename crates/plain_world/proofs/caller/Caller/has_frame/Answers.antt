use Rattle.std.proofs.Common.{◌∙◌, ◌==◌, ap}
use Rattle.std.specs.Prelude.{nat_lt}
use Rattle.std.specs.List.{list_any}
use Rattle.run_rules.specs.declared.world.Frame.{Frame}
use Rattle.run_rules.specs.World.{Caller, frame_serial}
use Rattle.plain_world.proofs.TallyLaws.{any_counted}
use Rattle.plain_world.proofs.caller.Caller.has_frame.Goals as goal

pub returns : goal.returns
returns c =
    c.has.ensures ∙ ap (nat_lt 0) (c.self.invariant c.args.serial) ∙ any_counted (λ (f : Frame). frame_serial f == c.args.serial) c.self.inside.stack.items
    ∙ ap (λ (k : Caller). list_any (λ f. frame_serial f == c.args.serial) k.stack) c.self.view_is
