use Rattle.std.proofs.Common.{◌∙◌, sym, ap, ◌==◌}
use Rattle.std.specs.List.{list_any}
use Rattle.run_rules.specs.World.{frame_serial}
use Rattle.scan_engine.proofs.StackLaws.{any_reversed}
use Rattle.scan_engine.proofs.stack.Stack.pins.Goals as goal

pub returns : goal.returns
returns c =
    c.has_frame.ensures ∙ ap (list_any (λ f. frame_serial f == c.args.serial)) c.deref.ensures.value
    ∙ sym (any_reversed (λ f. frame_serial f == c.args.serial) c.self.inside.frames.items)
    ∙ ap (λ s. list_any (λ f. frame_serial f == c.args.serial) s.frames) c.self.view_is
