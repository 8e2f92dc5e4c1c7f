use Rattle.std.proofs.Common.{◌∙◌, ◌==◌, ◌||◌, sym, ap}
use Rattle.std.specs.List.{list_any}
use Rattle.run_rules.specs.World.{frame_serial, has}
use Rattle.scan_engine.proofs.StackLaws.{any_reversed, serials_more}
use Rattle.scan_engine.proofs.stack.Stack.add_serials.Goals as goal

pub returns : goal.returns
returns c = λ serial.
    serials_more c.args.serials.now.items c.add_serials.new.serials.items c.deref.result.now serial c.in_ok-add_serials.ensures
    ∙ ap (λ b. has c.args.serials.now.items serial || b)
    (ap (list_any (λ f. frame_serial f == serial)) c.deref.ensures.value
    ∙ sym (any_reversed (λ f. frame_serial f == serial) c.self.inside.frames.items)
    ∙ ap (λ s. list_any (λ f. frame_serial f == serial) s.frames) c.self.view_is)
