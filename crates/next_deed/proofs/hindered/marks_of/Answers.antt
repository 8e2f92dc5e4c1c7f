use Rattle.std.proofs.Common.{◌∙◌, ap}
use Rattle.run_rules.specs.World.{has}
use Rattle.next_deed.proofs.ChoiceLaws.{marks_are}
use Rattle.next_deed.proofs.hindered.marks_of.Goals as goal

pub returns : goal.returns
returns c = λ target forced.
    marks_are c.args.going.now c.make.result target forced c.stands.ensures.goes_on.kept
    (λ x. c.make.ensures.pinned x ∙ c.in_ok-pinned.ensures x) (λ x. c.make.ensures.undetachable x ∙ ap (λ xs. has xs x) c.in_ok-undetachable.ensures)
