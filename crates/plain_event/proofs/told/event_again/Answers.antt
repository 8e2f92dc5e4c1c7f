use Rattle.std.proofs.Common.{refl}
use Rattle.plain_event.proofs.told.event_again.Goals as goal

pub returns : goal.returns
returns c = λ s. rw (c.in_ok-act.ensures, c.number_of.ensures s) refl
