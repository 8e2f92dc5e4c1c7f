use Rattle.progress_laws.proofs.PlainScripts.{always_at_most_text}
use Rattle.progress_laws.proofs.plain.held_at_most_text.Goals as goal

pub returns : goal.returns
returns c = always_at_most_text
