use Rattle.app_words.specs.Words.{ioconf}
use Rattle.app_input.proofs.AskedLaws.{config_stops, ioconf_asked}
use Rattle.app_input.proofs.ExplainedLaws.{known_meant}
use Rattle.app_input.proofs.explained.read_alone.Goals as goal

pub returns-in-Ok-clause-asked : goal.returns-in-Ok-clause-asked
returns-in-Ok-clause-asked g c =
    ioconf_asked _ c.args.file.now c.in-Ok.known.tables _ _ (known_meant _ c.args.file.now c.in-Ok.known c.in-Ok.ensures.reads) c.in-Ok.ensures.asked

pub returns-in-Err-clause-asked : goal.returns-in-Err-clause-asked
returns-in-Err-clause-asked g c = config_stops (ioconf c.args.file.now) _ c.in-Err.status _ _ c.in-Err.ensures.reads c.in-Err.ensures.asked
