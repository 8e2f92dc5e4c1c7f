use Rattle.std.specs.Prelude.{Ok, Err}
use Rattle.app_words.specs.Words.{boot}
use Rattle.app_input.proofs.AskedLaws.{boot_asked, config_stops}
use Rattle.app_input.proofs.ExplainedLaws.{boot_refused, known_meant}
use Rattle.app_input.proofs.explained.read_with_machine.Goals as goal

pub returns-in-Err-clause-asked : goal.returns-in-Err-clause-asked
returns-in-Err-clause-asked g c = config_stops (boot c.args.file.now c.args.name.now) _ c.in-Err.status _ _ c.in-Err.ensures.reads c.in-Err.ensures.asked

pub returns-in-Ok-load_machine-clause-asked : goal.returns-in-Ok-load_machine-clause-asked
returns-in-Ok-load_machine-clause-asked g c =
    boot_asked _ _ c.args.file.now c.args.name.now c.in-Ok.known.tables (Ok c.in-Ok-load_machine.machine) _ _ _ c.read_known.ensures.told
    (known_meant _ c.args.file.now c.in-Ok.known c.in-Ok.ensures.reads) c.in-Ok.ensures.asked
    c.in-Ok-load_machine.ensures.reads c.in-Ok-load_machine.ensures.asked

pub returns-in-Err-load_machine-clause-asked : goal.returns-in-Err-load_machine-clause-asked
returns-in-Err-load_machine-clause-asked g c =
    boot_asked _ _ c.args.file.now c.args.name.now c.in-Ok.known.tables (Err c.in-Err-load_machine.status) _ _ _ c.read_known.ensures.told
    (known_meant _ c.args.file.now c.in-Ok.known c.in-Ok.ensures.reads) c.in-Ok.ensures.asked
    c.in-Err-load_machine.ensures.reads c.in-Err-load_machine.ensures.asked

pub returns-in-Err-load_machine-clause-reads : goal.returns-in-Err-load_machine-clause-reads
returns-in-Err-load_machine-clause-reads g c = (
  boot_refused _ _ c.args.file.now c.args.name.now c.in-Ok.known.tables c.in-Err-load_machine.status c.read_known.ensures.told
      (known_meant _ c.args.file.now c.in-Ok.known c.in-Ok.ensures.reads) c.in-Err-load_machine.ensures.reads,
  tt,
)
