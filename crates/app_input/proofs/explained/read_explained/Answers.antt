use Rattle.std.proofs.Common.{rules, map, string_bytes}
use Rattle.app_words.specs.Words.{devwhy_form}
use Rattle.app_input.specs.Explained.{ReadsExplained, given}
use Rattle.app_input.proofs.AskedLaws.{boot_words}
use Rattle.app_input.proofs.DueLaws.{due_told}
use Rattle.app_input.proofs.ExplainedLaws.{counts_given}
use Rattle.app_input.proofs.explained.read_explained.Goals as goal

pub returns-in-Ok-Ioconf-clause-due : goal.returns-in-Ok-Ioconf-clause-due
returns-in-Ok-Ioconf-clause-due g c =
    let reads : ReadsExplained (devwhy_form (map string_bytes c.args.words.now)) (g.F.Files.told c.args.files.now) c.read_alone.result = search rules in
    due_told _ _ _ _ (given c.read_alone.result) reads.0 (counts_given _ _ c.read_alone.result c.read_alone.ensures.counted)

pub returns-in-Ok-Boot-clause-due : goal.returns-in-Ok-Boot-clause-due
returns-in-Ok-Boot-clause-due g c =
    let reads : ReadsExplained (devwhy_form (map string_bytes c.args.words.now)) (g.F.Files.told c.args.files.now) c.read_with_machine.result = search rules in
    due_told _ _ _ _ (given c.read_with_machine.result) reads.0 (counts_given _ _ c.read_with_machine.result c.read_with_machine.ensures.counted)

pub returns-in-Ok-Boot-clause-asked : goal.returns-in-Ok-Boot-clause-asked
returns-in-Ok-Boot-clause-asked g c =
    boot_words _ _ _ _ c.in-Ok-Boot.file.now c.in-Ok-Boot.machine.now _ _ _ (rw c.in-Ok-Boot.field-0-is at c.in-Ok-Boot.ensures) c.as_bytes-in-Ok-Boot.ensures.value c.as_bytes-in-Ok-Boot-2.ensures.value c.read_with_machine.ensures.asked
