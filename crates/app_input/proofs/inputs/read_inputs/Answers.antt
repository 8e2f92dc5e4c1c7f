use Rattle.std.proofs.Common.{rules, ◌≡◌, ◌∙◌, ℕ, List, Option, Some, ap, map, string_bytes, subst, sym}
use Rattle.std.specs.Prelude.{Result}
use Rattle.config_rules.specs.Reading.{Files}
use Rattle.app_input.specs.Inputs.{Reads}
use Rattle.app_words.specs.Words.{Form, form_of, sources}
use Rattle.app_input.specs.declared.inputs.Inputs.{Inputs}
use Rattle.app_words.specs.declared.status.Status.{Status}
use Rattle.app_input.proofs.AskedLaws.{boot_words, following_words, scripted_words, side_by_side_words}
use Rattle.app_input.proofs.DueLaws.{due_told}
use Rattle.app_input.proofs.KindLaws.{kind_read}
use Rattle.app_input.proofs.MadeLaws.{counts_quiet}
use Rattle.app_input.proofs.inputs.read_inputs.Goals as goal

pub returns-in-Ok-Ioconf-clause-due : goal.returns-in-Ok-Ioconf-clause-due
returns-in-Ok-Ioconf-clause-due g c =
    let reads : Reads (form_of c.args.program (map string_bytes c.args.words.now)) (g.F.Files.told c.args.files.now) c.read_ioconf.result = search rules in
    due_told _ _ _ _ c.read_ioconf.result reads c.read_ioconf.ensures.counted

pub returns-in-Ok-Boot-clause-due : goal.returns-in-Ok-Boot-clause-due
returns-in-Ok-Boot-clause-due g c =
    let reads : Reads (form_of c.args.program (map string_bytes c.args.words.now)) (g.F.Files.told c.args.files.now) c.read_boot.result = search rules in
    due_told _ _ _ _ c.read_boot.result reads c.read_boot.ensures.counted

pub returns-in-Ok-Load-clause-reads : goal.returns-in-Ok-Load-clause-reads
returns-in-Ok-Load-clause-reads g c =
    let told = g.F.Files.told c.args.files.now in
    subst (λ (form : Option Form). Reads form told c.read_load.result) (sym (rw c.in-Ok-Load.field-0-is at c.in-Ok-Load.ensures).0) (c.read_load.ensures.reads told)

pub returns-in-Ok-Load-clause-due : goal.returns-in-Ok-Load-clause-due
returns-in-Ok-Load-clause-due g c =
    let told = g.F.Files.told c.args.files.now in
    let reads : Reads (form_of c.args.program (map string_bytes c.args.words.now)) told c.read_load.result = subst (λ (form : Option Form). Reads form told c.read_load.result) (sym (rw c.in-Ok-Load.field-0-is at c.in-Ok-Load.ensures).0) (c.read_load.ensures.reads told) in
    due_told _ _ _ _ c.read_load.result reads (counts_quiet _ c.read_load.result c.read_load.ensures.quiet)

pub returns-in-Ok-Scripted-clause-due : goal.returns-in-Ok-Scripted-clause-due
returns-in-Ok-Scripted-clause-due g c =
    let reads : Reads (form_of c.args.program (map string_bytes c.args.words.now)) (g.F.Files.told c.args.files.now) c.read_scripted.result = search rules in
    due_told _ _ _ _ c.read_scripted.result reads c.read_scripted.ensures.counted

files_read : (form : Option Form) (told : Option Files) (file given : List ℕ) (result : Result Inputs Status) → form ≡ Some (sources file) → given ≡ file
    → ((named : Option Files) → Reads (Some (sources given)) named result) → Reads form told result
files_read form told file given result is same reads =
    subst (λ (f : Option Form). Reads f told result) (ap (λ (name : List ℕ). Some (sources name)) same ∙ sym is) (reads told)

pub returns-in-Ok-Files-clause-reads : goal.returns-in-Ok-Files-clause-reads
returns-in-Ok-Files-clause-reads g c =
    files_read _ (g.F.Files.told c.args.files.now) c.in-Ok-Files.file.now c.as_bytes-in-Ok-Files.result.now c.read_files.result (rw c.in-Ok-Files.field-0-is at c.in-Ok-Files.ensures)
    c.as_bytes-in-Ok-Files.ensures.value c.read_files.ensures.reads

pub returns-in-Ok-Files-clause-due : goal.returns-in-Ok-Files-clause-due
returns-in-Ok-Files-clause-due g c =
    due_told _ _ _ _ c.read_files.result
    (files_read (form_of c.args.program (map string_bytes c.args.words.now)) (g.F.Files.told c.args.files.now) c.in-Ok-Files.file.now c.as_bytes-in-Ok-Files.result.now c.read_files.result
    (rw c.in-Ok-Files.field-0-is at c.in-Ok-Files.ensures) c.as_bytes-in-Ok-Files.ensures.value c.read_files.ensures.reads)
    (counts_quiet _ c.read_files.result c.read_files.ensures.quiet)

pub returns-in-Ok-Boot-clause-asked : goal.returns-in-Ok-Boot-clause-asked
returns-in-Ok-Boot-clause-asked g c =
    boot_words _ _ _ _ c.in-Ok-Boot.file.now c.in-Ok-Boot.machine.now _ _ _ (rw c.in-Ok-Boot.field-0-is at c.in-Ok-Boot.ensures) c.as_bytes-in-Ok-Boot.ensures.value c.as_bytes-in-Ok-Boot-2.ensures.value c.read_boot.ensures.asked

pub returns-in-Ok-Follow-clause-due : goal.returns-in-Ok-Follow-clause-due
returns-in-Ok-Follow-clause-due g c =
    let reads : Reads (form_of c.args.program (map string_bytes c.args.words.now)) (g.F.Files.told c.args.files.now) c.read_follow.result = search rules in
    due_told _ _ _ _ c.read_follow.result reads c.read_follow.ensures.counted

pub returns-in-Ok-Follow-clause-asked : goal.returns-in-Ok-Follow-clause-asked
returns-in-Ok-Follow-clause-asked g c =
    following_words _ _ _ _ _ c.in-Ok-Follow.file.now c.in-Ok-Follow.machine.now c.in-Ok-Follow.plan.now _ _ _
    (rw c.in-Ok-Follow.field-0-is at c.in-Ok-Follow.ensures) c.as_bytes-in-Ok-Follow.ensures.value c.as_bytes-in-Ok-Follow-2.ensures.value c.as_bytes-in-Ok-Follow-3.ensures.value
    c.read_follow.ensures.asked

pub returns-in-Ok-Follow-clause-kind : goal.returns-in-Ok-Follow-clause-kind
returns-in-Ok-Follow-clause-kind g c =
    let reads : Reads (form_of c.args.program (map string_bytes c.args.words.now)) (g.F.Files.told c.args.files.now) c.read_follow.result = search rules in
    kind_read c.args.program (map string_bytes c.args.words.now) _ c.read_follow.result reads

pub returns-in-Ok-Scripted-clause-asked : goal.returns-in-Ok-Scripted-clause-asked
returns-in-Ok-Scripted-clause-asked g c =
    scripted_words _ _ c.in-Ok-Scripted.task _ _ _ c.in-Ok-Scripted.file.now c.in-Ok-Scripted.machine.now c.in-Ok-Scripted.course.now (map string_bytes c.in-Ok-Scripted.scripts.now) _ _ _
    (rw c.in-Ok-Scripted.field-0-is at c.in-Ok-Scripted.ensures).0 c.as_bytes-in-Ok-Scripted.ensures.value c.as_bytes-in-Ok-Scripted-2.ensures.value c.as_bytes-in-Ok-Scripted-3.ensures.value
    c.read_scripted.ensures.asked

pub returns-in-Ok-Run-clause-due : goal.returns-in-Ok-Run-clause-due
returns-in-Ok-Run-clause-due g c =
    let reads : Reads (form_of c.args.program (map string_bytes c.args.words.now)) (g.F.Files.told c.args.files.now) c.read_side_by_side.result = search rules in
    due_told _ _ _ _ c.read_side_by_side.result reads c.read_side_by_side.ensures.counted

pub returns-in-Ok-Run-clause-asked : goal.returns-in-Ok-Run-clause-asked
returns-in-Ok-Run-clause-asked g c =
    side_by_side_words _ _ _ _ c.in-Ok-Run.file.now c.in-Ok-Run.machine.now (map string_bytes c.in-Ok-Run.scripts.now) _ _ _
    (rw c.in-Ok-Run.field-0-is at c.in-Ok-Run.ensures).0 c.as_bytes-in-Ok-Run.ensures.value c.as_bytes-in-Ok-Run-2.ensures.value c.read_side_by_side.ensures.asked

pub returns-in-Ok-Ioconf-clause-kind : goal.returns-in-Ok-Ioconf-clause-kind
returns-in-Ok-Ioconf-clause-kind g c =
    let reads : Reads (form_of c.args.program (map string_bytes c.args.words.now)) (g.F.Files.told c.args.files.now) c.read_ioconf.result = search rules in
    kind_read c.args.program (map string_bytes c.args.words.now) _ c.read_ioconf.result reads

pub returns-in-Ok-Files-clause-kind : goal.returns-in-Ok-Files-clause-kind
returns-in-Ok-Files-clause-kind g c =
    kind_read c.args.program (map string_bytes c.args.words.now) (g.F.Files.told c.args.files.now) c.read_files.result
    (files_read _ (g.F.Files.told c.args.files.now) c.in-Ok-Files.file.now c.as_bytes-in-Ok-Files.result.now c.read_files.result (rw c.in-Ok-Files.field-0-is at c.in-Ok-Files.ensures)
    c.as_bytes-in-Ok-Files.ensures.value c.read_files.ensures.reads)

pub returns-in-Ok-Boot-clause-kind : goal.returns-in-Ok-Boot-clause-kind
returns-in-Ok-Boot-clause-kind g c =
    let reads : Reads (form_of c.args.program (map string_bytes c.args.words.now)) (g.F.Files.told c.args.files.now) c.read_boot.result = search rules in
    kind_read c.args.program (map string_bytes c.args.words.now) _ c.read_boot.result reads

pub returns-in-Ok-Load-clause-kind : goal.returns-in-Ok-Load-clause-kind
returns-in-Ok-Load-clause-kind g c =
    let told = g.F.Files.told c.args.files.now in
    kind_read c.args.program (map string_bytes c.args.words.now) told c.read_load.result
    (subst (λ (form : Option Form). Reads form told c.read_load.result) (sym (rw c.in-Ok-Load.field-0-is at c.in-Ok-Load.ensures).0) (c.read_load.ensures.reads told))

pub returns-in-Ok-Scripted-clause-kind : goal.returns-in-Ok-Scripted-clause-kind
returns-in-Ok-Scripted-clause-kind g c =
    let reads : Reads (form_of c.args.program (map string_bytes c.args.words.now)) (g.F.Files.told c.args.files.now) c.read_scripted.result = search rules in
    kind_read c.args.program (map string_bytes c.args.words.now) _ c.read_scripted.result reads

pub returns-in-Ok-Run-clause-kind : goal.returns-in-Ok-Run-clause-kind
returns-in-Ok-Run-clause-kind g c =
    let reads : Reads (form_of c.args.program (map string_bytes c.args.words.now)) (g.F.Files.told c.args.files.now) c.read_side_by_side.result = search rules in
    kind_read c.args.program (map string_bytes c.args.words.now) _ c.read_side_by_side.result reads
