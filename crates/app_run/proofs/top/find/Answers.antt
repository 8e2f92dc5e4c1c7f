use Rattle.std.proofs.Common.{map, string_bytes}
use Rattle.app_words.specs.Words.{drvrun_form}
use Rattle.app_words.specs.Status.{status_of}
use Rattle.app_input.proofs.AskedLaws.{inputs_all}
use Rattle.app_run.proofs.Found.{counted_by, due_by, due_refused, found_by}
use Rattle.app_run.proofs.top.find.Goals as goal

pub returns-in-Ok-clause-found : goal.returns-in-Ok-clause-found
returns-in-Ok-clause-found g c =
    found_by g.M.Medium.carried (drvrun_form (map string_bytes c.args.words.now)) (g.F.Files.told c.args.files.now) c.in-Ok.inputs c.left_of.result
    c.in-Ok.ensures.reads c.in-Ok.ensures.formed c.left_of.ensures

pub returns-in-Ok-clause-counted : goal.returns-in-Ok-clause-counted
returns-in-Ok-clause-counted g c = counted_by g.M.Medium.carried _ _ c.in-Ok.inputs c.left_of.result c.in-Ok.ensures.counted c.left_of.ensures

pub returns-in-Ok-clause-due : goal.returns-in-Ok-clause-due
returns-in-Ok-clause-due g c =
    due_by g.M.Medium.carried (g.F.Files.told c.args.files.now) (drvrun_form (map string_bytes c.args.words.now)) _ _ c.in-Ok.inputs c.left_of.result c.left_of.ensures c.in-Ok.ensures.due

pub returns-in-Err-clause-due : goal.returns-in-Err-clause-due
returns-in-Err-clause-due g c = due_refused _ _ _ _ c.in-Err.status c.in-Err.ensures.due

pub returns-in-Ok-clause-asked : goal.returns-in-Ok-clause-asked
returns-in-Ok-clause-asked g c =
    inputs_all (drvrun_form (map string_bytes c.args.words.now)) (g.F.Files.told c.args.files.now) (status_of c.left_of.result) _ _ c.in-Ok.ensures.asked
