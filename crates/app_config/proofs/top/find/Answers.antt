use Rattle.std.proofs.Common.{map, string_bytes}
use Rattle.app_words.specs.Words.{devconf_form}
use Rattle.app_config.proofs.AskedLaws.{found_asked, refused_asked}
use Rattle.app_config.proofs.Due.{due_by, due_refused}
use Rattle.app_config.proofs.FoundLaws.{found_read}
use Rattle.app_config.proofs.top.find.Goals as goal

pub returns-in-Ok-clause-found : goal.returns-in-Ok-clause-found
returns-in-Ok-clause-found g c =
    found_read (devconf_form (map string_bytes c.args.words.now)) (g.F.Files.told c.args.files.now) _ c.in-Ok.inputs c.found_by.result c.read_inputs.ensures.told
    c.in-Ok.ensures.reads c.in-Ok.ensures.formed c.found_by.ensures.found

pub returns-in-Ok-clause-due : goal.returns-in-Ok-clause-due
returns-in-Ok-clause-due g c =
    due_by (g.F.Files.told c.args.files.now) _ (devconf_form (map string_bytes c.args.words.now)) c.in-Ok.inputs _ _ _ c.found_by.result c.read_inputs.ensures.told c.in-Ok.ensures.counted
    c.in-Ok.ensures.due c.found_by.ensures.found c.found_by.ensures.counted

pub returns-in-Err-clause-due : goal.returns-in-Err-clause-due
returns-in-Err-clause-due g c = due_refused _ _ _ _ c.in-Err.status c.in-Err.ensures.due

pub returns-in-Ok-clause-asked : goal.returns-in-Ok-clause-asked
returns-in-Ok-clause-asked g c =
    found_asked (devconf_form (map string_bytes c.args.words.now)) (g.F.Files.told c.args.files.now) _ c.in-Ok.inputs _ _ _ _ c.read_inputs.ensures.told
    c.in-Ok.ensures.reads c.in-Ok.ensures.asked c.found_by.ensures.asked

pub returns-in-Err-clause-asked : goal.returns-in-Err-clause-asked
returns-in-Err-clause-asked g c = refused_asked _ (g.F.Files.told c.args.files.now) c.in-Err.status _ _ c.in-Err.ensures.reads c.in-Err.ensures.asked
