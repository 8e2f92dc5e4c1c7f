use Rattle.std.proofs.Common.{ℕ, inl, map, string_bytes, subst}
use Rattle.app_words.specs.Status.{status_of}
use Rattle.app_words.specs.Words.{drvall_form}
use Rattle.app_input.proofs.AskedLaws.{inputs_all}
use Rattle.app_every.specs.Asked.{FindsEvery}
use Rattle.app_every.proofs.Found.{counted_by, due_by, due_refused, found_by}
use Rattle.app_every.proofs.top.find.Goals as goal

pub returns-in-Ok-clause-found : goal.returns-in-Ok-clause-found
returns-in-Ok-clause-found g c =
    let form = drvall_form (map string_bytes c.args.words.now) in
    let told = g.F.Files.told c.args.files.now in
    subst (λ (most : ℕ). FindsEvery most form told c.every_of.result) c.most_worlds.ensures
    (found_by c.most_worlds.result form told c.in-Ok.inputs c.every_of.result c.in-Ok.ensures.reads c.in-Ok.ensures.formed c.every_of.ensures)

pub returns-in-Ok-clause-counted : goal.returns-in-Ok-clause-counted
returns-in-Ok-clause-counted g c = counted_by c.most_worlds.result _ _ c.in-Ok.inputs c.every_of.result c.in-Ok.ensures.counted c.every_of.ensures

pub returns-in-Ok-clause-due : goal.returns-in-Ok-clause-due
returns-in-Ok-clause-due g c =
    due_by c.most_worlds.result (g.F.Files.told c.args.files.now) (drvall_form (map string_bytes c.args.words.now)) _ _ c.in-Ok.inputs c.every_of.result
    c.every_of.ensures c.in-Ok.ensures.due

pub returns-in-Err-clause-found : goal.returns-in-Err-clause-found
returns-in-Err-clause-found g c = inl c.in-Err.ensures.reads

pub returns-in-Err-clause-due : goal.returns-in-Err-clause-due
returns-in-Err-clause-due g c = due_refused _ _ _ _ c.in-Err.status c.in-Err.ensures.due

pub returns-in-Ok-clause-asked : goal.returns-in-Ok-clause-asked
returns-in-Ok-clause-asked g c =
    inputs_all (drvall_form (map string_bytes c.args.words.now)) (g.F.Files.told c.args.files.now) (status_of c.every_of.result) _ _ c.in-Ok.ensures.asked
