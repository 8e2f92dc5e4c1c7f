use Rattle.std.proofs.Common.{inl, ℕ, List, map, string_bytes, subst}
use Rattle.app_words.specs.Status.{status_of}
use Rattle.app_words.specs.Words.{asked_name, devwhy_form}
use Rattle.app_input.proofs.AskedLaws.{inputs_all}
use Rattle.app_why.specs.Asked.{WhyFor}
use Rattle.app_why.proofs.Found.{counted_by, due_by, due_refused, found_by}
use Rattle.app_why.proofs.top.find.Goals as goal

pub returns-in-Ok-clause-found : goal.returns-in-Ok-clause-found
returns-in-Ok-clause-found g c =
    found_by (asked_name (map string_bytes c.args.words.now)) (devwhy_form (map string_bytes c.args.words.now)) (g.F.Files.told c.args.files.now) c.in-Ok.explained c.why_of.result
    c.in-Ok.ensures.reads c.in-Ok.ensures.formed
    (subst (λ (name : List ℕ). WhyFor name c.in-Ok.explained c.why_of.result) c.asked_name.ensures c.why_of.ensures)

pub returns-in-Ok-clause-counted : goal.returns-in-Ok-clause-counted
returns-in-Ok-clause-counted g c =
    counted_by _ _ (asked_name (map string_bytes c.args.words.now)) c.in-Ok.explained c.why_of.result c.in-Ok.ensures.counted
    (subst (λ (name : List ℕ). WhyFor name c.in-Ok.explained c.why_of.result) c.asked_name.ensures c.why_of.ensures)

pub returns-in-Ok-clause-due : goal.returns-in-Ok-clause-due
returns-in-Ok-clause-due g c =
    due_by (g.F.Files.told c.args.files.now) (devwhy_form (map string_bytes c.args.words.now)) _ _ (asked_name (map string_bytes c.args.words.now)) c.in-Ok.explained c.why_of.result
    (subst (λ (name : List ℕ). WhyFor name c.in-Ok.explained c.why_of.result) c.asked_name.ensures c.why_of.ensures) c.in-Ok.ensures.due

pub returns-in-Err-clause-due : goal.returns-in-Err-clause-due
returns-in-Err-clause-due g c = due_refused _ _ _ _ (asked_name (map string_bytes c.args.words.now)) c.in-Err.status c.in-Err.ensures.due

pub returns-in-Err-clause-found : goal.returns-in-Err-clause-found
returns-in-Err-clause-found g c = inl c.in-Err.ensures.reads.0

pub returns-in-Ok-clause-asked : goal.returns-in-Ok-clause-asked
returns-in-Ok-clause-asked g c =
    inputs_all (devwhy_form (map string_bytes c.args.words.now)) (g.F.Files.told c.args.files.now) (status_of c.why_of.result) _ _ c.in-Ok.ensures.asked
