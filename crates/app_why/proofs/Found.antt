-- What was found for the words and the files, and the status that is due.
use Rattle.std.proofs.Common.{inl, inr, ◌≡◌, ℕ, List, [], Option, Some, sym, subst}
use Rattle.std.specs.Prelude.{◌⊎◌, IfOk, IfSome, Result}
use Rattle.std.specs.Prelude as std
use Rattle.cf_io.specs.Faults.{Rose}
use Rattle.cf_types.specs.declared.machine.Machine.{Machine}
use Rattle.cf_types.specs.declared.memory.Memory as memory
use Rattle.config_rules.specs.Reading.{Files}
use Rattle.gone_rows.specs.Gone.{Stated}
use Rattle.run_rules.specs.World.{setup_of}
use Rattle.why_answers.specs.Answers.{IsAnswer}
use Rattle.app_input.specs.Inputs.{IsDue}
use Rattle.app_input.specs.Explained.{FormedExplained, ReadsExplained, given, inputs_in}
use Rattle.app_input.specs.SideBySide.{CallsFor}
use Rattle.app_input.proofs.SideBySide.{due_read, refusal}
use Rattle.app_input.proofs.SideBySide as side
use Rattle.app_input.specs.declared.explained.Explained.{Explained}
use Rattle.app_words.specs.Status.{Counts, status_of}
use Rattle.app_words.specs.Words.{Form}
use Rattle.app_words.specs.declared.status.Status.{Status}
use Rattle.app_words.specs.declared.status.Status.TheVariants.{Ok, Memory, WriteFault}
use Rattle.app_why.specs.declared.top.Why.{Why}
use Rattle.app_why.specs.Asked.{Answers, AnswersWith, FindsWhy, IsDueOr, IsRefused, WhyFor, stated_in}

-- the answer in the boot of a machine, if one is named
pub answers_with : (name : List ℕ) (e : Explained) (machine : Machine) (stated : Stated) (result : Result (Option (List (List ℕ))) memory.Memory) → e.machine ≡ Some machine
    → stated ≡ stated_in e.known → IfOk result (IsAnswer (setup_of e.known.tables machine []) stated name) → IfOk result (Answers name e)
answers_with name e machine stated result is same answer =
    subst (λ (m : Option Machine). IfOk result (AnswersWith name e.known m)) (sym is)
    (subst (λ (s : Stated). IfOk result (IsAnswer (setup_of e.known.tables machine []) s name)) same answer)

not_found : (name : List ℕ) (form : Option Form) (told : Option Files) (e : Explained) (status : Status) → ReadsExplained form told (std.Ok e) → FormedExplained e
    → WhyFor name e (std.Err status) → IsRefused name form told status
not_found name form told e status read formed (inl want) = subst (IsRefused name form told) (sym want) (inl tt)
not_found name form told e status read formed (inr (is, none)) = inr (is, record { explained = e; read = read; formed = formed; answers = none })

-- what was found for the words and the files
pub found_by : (name : List ℕ) (form : Option Form) (told : Option Files) (e : Explained) (result : Result Why Status) → ReadsExplained form told (std.Ok e) → FormedExplained e
    → WhyFor name e result → FindsWhy name form told result
found_by name form told e (std.Ok found) read formed why = record { explained = e; read = read; formed = formed; answers = why }
found_by name form told e (std.Err status) read formed why = not_found name form told e status read formed why

-- ---- the count of faults: no file is read behind the inputs

counted_status : (before after : ℕ) (name : List ℕ) (e : Explained) (status : Status) → after ≡ before → WhyFor name e (std.Err status)
    → Counts {A = Why} before after (std.Err status)
counted_status before after name e status same (inl want) = subst (λ (s : Status). Counts {A = Why} before after (std.Err s)) (sym want) same
counted_status before after name e status same (inr (is, none)) = subst (λ (s : Status). Counts {A = Why} before after (std.Err s)) (sym is) same

pub counted_by : (before after : ℕ) (name : List ℕ) (e : Explained) (result : Result Why Status) → Counts before after (given (std.Ok e)) → WhyFor name e result
    → Counts before after result
counted_by before after name e (std.Ok found) counts why = counts
counted_by before after name e (std.Err status) counts why = counted_status before after name e status counts why

-- ---- the status that is due

due_status : (name : List ℕ) (form : Option Form) (files : Files) (e : Explained) (status : Status) → WhyFor name e (std.Err status) → CallsFor form files Ok
    → IsDueOr name form files status
due_status name form files e status (inl want) calls = inl want
due_status name form files e status (inr (is, none)) calls = inr (inr (is, calls))

due_found : (name : List ℕ) (form : Option Form) (files : Files) (e : Explained) (result : Result Why Status) → WhyFor name e result → CallsFor form files Ok
    → IsDueOr name form files (status_of result)
due_found name form files e (std.Ok found) why calls = inr (inl calls)
due_found name form files e (std.Err status) why calls = due_status name form files e status why calls

pub due_by : (told : Option Files) (form : Option Form) (before after : ℕ) (name : List ℕ) (e : Explained) (result : Result Why Status) → WhyFor name e result
    → IfSome told (λ files. ¬ Rose before after → (given (std.Ok e) ≡ std.Err Memory) ⊎ IsDue form files (given (std.Ok e)))
    → IfSome told (λ files. ¬ Rose before after → IsDueOr name form files (status_of result))
due_by told form before after name e result why due =
    due_read (λ files. IsDueOr name form files (status_of result)) told form before after (inputs_in e) (λ files calls. due_found name form files e result why calls) due

-- where they were refused
due_as : (name : List ℕ) (form : Option Form) (files : Files) (status : Status) → (status ≡ Memory) ⊎ CallsFor form files status → IsDueOr name form files status
due_as name form files status (inl want) = inl want
due_as name form files status (inr calls) = inr (inl calls)

pub due_refused : (told : Option Files) (form : Option Form) (before after : ℕ) (name : List ℕ) (status : Status)
    → IfSome told (λ files. ¬ Rose before after → (refusal status ≡ refusal Memory) ⊎ IsDue form files (refusal status))
    → IfSome told (λ files. ¬ Rose before after → IsDueOr name form files status)
due_refused told form before after name status due =
    side.due_refused (λ files. IsDueOr name form files status) told form before after status (λ files calls. due_as name form files status calls) due

-- ---- the refusals are never that all was written, nor that writing failed

pub never_ok : (name : List ℕ) (form : Option Form) (told : Option Files) → IsRefused name form told Ok → ⊥
never_ok name form told (inl never) = never
never_ok name form told (inr (is, none)) = absurd (cc)

pub never_unwritten : (name : List ℕ) (form : Option Form) (told : Option Files) → IsRefused name form told WriteFault → ⊥
never_unwritten name form told (inl never) = never
never_unwritten name form told (inr (is, none)) = absurd (cc)
