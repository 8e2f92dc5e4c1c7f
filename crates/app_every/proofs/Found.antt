-- What was found for the words and the files, and the status that is due.
use Rattle.std.proofs.Common.{inl, inr, ◌≡◌, ℕ, Option, Some, None, List, [], ◌∷◌, refl, sym, subst}
use Rattle.std.specs.Prelude.{◌⊎◌, IfSome, Result}
use Rattle.std.specs.Prelude as std
use Rattle.cf_io.specs.Faults.{Rose}
use Rattle.config_rules.specs.Reading.{Files}
use Rattle.every_order.specs.declared.every.Every.{Every}
use Rattle.every_order.specs.declared.ways.Way.{Way}
use Rattle.app_input.specs.Inputs.{FormedInputs, IsDue, Reads}
use Rattle.app_input.specs.SideBySide.{AsksSideBySide, CallsFor}
use Rattle.app_input.proofs.SideBySide.{answer, asks_as, asks_by, due_read, refusal}
use Rattle.app_input.proofs.SideBySide as side
use Rattle.app_input.specs.declared.inputs.Inputs.{Inputs}
use Rattle.app_words.specs.Status.{Counts, status_of}
use Rattle.app_words.specs.Words.{Form}
use Rattle.app_words.specs.declared.status.Status.{Status}
use Rattle.app_words.specs.declared.status.Status.TheVariants.{Ok, Memory, WriteFault, Stuck, Worlds}
use Rattle.app_every.specs.Asked.{AllEnd, Asks, AsksStuck, EveryFor, FindsEvery, IsDueOr, IsEveryText, IsRefused, LeadTo}
use Rattle.app_every.specs.EveryText.{every_text}

-- what the orders of the scripts that are asked for lead to
abbrev pub AsksEvery : ℕ → Option Every → Option Form → Option Files → Type 0
AsksEvery most answer form told = AsksSideBySide (LeadTo most answer) form told

-- it has the text of its kind
kind_text : (most : ℕ) (IsKind : Every → Type 0) (form : Option Form) (told : Option Files) (e : Every) → IsKind e → AsksEvery most (Some e) form told
    → AsksSideBySide (IsEveryText most IsKind (every_text e)) form told
kind_text most IsKind form told e kind asks = asks_as (LeadTo most (Some e)) (IsEveryText most IsKind (every_text e)) form told (λ tables machine scripts formed leads. (e, leads, kind, refl)) asks

found_ways : (most : ℕ) (form : Option Form) (told : Option Files) (e : Every) (ways : List Way) → e.stuck.items ≡ ways → AsksEvery most (Some e) form told → FindsEvery most form told (std.Ok e)
found_ways most form told e [] is asks = inl (is, kind_text most AllEnd form told e is asks)
found_ways most form told e (way ∷ ways) is asks =
    let some : ¬ AllEnd e = λ none. absurd (cc) in
    inr (some, (refl, kind_text most (λ x. ¬ AllEnd x) form told e some asks))

more_worlds : (most : ℕ) (form : Option Form) (told : Option Files) (inputs : Inputs) (status : Status) → Reads form told (std.Ok inputs) → FormedInputs inputs
    → EveryFor most inputs (std.Err status) → IsRefused most form told status
more_worlds most form told inputs status read formed (inl want) = subst (IsRefused most form told) (sym want) (inl tt)
more_worlds most form told inputs status read formed (inr (is, found)) =
    subst (IsRefused most form told) (sym is) (inr (refl, asks_by (LeadTo most None) form told inputs read formed found))

-- what was found for the words and the files
pub found_by : (most : ℕ) (form : Option Form) (told : Option Files) (inputs : Inputs) (result : Result Every Status) → Reads form told (std.Ok inputs) → FormedInputs inputs
    → EveryFor most inputs result → FindsEvery most form told result
found_by most form told inputs (std.Ok e) read formed found = found_ways most form told e e.stuck.items refl (asks_by (LeadTo most (Some e)) form told inputs read formed found)
found_by most form told inputs (std.Err status) read formed found = more_worlds most form told inputs status read formed found

-- ---- the count of faults: no file is read behind the inputs

counted_status : (most before after : ℕ) (inputs : Inputs) (status : Status) → after ≡ before → EveryFor most inputs (std.Err status) → Counts {A = Every} before after (std.Err status)
counted_status most before after inputs status same (inl want) = subst (λ (s : Status). Counts {A = Every} before after (std.Err s)) (sym want) same
counted_status most before after inputs status same (inr (is, found)) = subst (λ (s : Status). Counts {A = Every} before after (std.Err s)) (sym is) same

pub counted_by : (most before after : ℕ) (inputs : Inputs) (result : Result Every Status) → Counts before after (answer inputs) → EveryFor most inputs result → Counts before after result
counted_by most before after inputs (std.Ok e) counts found = counts
counted_by most before after inputs (std.Err status) counts found = counted_status most before after inputs status counts found

-- ---- the status that is due

due_status : (most : ℕ) (form : Option Form) (files : Files) (inputs : Inputs) (status : Status) → EveryFor most inputs (std.Err status) → CallsFor form files Ok → IsDueOr form files status
due_status most form files inputs status (inl want) calls = inl want
due_status most form files inputs status (inr (is, found)) calls = subst (IsDueOr form files) (sym is) (inr (inr (tt, calls)))

due_found : (most : ℕ) (form : Option Form) (files : Files) (inputs : Inputs) (result : Result Every Status) → EveryFor most inputs result → CallsFor form files Ok
    → IsDueOr form files (status_of result)
due_found most form files inputs (std.Ok e) found calls = inr (inl calls)
due_found most form files inputs (std.Err status) found calls = due_status most form files inputs status found calls

pub due_by : (most : ℕ) (told : Option Files) (form : Option Form) (before after : ℕ) (inputs : Inputs) (result : Result Every Status) → EveryFor most inputs result
    → IfSome told (λ files. ¬ Rose before after → (answer inputs ≡ std.Err Memory) ⊎ IsDue form files (answer inputs))
    → IfSome told (λ files. ¬ Rose before after → IsDueOr form files (status_of result))
due_by most told form before after inputs result found due =
    due_read (λ files. IsDueOr form files (status_of result)) told form before after inputs (λ files calls. due_found most form files inputs result found calls) due

-- where they were refused
due_as : (form : Option Form) (files : Files) (status : Status) → (status ≡ Memory) ⊎ CallsFor form files status → IsDueOr form files status
due_as form files status (inl want) = inl want
due_as form files status (inr calls) = inr (inl calls)

pub due_refused : (told : Option Files) (form : Option Form) (before after : ℕ) (status : Status)
    → IfSome told (λ files. ¬ Rose before after → (refusal status ≡ refusal Memory) ⊎ IsDue form files (refusal status))
    → IfSome told (λ files. ¬ Rose before after → IsDueOr form files status)
due_refused told form before after status due =
    side.due_refused (λ files. IsDueOr form files status) told form before after status (λ files calls. due_as form files status calls) due

-- ---- the refusals are never that all was written, that writing failed, or that an order stands still

pub never_ok : (most : ℕ) (form : Option Form) (told : Option Files) → IsRefused most form told Ok → ⊥
never_ok most form told (inl never) = never
never_ok most form told (inr (is, found)) = absurd (cc)

pub never_unwritten : (most : ℕ) (form : Option Form) (told : Option Files) → IsRefused most form told WriteFault → ⊥
never_unwritten most form told (inl never) = never
never_unwritten most form told (inr (is, found)) = absurd (cc)

pub never_stuck : (most : ℕ) (form : Option Form) (told : Option Files) (waits : List ℕ) → IsRefused most form told (Stuck waits) → ⊥
never_stuck most form told waits (inl never) = never
never_stuck most form told waits (inr (is, found)) = absurd (cc)
