-- What was compiled and read again selects its paths, or has a first fault.
use Rattle.std.proofs.Common.{◌≡◌, ℕ, ◌∙◌, Option, Some, None, List, [], ap, subst, inl, inr}
use Rattle.std.specs.Prelude.{IfSome, Result, Ok, Err}
use Rattle.cf_compile.specs.declared.stop.CompileStop.{CompileStop}
use Rattle.cf_compile.specs.declared.stop.CompileStop.TheVariants.{Refused, ReadFault, Memory}
use Rattle.cf_expand.specs.Steps.{expanded}
use Rattle.cf_types.specs.declared.stmt.Expanded.{Expanded}
use Rattle.cf_types.specs.declared.tables.Refusal.{Refusal}
use Rattle.cf_types.specs.declared.tables.Tables.{Tables}
use Rattle.config_rules.specs.Fault.{fault_in, first_code, first_fault}
use Rattle.config_rules.specs.Form.{◌or◌}
use Rattle.config_rules.specs.Meaning.{Means}
use Rattle.config_rules.specs.Reading.{Files, reading}
use Rattle.file_rules.specs.Chosen.{is_chosen}
use Rattle.file_rules.specs.Sources.{IsFirstBad, IsFirstFault, SelectsIn}
use Rattle.file_select.specs.Answers.{SelectsFrom, SelectsRead}

second_none : {A : Type 0} (x y : Option A) → (x or y) ≡ None → y ≡ None
second_none None y e = e
second_none (Some x) y e = absurd (cc)

-- a configuration that is accepted was read without a fault
read_whole : (files : Files) (name : List ℕ) → first_fault files name ≡ None → (reading files name).fault ≡ None
unfolding first_fault fault_in
read_whole files name e = second_none (first_code (reading files name).files [] (reading files name).placed) (reading files name).fault e

refused_told : (files : Files) (name : List ℕ) (tables : Tables) (read : Expanded) (r : Refusal) → Means files name tables → read ≡ expanded (reading files name) → SelectsRead (is_chosen tables) read (Err (Refused r)) → IsFirstFault files name r
refused_told files name tables read r means is (inl fault) =
    let none : read.fault ≡ None = ap (λ (e : Expanded). e.fault) is ∙ read_whole files name means.accepted in absurd (cc)
refused_told files name tables read r means is (inr (none, bad)) =
    inr (means.accepted, subst (λ (e : Expanded). IsFirstBad e.files e.placed r) is bad)

pub selected : (told : Option Files) (name : List ℕ) (before after : ℕ) (tables : Tables) (read : Expanded) (result : Result (List (List ℕ)) CompileStop) → IfSome told (λ files. Means files name tables) → IfSome told (λ files. read ≡ expanded (reading files name)) → after ≡ before → SelectsRead (is_chosen tables) read result → SelectsFrom told name before after result
selected None name before after tables read (Ok paths) means is e h = (tt, e)
selected (Some files) name before after tables read (Ok paths) means is e h =
    (record { tables = tables; means = means; selects = subst (λ (x : Expanded). SelectsIn (is_chosen tables) x.placed paths) is h.1 }, e)
selected None name before after tables read (Err (Refused r)) means is e h = (tt, e)
selected (Some files) name before after tables read (Err (Refused r)) means is e h = (refused_told files name tables read r means is h, e)
selected told name before after tables read (Err ReadFault) means is e h = absurd h
selected told name before after tables read (Err Memory) means is e h = e
