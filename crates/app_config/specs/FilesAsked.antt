-- Which files the program asks for.
use Rattle.std.specs.Prelude.{◌≡◌, ℕ, Option, Some, IfSome, List}
use Rattle.config_rules.specs.Reading.{Files}
use Rattle.file_select.specs.Answers.{asked_for}
use Rattle.app_input.specs.Asked.{AsksInputs, IsAskedFor, Names}
use Rattle.app_words.specs.Words.{Form, sources}
use Rattle.app_input.specs.declared.inputs.Inputs.{Inputs}
use Rattle.app_input.specs.declared.inputs.Inputs.TheVariants as input
use Rattle.app_words.specs.declared.status.Status.{Status}

-- what selecting the sources of a configuration asks for, where the files are told
abbrev pub AsksSources : Option Files → List ℕ → Status → Names → Names → Type 0
AsksSources told name status old new = IfSome told (λ files. IsAskedFor (asked_for files name) status old new)

-- what is asked for when the inputs were read: nothing but the sources that are to be selected
abbrev pub AsksThen : Option Files → Inputs → Status → Names → Names → Type 0
AsksThen told (input.Files name) status old new = AsksSources told name status old new
AsksThen told inputs status old new = new ≡ old

-- what the program asks for at this status
abbrev pub AsksFiles : Option Form → Option Files → Status → Names → Names → Type 0
AsksFiles (Some (sources name)) told status old new = AsksSources told name status old new
AsksFiles form told status old new = AsksInputs form told status old new
