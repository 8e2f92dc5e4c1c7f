use Rattle.std.proofs.Common.{◌∙◌, ℕ, Option, Result, ap, sym, subst, Err}
use Rattle.std.specs.Prelude.{option_map}
use Rattle.std.specs.Option.{option_map_or}
use Rattle.cf_types.specs.declared.code.script.TheConstants.{NO_COMMAND}
use Rattle.cf_types.specs.declared.machine.Command.{Command}
use Rattle.config_rules.specs.ScriptText.{CommandRow}
use Rattle.script_text.specs.declared.verb.Verb.{Verb}
use Rattle.machine_text.specs.Words.{seen}
use Rattle.script_text.specs.Left.{Leaves}
use Rattle.script_text.specs.Verbs.{row_by}
use Rattle.script_text.proofs.VerbLemmas.{row_is}
use Rattle.script_text.proofs.command.command_of.Goals as goal

pub returns-in-Some : goal.returns-in-Some
returns-in-Some c =
    let by : Option CommandRow → Result Command ℕ = λ o. option_map_or (λ r. r.form (seen c.args.words.now)) o (Err NO_COMMAND) in
    let P : Result Command ℕ → Type 0 = λ whole. Leaves whole c.command_by.result in
    subst P (sym (ap by (row_is c.args.word.now) ∙ ap (λ (o : Option Verb). by (option_map row_by o)) (sym c.in-Some.ensures))) c.command_by.ensures

pub returns-in-None : goal.returns-in-None
returns-in-None c =
    let by : Option CommandRow → Result Command ℕ = λ o. option_map_or (λ r. r.form (seen c.args.words.now)) o (Err NO_COMMAND) in
    ap by (row_is c.args.word.now) ∙ ap (λ (o : Option Verb). by (option_map row_by o)) (sym c.in-None.ensures)
