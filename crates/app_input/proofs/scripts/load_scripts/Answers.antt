use Rattle.std.proofs.Common.{rules, map, ℕ, ◌≡◌, ◌+◌, ◌++◌, ◌∙◌, [], ◌∷◌, List, ap, sym, subst, length, string_bytes, arith}
use Rattle.std.specs.Prelude.{All}
use Rattle.std.proofs.lemmas.List.{length_push}
use Rattle.std.proofs.lemmas.List.Elements.{All-push}
use Rattle.cf_types.specs.declared.machine.Command.{Command}
use Rattle.config_rules.specs.ScriptText.{FormedScript}
use Rattle.app_words.specs.declared.status.Status.TheVariants.{Memory}
use Rattle.app_input.specs.Scripted.{IsOfFile}
use Rattle.app_input.proofs.AskedLaws.{script_asked, script_stops, scripts_asked, scripts_cut}
use Rattle.app_input.proofs.ScriptedLaws.{all_scripts, no_more_scripts, of_script, one_more_script}
use Rattle.app_input.proofs.scripts.load_scripts.Goals as goal

pub loop-name-preserved : goal.loop-name-preserved
loop-name-preserved g c =
    let names = c.args.names.now in
    let i = c.loop-name.name-index in
    let told = g.F.Files.told c.args.files.now in
    let pushed : c.push.new.self ≡ c.loop-name.scripts ++ c.in-Ok.script ∷ [] = search rules in
    record {
      told = c.load_script.ensures.told ∙ c.loop-name.invariant.told;
      counted = c.in-Ok.ensures.counted ∙ c.loop-name.invariant.counted;
      number = ap (λ n. n + 1) c.loop-name.invariant.number;
      many = ap length pushed ∙ length_push c.loop-name.scripts c.in-Ok.script ∙ ap (λ n. n + 1) c.loop-name.invariant.many;
      formed = subst (λ (scripts : List (List Command)). All FormedScript scripts) (sym pushed) (All-push FormedScript c.loop-name.scripts c.in-Ok.script c.loop-name.invariant.formed c.in-Ok.ensures.formed);
      so_far = one_more_script string_bytes told _ names i c.loop-name.which c.name-item.result _ c.loop-name.scripts c.push.new.self c.in-Ok.script c.loop-name-test.true c.name-item.is
          c.loop-name.invariant.told c.as_bytes.ensures.value pushed c.loop-name.invariant.so_far c.in-Ok.ensures.reads;
      asked = script_asked string_bytes told _ names i c.loop-name.which c.name-item.result _ c.in-Ok.script _ _ _ c.loop-name-test.true c.name-item.is
          c.loop-name.invariant.told c.as_bytes.ensures.value c.loop-name.invariant.asked c.in-Ok.ensures.reads c.in-Ok.ensures.asked;
    }

pub returns-in-Err-clause-reads : goal.returns-in-Err-clause-reads
returns-in-Err-clause-reads g c =
    no_more_scripts string_bytes _ _ c.args.names.now c.loop-name.name-index c.loop-name.which c.name-item.result _ c.loop-name.scripts c.in-Err.status c.loop-name-test.true c.name-item.is
    c.loop-name.invariant.told c.as_bytes.ensures.value c.loop-name.invariant.so_far c.in-Err.ensures.reads

pub returns-in-Err-clause-of : goal.returns-in-Err-clause-of
returns-in-Err-clause-of g c =
    let status = c.in-Err.status in
    let P : ℕ → Type 0 = λ which. IsOfFile which (string_bytes c.name-item.result) status in
    let Q : List ℕ → Type 0 = λ name. IsOfFile c.loop-name.which name status in
    of_script string_bytes c.args.names.now c.loop-name.name-index c.name-item.result status c.loop-name-test.true c.name-item.is
    (subst P c.loop-name.invariant.number (subst Q c.as_bytes.ensures.value c.in-Err.ensures.of))

pub returns-then-is_err-clause-of : goal.returns-then-is_err-clause-of
returns-then-is_err-clause-of g c = of_script string_bytes c.args.names.now c.loop-name.name-index c.name-item.result Memory c.loop-name-test.true c.name-item.is tt

pub returns-clause-reads : goal.returns-clause-reads
returns-clause-reads g c = all_scripts string_bytes _ c.args.names.now c.loop-name.name-index c.loop-name.which c.loop-name.scripts c.loop-name-test.false c.loop-name.invariant.so_far

pub returns-in-Err-clause-asked : goal.returns-in-Err-clause-asked
returns-in-Err-clause-asked g c =
    script_stops string_bytes _ _ c.args.names.now c.loop-name.name-index c.loop-name.which c.name-item.result _ c.in-Err.status _ _ _ c.loop-name-test.true c.name-item.is
    c.loop-name.invariant.told c.as_bytes.ensures.value c.loop-name.invariant.asked c.in-Err.ensures.reads c.in-Err.ensures.asked

pub returns-then-is_err-clause-asked : goal.returns-then-is_err-clause-asked
returns-then-is_err-clause-asked g c =
    scripts_cut _ (map string_bytes c.args.names.now) _ _ _ _
    (script_asked string_bytes _ _ c.args.names.now c.loop-name.name-index c.loop-name.which c.name-item.result _ c.in-Ok.script _ _ _ c.loop-name-test.true c.name-item.is
    c.loop-name.invariant.told c.as_bytes.ensures.value c.loop-name.invariant.asked c.in-Ok.ensures.reads c.in-Ok.ensures.asked)

pub returns-clause-asked : goal.returns-clause-asked
returns-clause-asked g c = scripts_asked string_bytes _ c.args.names.now c.loop-name.name-index c.loop-name.which _ _ c.loop-name-test.false c.loop-name.invariant.asked

pub returns-clause-all : goal.returns-clause-all
returns-clause-all g c = omega arith
