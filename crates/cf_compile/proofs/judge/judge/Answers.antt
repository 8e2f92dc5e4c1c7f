use Rattle.std.proofs.Common.{◌≡◌, ◌∙◌, Some, None, ap, sym, refl, arith}
use Rattle.std.specs.Prelude.{◌++◌, [], List, Bool, false, if◌then◌else◌, slice_index_or}
use Rattle.std.specs.Option.{option_to_list}
use Rattle.cf_types.specs.declared.instance.Instance.{Instance}
use Rattle.config_rules.specs.Fault.{code_of}
use Rattle.cf_compile.specs.Judged.{instance_at}
use Rattle.cf_compile.proofs.WalkLaws.{few_placed, survive_within, walked_begins, walked_fits, walked_goes_on, walked_stops, walked_ends}
use Rattle.cf_compile.proofs.judge.judge.Goals as goal

pub loop-place-init : goal.loop-place-init
loop-place-init c =
    walked_begins c.args.files.now c.args.placed.now c.in_ok-declarations.declarations c.in_ok-instances.instances c.in_ok-declarations.ensures c.in_ok-instances.ensures

pub judge_statement-requires-clause-fits : goal.judge_statement-requires-clause-fits
judge_statement-requires-clause-fits c =
    walked_fits c.args.files.now c.args.placed.now c.loop-place.place c.loop-place.selection.declarations c.loop-place.selection.instances c.loop-place.count
    (omega (arith, c.loop-place-test.true, c.requires.written.few)) c.loop-place.invariant

pub judge_statement-requires-clause-few : goal.judge_statement-requires-clause-few
judge_statement-requires-clause-few c =
    few_placed c.args.placed.now c.loop-place.place c.index-placed-place.result c.requires.written c.loop-place-test.true c.index-placed-place.is

pub judge_statement-requires-clause-attrs : goal.judge_statement-requires-clause-attrs
judge_statement-requires-clause-attrs c = omega (arith, c.loop-place-test.true, c.requires.written.few, c.loop-place.invariant.few_attrs)

pub judge_statement-requires-clause-devices : goal.judge_statement-requires-clause-devices
judge_statement-requires-clause-devices c = omega (arith, c.loop-place-test.true, c.requires.written.few, c.loop-place.invariant.few_devices)

pub returns-in-Ok-Some : goal.returns-in-Ok-Some
returns-in-Ok-Some c =
    walked_stops c.args.files.now c.args.placed.now c.loop-place.place c.loop-place.selection.declarations c.loop-place.selection.instances c.loop-place.count c.index-placed-place.result c.in-Ok-Some.code
    c.loop-place-test.true c.index-placed-place.is c.loop-place.invariant (sym c.in-Ok-Some.ensures.code ∙ c.in-Ok-Some.field-0-is)
    ∙ ap Some (sym c.in_ok-refusal-in-Ok-Some.ensures)

pub bounds-survive-place : goal.bounds-survive-place
bounds-survive-place c = survive_within c.args.placed.now c.args.survive.now c.loop-place.place c.requires.survive c.loop-place-test.true

pub loop-place-preserved : goal.loop-place-preserved
loop-place-preserved c =
    let left : c.in-Ok-None.field-0 ≡ None = c.in-Ok-None.field-0-is in
    let none : code_of c.loop-place.selection.declarations c.loop-place.count c.index-placed-place.result.stmt ≡ None = sym c.in-Ok-None.ensures.code ∙ left in
    let own : List Bool → List Instance = λ marks. if slice_index_or marks c.loop-place.place false then option_to_list (instance_at c.loop-place.selection.declarations c.loop-place.place c.index-placed-place.result.stmt) else [] in
    let more : c.judge_statement.new.selection.instances ≡ c.loop-place.selection.instances ++ own c.args.survive.now = c.in-Ok-None.ensures.kept left in
    walked_goes_on c.args.files.now c.args.placed.now c.loop-place.place c.loop-place.selection.declarations c.judge_statement.new.selection.declarations c.loop-place.selection.instances c.judge_statement.new.selection.instances c.loop-place.count _ c.instance_count.result c.index-placed-place.result
    c.loop-place-test.true c.index-placed-place.is c.loop-place.invariant none
    (more ∙ ap (λ (marks : List Bool). c.loop-place.selection.instances ++ own marks) c.requires.survive)
    (c.in-Ok-None.ensures.declared left) c.instance_count.ensures refl

pub returns : goal.returns
returns c = walked_ends c.args.files.now c.args.placed.now c.loop-place.place c.loop-place.selection.declarations c.loop-place.selection.instances c.loop-place.count c.loop-place-test.false c.loop-place.invariant
