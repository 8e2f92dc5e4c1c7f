use Rattle.std.proofs.Common.{◌≡◌, ℕ, [], List, ap, sym, ◌∙◌, subst, ◌≤◌, length, map, refl, false, arith}
use Rattle.cf_types.specs.declared.declared.Declared.{Declared}
use Rattle.cf_types.specs.declared.instance.Instance.{Instance}
use Rattle.config_rules.specs.Declared.{declared}
use Rattle.config_rules.specs.Fault.{stmts_of}
use Rattle.config_rules.specs.Meaning as meaning
use Rattle.config_rules.specs.Meaning.{marked, rows_of, surviving}
use Rattle.config_rules.specs.Select.{RootedInsts}
use Rattle.config_rules.specs.Formed.{FormedTables}
use Rattle.cf_rows.specs.Rows.{seen}
use Rattle.cf_compile.specs.Meant.{IsSplit, read_from}
use Rattle.config_laws.proofs.FormedLaws.{accepted_formed}
use Rattle.cf_compile.proofs.IdleLaws.{places_of_names, places_of_negations}
use Rattle.cf_compile.proofs.TableLaws.{devices_known, marked_fit, orphans_placed, tables_are}
use Rattle.cf_compile.proofs.build.tables_of.Goals as goal

pub split_by_root-requires : goal.split_by_root-requires
split_by_root-requires c =
    devices_known c.args.files.now c.args.placed.now c.args.lists c.args.graph.now c.items.result.now
    c.requires.accepted c.requires.declared c.requires.graph (c.items.ensures ∙ c.requires.instances)

pub warnings-requires-clause-instances : goal.warnings-requires-clause-instances
warnings-requires-clause-instances c =
    places_of_negations c.args.idle.now c.args.placed.now c.requires.idle

pub warnings-requires-clause-items : goal.warnings-requires-clause-items
warnings-requires-clause-items c = places_of_names c.items-4.result.now c.args.placed.now (c.items-4.ensures ∙ c.in_ok-kept.ensures.idle)

pub overflow_cast-len : goal.overflow_cast-len
overflow_cast-len c =
    let few : length (declared (stmts_of c.args.placed.now)).devices ≤ 65536 = (accepted_formed (read_from c.args.files.now c.args.placed.now) [] c.requires.written c.requires.accepted).graph.few_devices in
    let size : c.len.result ≡ length (declared (stmts_of c.args.placed.now)).devices = c.len.ensures ∙ ap (λ (d : Declared). length d.devices) c.requires.declared in
    omega (arith, size, few)

pub rows_of-requires : goal.rows_of-requires
rows_of-requires c =
    marked_fit c.args.placed.now c.items.result.now (seen c.items-2.result.now) _ c.requires.written (c.items.ensures ∙ c.requires.instances)
    (ap seen c.items-2.ensures ∙ (c.in_ok-rooted.ensures c.args.lists c.requires.graph).rooted)

pub returns : goal.returns
returns c =
    let r = read_from c.args.files.now c.args.placed.now in
    let insts = c.items.result.now in
    let standing : insts ≡ surviving [] (stmts_of c.args.placed.now) = c.items.ensures ∙ c.requires.instances in
    let split : IsSplit c.args.lists insts c.in_ok-rooted.field-0 = c.in_ok-rooted.ensures c.args.lists c.requires.graph in
    let rooted : RootedInsts c.args.lists (map meaning.inst_of (surviving [] (stmts_of c.args.placed.now))) split.marks =
    subst (λ (is : List Instance). RootedInsts c.args.lists (map meaning.inst_of is) split.marks) standing split.is_rooted in
    let kept = c.in_ok-kept.ensures in
    let orphans = orphans_placed c.args.placed.now insts split.marks c.items-5.result.now standing (c.items-5.ensures ∙ split.orphans) in
    let shown = tables_are r split.marks c.args.lists insts (seen c.in_ok-rooted.field-0.rooted) (marked false insts split.marks) _ _ _ _ _ _ c.requires.declared standing
    split.rooted refl
    (c.in_ok-rows.ensures ∙ ap (λ (n : ℕ). rows_of n (seen c.items-2.result.now)) c.len.ensures ∙ ap (λ (is : List Instance). rows_of (length c.args.lists.devices) is) (ap seen c.items-2.ensures))
    kept.pseudos kept.options kept.makeoptions kept.file_systems
    (c.in_ok-warnings.ensures (marked false insts split.marks) orphans) in
    record {
      marks = split.marks;
      rooted = subst (λ (d : Declared). RootedInsts d (map meaning.inst_of (surviving [] (stmts_of c.args.placed.now))) split.marks) c.requires.declared rooted;
      shown = shown;
      formed = subst FormedTables (sym shown) (accepted_formed r split.marks c.requires.written c.requires.accepted);
    }
