use Rattle.std.proofs.Common.{◌∙◌}
use Rattle.config_rules.specs.Reading.{Reading}
use Rattle.cf_declare.proofs.LoopLaws.{fault_in_stops, fault_in_ends}
use Rattle.cf_compile.specs.Judged.{Judges}
use Rattle.cf_compile.specs.Meant.{read_from}
use Rattle.cf_compile.specs.declared.judge.Verdict.TheVariants.{Accepted, Refused}
use Rattle.cf_compile.proofs.compiler.compile_placed.Goals as goal

pub returns-in-Refused : goal.returns-in-Refused
returns-in-Refused c =
    let r : Reading = record (read_from c.args.files.now c.args.placed.now) { fault = c.args.fault } in
    let judged : Judges c.args.files.now c.args.placed.now (Refused c.in-Refused.refusal) = rw c.in-Refused.is at c.in_ok-refusal.ensures in
    fault_in_stops r c.in-Refused.refusal judged

pub returns-in-Some : goal.returns-in-Some
returns-in-Some c =
    let r : Reading = record (read_from c.args.files.now c.args.placed.now) { fault = c.args.fault } in
    let judged : Judges c.args.files.now c.args.placed.now (Accepted c.in-Accepted.selection) = rw c.in-Accepted.is at c.in_ok-refusal.ensures in
    fault_in_ends r judged.0 ∙ c.in-Some.is

pub returns : goal.returns
returns c =
    let r : Reading = record (read_from c.args.files.now c.args.placed.now) { fault = c.args.fault } in
    let judged : Judges c.args.files.now c.args.placed.now (Accepted c.in-Accepted.selection) = rw c.in-Accepted.is at c.in_ok-refusal.ensures in
    (fault_in_ends r judged.0 ∙ c.in-None.is, c.in_ok-tables_of_selection-in-None.ensures)
