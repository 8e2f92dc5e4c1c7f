use Rattle.std.proofs.Common.{List, Result, Ok, Err, ap, sym, subst, ◌∙◌}
use Rattle.cf_types.specs.declared.stmt.Placed.{Placed}
use Rattle.cf_types.specs.declared.tables.Tables.{Tables}
use Rattle.config_rules.specs.Written.{AreWritten}
use Rattle.cf_compile.specs.Meant.{Finds, read_from}
use Rattle.cf_compile.specs.declared.stop.CompileStop.{CompileStop}
use Rattle.cf_compile.proofs.LightenedLaws.{found_light, written_light}
use Rattle.cf_compile.proofs.compiler.compile_read.Goals as goal

pub compile_placed-found-requires : goal.compile_placed-found-requires
compile_placed-found-requires c =
    subst (λ (placed : List Placed). AreWritten placed) (sym (c.items-2.ensures ∙ c.lightened-placed.ensures)) (written_light c.args.read.placed c.requires)

pub returns-in-Ok : goal.returns-in-Ok
returns-in-Ok c =
    found_light c.args.read c.items.result.now c.items-2.result.now (Ok c.with_placed.result) c.items.ensures (c.items-2.ensures ∙ c.lightened-placed.ensures)
    (subst (λ (result : Result Tables CompileStop). Finds (record (read_from c.items.result.now c.items-2.result.now) { fault = c.args.read.fault }) result)
    (c.in-Ok.is ∙ ap Ok (sym c.with_placed.ensures)) c.compile_placed-found.ensures)

pub returns-in-Err : goal.returns-in-Err
returns-in-Err c =
    found_light c.args.read c.items.result.now c.items-2.result.now (Err c.in-Err.stop) c.items.ensures (c.items-2.ensures ∙ c.lightened-placed.ensures)
    (subst (λ (result : Result Tables CompileStop). Finds (record (read_from c.items.result.now c.items-2.result.now) { fault = c.args.read.fault }) result) c.in-Err.is
    c.compile_placed-found.ensures)
