use Rattle.std.proofs.Common.{◌≡◌, ◌∙◌, ℕ, List, Option, subst}
use Rattle.std.specs.Prelude.{Err, IfSome}
use Rattle.cf_expand.specs.Steps.{expanded}
use Rattle.config_rules.specs.Reading.{Files, reading}
use Rattle.cf_io.specs.Asked.{AsksFront}
use Rattle.cf_io.specs.Load.{asked_behind}
use Rattle.file_select.proofs.AskedLemmas.{asks_again, asks_first, asks_twice}
use Rattle.file_select.proofs.SelectLemmas.{selected}
use Rattle.file_select.proofs.sources.select.Goals as goal

pub returns-clause-selects : goal.returns-clause-selects
returns-clause-selects g c =
    selected (g.F.Files.told c.args.files.now) c.args.name.now (g.F.Files.faults c.args.files.now) (g.F.Files.faults c.expand.new.files) c.in_ok-compiled.compiled c.in-Ok.read c.select_read-found.result
    (c.in_ok-compiled.ensures.compiles.0)
    (subst (λ (o : Option Files). IfSome o (λ files. c.in-Ok.read ≡ expanded (reading files c.args.name.now))) c.in_ok-compiled.ensures.told c.in-Ok.ensures.reading)
    (c.in-Ok.ensures.counted ∙ c.in_ok-compiled.ensures.compiles.1)
    (rw c.into_tables-tables.ensures at c.select_read-found.ensures)

pub returns-in_err-compiled-clause-asked : goal.returns-in_err-compiled-clause-asked
returns-in_err-compiled-clause-asked g c =
    asks_first (g.F.Files.told c.args.files.now) c.args.name.now _ _ _ c.from_residual.result _ _ c.from_residual.ensures.1 c.in_err-compiled.ensures.compiles c.in_err-compiled.ensures.asked

pub returns-clause-asked : goal.returns-clause-asked
returns-clause-asked g c =
    asks_twice (g.F.Files.told c.args.files.now) c.args.name.now c.in_ok-compiled.compiled c.select_read-found.result _ (g.F.Files.asked c.compile.new.files) (g.F.Files.asked c.expand.new.files) (c.in_ok-compiled.ensures.compiles.0) c.in_ok-compiled.ensures.asked
    (subst (λ (o : Option Files). IfSome o (λ files. g.F.Files.asked c.expand.new.files ≡ asked_behind (g.F.Files.asked c.compile.new.files) (reading files c.args.name.now).asked)) c.in_ok-compiled.ensures.told c.in-Ok.ensures.asked)

pub returns-in-Err-clause-asked : goal.returns-in-Err-clause-asked
returns-in-Err-clause-asked g c =
    asks_again {A = List (List ℕ)} (g.F.Files.told c.args.files.now) c.args.name.now c.in_ok-compiled.compiled _ (Err c.from.result) _ (g.F.Files.asked c.compile.new.files) _ c.from.ensures (c.in_ok-compiled.ensures.compiles.0) c.in_ok-compiled.ensures.asked
    (subst (λ (o : Option Files). IfSome o (λ files. AsksFront (reading files c.args.name.now).asked (g.F.Files.asked c.compile.new.files) (g.F.Files.asked c.expand.new.files))) c.in_ok-compiled.ensures.told c.in-Err.ensures.asked)
