use Rattle.std.proofs.Common.{ℕ, Option, subst}
use Rattle.config_rules.specs.Select.{has_name}
use Rattle.file_rules.specs.Sources.{file_pieces}
use Rattle.file_select.specs.Answers.{TakesOptional}
use Rattle.file_select.proofs.SourceLemmas.{first_bad, selects_more}
use Rattle.file_select.proofs.sources.select_placed.Goals as goal

pub returns-in-Some : goal.returns-in-Some
returns-in-Some c =
    first_bad (has_name c.args.names.now) c.args.files.now c.args.placed.now c.loop-statement.statement-index c.statement-item.result c.loop-statement.selection c.take.new.selection c.in-Some.code c.in_ok-refusal.field-0 c.loop-statement-test.true c.statement-item.is c.loop-statement.invariant
    (subst (λ (o : Option ℕ). TakesOptional (has_name c.args.names.now) (file_pieces c.statement-item.result.stmt) c.loop-statement.selection o c.take.new.selection) c.in-Some.is c.in_ok-code.ensures)
    c.in_ok-refusal.ensures

pub loop-statement-preserved : goal.loop-statement-preserved
loop-statement-preserved c =
    selects_more (has_name c.args.names.now) c.args.placed.now c.loop-statement.statement-index c.statement-item.result c.loop-statement.selection c.take.new.selection c.loop-statement-test.true c.statement-item.is c.loop-statement.invariant
    (subst (λ (o : Option ℕ). TakesOptional (has_name c.args.names.now) (file_pieces c.statement-item.result.stmt) c.loop-statement.selection o c.take.new.selection) c.in_default.is c.in_ok-code.ensures)
