use Rattle.std.proofs.Common.{◌∙◌}
use Rattle.cf_compile.proofs.CompileLaws.{graph_of_meant}
use Rattle.cf_compile.proofs.compiler.tables_of_selection.Goals as goal

pub make-requires : goal.make-requires
make-requires c =
    graph_of_meant c.args.files.now c.args.placed.now c.into_parts-declared.result.0 c.into_parts-declared.result.1 c.in_ok-tables.tables
    (c.into_parts-declared.ensures.lists ∙ c.requires.accepted.1) c.into_parts-declared.ensures.graph c.in_ok-tables.ensures
