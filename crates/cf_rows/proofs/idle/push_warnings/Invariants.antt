use Rattle.std.proofs.Common.{◌≡◌, ◌++◌}
use Rattle.std.specs.Prelude.{replicate}
use Rattle.config_rules.specs.Meaning.{warning}
use Rattle.cf_rows.proofs.idle.push_warnings.Given as goal

abbrev pub invariant-loop-time : goal.invariant-loop-time
invariant-loop-time l = l.out ≡ l.initial.out ++ replicate l._time (warning l.source.files.now l.source.statement.now l.kind)
