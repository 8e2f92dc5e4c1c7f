use Rattle.std.specs.Prelude.{filter}
use Rattle.cf_types.specs.Numbers.{below}
use Rattle.config_rules.specs.Select.{has_name}
use Rattle.file_rules.specs.Chosen.{attr_name}
use Rattle.file_select.specs.Marks.{AddsMarks}
use Rattle.file_select.proofs.marks.mark_named.Given as goal

abbrev pub invariant-loop-place : goal.invariant-loop-place
invariant-loop-place l = AddsMarks l.initial.marks l.marks (filter (λ a. has_name l.names (attr_name l.attrs a)) (below l.place))
