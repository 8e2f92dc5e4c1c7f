use Rattle.std.proofs.Common.{take}
use Rattle.config_rules.specs.Meaning.{inst_of}
use Rattle.cf_select.specs.Reached.{Serves}
use Rattle.cf_select.specs.Wanted.{wants_of}
use Rattle.cf_select.proofs.marks.serve.Given as goal

abbrev pub invariant-loop-attr : goal.invariant-loop-attr
invariant-loop-attr l = Serves l.initial.reached.waiting.lists l.initial.reached.marks.items l.initial.reached.order.items l.reached.waiting.lists l.reached.marks.items l.reached.order.items (wants_of (inst_of l.instance) (take l.attr-index l.attr-items))
