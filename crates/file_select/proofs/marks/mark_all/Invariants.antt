use Rattle.std.proofs.Common.{take}
use Rattle.file_select.specs.Marks.{AddsMarks}
use Rattle.file_select.proofs.marks.mark_all.Given as goal

abbrev pub invariant-loop-attr : goal.invariant-loop-attr
invariant-loop-attr l = AddsMarks l.initial.marks l.marks (take l.attr-index l.attrs)
