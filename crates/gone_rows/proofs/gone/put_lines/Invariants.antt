use Rattle.std.proofs.Common.{◌≡◌, ◌++◌, map, take}
use Rattle.gone_rows.specs.GoneText.{gone_text}
use Rattle.gone_rows.proofs.gone.put_lines.Given as goal

abbrev pub invariant-loop-place : goal.invariant-loop-place
invariant-loop-place l = l.lines.items ≡ l.fn.lines.items ++ map (gone_text l.files l.placed) (take l.place-index l.places)
