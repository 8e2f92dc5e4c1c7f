use Rattle.std.proofs.Common.{◌≡◌, map, take}
use Rattle.why_text.specs.WhyText.{row_text}
use Rattle.why_text.specs.Looks.{setup_in}
use Rattle.why_text.proofs.lines.row_lines.Given as goal

abbrev pub invariant-loop-told : goal.invariant-loop-told
invariant-loop-told l = l.lines.items ≡ map (row_text l.takes l.width (setup_in l.look) l.look.live.now.devices l.look.parent l.look.spot) (take l.told-index l.rows)
