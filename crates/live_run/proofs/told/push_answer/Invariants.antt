use Rattle.std.proofs.Common.{◌≡◌, ◌++◌, ◌∷◌, map, take}
use Rattle.live_rules.specs.LiveText.{line_text, told_text}
use Rattle.live_run.proofs.told.push_answer.Given as goal

abbrev pub invariant-loop-line : goal.invariant-loop-line
invariant-loop-line l = l.lines ≡ l.fn.lines ++ told_text l.fn.groups l.fn.command l.fn.reply ∷ map line_text (take l.line-index l.told)
