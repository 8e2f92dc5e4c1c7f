use Rattle.std.proofs.Common.{◌≡◌, ◌++◌, flat_map, take}
use Rattle.app_every.specs.EveryText.{turn_text}
use Rattle.app_every.proofs.text.put_turns.Given as goal

abbrev pub invariant-loop-caller : goal.invariant-loop-caller
invariant-loop-caller l = l.out.items ≡ l.initial.out.items ++ flat_map turn_text (take l.caller-index l.order)
