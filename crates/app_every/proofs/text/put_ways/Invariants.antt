use Rattle.std.proofs.Common.{◌≡◌, ◌++◌, flat_map, take}
use Rattle.std.specs.List.{enumerate_from}
use Rattle.app_every.specs.EveryText.{placed_text}
use Rattle.app_every.proofs.text.put_ways.Given as goal

abbrev pub invariant-loop-place : goal.invariant-loop-place
invariant-loop-place l = l.out.items ≡ l.initial.out.items ++ flat_map (placed_text l.kind) (enumerate_from 0 (take l.place l.ways))
