-- What standard error gets where scripts stand still.
use Rattle.std.specs.Prelude.{ℕ, List, ◌++◌, codes, flat_map}
use Rattle.cf_types.specs.Lines.{ended}
use Rattle.run_rules.specs.World.{World}
use Rattle.wait_lines.specs.Waits.{wait_lines}

-- the line of a caller that waits
abbrev pub stuck_line : List ℕ → List ℕ
stuck_line line = codes "stuck: " ++ ended line

-- one for each caller that waits: for which device, and who holds it
abbrev pub stuck_text : World → List ℕ
stuck_text w = flat_map stuck_line (wait_lines w)
