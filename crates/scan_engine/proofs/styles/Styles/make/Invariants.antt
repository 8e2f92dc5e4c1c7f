use Rattle.std.proofs.Common.{take}
use Rattle.scan_engine.specs.Styled.{AreStylesBy}
use Rattle.scan_engine.proofs.styles.Styles.make.Given as goal

abbrev pub invariant-loop-line : goal.invariant-loop-line
invariant-loop-line l = AreStylesBy (take l.line-index l.machine.styles) l.lists.items
