use Rattle.std.proofs.Common.{◌+◌, ◌-◌, length, drop, arith, length-drop}
use Rattle.std.proofs.lemmas.List.{take_all}
use Rattle.machine_text.proofs.PartLemmas.{line_before, only_line}
use Rattle.machine_text.proofs.line.first_line.Goals as goal

pub returns-in-Some : goal.returns-in-Some
returns-in-Some c =
    let text = c.args.text.now in
    let k = c.in-Some.place in
    line_before text _ k c.in-Some.ensures (take_all (length text - (k + 1)) (drop (k + 1) text) (omega (arith, length-drop (k + 1) text)))

pub returns-in-None : goal.returns-in-None
returns-in-None c = only_line c.args.text.now c.in-None.ensures
