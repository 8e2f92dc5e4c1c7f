use Rattle.std.proofs.Common.{◌≡◌, ◌∙◌, ◌+◌, ◌-◌, true, false, get_or, sym, length, drop, arith, length-drop}
use Rattle.std.specs.Prelude.{◌==◌}
use Rattle.std.proofs.lemmas.Bool.Decides.{nat_tests}
use Rattle.std.proofs.lemmas.List.{take_all}
use Rattle.machine_text.proofs.PartLemmas.{first_part, only_part, part_before, within_line}
use Rattle.machine_text.proofs.line.first_part.Goals as goal

pub returns-in_default : goal.returns-in_default
returns-in_default c = only_part c.args.line.now (sym c.part_end.ensures ∙ c.in_default.is)

pub returns-then-line-end-eq35 : goal.returns-then-line-end-eq35
returns-then-line-end-eq35 c =
    let is = c.if-line-end-eq35.true in
    let mark : (get_or c.args.line.now c.in-Some.end 0 == 35) ≡ true = grind (arith, nat_tests) in
    part_before c.args.line.now c.in-Some.end (sym c.part_end.ensures ∙ c.in-Some.is) mark

pub returns : goal.returns
returns c =
    let line = c.args.line.now in
    let k = c.in-Some.end in
    let at = sym c.part_end.ensures ∙ c.in-Some.is in
    let not_so = c.if-line-end-eq35.false in
    let mark : (get_or line k 0 == 35) ≡ false = grind (arith, nat_tests) in
    first_part line _ k at mark (within_line line k at) (take_all (length line - (k + 1)) (drop (k + 1) line) (omega (arith, length-drop (k + 1) line)))
