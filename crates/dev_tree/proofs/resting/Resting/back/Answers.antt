use Rattle.std.proofs.Common.{◌≤◌, ◌-◌, ◌∙◌, length, drop, find, ap, sym, arith}
use Rattle.std.proofs.lemmas.List.{take_all, length-drop}
use Rattle.dev_tree.proofs.RestLaws.{found_back}
use Rattle.dev_tree.proofs.resting.Resting.back.Goals as goal

pub returns : goal.returns
returns c = λ test fails.
    let live = c.args.live.now in
    let short : length (drop c.min.result live) ≤ length live - c.min.result = omega (arith, length-drop c.min.result live) in
    found_back test live c.min.result c.args.self fails (omega (arith, c.min.ensures)) c.requires ∙ ap (find test) (sym (take_all (length live - c.min.result) (drop c.min.result live) short))
