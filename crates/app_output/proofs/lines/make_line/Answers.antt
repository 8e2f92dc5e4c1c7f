use Rattle.std.proofs.Common.{◌∙◌, [], ◌∷◌, ◌++◌, ap}
use Rattle.app_output.proofs.NextLines.{line_there, no_line}
use Rattle.app_output.proofs.lines.make_line.Goals as goal

pub returns-then-not-branch : goal.returns-then-not-branch
returns-then-not-branch g c = no_line (g.L.Lines.lines c.args.lines.now) c.args.place _ _ _ c.if-not-branch.true c.in_ok-put_line.ensures

pub returns : goal.returns
returns g c =
    let here = line_there (g.L.Lines.lines c.args.lines.now) c.args.place _ _ _ c.if-not-branch.false c.clear.ensures.items c.in_ok-put_line.ensures in
    (here.0, c.in_ok-push.ensures.items ∙ ap (λ line. line ++ 10 ∷ []) here.1)
