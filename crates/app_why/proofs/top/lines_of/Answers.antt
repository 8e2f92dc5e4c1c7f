use Rattle.std.proofs.Common.{refl}
use Rattle.app_why.proofs.Found.{answers_with}
use Rattle.app_why.proofs.top.lines_of.Goals as goal

pub returns-in-Some : goal.returns-in-Some
returns-in-Some c =
    answers_with c.args.name.now c.args.explained.now c.in-Some.machine
    (record { files = c.items.result.now; placed = c.items-2.result.now; orphans = c.items-3.result.now })
    c.why_lines.result c.in-Some.is (rw (c.items.ensures, c.items-2.ensures, c.items-3.ensures) refl) c.why_lines.ensures
