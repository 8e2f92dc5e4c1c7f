use Rattle.std.proofs.Common.{sym, ◌∙◌}
use Rattle.script_text.proofs.OrderLemmas.{no_code}
use Rattle.script_text.proofs.order.add_line.Goals as goal

pub returns-in-Ok : goal.returns-in-Ok
returns-in-Ok c =
    let added = rw c.uncommented-bytes.ensures at c.in-Ok.ensures in
    (no_code c.args.callers c.args.line.now (sym c.has_bad_byte.ensures ∙ c.if-has_bad_byte.false) added.0, added.1)
