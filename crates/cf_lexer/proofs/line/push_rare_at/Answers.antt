use Rattle.std.proofs.Common.{◌+◌, ap, arith, length, length-drop}
use Rattle.std.proofs.lemmas.List.{take_rest}
use Rattle.cf_lexer.specs.Lines.{bytes_behind}
use Rattle.cf_lexer.proofs.PlaceLemmas.{first_shorter}
use Rattle.cf_lexer.proofs.line.push_rare_at.Goals as goal

pub overflow_add-result : goal.overflow_add-result
overflow_add-result c =
    let text = c.args.text.now in
    let place = c.args.place in
    omega (arith, c.in-Ok.ensures.1, first_shorter (bytes_behind text place), ap length (take_rest text (place + 1)), length-drop (place + 1) text, c.requires.short)
