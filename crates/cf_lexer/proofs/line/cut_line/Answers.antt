use Rattle.std.proofs.Common.{◌<◌, ◌+◌, ◌-◌, ◌∙◌, length, get_or, take, drop, ap, sym, arith, Some, None, Ok}
use Rattle.cf_lexer.specs.Lines.{head_line}
use Rattle.cf_lexer.proofs.PlaceLemmas.{at_here, line_done, newline_here, part_is, part_reached, text_done}
use Rattle.cf_lexer.proofs.line.cut_line.Goals as goal

pub loop-place-preserved : goal.loop-place-preserved
loop-place-preserved c =
    let text = c.args.text.now in
    let place = c.loop-place.place in
    let lt : place < length text = omega (arith, c.loop-place-test.true) in
    let more = take (length text - (place + 1)) (drop (place + 1) text) in
    let goes = part_is c.loop-place.tokens.items c.push_part.new.tokens.items c.args.line place (get_or text place 0) more c.in-Ok-Some.field-0 (Some c.in-Ok-Some.next) c.in-Ok-Some.field-0-is c.in-Ok-Some.ensures in
    let r = part_reached c.loop-place.tokens.items c.push_part.new.tokens.items c.args.line place c.in-Ok-Some.next (get_or text place 0) text more lt (at_here text place 0 lt) goes in
    record {
      from = omega (arith, c.loop-place.invariant.from, r.further);
      within = r.within;
      so_far = r.so_far ∙ c.loop-place.invariant.so_far;
      behind = r.behind ∙ c.loop-place.invariant.behind;
    }

pub returns-in-Ok-None-clause-tokens : goal.returns-in-Ok-None-clause-tokens
returns-in-Ok-None-clause-tokens c =
    let lt : c.loop-place.place < length c.args.text.now = omega (arith, c.loop-place-test.true) in
    let goes = part_is c.loop-place.tokens.items c.push_part.new.tokens.items c.args.line c.loop-place.place (get_or c.args.text.now c.loop-place.place 0)
    (take (length c.args.text.now - (c.loop-place.place + 1)) (drop (c.loop-place.place + 1) c.args.text.now)) c.in-Ok-None.field-0 None c.in-Ok-None.field-0-is c.in-Ok-None.ensures in
    line_done c.loop-place.tokens.items c.args.line c.loop-place.place c.args.text.now _
    (ap head_line (newline_here c.loop-place.place _ c.args.text.now _ (at_here c.args.text.now c.loop-place.place 0 lt) goes.0)) c.loop-place.invariant.so_far
    ∙ ap Ok (sym goes.1)

pub returns-clause-tokens : goal.returns-clause-tokens
returns-clause-tokens c =
    line_done c.loop-place.tokens.items c.args.line c.loop-place.place c.args.text.now _
    (ap head_line (text_done c.loop-place.place c.args.text.now (omega (arith, c.loop-place-test.false)))) c.loop-place.invariant.so_far
