use Rattle.std.proofs.Common.{◌<◌, ◌+◌, ◌-◌, ◌∙◌, length, get_or, take, drop, ap, sym, arith, Some, None}
use Rattle.cf_lexer.specs.Lines.{head_line}
use Rattle.cf_lexer.proofs.CheckLemmas.{Behind, byte_is, goes_behind, over_here}
use Rattle.cf_lexer.proofs.PlaceLemmas.{at_here, newline_here, text_done}
use Rattle.cf_lexer.proofs.check.check_line.Goals as goal

pub overflow_add-place : goal.overflow_add-place
overflow_add-place c =
    let text = c.args.text.now in
    let place = c.loop-place.place in
    let lt : place < length text = omega (arith, c.loop-place-test.true) in
    let goes = byte_is (get_or text place 0) (take (length text - (place + 1)) (drop (place + 1) text)) c.in-Ok-Some.field-0 (Some c.in-Ok-Some.len) c.in-Ok-Some.field-0-is c.in-Ok-Some.ensures in
    let f : Behind place c.in-Ok-Some.len text = goes_behind place c.in-Ok-Some.len _ text _ lt (at_here text place 0 lt) goes.1 goes.0 in
    omega (arith, f.within, c.requires.short)

pub loop-place-preserved : goal.loop-place-preserved
loop-place-preserved c =
    let text = c.args.text.now in
    let place = c.loop-place.place in
    let lt : place < length text = omega (arith, c.loop-place-test.true) in
    let goes = byte_is (get_or text place 0) (take (length text - (place + 1)) (drop (place + 1) text)) c.in-Ok-Some.field-0 (Some c.in-Ok-Some.len) c.in-Ok-Some.field-0-is c.in-Ok-Some.ensures in
    let f : Behind place c.in-Ok-Some.len text = goes_behind place c.in-Ok-Some.len _ text _ lt (at_here text place 0 lt) goes.1 goes.0 in
    record {
      from = omega (arith, c.loop-place.invariant.from);
      within = f.within;
      code = f.code ∙ c.loop-place.invariant.code;
      behind = f.behind ∙ c.loop-place.invariant.behind;
    }

pub returns-in-Ok-None-clause-code : goal.returns-in-Ok-None-clause-code
returns-in-Ok-None-clause-code c =
    let text = c.args.text.now in
    let place = c.loop-place.place in
    let lt : place < length text = omega (arith, c.loop-place-test.true) in
    let newline = byte_is (get_or text place 0) (take (length text - (place + 1)) (drop (place + 1) text)) c.in-Ok-None.field-0 None c.in-Ok-None.field-0-is c.in-Ok-None.ensures in
    sym c.loop-place.invariant.code ∙ over_here place text (ap head_line (newline_here place _ text _ (at_here text place 0 lt) newline))

pub returns-clause-code : goal.returns-clause-code
returns-clause-code c =
    let text = c.args.text.now in
    let place = c.loop-place.place in
    sym c.loop-place.invariant.code ∙ over_here place text (ap head_line (text_done place text (omega (arith, c.loop-place-test.false))))
