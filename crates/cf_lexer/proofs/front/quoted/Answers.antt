use Rattle.std.proofs.Common.{rules, ◌<◌, ◌≤◌, ◌∙◌, sym, arith, refl, length}
use Rattle.std.proofs.lemmas.Bool.Decides.{nat_tests}
use Rattle.cf_lexer.proofs.QuoteLemmas.{byte_within, ends_here, ends_text, other_is, quoted_is}
use Rattle.cf_lexer.proofs.front.quoted.Goals as goal

pub returns-in-Some-eq34-clause-front : goal.returns-in-Some-eq34-clause-front
returns-in-Some-eq34-clause-front c =
    let text = c.args.text.now in
    let n = c.text_len-len.result in
    let lt : n < length text = grind (arith, nat_tests) in
    quoted_is text n c.in-Some-eq34.field-0.now _ c.text_len-len.ensures lt c.in-Some-eq34.ensures.lookup.1 c.in-Some-eq34.field-0-test

pub returns-in-Some-eq34-clause-within : goal.returns-in-Some-eq34-clause-within
returns-in-Some-eq34-clause-within c =
    let text = c.args.text.now in
    let n = c.text_len-len.result in
    let lt : n < length text = grind (arith, nat_tests) in
    let more = byte_within text n 34 _ c.text_len-len.ensures lt (sym c.in-Some-eq34.field-0-test ∙ c.in-Some-eq34.ensures.lookup.1) refl in
    record { some = omega arith; fits = omega (arith, more); token = (omega arith, omega arith) }

pub returns-in-Some-clause-front : goal.returns-in-Some-clause-front
returns-in-Some-clause-front c =
    let text = c.args.text.now in
    let n = c.text_len-len.result in
    let lt : n < length text = grind (arith, nat_tests) in
    other_is text n c.in-Some.field-0.now _ c.text_len-len.ensures lt c.in-Some.ensures.lookup.1 c.in-Some.field-0-test.0.1 c.in-Some.field-0-test.1

pub returns-in-None-clause-front : goal.returns-in-None-clause-front
returns-in-None-clause-front c =
    let past : length c.args.text.now ≤ c.text_len-len.result = grind (arith, nat_tests) in
    ends_text c.args.text.now c.text_len-len.result c.text_len-len.ensures past

pub returns-in-None-2-clause-front : goal.returns-in-None-2-clause-front
returns-in-None-2-clause-front c =
    let lt : c.text_len-len.result < length c.args.text.now = grind (arith, nat_tests) in
    ends_here c.args.text.now c.text_len-len.result 10 10 c.text_len-len.ensures lt (search rules) refl
