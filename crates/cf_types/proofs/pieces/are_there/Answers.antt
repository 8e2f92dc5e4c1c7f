use Rattle.std.proofs.Common.{◌<◌, arith, length, refl}
use Rattle.cf_types.proofs.PieceLemmas.{from_more, spans_more}
use Rattle.cf_types.proofs.pieces.are_there.Goals as goal

pub loop-place-preserved : goal.loop-place-preserved
loop-place-preserved c =
    let place = c.loop-place.place in
    let within : place < length c.args.spans.now = omega (arith, c.loop-place-test.true) in
    let inside : place < length c.args.tokens.now = omega (arith, c.loop-place-test.true, c.if-spans-tokens.false) in
    record {
      from = from_more c.args.start place c.args.tokens.now _ inside c.loop-place.invariant.from (c.if-not-is_there.ensures.from refl);
      places = spans_more c.args.start place c.args.spans.now c.args.tokens.now _ _ within inside c.loop-place.invariant.places (c.if-not-is_there.ensures.place refl);
    }
