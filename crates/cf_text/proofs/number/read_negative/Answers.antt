use Rattle.std.proofs.Common.{arith}
use Rattle.std.proofs.lemmas.Int.{ints}
use Rattle.cf_text.specs.Shapes.{unsigned}
use Rattle.cf_text.proofs.NumberLemmas.{capped, negative_over, negative_read}
use Rattle.cf_text.proofs.number.read_negative.Goals as goal

pub returns-then-value-gt-MOST_BELOW : goal.returns-then-value-gt-MOST_BELOW
returns-then-value-gt-MOST_BELOW c = negative_over (unsigned c.args.chunk.now) c.in-Some.value c.in-Some.ensures c.if-value-gt-MOST_BELOW.true

pub returns-else-value-gt-MOST_BELOW : goal.returns-else-value-gt-MOST_BELOW
returns-else-value-gt-MOST_BELOW c =
    let bound = capped (unsigned c.args.chunk.now) c.in-Some.value 4294967296 c.in-Some.ensures in
    negative_read (unsigned c.args.chunk.now) c.in-Some.value _ c.in-Some.ensures (omega (arith, ints, bound)) (omega (arith, c.if-value-gt-MOST_BELOW.false))

pub overflow_cast-result : goal.overflow_cast-result
overflow_cast-result c = let bound = capped (unsigned c.args.chunk.now) c.in-Some.value 4294967296 c.in-Some.ensures in omega (arith, bound)
