use Rattle.std.proofs.Common.{arith}
use Rattle.cf_text.proofs.NumberLemmas.{digit_read, value_read}
use Rattle.cf_text.proofs.number.read_digits.Goals as goal

pub loop-byte-preserved : goal.loop-byte-preserved
loop-byte-preserved c =
    let bytes = c.args.bytes.now in
    let i = c.loop-byte.byte-index in
    let read = c.in_ok-digit.ensures.value in
    record {
      digits = digit_read c.args.radix bytes i c.from.result c.loop-byte-test.true c.from.ensures read.0 c.loop-byte.invariant.digits;
      value = value_read c.args.radix bytes i c.from.result c.in_ok-digit.digit c.loop-byte.value c.min-value.result 4294967296 (omega arith) c.loop-byte-test.true c.from.ensures read.1 c.loop-byte.invariant.value cc;
    }
