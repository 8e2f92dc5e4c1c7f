use Rattle.std.proofs.Common.{◌-◌, ap, ◌∙◌, arith, rules, w64}
use Rattle.std.specs.Int.{bit_at}
use Rattle.std.proofs.lemmas.Nat.Bits.{bit_at_not, bit_at-pow_same, bit_at-pow_other}
use Rattle.lease_table.proofs.table.other_bits.Goals as goal

pub returns-clause-own : goal.returns-clause-own
returns-clause-own c =
    let k = c.args.caller - 1 in
    let bit = c.own_bit-bit.result in
    let small = c.requires.1 in
    bit_at_not w64 bit k (search rules) (omega arith) ∙ (ap (λ z. 1 - bit_at z k) c.own_bit-bit.ensures ∙ ap (λ z. 1 - z) (bit_at-pow_same k))

pub returns-clause-others : goal.returns-clause-others
returns-clause-others c b l other =
    let k = c.args.caller - 1 in
    let bit = c.own_bit-bit.result in
    bit_at_not w64 bit b (search rules) l ∙ (ap (λ z. 1 - bit_at z b) c.own_bit-bit.ensures ∙ ap (λ z. 1 - z) (bit_at-pow_other k b other))
