use Rattle.std.proofs.Common.{rules, ◌∙◌, ap, sym, not, Some, pos, SFits, w64, to_z-of_z}
use Rattle.config_rules.specs.Form.{given}
use Rattle.cf_words.specs.Words.{piece_of}
use Rattle.cf_words.proofs.ValueLemmas.{value_of-chunk}
use Rattle.cf_words.proofs.value.value_of.Goals as goal

pub returns-in-Value : goal.returns-in-Value
returns-in-Value c =
    let fits : SFits w64 c.in-Value.value = search rules in
    ap Some (to_z-of_z fits) ∙ value_of-chunk c.args.sized (piece_of c.args.word) _ c.if-not-is_chunk.ensures c.in-Value.ensures

pub returns-then-sized : goal.returns-then-sized
returns-then-sized c =
    ap (λ b. given (not b) (pos 0)) (sym c.if-sized.true) ∙ value_of-chunk c.args.sized (piece_of c.args.word) _ c.if-not-is_chunk.ensures c.in-OutOfRange.ensures

pub returns-else-sized : goal.returns-else-sized
returns-else-sized c =
    ap (λ b. given (not b) (pos 0)) (sym c.if-sized.false) ∙ value_of-chunk c.args.sized (piece_of c.args.word) _ c.if-not-is_chunk.ensures c.in-OutOfRange.ensures

pub returns-in-Not : goal.returns-in-Not
returns-in-Not c = value_of-chunk c.args.sized (piece_of c.args.word) _ c.if-not-is_chunk.ensures c.in-Not.ensures
