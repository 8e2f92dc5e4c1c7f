use Rattle.std.proofs.Common.{rules, ◌∙◌, ◌+◌, ap, sym, map, drop, Some, None, List, arith, ℤ, SFits, w64, to_z-of_z}
use Rattle.std.proofs.lemmas.List.{length-drop, length-map}
use Rattle.cf_types.specs.declared.stmt.GivenLoc.{GivenLoc}
use Rattle.config_rules.specs.Form.{pairs_of}
use Rattle.cf_words.specs.Words.{piece_of}
use Rattle.cf_words.proofs.Blank.{blank}
use Rattle.cf_grammar.proofs.PairLemmas.{with_pairs, pairs_flags, pairs_more, pairs_none, pairs_half}
use Rattle.cf_grammar.proofs.instance.pairs_of.Goals as goal

pub returns-in-Some : goal.returns-in-Some
returns-in-Some c =
    let fits : SFits w64 c.in-Some.flags = search rules in
    ap (λ (flags : ℤ). Some (c.loop-place.pairs, flags)) (to_z-of_z fits)
    ∙ pairs_flags piece_of c.args.sized c.args.words.now c.loop-place.place blank c.loop-place.pairs (Some c.in-Some.flags) c.loop-place-test.true c.if-is_word.ensures c.in-Some.ensures
    ∙ c.loop-place.invariant.so_far

pub returns-in-None : goal.returns-in-None
returns-in-None c =
    pairs_flags piece_of c.args.sized c.args.words.now c.loop-place.place blank c.loop-place.pairs None c.loop-place-test.true c.if-is_word.ensures c.in-None.ensures ∙ c.loop-place.invariant.so_far

pub returns-in-None-2 : goal.returns-in-None-2
returns-in-None-2 c =
    pairs_none piece_of c.args.sized c.args.words.now c.loop-place.place blank c.loop-place.pairs c.loop-place-test.true c.if-is_word.ensures (sym c.in-None-2.is ∙ c.in_ok-pair.ensures) ∙ c.loop-place.invariant.so_far

pub loop-place-preserved : goal.loop-place-preserved
loop-place-preserved c = record {
  within = omega arith;
  so_far =
      ap (λ (pairs : List GivenLoc). with_pairs pairs (pairs_of c.args.sized (drop (c.loop-place.place + 2) (map piece_of c.args.words.now)))) c.in_ok-push-in-Some-2.ensures.ok
      ∙ pairs_more piece_of c.args.sized c.args.words.now c.loop-place.place blank c.loop-place.pairs c.in-Some-2.pair c.loop-place-test.true c.if-is_word.ensures (sym c.in-Some-2.is ∙ c.in_ok-pair.ensures)
      ∙ c.loop-place.invariant.so_far;
}

pub returns-else-place-words : goal.returns-else-place-words
returns-else-place-words c =
    let words = c.args.words.now in
    pairs_half c.args.sized (drop c.loop-place.place (map piece_of words)) c.loop-place.pairs (omega (arith, length-drop c.loop-place.place (map piece_of words), length-map words piece_of)) ∙ c.loop-place.invariant.so_far
