use Rattle.std.proofs.Common.{◌≡◌, ◌≤◌, ◌-◌, drop, length, map}
use Rattle.config_rules.specs.Form.{pairs_of}
use Rattle.cf_words.specs.Words.{piece_of}
use Rattle.cf_grammar.proofs.PairLemmas.{with_pairs}
use Rattle.cf_grammar.proofs.instance.pairs_of.Given as goal

abbrev pub invariant-loop-place : goal.invariant-loop-place
invariant-loop-place l = record {
  within : l.place ≤ length l.words;
  so_far : with_pairs l.pairs (pairs_of l.sized (drop l.place (map piece_of l.words))) ≡ pairs_of l.sized (map piece_of l.words);
}

abbrev pub decreases-loop-place : goal.decreases-loop-place
decreases-loop-place l = length l.words - l.place
