use Rattle.std.proofs.Common.{◌≡◌, ◌+◌, drop}
use Rattle.std.specs.List.{prefix_len}
use Rattle.std.specs.Prelude.{not}
use Rattle.config_rules.specs.Form.{is_mark}
use Rattle.cf_words.specs.Words.{piece_of}
use Rattle.cf_words.proofs.word.count_before.Given as goal

abbrev pub invariant-loop-word : goal.invariant-loop-word
invariant-loop-word l = record {
  counted : l.count ≡ l.word-index;
  left : prefix_len (λ word. not (is_mark l.mark (piece_of word))) l.words ≡ l.count + prefix_len (λ word. not (is_mark l.mark (piece_of word))) (drop l.word-index l.words);
}
