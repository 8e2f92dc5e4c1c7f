use Rattle.std.proofs.Common.{◌≡◌, drop, map}
use Rattle.config_rules.specs.Form.{has_text_or_size}
use Rattle.cf_words.specs.Words.{piece_of}
use Rattle.cf_grammar.proofs.fault.has_text_or_size.Given as goal

abbrev pub invariant-loop-place : goal.invariant-loop-place
invariant-loop-place l = has_text_or_size (drop l.place (map piece_of l.words)) ≡ has_text_or_size (map piece_of l.words)
