use Rattle.std.proofs.Common.{◌≡◌, drop, map}
use Rattle.config_rules.specs.Form.{has_named_text}
use Rattle.cf_words.specs.Words.{piece_of}
use Rattle.cf_grammar.proofs.fault.has_named_text.Given as goal

abbrev pub invariant-loop-place : goal.invariant-loop-place
invariant-loop-place l = has_named_text (drop l.place (map piece_of l.words)) ≡ has_named_text (map piece_of l.words)
