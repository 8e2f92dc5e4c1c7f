use Rattle.std.proofs.Common.{◌≡◌, map}
use Rattle.config_rules.specs.Form.{alone, each, name_of, parted}
use Rattle.cf_words.specs.Words.{left_len, parts_left, piece_of}
use Rattle.cf_words.proofs.ListLemmas.{with_front}
use Rattle.cf_words.proofs.name.names_of.Given as goal

abbrev pub invariant-loop-left : goal.invariant-loop-left
invariant-loop-left l = with_front l.names.items (each (alone name_of) (parts_left l.left)) ≡ each (alone name_of) (parted (map piece_of l.words))

abbrev pub decreases-loop-left : goal.decreases-loop-left
decreases-loop-left l = left_len l.left
