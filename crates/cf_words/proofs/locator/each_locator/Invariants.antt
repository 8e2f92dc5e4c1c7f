use Rattle.std.proofs.Common.{◌≡◌, map}
use Rattle.config_rules.specs.Form.{each, locator_of, parted}
use Rattle.cf_words.specs.Words.{left_len, parts_left, piece_of}
use Rattle.cf_words.proofs.ListLemmas.{with_front}
use Rattle.cf_words.proofs.locator.each_locator.Given as goal

abbrev pub invariant-loop-left : goal.invariant-loop-left
invariant-loop-left l = with_front l.locs.items (each (locator_of l.fn.sized) (parts_left l.left)) ≡ each (locator_of l.fn.sized) (parted (map piece_of l.words))

abbrev pub decreases-loop-left : goal.decreases-loop-left
decreases-loop-left l = left_len l.left
