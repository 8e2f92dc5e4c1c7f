use Rattle.std.proofs.Common.{◌≡◌, map}
use Rattle.config_rules.specs.Form.{each, parted}
use Rattle.cf_grammar.specs.Items.{item_form}
use Rattle.cf_words.specs.Words.{left_len, parts_left, piece_of}
use Rattle.cf_words.proofs.ListLemmas.{with_front}
use Rattle.cf_grammar.proofs.item.items_of.Given as goal

abbrev pub invariant-loop-left : goal.invariant-loop-left
invariant-loop-left l = with_front l.items.items (each (item_form l.fn.form) (parts_left l.left)) ≡ each (item_form l.fn.form) (parted (map piece_of l.words))

abbrev pub decreases-loop-left : goal.decreases-loop-left
decreases-loop-left l = left_len l.left
