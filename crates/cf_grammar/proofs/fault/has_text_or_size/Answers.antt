use Rattle.std.proofs.Common.{◌∙◌, ap, map}
use Rattle.cf_words.specs.Words.{piece_of}
use Rattle.cf_words.proofs.ListLemmas.{map_from_index}
use Rattle.cf_grammar.specs.LeftOut.{begins_text_or_size}
use Rattle.cf_grammar.proofs.FaultLemmas.{sized_found, sized_later}
use Rattle.cf_grammar.proofs.fault.has_text_or_size.Goals as goal

pub returns-then-begins_text_or_size : goal.returns-then-begins_text_or_size
returns-then-begins_text_or_size c =
    sized_found (map piece_of c.args.words.now) c.loop-place.place (c.if-begins_text_or_size.ensures ∙ ap begins_text_or_size (map_from_index piece_of c.args.words.now c.loop-place.place)) ∙ c.loop-place.invariant

pub loop-place-preserved : goal.loop-place-preserved
loop-place-preserved c =
    sized_later (map piece_of c.args.words.now) c.loop-place.place (c.if-begins_text_or_size.ensures ∙ ap begins_text_or_size (map_from_index piece_of c.args.words.now c.loop-place.place)) ∙ c.loop-place.invariant
