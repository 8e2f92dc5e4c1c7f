use Rattle.std.proofs.Common.{◌∙◌, ap, map}
use Rattle.cf_words.specs.Words.{piece_of}
use Rattle.cf_words.proofs.ListLemmas.{map_from_index}
use Rattle.cf_grammar.specs.LeftOut.{begins_named_text}
use Rattle.cf_grammar.proofs.FaultLemmas.{named_found, named_later}
use Rattle.cf_grammar.proofs.fault.has_named_text.Goals as goal

pub returns-then-begins_named_text : goal.returns-then-begins_named_text
returns-then-begins_named_text c =
    named_found (map piece_of c.args.words.now) c.loop-place.place (c.if-begins_named_text.ensures ∙ ap begins_named_text (map_from_index piece_of c.args.words.now c.loop-place.place)) ∙ c.loop-place.invariant

pub loop-place-preserved : goal.loop-place-preserved
loop-place-preserved c =
    named_later (map piece_of c.args.words.now) c.loop-place.place (c.if-begins_named_text.ensures ∙ ap begins_named_text (map_from_index piece_of c.args.words.now c.loop-place.place)) ∙ c.loop-place.invariant
