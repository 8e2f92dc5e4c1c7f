use Rattle.std.proofs.Common.{map, arith}
use Rattle.std.proofs.lemmas.List.{length-map}
use Rattle.cf_words.specs.Words.{piece_of}
use Rattle.cf_grammar.proofs.AttachLemmas.{attach_short}
use Rattle.cf_grammar.proofs.attach.attach.Goals as goal

pub returns-in_default : goal.returns-in_default
returns-in_default c = attach_short (map piece_of c.args.words.now) (omega (arith, length-map c.args.words.now piece_of))
