use Rattle.std.proofs.Common.{◌∙◌}
use Rattle.cf_words.specs.Words.{piece_of}
use Rattle.cf_words.proofs.Blank.{blank}
use Rattle.cf_grammar.proofs.FaultLemmas.{left_out_none, left_out_words}
use Rattle.cf_grammar.proofs.FormLemmas.{keyword_first}
use Rattle.cf_grammar.proofs.fault.is_left_out.Goals as goal

pub returns-in-empty : goal.returns-in-empty
returns-in-empty c = left_out_none piece_of c.args.words.now c.in-empty.len_below

pub returns-in-len1-up : goal.returns-in-len1-up
returns-in-len1-up c = c.is_left_out_statement.ensures ∙ left_out_words piece_of c.args.words.now blank c.in-len1-up.len_at_least

pub is_left_out_statement-requires : goal.is_left_out_statement-requires
is_left_out_statement-requires c = c.requires ∙ keyword_first piece_of c.args.words.now blank c.in-len1-up.len_at_least
