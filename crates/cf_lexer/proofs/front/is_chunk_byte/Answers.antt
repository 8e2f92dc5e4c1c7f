-- The table is held against the definition at each of the 256 bytes, by computing.
use Rattle.std.proofs.Common.{get_or, nat_eq, refl, arith}
use Rattle.std.proofs.lemmas.Bool.{agree_below_at}
use Rattle.config_rules.specs.Cut.{is_chunk_byte}
use Rattle.cf_lexer.specs.declared.front.TheConstants.{CLASSES}
use Rattle.cf_lexer.proofs.front.is_chunk_byte.Goals as goal

pub returns : goal.returns
returns c = agree_below_at (λ k. nat_eq (get_or CLASSES k 0) 99) is_chunk_byte 256 c.args.byte refl (omega arith)
