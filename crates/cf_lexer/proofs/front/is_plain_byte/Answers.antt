-- The table is held against the definition at each of the 256 bytes, by computing.
use Rattle.std.proofs.Common.{get_or, nat_eq, not, refl, arith}
use Rattle.std.proofs.lemmas.Bool.{agree_below_at}
use Rattle.cf_lexer.specs.declared.front.TheConstants.{CLASSES}
use Rattle.cf_lexer.specs.Front.{is_plain_byte}
use Rattle.cf_lexer.proofs.front.is_plain_byte.Goals as goal

pub returns : goal.returns
returns c = agree_below_at (λ k. not (nat_eq (get_or CLASSES k 0) 126)) is_plain_byte 256 c.args.byte refl (omega arith)
