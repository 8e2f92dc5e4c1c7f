-- The table is held against the definition at each of the 256 bytes, by computing.
use Rattle.std.proofs.Common.{get_or, nat_eq, not, refl, arith}
use Rattle.std.proofs.lemmas.Bool.{agree_below_at}
use Rattle.cf_text.specs.declared.name.TheConstants.{NAME_BYTES}
use Rattle.cf_text.specs.Shapes.{continues_name}
use Rattle.cf_text.proofs.name.continues_name.Goals as goal

pub returns : goal.returns
returns c = agree_below_at (λ k. not (nat_eq (get_or NAME_BYTES k 0) 44)) continues_name 256 c.args.byte refl (omega arith)
