-- The table is held against the definition at each of the 256 bytes, by computing.
use Rattle.std.proofs.Common.{get_or, nat_eq, not, refl, arith}
use Rattle.std.proofs.lemmas.Bool.{agree_below_at}
use Rattle.config_rules.specs.MachineText.{is_allowed}
use Rattle.machine_text.specs.declared.line.TheConstants.{ALLOWED_BYTES}
use Rattle.machine_text.proofs.line.is_allowed.Goals as goal

pub returns : goal.returns
returns c = agree_below_at (λ k. not (nat_eq (get_or ALLOWED_BYTES k 0) 10)) is_allowed 256 c.args.byte refl (omega arith)
