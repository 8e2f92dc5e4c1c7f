use Rattle.std.proofs.Common.{arith}
use Rattle.std.proofs.lemmas.Option.{gets}
use Rattle.told_names.proofs.names.spot_name.Goals as goal

pub returns : goal.returns
returns c = grind (arith, gets)
