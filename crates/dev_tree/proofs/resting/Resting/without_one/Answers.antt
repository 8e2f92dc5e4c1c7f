use Rattle.std.proofs.Common.{refl}
use Rattle.dev_tree.proofs.RestLaws.{rest_less}
use Rattle.dev_tree.proofs.resting.Resting.without_one.Goals as goal

pub returns : goal.returns
returns c = λ live i lt h. rest_less live i c.args.self _ lt c.saturating_sub.ensures refl h
