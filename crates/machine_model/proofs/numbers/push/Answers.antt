use Rattle.std.proofs.Common.{refl}
use Rattle.machine_model.proofs.NumberLemmas.{pushed}
use Rattle.machine_model.proofs.numbers.push.Goals as goal

pub returns : goal.returns
returns c = pushed c.args.numbers.now.items c.push.new.self.items (record { name = c.args.name; number = c.args.number }) c.args.name.now c.in_ok-push.ensures.items refl
