use Rattle.std.proofs.Common.{refl}
use Rattle.machine_model.proofs.NumberLemmas.{added, added_in_order}
use Rattle.machine_model.proofs.numbers.add.Goals as goal

pub returns-clause-order : goal.returns-clause-order
returns-clause-order c =
    added_in_order c.args.numbers.now.items c.insert.new.self.items c.place_of-place.result (record { name = c.args.name; number = c.args.number }) c.args.name.now c.in_ok-insert.ensures.items refl c.requires.order c.place_of-place.ensures

pub returns-clause-also : goal.returns-clause-also
returns-clause-also c =
    added c.args.numbers.now.items c.insert.new.self.items c.place_of-place.result (record { name = c.args.name; number = c.args.number }) c.args.name.now c.in_ok-insert.ensures.items refl c.requires.new
