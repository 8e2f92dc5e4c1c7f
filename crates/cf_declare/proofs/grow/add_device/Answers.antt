use Rattle.cf_declare.proofs.GrowLemmas.{names_there}
use Rattle.cf_declare.proofs.grow.add_device.Goals as goal

pub add_device-requires-clause-known : goal.add_device-requires-clause-known
add_device-requires-clause-known c =
    names_there c.args.declared.now c.args.graph.now c.args.device c.items.result.now c.requires.graph c.requires.known c.items.ensures
