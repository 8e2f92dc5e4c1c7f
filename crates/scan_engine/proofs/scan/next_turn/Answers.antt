use Rattle.run_rules.specs.Search.{turns_of}
use Rattle.scan_engine.proofs.TurnLaws.{found_forward, found_is}
use Rattle.scan_engine.proofs.scan.next_turn.Goals as goal

pub returns-clause-turn : goal.returns-clause-turn
returns-clause-turn c =
    found_is c.args.on.now.tables.now c.args.on.now.machine.now c.args.by.device c.args.by.attach c.args.by.children.spot c.args.only c.args.from c.scan_turn.result c.requires.fit.few_offered c.scan_turn.ensures

pub returns-clause-forward : goal.returns-clause-forward
returns-clause-forward c =
    found_forward (turns_of c.args.on.now.tables.now c.args.on.now.machine.now c.args.by.device c.args.by.attach c.args.by.children.spot c.args.only) c.args.from c.scan_turn.result c.scan_turn.ensures
