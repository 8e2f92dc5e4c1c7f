use Rattle.std.proofs.Common.{◌∙◌, ap}
use Rattle.std.specs.Prelude.{find}
use Rattle.run_rules.specs.Search.{due, turns}
use Rattle.plain_search.specs.Buses.{takes}
use Rattle.plain_search.proofs.BusLaws.{one_turns}
use Rattle.plain_search.proofs.turns.due_turn.Goals as goal

pub returns-in-Some : goal.returns-in-Some
unfolding due
returns-in-Some c =
    let q = takes c.args.seeker.now.rules.now c.args.plain.now c.args.scan.now in
    ap (λ only. find q (turns c.args.seeker.now.rules.now c.args.plain.now.live.devices c.args.scan.now.serial only)) c.in-Some.is
    ∙ ap (find q) (one_turns q c.args.seeker.now.rules.now c.args.plain.now.live.devices c.args.scan.now.serial c.in-Some.attr) ∙ c.turn_among.ensures
