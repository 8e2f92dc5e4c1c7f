use Rattle.plain_search.proofs.BusLaws.{place_behind}
use Rattle.plain_search.proofs.turns.place_turn.Goals as goal

pub returns-then-attr-scan : goal.returns-then-attr-scan
returns-then-attr-scan c =
    place_behind c.args.seeker.now.rules.now c.args.plain.now c.args.scan.now c.args.plain.now.live.devices c.args.scan.now.serial c.args.attr c.args.place c.if-attr-scan.true
