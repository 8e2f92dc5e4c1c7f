use Rattle.std.proofs.Common.{◌∙◌, sym, ap, arith}
use Rattle.std.specs.Prelude.{find}
use Rattle.std.proofs.lemmas.List.{drop_all}
use Rattle.run_rules.specs.Search.{turns_at}
use Rattle.plain_search.specs.Buses.{takes, turns_among}
use Rattle.plain_search.proofs.BusLaws.{place_found, place_passed}
use Rattle.plain_search.proofs.turns.turn_among.Goals as goal

pub returns-in-Some : goal.returns-in-Some
returns-in-Some c =
    sym c.loop-number.invariant
    ∙ place_found (takes c.args.seeker.now.rules.now c.args.plain.now c.args.scan.now) (turns_at c.args.seeker.now.rules.now c.args.plain.now.live.devices c.args.scan.now.serial) c.args.attrs.now c.loop-number.number c.in-Some.turn
    (omega arith) c.in-Some.ensures

pub loop-number-preserved : goal.loop-number-preserved
loop-number-preserved c =
    place_passed (takes c.args.seeker.now.rules.now c.args.plain.now c.args.scan.now) (turns_at c.args.seeker.now.rules.now c.args.plain.now.live.devices c.args.scan.now.serial) c.args.attrs.now c.loop-number.number
    (omega arith) c.in-None.ensures ∙ c.loop-number.invariant

pub returns : goal.returns
returns c =
    sym c.loop-number.invariant
    ∙ ap (λ attrs. find (takes c.args.seeker.now.rules.now c.args.plain.now c.args.scan.now) (turns_among c.args.seeker.now.rules.now c.args.plain.now c.args.scan.now.serial c.loop-number.number attrs))
    (drop_all c.loop-number.number c.args.attrs.now (omega arith))
