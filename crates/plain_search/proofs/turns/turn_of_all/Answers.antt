use Rattle.std.proofs.Common.{◌≡◌, Some, ap, sym, ◌∙◌}
use Rattle.std.specs.Prelude.{option_map}
use Rattle.run_rules.specs.declared.world.Dev.{Dev}
use Rattle.run_rules.specs.Search.{driver_at}
use Rattle.run_rules.specs.World.{driver_of}
use Rattle.plain_search.specs.Buses.{takes}
use Rattle.plain_search.proofs.BusLaws.{device_turns, root_turns}
use Rattle.plain_search.proofs.turns.turn_of_all.Goals as goal

pub returns-in-Some : goal.returns-in-Some
returns-in-Some c =
    let s = c.args.seeker.now.rules.now in
    let there : Some c.driver_of.result ≡ driver_at s c.args.plain.now.live.devices c.args.scan.now.serial =
    ap Some c.driver_of.ensures ∙ ap (option_map (λ (d : Dev). driver_of s d.row)) (sym c.in-Some.is ∙ c.requires.may.device) in
    device_turns (takes c.args.seeker.now.rules.now c.args.plain.now c.args.scan.now) s c.args.plain.now.live.devices c.args.scan.now.serial c.driver_of.result c.turn_among.result
    there (rw c.offered-offered.ensures at c.turn_among.ensures)

pub returns-in-None : goal.returns-in-None
returns-in-None c =
    root_turns (takes c.args.seeker.now.rules.now c.args.plain.now c.args.scan.now) c.args.seeker.now.rules.now c.args.plain.now.live.devices c.args.scan.now.serial c.place_turn.result
    (ap (option_map (λ (d : Dev). driver_of c.args.seeker.now.rules.now d.row)) (sym c.in-None.is ∙ c.requires.may.device)) c.place_turn.ensures
