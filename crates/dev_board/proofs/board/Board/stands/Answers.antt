use Rattle.run_rules.proofs.OwnNames.{names_own}
use Rattle.boot_laws.proofs.Thorough.{thorough}
use Rattle.history_laws.proofs.Always.{always_reliable}
use Rattle.run_sound.proofs.FormedDevices.{formed_devices}
use Rattle.dev_board.proofs.board.Board.stands.Goals as goal

pub returns-clause-sound : goal.returns-clause-sound
returns-clause-sound c = rw (← c.self.view_is) c.stands.ensures.goes_on.kept.sound

pub returns-clause-names : goal.returns-clause-names
returns-clause-names c =
    let w = c.self.inside.state.going in
    let goes = c.stands.ensures.goes_on in
    rw (← c.self.view_is) (names_own w.setup w.live (formed_devices w.setup.tables goes.may.tables) goes.kept.ranges.devices.rows goes.kept.ranges.devices.units goes.kept.sound.devices.apart)

pub returns-clause-reliable : goal.returns-clause-reliable
returns-clause-reliable c =
    let state = c.self.inside.state in
    rw (← c.self.view_is) (always_reliable state.going.setup state.events.items state.going c.stands.ensures.goes_on.may c.self.invariant.run)

pub returns-clause-thorough : goal.returns-clause-thorough
returns-clause-thorough c =
    let state = c.self.inside.state in
    rw (← c.self.view_is) (thorough state.going.setup state.events.items state.going c.stands.ensures.goes_on.may c.self.invariant.run)

pub returns-clause-spots : goal.returns-clause-spots
returns-clause-spots c = rw (← c.self.view_is) c.stands.ensures.goes_on.kept.ranges.devices.spots

pub returns-clause-scripts : goal.returns-clause-scripts
returns-clause-scripts c = rw (← c.self.view_is) c.stands.ensures.goes_on.may.few_scripts

pub returns-clause-may : goal.returns-clause-may
returns-clause-may c = rw (← c.self.view_is) c.stands.ensures.goes_on.may
