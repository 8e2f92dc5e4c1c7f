use Rattle.std.proofs.Common.{refl, sym, subst}
use Rattle.run_rules.specs.Lines.{IsFormed}
use Rattle.run_rules.specs.Run.{event_of}
use Rattle.run_sound.proofs.Callers.{doing_there}
use Rattle.run_sound.proofs.Told.{may_be_told}
use Rattle.deed_event.proofs.FormedEvents.{deed_formed, row_there}
use Rattle.deed_event.proofs.event.deed_event.Goals as goal

pub number_of-number-requires : goal.number_of-number-requires
number_of-number-requires c = doing_there c.args.going.now c.args.caller _ c.requires

pub deed_act-requires-clause-caller : goal.deed_act-requires-clause-caller
deed_act-requires-clause-caller c = doing_there c.args.going.now c.args.caller _ c.requires

pub deed_act-requires-clause-may : goal.deed_act-requires-clause-may
deed_act-requires-clause-may c =
    let goes = c.stands.ensures.goes_on in
    may_be_told c.args.going.now c.args.caller c.args.deed.now goes.kept goes.calls c.requires

pub deed_act-requires-clause-row : goal.deed_act-requires-clause-row
deed_act-requires-clause-row c =
    let goes = c.stands.ensures.goes_on in
    row_there c.args.going.now c.args.caller c.args.deed.now goes.may goes.kept c.requires

pub returns-clause-event : goal.returns-clause-event
unfolding event_of
returns-clause-event c = rw (c.in_ok-act.ensures.act, ← c.number_of-number.ensures) refl

pub returns-clause-formed : goal.returns-clause-formed
returns-clause-formed c =
    let goes = c.stands.ensures.goes_on in
    subst IsFormed (sym (returns-clause-event c)) (deed_formed c.args.going.now c.args.caller c.args.deed.now goes.may goes.scripts goes.kept goes.calls c.requires)
