use Rattle.std.proofs.Common.{◌∙◌, sym}
use Rattle.run_sound.proofs.Inputs.{low_units}
use Rattle.plain_search.proofs.UnitLaws.{first_unit, own_unit}
use Rattle.plain_search.proofs.matches.unit_of.Goals.{else-found-via-then-found+else-has, else-found-via-else-found}
use Rattle.plain_search.proofs.matches.unit_of.Goals as goal

pub free_from-requires-clause-first : goal.free_from-requires-clause-first
free_from-requires-clause-first c = low_units c.args.seeker.now.rules.now.tables c.args.row c.in-Some.found.now c.stands.ensures.tables c.in-Some.ensures

pub returns-else-found : goal.returns-else-found
returns-else-found c =
    let k = c.args.seeker.now in
    let live = c.args.live.now.devices in
    elim c.else-found.branch [
      | else-found-via-then-found+else-has w ↦ sym (first_unit k.rules.now live k.taken c.args.row c.in-Some.found.now c.requires.follows c.in-Some.ensures (sym w.has.ensures ∙ w.if-has.false))
      | else-found-via-else-found w ↦ sym (own_unit k.rules.now live c.args.row c.in-Some.found.now c.in-Some.ensures w.if-found.false)
    ]
