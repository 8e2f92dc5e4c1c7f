use Rattle.std.proofs.Common.{◌∙◌, ap, sym}
use Rattle.std.specs.Prelude.{is_none}
use Rattle.cf_types.specs.declared.machine.Spot.{Spot}
use Rattle.machine_model.proofs.SpotLemmas.{here, last, none, past}
use Rattle.machine_model.proofs.NameLemmas.{known_as}
use Rattle.machine_model.proofs.spot.site_of.Goals as goal

pub returns-in-Ok-clause-fault : goal.returns-in-Ok-clause-fault
returns-in-Ok-clause-fault c =
    sym (here _ 2 _ (known_as (λ (x : Spot). x.name) c.args.draft.now.machine.spots c.args.draft.now.names c.args.name.now _ c.requires.draft.spots c.in-Ok.ensures.found))

pub returns-then-is_orphan-clause-fault : goal.returns-then-is_orphan-clause-fault
returns-then-is_orphan-clause-fault c =
    let new = known_as (λ (x : Spot). x.name) c.args.draft.now.machine.spots c.args.draft.now.names c.args.name.now _ c.requires.draft.spots c.in-Err.ensures.missed in
    sym (here _ 3 _ (sym (rw c.spot_above-above.ensures at c.is_orphan.ensures) ∙ c.if-is_orphan.true) ∙ past _ 2 _ new)

pub returns-in-None-clause-fault : goal.returns-in-None-clause-fault
returns-in-None-clause-fault c =
    let new = known_as (λ (x : Spot). x.name) c.args.draft.now.machine.spots c.args.draft.now.names c.args.name.now _ c.requires.draft.spots c.in-Err.ensures.missed in
    sym (last _ 4 (ap is_none (sym c.spot_place.ensures ∙ c.in-None.is)) ∙ past _ 3 _ (sym (rw c.spot_above-above.ensures at c.is_orphan.ensures) ∙ c.if-is_orphan.false) ∙ past _ 2 _ new)

pub returns-in-Some-clause-none : goal.returns-in-Some-clause-none
returns-in-Some-clause-none c =
    let new = known_as (λ (x : Spot). x.name) c.args.draft.now.machine.spots c.args.draft.now.names c.args.name.now _ c.requires.draft.spots c.in-Err.ensures.missed in
    sym (none _ 4 (ap is_none (sym c.spot_place.ensures ∙ c.in-Some.is)) ∙ past _ 3 _ (sym (rw c.spot_above-above.ensures at c.is_orphan.ensures) ∙ c.if-is_orphan.false) ∙ past _ 2 _ new)
