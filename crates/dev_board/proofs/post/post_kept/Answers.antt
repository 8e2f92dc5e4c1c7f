use Rattle.std.proofs.Common.{◌≡◌, ◌∙◌, ap, arith, length, refl}
use Rattle.run_rules.specs.World.{World}
use Rattle.run_rules.specs.declared.deed.Deed.TheVariants.{Done}
use Rattle.run_sound.proofs.Holding.{refs_same}
use Rattle.deed_effect.specs.Agreement.{slots_of}
use Rattle.dev_board.proofs.Kept.{kept_step, does_next, no_lease}
use Rattle.dev_board.proofs.NextLaws.{kept_next}
use Rattle.deed_effect.proofs.DeedSlots.{slots_done}
use Rattle.dev_board.proofs.post.post_kept.Goals as goal

pub end_transfer-requires : goal.end_transfer-requires
end_transfer-requires c =
    kept_next c.args.state.now.going c.args.ticket.caller c.args.ticket c.stands.ensures.goes_on.kept c.requires.held

pub returns-in-Ok-clause-post : goal.returns-in-Ok-clause-post
returns-in-Ok-clause-post c =
    let w : World = c.args.state.now.going in
    let t = c.args.ticket in
    let k = t.caller in
    let chosen = kept_next w k t c.stands.ensures.goes_on.kept c.requires.held in
    let did = c.in-Ok.ensures.ok in
    let place : c.len-place.result ≡ length c.args.state.now.events.items = omega (arith, c.len-place.ensures, c.args.state.now.events.ok) in
    let steps = no_lease w c.end_transfer.new.state.going k (ap (λ (v : World). v.refs) did.world ∙ refs_same w k (Done t) refl refl) in (
      c.requires.goes_on,
      c.requires.held,
      chosen,
      does_next c.args.state.now c.end_transfer.new.state k (Done t) c.len-place.result _ c.in-Ok.told chosen did place steps c.in-Ok.ensures.told,
    )

pub returns-in-Ok-clause-kept : goal.returns-in-Ok-clause-kept
returns-in-Ok-clause-kept c =
    let w : World = c.args.state.now.going in
    let t = c.args.ticket in
    kept_step c.args.state.now c.end_transfer.new.state t.caller (Done t) c.requires.kept (kept_next w t.caller t c.stands.ensures.goes_on.kept c.requires.held) c.in-Ok.ensures.ok

pub returns-in-Ok-clause-slots : goal.returns-in-Ok-clause-slots
returns-in-Ok-clause-slots c =
    let w : World = c.args.state.now.going in
    ap slots_of c.in-Ok.ensures.ok.world ∙ slots_done w c.args.ticket.caller c.args.ticket
