use Rattle.std.proofs.Common.{◌∙◌, ℕ, ap, arith}
use Rattle.cf_types.specs.declared.machine.Policy.{Policy}
use Rattle.run_rules.specs.World.{World, offered_by, policy_of}
use Rattle.run_rules.specs.After.{attached, finaliser_placed, listed, scan_placed}
use Rattle.plain_world.specs.Plain.{world_of}
use Rattle.plain_effect.proofs.CallerLaws.{has_too, ok_more}
use Rattle.plain_effect.proofs.after.attach.Goals as goal

pub place_finaliser-requires : goal.place_finaliser-requires
place_finaliser-requires c = has_too _ _ _ 501 _ c.in_ok-list.ensures.callers (omega arith) c.requires.caller

pub returns-clause-world : goal.returns-clause-world
unfolding attached
returns-clause-world c =
    let s = c.args.rules.now in
    let k = c.args.by.caller in
    let a = c.args.arrival in
    let w : World = world_of s c.args.plain.now in
    let serial = c.next-serial.result in
    ok_more c.place_scan.result (c.place_scan.ensures.world s) (λ e.
    e
    ∙ ap (λ (v : World). scan_placed (policy_of s a.row) (offered_by s a.row) v k a.parent serial c.args.by.may_defer)
    (c.in_ok-place_finaliser.ensures.world s ∙ ap (λ (v : World). finaliser_placed c.policy_of.result v k serial) (c.in_ok-list.ensures.world s)
    ∙ ap (λ (p : Policy). finaliser_placed p (listed w a) k serial) c.policy_of.ensures)
    ∙ ap (λ (n : ℕ). scan_placed (policy_of s a.row) (offered_by s a.row) (finaliser_placed (policy_of s a.row) (listed w a) k n) k a.parent n c.args.by.may_defer) c.next-serial.ensures)
