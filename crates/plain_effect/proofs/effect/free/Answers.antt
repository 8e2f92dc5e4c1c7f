use Rattle.std.proofs.Common.{◌≡◌, ◌∙◌, ap, sym, Bool, true, false, List}
use Rattle.std.specs.Prelude.{if◌then◌else◌}
use Rattle.run_rules.specs.declared.world.Activity.{Activity}
use Rattle.run_rules.specs.World.{Caller}
use Rattle.run_rules.specs.After.{after, freed, freeing_target, over}
use Rattle.plain_world.specs.LiveDevices.{LiveDevices}
use Rattle.plain_world.specs.Plain.{state_at, world_of}
use Rattle.plain_effect.proofs.effect.free.Goals as goal

pub returns-then-is_over : goal.returns-then-is_over
unfolding after
returns-then-is_over c = λ s.
    let p = c.args.plain.now in
    let k = c.args.caller in
    let test : freeing_target (state_at p.callers.items k).doing c.args.of ≡ true =
    sym (c.is_target-is_over.ensures ∙ ap (λ (a : Activity). freeing_target a c.args.of) (c.doing_of.ensures ∙ ap (λ (cs : List Caller). (state_at cs k).doing) c.deref.ensures.value)) ∙ c.if-is_over.true in
    c.finish.ensures s ∙ ap (λ (t : LiveDevices). over (record (world_of s p) { live = t.devices; next = t.next }) k) c.remove.ensures
    ∙ ap (λ (b : Bool). if b then over (freed (world_of s p) c.args.of) k else freed (world_of s p) c.args.of) (sym test)

pub returns-else-is_over : goal.returns-else-is_over
unfolding after
returns-else-is_over c = λ s.
    let p = c.args.plain.now in
    let k = c.args.caller in
    let test : freeing_target (state_at p.callers.items k).doing c.args.of ≡ false =
    sym (c.is_target-is_over.ensures ∙ ap (λ (a : Activity). freeing_target a c.args.of) (c.doing_of.ensures ∙ ap (λ (cs : List Caller). (state_at cs k).doing) c.deref.ensures.value)) ∙ c.if-is_over.false in
    ap (λ (t : LiveDevices). record (world_of s p) { live = t.devices; next = t.next }) c.remove.ensures
    ∙ ap (λ (b : Bool). if b then over (freed (world_of s p) c.args.of) k else freed (world_of s p) c.args.of) (sym test)
