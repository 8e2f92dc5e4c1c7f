use Rattle.std.proofs.Common.{◌++◌, ◌∙◌, List, ap, filter, not, slice_set}
use Rattle.run_rules.specs.declared.world.Deferred.{Deferred}
use Rattle.run_rules.specs.After.{released, same_key}
use Rattle.run_rules.specs.World.{Caller}
use Rattle.plain_world.specs.Plain.{released_frames, restacked, world_of}
use Rattle.plain_effect.proofs.CallerLaws.{set_is, with_callers}
use Rattle.plain_effect.proofs.after.release.Goals as goal

pub returns : goal.returns
unfolding released
returns c = λ s.
    let p = c.args.plain.now in
    let k = c.args.caller in
    let frames = rw c.list.ensures at c.in_ok-release.ensures in
    ap (λ (ds : List Deferred). record (world_of s p) { callers = slice_set p.callers.items k c.release.new.self; deferred = ds }) c.forget.ensures
    ∙ ap (with_callers (record (world_of s p) { deferred = filter (λ e. not (same_key e.key c.args.which)) p.deferred }))
    (set_is (λ (x : Caller). restacked x (released_frames p.deferred c.args.which ++ x.stack)) p.callers.items k c.index_mut.result.now c.release.new.self
    c.requires.there c.index_mut.ensures.value frames)
