use Rattle.std.proofs.Common.{◌≡◌, ◌++◌, ◌∷◌, [], ◌∙◌, sym, ap, length, length-append, arith, map, List}
use Rattle.run_rules.specs.declared.world.Frame.{Frame}
use Rattle.run_rules.specs.World.{scan_of}
use Rattle.defer_queue.specs.Queue.{entry_of, entries_of}
use Rattle.defer_queue.proofs.Queues.{none_counted, entries_taken, others_taken}
use Rattle.run_world.proofs.CallerLaws.{released_on}
use Rattle.run_world.proofs.caller.push_released.Goals as goal

pub returns-clause-deferred : goal.returns-clause-deferred
returns-clause-deferred c =
    let none = none_counted c.loop-child.deferred c.args.which (ap length c.in_default.ensures.0) in
    c.in_default.ensures.1 ∙ sym none.1 ∙ c.loop-child.invariant.others

pub returns-clause-frames : goal.returns-clause-frames
returns-clause-frames c =
    sym (ap (λ es. map (λ e. scan_of e.child) es ++ c.loop-child.stack.frames) c.in_default.ensures.0) ∙ c.loop-child.invariant.frames

pub loop-child-preserved : goal.loop-child-preserved
loop-child-preserved c =
    let old = c.loop-child.deferred in
    let new = c.take_last.new.self in
    let which = c.args.which in
    let child = c.in-Some.child in
    let taken : entries_of old which ≡ entries_of new which ++ entry_of which child ∷ [] = entries_taken old new which child c.in-Some.ensures in
    record {
      room = omega (arith, ap length taken, length-append (entries_of new which) (entry_of which child ∷ []), c.loop-child.invariant.room, c.push.ensures.room);
      others = sym (others_taken old new which child c.in-Some.ensures) ∙ c.loop-child.invariant.others;
      frames = ap (λ (fs : List Frame). map (λ e. scan_of e.child) (entries_of new which) ++ fs) (c.push.ensures.frames ∙ ap (λ (f : Frame). f ∷ c.loop-child.stack.frames) c.new_scan.ensures)
          ∙ released_on old new which child c.loop-child.stack.frames c.in-Some.ensures ∙ c.loop-child.invariant.frames;
    }
