use Rattle.std.proofs.Common.{arith, refl, ◌∙◌, ap, reverse, vec_len, ◌≡◌, true, false}
use Rattle.run_rules.specs.After.{moved_top}
use Rattle.scan_engine.proofs.StackLaws.{none_moved, top_moved}
use Rattle.scan_engine.proofs.stack.Stack.set_position.Goals as goal
use Rattle.scan_engine.proofs.stack.Stack.set_position.Goals.{in-Some, in-None}

pub returns-clause-frames : goal.returns-clause-frames
returns-clause-frames c =
    elim c.match-last_mut.branch [
      | in-Some w ↦
          ap (λ x. reverse x.frames.items) w.self-inside-is
          ∙ top_moved c.args.position c.self.inside.frames.items (vec_len c.self.inside.frames) w.in-Some.frame.now w.move_frame.new.frame c.self.inside.frames.ok.0
          (omega (arith, c.self.inside.frames.ok.0, w.in-Some.ensures.variant.0 refl)) w.in-Some.ensures.value w.move_frame.ensures
          ∙ ap (λ s. moved_top c.args.position s.frames) c.self.view_is
      | in-None w ↦
          ap (λ x. reverse x.frames.items) w.self-inside-is
          ∙ none_moved c.args.position c.self.inside.frames.items (vec_len c.self.inside.frames) c.self.inside.frames.ok.0 (λ some. absurd (differ (w.in-None.ensures.variant.1 some)))
          ∙ ap (λ s. moved_top c.args.position s.frames) c.self.view_is
    ]
  where
    differ : false ≡ true → ⊥
    differ e = cc
