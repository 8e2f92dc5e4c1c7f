use Rattle.std.proofs.Common.{ℕ, ◌<◌, ◌∙◌, inl, inr, subst, sym}
use Rattle.dev_board.specs.Shown.{Shown}
use Rattle.progress_laws.specs.Still.{IsStuck}
use Rattle.drv_workers.proofs.Wholes.{stands_still, whole_run}
use Rattle.drv_workers.proofs.run.over_only.Goals as goal

pub returns-then-ended-scripts-clause-over : goal.returns-then-ended-scripts-clause-over
returns-then-ended-scripts-clause-over c =
    inl (whole_run c.args.left.board c.args.left.ended c.requires.may (subst (λ (n : ℕ). 0 < n) c.requires.scripts.0 c.requires.scripts.1) c.requires.run
    (sym c.ended-ended.ensures ∙ (c.if-ended-scripts.true ∙ c.requires.scripts.0)) c.requires.ends)

pub returns-in-Ok-Stuck-clause-over : goal.returns-in-Ok-Stuck-clause-over
returns-in-Ok-Stuck-clause-over c =
    inr (stands_still c.args.left.board c.args.left.ended c.requires.may c.requires.run (λ all. c.if-ended-scripts.false (c.ended-ended.ensures ∙ (all ∙ sym c.requires.scripts.0)))
    (subst (λ (b : Shown). IsStuck b.world) c.board.ensures (rw c.in-Ok-Stuck.field-0-is at c.in-Ok-Stuck.ensures)))
