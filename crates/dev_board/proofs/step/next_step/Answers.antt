use Rattle.std.proofs.Common.{◌∙◌, refl, sym}
use Rattle.dev_board.proofs.step.next_step.Goals as goal

pub has_ended-requires : goal.has_ended-requires
has_ended-requires g c = c.requires.may.caller

pub returns-then-has_ended-clause-stepped : goal.returns-then-has_ended-clause-stepped
returns-then-has_ended-clause-stepped g c = record {
  step = (c.requires.may.goes_on, sym (c.has_ended.ensures) ∙ c.if-has_ended.true, refl);
  kept = c.requires.may.kept;
  agree = c.requires.may.agree;
  falls = λ did. absurd did;
}

pub returns-then-has_ended-clause-denials : goal.returns-then-has_ended-clause-denials
returns-then-has_ended-clause-denials g c = (refl, refl)

pub framed_step-requires : goal.framed_step-requires
framed_step-requires g c = record {
  may = c.requires.may;
  lasts = sym (c.has_ended.ensures) ∙ c.if-has_ended.false;
  goes = c.goes_by_frames.ensures c.if-goes_by_frames.true;
}

pub powered_step-requires : goal.powered_step-requires
powered_step-requires g c = record {
  may = c.requires.may;
  lasts = sym (c.has_ended.ensures) ∙ c.if-has_ended.false;
}

pub returns-then-goes_by_frames-clause-stepped : goal.returns-then-goes_by_frames-clause-stepped
returns-then-goes_by_frames-clause-stepped g c = c.framed_step.ensures.stepped

pub returns-then-goes_by_frames-clause-denials : goal.returns-then-goes_by_frames-clause-denials
returns-then-goes_by_frames-clause-denials g c = c.framed_step.ensures.denials

pub returns-else-goes_by_frames-clause-stepped : goal.returns-else-goes_by_frames-clause-stepped
returns-else-goes_by_frames-clause-stepped g c = c.powered_step.ensures.stepped

pub returns-else-goes_by_frames-clause-denials : goal.returns-else-goes_by_frames-clause-denials
returns-else-goes_by_frames-clause-denials g c = c.powered_step.ensures.denials

pub goes_by_frames-requires : goal.goes_by_frames-requires
goes_by_frames-requires g c = c.requires.may.caller
