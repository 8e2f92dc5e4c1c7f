use Rattle.dev_board.proofs.step.framed_step.Goals as goal

pub next_on_scan-requires : goal.next_on_scan-requires
next_on_scan-requires g c = record { caller = c.requires.may.caller; goes = c.requires.goes }

pub step_by-requires : goal.step_by-requires
step_by-requires g c = record {
  may = c.requires.may;
  chosen = rw c.in-Some-Search.field-0-is at c.in-Some-Search.ensures;
  other = λ ticket is. absurd cc;
}

pub chosen_step-stepped-requires : goal.chosen_step-stepped-requires
chosen_step-stepped-requires g c = record {
  may = c.requires.may;
  lasts = c.requires.lasts;
}

pub returns-in-Some-Search-clause-stepped : goal.returns-in-Some-Search-clause-stepped
returns-in-Some-Search-clause-stepped g c = c.step_by.ensures.stepped

pub returns-in-Some-Search-clause-denials : goal.returns-in-Some-Search-clause-denials
returns-in-Some-Search-clause-denials g c = c.step_by.ensures.denials

pub returns-in_default-clause-stepped : goal.returns-in_default-clause-stepped
returns-in_default-clause-stepped g c = c.chosen_step-stepped.ensures.stepped

pub returns-in_default-clause-denials : goal.returns-in_default-clause-denials
returns-in_default-clause-denials g c = c.chosen_step-stepped.ensures.denials
