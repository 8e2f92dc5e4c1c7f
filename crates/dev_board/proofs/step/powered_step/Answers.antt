use Rattle.dev_board.proofs.step.powered_step.Goals as goal

pub next_in_power-requires : goal.next_in_power-requires
next_in_power-requires g c = c.requires.may.caller

pub step_by-requires : goal.step_by-requires
step_by-requires g c = record {
  may = c.requires.may;
  chosen = rw c.in-Some-Sleep.field-0-is at c.in-Some-Sleep.ensures;
  other = λ ticket is. absurd cc;
}

pub step_by-requires-in-Some-Wake : goal.step_by-requires-in-Some-Wake
step_by-requires-in-Some-Wake g c = record {
  may = c.requires.may;
  chosen = rw c.in-Some-Wake.field-0-is at c.in-Some-Wake.ensures;
  other = λ ticket is. absurd cc;
}

pub chosen_step-stepped-requires : goal.chosen_step-stepped-requires
chosen_step-stepped-requires g c = record {
  may = c.requires.may;
  lasts = c.requires.lasts;
}

pub returns-in-Some-Sleep-clause-stepped : goal.returns-in-Some-Sleep-clause-stepped
returns-in-Some-Sleep-clause-stepped g c = c.step_by.ensures.stepped

pub returns-in-Some-Sleep-clause-denials : goal.returns-in-Some-Sleep-clause-denials
returns-in-Some-Sleep-clause-denials g c = c.step_by.ensures.denials

pub returns-in-Some-Wake-clause-stepped : goal.returns-in-Some-Wake-clause-stepped
returns-in-Some-Wake-clause-stepped g c = c.step_by-in-Some-Wake.ensures.stepped

pub returns-in-Some-Wake-clause-denials : goal.returns-in-Some-Wake-clause-denials
returns-in-Some-Wake-clause-denials g c = c.step_by-in-Some-Wake.ensures.denials

pub returns-in_default-clause-stepped : goal.returns-in_default-clause-stepped
returns-in_default-clause-stepped g c = c.chosen_step-stepped.ensures.stepped

pub returns-in_default-clause-denials : goal.returns-in_default-clause-denials
returns-in_default-clause-denials g c = c.chosen_step-stepped.ensures.denials
