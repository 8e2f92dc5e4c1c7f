use Rattle.app_words.specs.declared.status.Status.TheVariants.{ReadFault}
use Rattle.app_input.proofs.AskedLaws.{all_asked, nothing_asked}
use Rattle.app_input.proofs.file.load_file.Goals as goal

pub returns-in-Absent-clause-asked : goal.returns-in-Absent-clause-asked
returns-in-Absent-clause-asked g c = all_asked _ c.absent.result _ _ c.in-Absent.ensures.asked

pub returns-in-TooLong-clause-asked : goal.returns-in-TooLong-clause-asked
returns-in-TooLong-clause-asked g c = all_asked _ c.too_long.result _ _ c.in-TooLong.ensures.asked

pub returns-in-Failed-clause-asked : goal.returns-in-Failed-clause-asked
returns-in-Failed-clause-asked g c = all_asked _ ReadFault _ _ c.in-Failed.ensures.asked

pub returns-in-Memory-clause-asked : goal.returns-in-Memory-clause-asked
returns-in-Memory-clause-asked g c = nothing_asked _ _ _ c.in-Memory.ensures.asked
