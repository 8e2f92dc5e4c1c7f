use Rattle.std.proofs.Common.{refl}
use Rattle.app_words.specs.Status.{status_of}
use Rattle.app_input.proofs.AskedLaws.{all_asked}
use Rattle.app_input.proofs.ScriptedLaws.{course_of_file, course_read, course_task}
use Rattle.app_input.proofs.scripts.load_course.Goals as goal

pub returns-in-Ok-clause-reads : goal.returns-in-Ok-clause-reads
returns-in-Ok-clause-reads g c =
    course_read (g.F.Files.told c.args.files.now) c.args.task c.args.callers c.args.name.now c.in-Ok.text c.in-Ok.text c.judge_course.result c.in-Ok.ensures.reads refl c.judge_course.ensures.says

pub returns-in-Ok-clause-of : goal.returns-in-Ok-clause-of
returns-in-Ok-clause-of g c = course_of_file c.args.task c.args.callers c.in-Ok.text c.args.name.now c.judge_course.result c.judge_course.ensures.says

pub returns-in-Ok-clause-task : goal.returns-in-Ok-clause-task
returns-in-Ok-clause-task g c = course_task c.args.task c.args.callers c.in-Ok.text c.judge_course.result c.judge_course.ensures.says

pub returns-in-Ok-clause-asked : goal.returns-in-Ok-clause-asked
returns-in-Ok-clause-asked g c = all_asked _ (status_of c.judge_course.result) _ _ c.in-Ok.ensures.asked
