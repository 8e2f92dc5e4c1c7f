use Rattle.std.proofs.Common.{map, string_bytes, sym}
use Rattle.std.proofs.lemmas.List.{length-map}
use Rattle.std.specs.Prelude.{Ok, Err}
use Rattle.app_input.proofs.AskedLaws.{course_asked, scripts_stop}
use Rattle.app_input.proofs.scripts.load_scripted.Goals as goal

pub returns-in-Err-clause-asked : goal.returns-in-Err-clause-asked
returns-in-Err-clause-asked g c = scripts_stop c.args.task _ (map string_bytes c.args.names.now) c.args.course.now c.in-Err.status _ _ c.in-Err.ensures.reads c.in-Err.ensures.asked

pub returns-in-Ok-load_course-clause-asked : goal.returns-in-Ok-load_course-clause-asked
returns-in-Ok-load_course-clause-asked g c =
    course_asked c.args.task _ _ (map string_bytes c.args.names.now) _ c.args.course.now c.in-Ok.scripts (Ok c.in-Ok-load_course.course) _ _ _ c.load_scripts.ensures.told
    (sym (length-map c.args.names.now string_bytes)) c.in-Ok.ensures.reads c.in-Ok.ensures.asked c.in-Ok-load_course.ensures.reads c.in-Ok-load_course.ensures.asked

pub returns-in-Err-load_course-clause-asked : goal.returns-in-Err-load_course-clause-asked
returns-in-Err-load_course-clause-asked g c =
    course_asked c.args.task _ _ (map string_bytes c.args.names.now) _ c.args.course.now c.in-Ok.scripts (Err c.in-Err-load_course.status) _ _ _ c.load_scripts.ensures.told
    (sym (length-map c.args.names.now string_bytes)) c.in-Ok.ensures.reads c.in-Ok.ensures.asked c.in-Err-load_course.ensures.reads c.in-Err-load_course.ensures.asked
