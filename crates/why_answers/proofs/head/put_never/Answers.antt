use Rattle.std.specs.Prelude.{codes}
use Rattle.plain_world.specs.Plain.{world_of}
use Rattle.why_answers.specs.Answers.{reason_text}
use Rattle.why_answers.proofs.Puts.{both}
use Rattle.why_answers.proofs.head.put_never.Goals as goal

pub returns : goal.returns
returns c =
    both c.put_reason_of.result c.args.out.now.items c.put_bytes.new.out.items c.put_reason_of.new.out.items (codes ": never searched")
    (reason_text (world_of c.args.rules.now c.args.end.now) c.args.spot) c.in_ok-put_bytes.ensures.ok c.put_reason_of.ensures
