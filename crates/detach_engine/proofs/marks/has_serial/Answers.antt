use Rattle.std.proofs.Common.{◌∙◌}
use Rattle.detach_engine.proofs.SortedLaws.{search_tells}
use Rattle.detach_engine.proofs.marks.has_serial.Goals as goal

pub returns : goal.returns
returns c = c.is_ok.ensures.value ∙ search_tells c.args.serials.now c.args.serial c.binary_search.result c.requires c.binary_search.ensures.position
