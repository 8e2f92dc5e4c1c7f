use Rattle.std.specs.Str.{str_to_ascii_lowercase}
use Rattle.file_select.proofs.TextLemmas.{inserted_one}
use Rattle.file_select.proofs.names.insert_file_systems.Goals as goal

pub loop-name-preserved : goal.loop-name-preserved
loop-name-preserved c = record {
  names = inserted_one str_to_ascii_lowercase c.args.file_systems.now c.loop-name.name-index c.name-item.result c.args.names.now c.loop-name.names c.insert_lower.new.names c.loop-name-test.true c.name-item.is c.loop-name.invariant.names c.in_ok-insert_lower.ensures.names;
  short = λ h. c.in_ok-insert_lower.ensures.short (c.loop-name.invariant.short h);
}
