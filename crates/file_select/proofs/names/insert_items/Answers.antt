use Rattle.std.specs.Str.{str_to_ascii_lowercase}
use Rattle.file_select.proofs.TextLemmas.{inserted_mapped}
use Rattle.file_select.proofs.names.insert_items.Goals as goal

pub loop-item-preserved : goal.loop-item-preserved
loop-item-preserved c = record {
  names = inserted_mapped str_to_ascii_lowercase (λ i. i.name) c.args.items.now c.loop-item.item-index c.item-item.result c.args.names.now c.loop-item.names c.insert_lower.new.names c.loop-item-test.true c.item-item.is c.loop-item.invariant.names c.in_ok-insert_lower.ensures.names;
  short = λ h. c.in_ok-insert_lower.ensures.short (c.loop-item.invariant.short h);
}
