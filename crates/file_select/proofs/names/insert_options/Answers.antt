use Rattle.std.proofs.Common.{arith}
use Rattle.std.specs.Str.{str_to_ascii_lowercase}
use Rattle.file_select.proofs.TextLemmas.{inserted_part, part_within}
use Rattle.file_select.proofs.names.insert_options.Goals as goal

pub loop-place-preserved : goal.loop-place-preserved
loop-place-preserved c = record {
  within = part_within c.args.options.now c.loop-place.place c.from-items.result.now c.loop-place.invariant.within c.from-items.ensures.items;
  names = inserted_part str_to_ascii_lowercase (λ i. i.name) c.args.options.now c.loop-place.place c.from-items.result.now c.args.names.now c.loop-place.names c.insert_items.new.names c.from-items.ensures.items c.loop-place.invariant.names c.in_ok-insert_items.ensures.names;
  short = λ h. c.in_ok-insert_items.ensures.short (c.loop-place.invariant.short h);
}
