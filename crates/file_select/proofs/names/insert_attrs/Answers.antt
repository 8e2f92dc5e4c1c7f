use Rattle.file_select.proofs.RowLemmas.{inserted_marked}
use Rattle.file_select.proofs.names.insert_attrs.Goals as goal

pub loop-place-preserved : goal.loop-place-preserved
loop-place-preserved c = record {
  names = inserted_marked c.args.attrs.now c.args.marks.now c.loop-place.place c.index-attrs-place.result c.args.names.now c.loop-place.names c.insert_wanted.new.names c.loop-place-test.true c.index-attrs-place.is c.loop-place.invariant.names c.in_ok-insert_wanted.ensures.names;
  short = λ h. c.in_ok-insert_wanted.ensures.short (c.loop-place.invariant.short h);
}
