use Rattle.std.proofs.Common.{get_or, None, ◌∷◌, [], ap, ◌∙◌, length, length-append, arith, refl}
use Rattle.cf_rows.proofs.RowLemmas.{none_more}
use Rattle.cf_rows.proofs.device.no_groups.Goals as goal

pub loop-device-preserved : goal.loop-device-preserved
loop-device-preserved c = record {
  size = omega (arith, ap length c.in_ok-push.ensures.items, length-append c.loop-device.groups.items (None ∷ []));
  empty = λ d. ap (λ xs. get_or xs d None) c.in_ok-push.ensures.items ∙ none_more c.loop-device.groups.items d c.loop-device.invariant.empty;
}
