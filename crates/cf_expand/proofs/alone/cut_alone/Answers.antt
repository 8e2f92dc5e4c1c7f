use Rattle.std.proofs.Common.{refl}
use Rattle.cf_expand.proofs.ReaderLemmas.{cutting_is}
use Rattle.cf_expand.proofs.alone.cut_alone.Goals as goal

pub alone-requires-clause-cutting : goal.alone-requires-clause-cutting
alone-requires-clause-cutting c =
    cutting_is c.args.text.now c.args.text.now c.in-Ok.cutting refl c.in-Ok.ensures.cut c.in-Ok.ensures.closed c.in-Ok.ensures.rest
