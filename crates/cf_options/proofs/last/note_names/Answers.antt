use Rattle.std.proofs.Common.{Some}
use Rattle.cf_options.specs.Last.{place_of}
use Rattle.cf_options.proofs.LastLemmas.{names_more}
use Rattle.cf_options.proofs.last.note_names.Goals as goal

pub loop-name-preserved : goal.loop-name-preserved
loop-name-preserved c =
    λ q. names_more c.args.names.now c.loop-name.name-index c.name-item.result q (Some c.args.place) (place_of c.args.last.now q) (place_of c.loop-name.last q) _
    c.loop-name-test.true c.name-item.is (c.loop-name.invariant q) (c.in_ok-note.ensures q)
