use Rattle.std.proofs.Common.{rules, take}
use Rattle.cf_io.proofs.GrowsLemmas.{grows_untold}
use Rattle.cf_io.proofs.host.HostSinkSink.put.Goals as goal

pub returns-then-taken-piece-clause-taken : goal.returns-then-taken-piece-clause-taken
returns-then-taken-piece-clause-taken g c =
    (c.write_piece-taken.ensures.few, grows_untold (take c.write_piece-taken.result c.args.piece.now) _ _, search rules)

pub returns-clause-taken : goal.returns-clause-taken
returns-clause-taken g c = (grows_untold c.args.piece.now _ _, search rules)
