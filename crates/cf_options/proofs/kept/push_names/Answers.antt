use Rattle.cf_options.specs.Last.{is_dropped}
use Rattle.std.proofs.Common.{ℕ, List, not}
use Rattle.cf_options.proofs.KeptLemmas.{filter_step}
use Rattle.cf_options.proofs.kept.push_names.Goals as goal

pub loop-name-preserved : goal.loop-name-preserved
loop-name-preserved c =
    filter_step (λ (x : List ℕ). not (is_dropped c.args.last.now c.args.place x)) c.args.names.now c.loop-name.name-index c.name-item.result c.args.kept.now
    c.loop-name.kept c.push_name.new.kept c.loop-name-test.true c.name-item.is c.loop-name.invariant c.in_ok-push_name.ensures
