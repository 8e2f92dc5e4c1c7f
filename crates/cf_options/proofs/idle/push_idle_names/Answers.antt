use Rattle.cf_options.specs.ItemFlags.{stands_in}
use Rattle.cf_options.proofs.IdleLemmas.{idle_step}
use Rattle.cf_options.proofs.idle.push_idle_names.Goals as goal

pub loop-name-preserved : goal.loop-name-preserved
loop-name-preserved c =
    idle_step (stands_in c.args.flags.now c.args.kind) c.args.names.now c.args.place c.loop-name.name-index c.name-item.result c.args.idle.now c.loop-name.idle c.push_idle_name.new.idle
    c.loop-name-test.true c.name-item.is c.loop-name.invariant c.in_ok-push_idle_name.ensures
