use Rattle.std.proofs.Common.{◌∙◌, ap, sym}
use Rattle.run_rules.specs.After.{after}
use Rattle.plain_world.specs.Plain.{world_of}
use Rattle.plain_effect.proofs.CallerLaws.{ok_more}
use Rattle.plain_effect.proofs.QuietLaws.{quiet_is_left}
use Rattle.plain_effect.proofs.effect.apply.Goals as goal

pub do_quietly-requires-clause-quiet : goal.do_quietly-requires-clause-quiet
do_quietly-requires-clause-quiet c =
    let d = c.in_default in
    quiet_is_left c.args.deed.now d.not-Search d.not-EndScan d.not-BeginInterrupts d.not-Finalise d.not-Open d.not-Detach d.not-Rescan d.not-Unplug

pub returns-in-Search : goal.returns-in-Search
returns-in-Search c =
    ok_more c.search.result (c.search.ensures c.in-Search.parent c.in-Search.spot) (λ e.
    e ∙ ap (after (world_of c.args.rules.now c.args.plain.now) c.args.caller) (sym c.in-Search.is))

pub returns-in-Finalise : goal.returns-in-Finalise
returns-in-Finalise c =
    ok_more c.finalise.result (c.finalise.ensures c.in-Finalise.of) (λ e.
    e ∙ ap (after (world_of c.args.rules.now c.args.plain.now) c.args.caller) (sym c.in-Finalise.is))
