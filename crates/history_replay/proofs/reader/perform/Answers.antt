use Rattle.std.proofs.Common.{List, refl, sym, ap, subst}
use Rattle.run_rules.specs.declared.world.Dev.{Dev}
use Rattle.run_rules.specs.World.{World}
use Rattle.plain_world.specs.Plain.{world_of}
use Rattle.plain_world.proofs.Ready.{few_devices, has_caller}
use Rattle.plain_effect.proofs.Places.{has_place}
use Rattle.plain_effect.proofs.CallerLaws.{ok_more}
use Rattle.plain_search.specs.Open.{Follows}
use Rattle.history_replay.specs.Readers.{setup_in}
use Rattle.plain_world.proofs.Going.{few_called}
use Rattle.history_replay.proofs.Goes.{goes_on}
use Rattle.history_replay.proofs.reader.perform.Goals as goal

pub heed-requires-clause-few : goal.heed-requires-clause-few
heed-requires-clause-few c = few_devices (setup_in c.args.reader.now) c.args.plain.now c.stands.ensures c.requires.going.kept

pub apply-requires : goal.apply-requires
apply-requires c =
    let s = setup_in c.args.reader.now in
    record {
      caller = has_caller s c.args.plain.now c.args.caller c.args.deed.now c.stands.ensures c.requires.going.kept c.requires.due.chosen;
      next = c.requires.next;
      place = has_place (world_of s c.args.plain.now) c.args.caller c.args.deed.now (few_called c.args.plain.now) c.requires.due.chosen;
    }

pub returns-clause-goes : goal.returns-clause-goes
returns-clause-goes c =
    ok_more c.apply.result c.apply.ensures
    (goes_on (setup_in c.args.reader.now) c.args.plain.now c.args.caller c.args.deed.now c.apply.new.plain c.stands.ensures c.requires.going c.requires.due)

pub returns-clause-follows : goal.returns-clause-follows
returns-clause-follows c =
    ok_more c.apply.result c.apply.ensures (λ e.
    subst (λ (ds : List Dev). Follows c.heed.new.self ds) (sym (ap (λ (w : World). w.live) e))
    (c.heed.ensures.follows (world_of (setup_in c.args.reader.now) c.args.plain.now) c.args.caller refl))
