use Rattle.std.proofs.Common.{get_or, refl}
use Rattle.plain_effect.proofs.CallerLaws.{ok_more}
use Rattle.plain_world.proofs.Ready.{few_devices}
use Rattle.every_order.proofs.Going.{callers_few}
use Rattle.every_order.proofs.Noting.{end_noted, goes_noted, here_at, kept_at, stuck_noted}
use Rattle.every_order.proofs.ways.note.Goals as goal

pub recount-requires : goal.recount-requires
recount-requires c =
    few_devices c.args.seeker.now.rules.now (get_or c.args.met.now c.args.place c.index-met-place.result).plain c.stands.ensures (kept_at c.args.seeker.now.rules.now _ c.args.met.now c.args.place c.index-met-place.result refl c.requires.met c.requires.place)

pub goers_in-requires : goal.goers_in-requires
goers_in-requires c = record {
  kept = kept_at c.args.seeker.now.rules.now _ c.args.met.now c.args.place c.index-met-place.result c.in_ok-recount.ensures.rules c.requires.met c.requires.place;
  follows = c.in_ok-recount.ensures.follows;
  few = callers_few c.args.seeker.now.rules.now (get_or c.args.met.now c.args.place c.index-met-place.result).plain c.stands.ensures (kept_at c.args.seeker.now.rules.now _ c.args.met.now c.args.place c.index-met-place.result refl c.requires.met c.requires.place);
}

pub kind_of-requires : goal.kind_of-requires
kind_of-requires c = record {
  few = callers_few c.args.seeker.now.rules.now (get_or c.args.met.now c.args.place c.index-met-place.result).plain c.stands.ensures (kept_at c.args.seeker.now.rules.now _ c.args.met.now c.args.place c.index-met-place.result refl c.requires.met c.requires.place);
}

pub tree_of-requires : goal.tree_of-requires
tree_of-requires c = record {
  kept = kept_at c.args.seeker.now.rules.now _ c.args.met.now c.args.place c.index-met-place.result c.in_ok-recount.ensures.rules c.requires.met c.requires.place;
}

pub waits_of-requires : goal.waits_of-requires
waits_of-requires c = record {
  kept = kept_at c.args.seeker.now.rules.now _ c.args.met.now c.args.place c.index-met-place.result c.in_ok-recount.ensures.rules c.requires.met c.requires.place;
  follows = c.in_ok-recount.ensures.follows;
}

pub returns-in_ok-text-in-End-clause-noted : goal.returns-in_ok-text-in-End-clause-noted
returns-in_ok-text-in-End-clause-noted c =
    ok_more c.add_text.result c.add_text.ensures
    (end_noted c.args.seeker.now.rules.now _ c.args.met.now c.args.place _ c.in_ok-goers.goers _ c.in_ok-text-in-End.text.items c.args.noted.now _
    (record { same = c.in_ok-recount.ensures.rules; counted = c.in_ok-goers.ensures.counted; known = c.kind_of.ensures }) c.in-End.is
    (here_at c.args.met.now c.args.place c.index-met-place.result c.requires.place) c.in_ok-text-in-End.ensures refl refl)

pub returns-in_ok-text-in-Stuck-clause-noted : goal.returns-in_ok-text-in-Stuck-clause-noted
returns-in_ok-text-in-Stuck-clause-noted c =
    ok_more c.add_text-in-Stuck.result c.add_text-in-Stuck.ensures
    (stuck_noted c.args.seeker.now.rules.now _ c.args.met.now c.args.place _ c.in_ok-goers.goers _ c.in_ok-text-in-Stuck.text.items c.args.noted.now _
    (record { same = c.in_ok-recount.ensures.rules; counted = c.in_ok-goers.ensures.counted; known = c.kind_of.ensures }) c.in-Stuck.is
    (here_at c.args.met.now c.args.place c.index-met-place.result c.requires.place) c.in_ok-text-in-Stuck.ensures refl refl)

pub returns-in-GoesOn-clause-noted : goal.returns-in-GoesOn-clause-noted
returns-in-GoesOn-clause-noted c =
    goes_noted c.args.seeker.now.rules.now _ c.args.met.now c.args.place _ c.in_ok-goers.goers _ c.args.noted.now _
    (record { same = c.in_ok-recount.ensures.rules; counted = c.in_ok-goers.ensures.counted; known = c.kind_of.ensures }) c.in-GoesOn.is
    (here_at c.args.met.now c.args.place c.index-met-place.result c.requires.place) refl refl refl
