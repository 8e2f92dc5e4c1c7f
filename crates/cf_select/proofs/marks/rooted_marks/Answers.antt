use Rattle.std.proofs.Common.{map}
use Rattle.config_rules.specs.Select.{carries_at}
use Rattle.config_rules.specs.Meaning.{inst_of}
use Rattle.cf_select.specs.Carried.{offered_in}
use Rattle.cf_select.proofs.RootedLemmas.{marked_roots, roots_marked, wanted_within}
use Rattle.cf_select.proofs.marks.rooted_marks.Goals as goal

pub spread-requires-clause-within : goal.spread-requires-clause-within
spread-requires-clause-within c = λ q x waiting.
    let marks = c.mark_roots.new.marks.items in
    let start = marked_roots (carries_at (offered_in c.args.graph.now) (map inst_of c.args.instances.now)) c.args.instances.now marks c.in_ok-mark_roots.ensures.marks in
    wanted_within c.args.instances.now marks q x _ start.as_many (c.in_ok-waiting.ensures q x) waiting

pub spread-requires-clause-sound : goal.spread-requires-clause-sound
spread-requires-clause-sound c =
    marked_roots (carries_at (offered_in c.args.graph.now) (map inst_of c.args.instances.now)) c.args.instances.now c.mark_roots.new.marks.items c.in_ok-mark_roots.ensures.marks

pub spread-requires-clause-roots : goal.spread-requires-clause-roots
spread-requires-clause-roots c = λ i h root. roots_marked c.args.instances.now c.mark_roots.new.marks.items i c.in_ok-mark_roots.ensures.marks root
