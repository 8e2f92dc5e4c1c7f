use Rattle.std.proofs.Common.{◌≡◌, ◌+◌, rules}
use Rattle.cf_names.specs.declared.spots.Spots.{Spots}
use Rattle.cf_names.proofs.SpotLemmas.{spots_push}
use Rattle.cf_names.proofs.spots.add_spot.Goals as goal

pub returns : goal.returns
returns c =
    let new : Spots = record { first = c.note.new.first; count = c.in-Some.next } in
    let more : new.count ≡ c.args.spots.now.count + 1 = search rules in
    spots_push c.args.spots.now new (record { key = c.args.key; attach = c.args.attach }) more c.in_ok-note.ensures
