use Rattle.std.proofs.Common.{◌∙◌, ap, sym}
use Rattle.std.specs.Prelude.{find}
use Rattle.plain_search.specs.Open.{open_by}
use Rattle.plain_search.proofs.OpenLaws.{none_wins, open_wins}
use Rattle.plain_search.proofs.matches.winner.Goals as goal

pub returns-then-offers : goal.returns-then-offers
returns-then-offers c = λ live follows.
    let k = c.args.seeker.now in
    open_wins k.rules.now live k.taken c.args.parent c.args.place c.args.spot k.suited k.listed follows c.requires.at (sym c.requires.offers ∙ c.if-offers.true)
    ∙ ap (find (open_by k.rules.now k.taken c.args.parent)) (sym c.rows.ensures) ∙ sym c.first_open.ensures

pub returns-else-offers : goal.returns-else-offers
returns-else-offers c = λ live follows.
    none_wins c.args.seeker.now.rules.now live c.args.parent c.args.place c.args.spot (sym c.requires.offers ∙ c.if-offers.false)
