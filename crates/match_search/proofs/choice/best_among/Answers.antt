use Rattle.std.proofs.Common.{◌∙◌, ap, sym, Some}
use Rattle.match_search.proofs.ListedLaws.{listed_is, none_offered, none_open}
use Rattle.match_search.proofs.choice.best_among.Goals as goal

pub returns-then-parent_offers : goal.returns-then-parent_offers
returns-then-parent_offers c = λ index is same.
    ap Some c.from.ensures ∙ sym c.in-Some.is ∙ c.first_open.ensures ∙ same
    ∙ listed_is c.args.among.now.tables.now c.args.among.now.machine.now c.args.among.now.live.now c.args.at.parent c.args.at.place c.args.at.spot index is
    (sym c.hangs_at.ensures ∙ c.if-not-hangs_at.false) (sym c.parent_offers.ensures ∙ c.if-parent_offers.true)

pub returns-else-parent_offers : goal.returns-else-parent_offers
returns-else-parent_offers c = λ index is same.
    none_offered c.args.among.now.tables.now c.args.among.now.machine.now c.args.among.now.live.now c.args.at.parent c.args.at.place c.args.at.spot (sym c.parent_offers.ensures ∙ c.if-parent_offers.false)

pub returns-in-None : goal.returns-in-None
returns-in-None c = λ index is same.
    none_open c.args.among.now.tables.now c.args.among.now.machine.now c.args.among.now.live.now c.args.at.parent c.args.at.place c.args.at.spot index is
    (sym c.hangs_at.ensures ∙ c.if-not-hangs_at.false) (sym same ∙ sym c.first_open.ensures ∙ c.in-None.is)
