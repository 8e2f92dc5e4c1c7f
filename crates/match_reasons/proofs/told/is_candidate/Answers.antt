use Rattle.std.proofs.Common.{◌∙◌, ap, sym}
use Rattle.std.specs.Option.{is_none}
use Rattle.match_reasons.specs.Searches.{parent_by}
use Rattle.match_reasons.proofs.ReasonLaws.{candidate_is, no_row, none_from}
use Rattle.match_reasons.proofs.told.is_candidate.Goals as goal

pub returns-in-Some : goal.returns-in-Some
returns-in-Some c =
    let s = c.args.rules.now in
    none_from c.kept_off.result c.is_none.result c.is_none.ensures ∙ ap is_none c.kept_off.ensures
    ∙ sym (candidate_is s c.args.live.now.devices (parent_by s c.args.search.parent) c.args.search.place c.args.search.spot c.args.number c.in-Some.row.now c.in-Some.ensures)

pub returns-in-None : goal.returns-in-None
returns-in-None c =
    let s = c.args.rules.now in
    sym (no_row s c.args.live.now.devices (parent_by s c.args.search.parent) c.args.search.place c.args.search.spot c.args.number c.in-None.ensures)
