use Rattle.std.proofs.Common.{◌∙◌, ap, slice_index_or}
use Rattle.std.specs.Prelude.{Some}
use Rattle.run_rules.specs.Search.{match_value}
use Rattle.run_rules.specs.MatchLines.{last_value}
use Rattle.run_rules.proofs.MatchLines.{own_value}
use Rattle.plain_rows.proofs.UnnamedLaws.{none_named}
use Rattle.plain_rows.proofs.values.set_own.Goals as goal

pub returns-clause-values : goal.returns-clause-values
unfolding match_value
returns-clause-values c = λ a.
    c.in_ok-set_values.ensures a
    ∙ own_value c.args.spot c.args.machine.now.matches c.args.own.now a (slice_index_or c.args.values.now.items a 0) c.requires.own
    ∙ ap (last_value (Some c.args.spot) c.args.machine.now.matches a) (c.requires.everywhere a)

pub returns-clause-kept : goal.returns-clause-kept
returns-clause-kept c = λ a none. c.in_ok-set_values.ensures a ∙ none_named c.args.spot c.args.own.now a (slice_index_or c.args.values.now.items a 0) none
