use Rattle.std.proofs.Common.{◌≡◌, ◌∙◌, List, ap, subst, ℕ}
use Rattle.std.specs.Prelude.{OnOk}
use Rattle.std.specs.Option.{option_to_list}
use Rattle.cf_types.specs.Gather.{with_all}
use Rattle.attr_graph.proofs.ReachLemmas.{gathered_last}
use Rattle.attr_graph.proofs.gather.gather_into.Goals as goal

pub returns-clause-ok : goal.returns-clause-ok
returns-clause-ok c =
    subst (λ (xs : List ℕ). OnOk c.add_last.result (c.add_last.new.list.items ≡ xs))
    (ap (λ (ws : List ℕ). with_all ws c.split_last.result.1.now) c.in_default.ensures.ok
    ∙ gathered_last c.args.attrs.now (option_to_list c.args.own) c.args.names.now c.split_last.result.0.now c.split_last.result.1.now c.split_last.ensures)
    c.add_last.ensures.ok
