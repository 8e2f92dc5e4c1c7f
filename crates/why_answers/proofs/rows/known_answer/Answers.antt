use Rattle.std.proofs.Common.{◌≡◌, subst}
use Rattle.std.specs.Prelude.{IfOk}
use Rattle.cf_types.specs.declared.tables.Tables.{Tables}
use Rattle.gone_rows.specs.Gone.{stated_by}
use Rattle.why_answers.specs.Known.{known_answer}
use Rattle.why_answers.proofs.rows.known_answer.Goals as goal

pub answer_in-requires-clause-formed : goal.answer_in-requires-clause-formed
answer_in-requires-clause-formed c = rw c.tables.ensures c.requires

pub answer_in-requires-clause-graph : goal.answer_in-requires-clause-graph
answer_in-requires-clause-graph c = rw c.tables.ensures c.graph.ensures

pub returns : goal.returns
returns c =
    subst (λ (t : Tables). IfOk c.answer_in.result (λ lines. lines ≡ known_answer t (stated_by c.args.stated.now) c.args.word.now)) c.tables.ensures c.answer_in.ensures
