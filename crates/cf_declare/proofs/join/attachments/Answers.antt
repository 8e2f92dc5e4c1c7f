use Rattle.std.proofs.Common.{◌∙◌, ℕ, List, length, ap, sym}
use Rattle.std.specs.Prelude.{◌==◌, not}
use Rattle.cf_declare.proofs.JoinLemmas.{some_attached}
use Rattle.cf_declare.proofs.join.attachments.Goals as goal

pub returns-then-is_empty-clause-some : goal.returns-then-is_empty-clause-some
returns-then-is_empty-clause-some c =
    sym (ap not (sym c.is_empty.ensures ∙ c.if-is_empty.true))
    ∙ ap (λ (numbers : List ℕ). not (length numbers == 0)) c.attaches_of-numbers.ensures.numbers
    ∙ some_attached c.args.declared.now.attaches c.args.device

pub returns-clause-some : goal.returns-clause-some
returns-clause-some c =
    sym (ap not (sym c.is_empty.ensures ∙ c.if-is_empty.false))
    ∙ ap (λ (numbers : List ℕ). not (length numbers == 0)) c.attaches_of-numbers.ensures.numbers
    ∙ some_attached c.args.declared.now.attaches c.args.device
