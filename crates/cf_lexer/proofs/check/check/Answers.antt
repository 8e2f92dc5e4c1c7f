use Rattle.std.proofs.Common.{◌∙◌, ap, sym}
use Rattle.config_rules.specs.Cut.{all_parts}
use Rattle.cf_lexer.specs.Check.{error_of, fault_from}
use Rattle.cf_lexer.specs.Lines.{lines_from}
use Rattle.cf_lexer.proofs.CheckLemmas.{checked_bad}
use Rattle.cf_lexer.proofs.check.check.Goals as goal

pub returns-in-Err : goal.returns-in-Err
returns-in-Err c =
    let text = c.args.text.now in
    checked_bad text c.loop-left.line c.in-Some.place c.in-Err.code (fault_from text c.args.number c.args.start) c.in-Err.ensures.code
    (ap (λ o. error_of (all_parts c.loop-left.line (lines_from text o))) (sym c.in-Some.is) ∙ c.loop-left.invariant.so_far)
