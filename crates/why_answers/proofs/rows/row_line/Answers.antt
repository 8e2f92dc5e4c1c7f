use Rattle.std.proofs.Common.{◌∙◌, ◌+◌, ap, arith, sym}
use Rattle.why_answers.proofs.RowLines.{no_row, put_row}
use Rattle.why_answers.proofs.rows.row_line.Goals as goal
use Rattle.why_answers.proofs.rows.row_line.Goals.{then-number-len+in_ok-put_line_with, else-number-len}

pub returns : goal.returns
returns c =
    let t = c.args.tables.now in
    let r = c.args.number in
    c.from_vec.ensures ∙ elim c.if-number-len.branch [
      | then-number-len+in_ok-put_line_with w ↦
          ap (λ v. v.items) w.line-is ∙ put_row t r _ _ _ _ (omega (arith, c.len.ensures, w.if-number-len.true)) (ap (λ n. n + r) w.first_row.ensures) c.new-line.ensures.items w.in_ok-put_line_with.ensures.ok
      | else-number-len w ↦
          ap (λ v. v.items) w.line-is ∙ c.new-line.ensures.items ∙ sym (no_row t r (omega (arith, c.len.ensures, w.if-number-len.false)))
    ]
