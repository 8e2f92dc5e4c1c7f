use Rattle.std.proofs.Common.{◌≡◌, ◌∙◌, ◌+◌, ◌++◌, ◌∷◌, [], ℕ, Bool, List, length, length-append, sym, ap, arith}
use Rattle.why_answers.specs.Rows.{has_row}
use Rattle.gone_rows.proofs.Places.{one_fails, one_passes}
use Rattle.why_answers.proofs.rows.rows_named.Goals as goal
use Rattle.why_answers.proofs.rows.rows_named.Goals.{then-has_row+in_ok-push, else-has_row}

pub loop-number-preserved : goal.loop-number-preserved
loop-number-preserved c =
    let so = c.loop-number.invariant in
    let f : ℕ → Bool = has_row c.args.tables.now c.args.word.now in
    let n = c.loop-number.number in
    let rows : List ℕ = c.loop-number.rows.items in
    elim c.if-has_row.branch [
      | then-has_row+in_ok-push w ↦
          let more : c.if-has_row.rows.items ≡ rows ++ n ∷ [] = ap (λ v. v.items) w.rows-is ∙ w.in_ok-push.ensures.items in
          let longer : length c.if-has_row.rows.items ≡ length rows + 1 = ap length more ∙ length-append rows (n ∷ []) in
          record {
            named = one_passes f n rows c.if-has_row.rows.items (sym c.has_row.ensures ∙ w.if-has_row.true) more so.named;
            few = omega (arith, longer, so.few);
          }
      | else-has_row w ↦
          let same : c.if-has_row.rows.items ≡ rows = ap (λ v. v.items) w.rows-is in
          record {
            named = same ∙ one_fails f n rows (sym c.has_row.ensures ∙ w.if-has_row.false) so.named;
            few = omega (arith, ap length same, so.few);
          }
    ]
