use Rattle.std.proofs.Common.{◌≡◌, ◌*◌, ◌+◌, ◌/◌, ◌∙◌, ℕ, inl, inr, ap, subst, slice_index_or, w64, arith}
use Rattle.std.specs.Int.{trailing_ones}
use Rattle.std.proofs.lemmas.Bool.{cases_lt}
use Rattle.unit_alloc.specs.Taken.{IsLeastFree, is_set}
use Rattle.unit_alloc.proofs.BitmapLaws.{clear_in, full_word, further, sees_all}
use Rattle.unit_alloc.proofs.clear.first_clear_from.Goals as goal

pub returns-then-word : goal.returns-then-word
returns-then-word c =
    let word : ℕ = slice_index_or c.args.words.now c.loop-place.place 0 in
    let none : 64 * c.loop-place.place + 0 ≡ 64 * c.loop-place.place = omega arith in
    let ones : c.from.result ≡ trailing_ones w64 word = c.from.ensures ∙ c.trailing_ones.ensures in
    further c.args.words.now (64 * c.args.from) (64 * c.loop-place.place) _ (omega arith) c.loop-place.invariant
    (rw ones
    (subst (λ (from : ℕ). IsLeastFree (is_set c.args.words.now) from (64 * c.loop-place.place + trailing_ones w64 word)) none
    (clear_in c.args.words.now c.loop-place.place word 0 (sees_all word) (omega (arith, c.type_inv.words c.loop-place.place)))))

pub loop-place-preserved : goal.loop-place-preserved
loop-place-preserved c = λ n low high. elim (cases_lt n (64 * c.loop-place.place)) [
  | inl before ↦ c.loop-place.invariant n low before
  | inr here ↦
      let at : n / 64 ≡ c.loop-place.place = omega arith in
      full_word c.args.words.now n (ap (λ p. slice_index_or c.args.words.now p 0) at ∙ c.if-word.false)
]
