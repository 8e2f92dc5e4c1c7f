use Rattle.std.proofs.Common.{◌≡◌, ◌*◌, ◌<◌, ◌+◌, ◌-◌, ◌/◌, ◌%◌, ◌^◌, ◌∙◌, ℕ, bit_or, sym, ap, subst, slice_index_or, w64, arith}
use Rattle.std.specs.Int.{trailing_ones}
use Rattle.std.proofs.lemmas.Nat.{or_lt}
use Rattle.unit_alloc.specs.Taken.{IsLeastFree, is_set}
use Rattle.unit_alloc.proofs.BitmapLaws.{Sees, clear_in, full_from, further, low_ones, sees_from}
use Rattle.unit_alloc.proofs.clear.first_clear.Goals as goal

pub returns-then-word : goal.returns-then-word
returns-then-word c =
    let first : ℕ = c.args.first in
    let word : ℕ = slice_index_or c.args.words.now (first / 64) 0 in
    let sees : Sees word (2 ^ 64 - 1) (first % 64) =
    subst (λ (seen : ℕ). Sees word seen (first % 64)) (ap (bit_or word) (sym (low_ones (first % 64) (omega arith))) ∙ c.if-word.true) (sees_from word (first % 64)) in
    further c.args.words.now first (64 * (first / 64 + 1)) _ (omega arith) (λ n from before. full_from c.args.words.now first n sees from before) c.first_clear_from.ensures

pub returns-else-word : goal.returns-else-word
returns-else-word c =
    let first : ℕ = c.args.first in
    let word : ℕ = slice_index_or c.args.words.now (first / 64) 0 in
    let seen : ℕ = bit_or word (1 * 2 ^ (first % 64) % 2 ^ 64 - 1) in
    let sees : Sees word seen (first % 64) = subst (λ (low : ℕ). Sees word (bit_or word low) (first % 64)) (sym (low_ones (first % 64) (omega arith))) (sees_from word (first % 64)) in
    let whole : 64 * (first / 64) + first % 64 ≡ first = omega arith in
    let ones : c.from.result ≡ trailing_ones w64 seen = c.from.ensures ∙ c.trailing_ones.ensures in
    let fits : word < 2 ^ 64 = omega (arith, c.type_inv.words (first / 64)) in
    rw ones
    (subst (λ (from : ℕ). IsLeastFree (is_set c.args.words.now) from (64 * (first / 64) + trailing_ones w64 seen)) whole
    (clear_in c.args.words.now (first / 64) seen (first % 64) sees (omega (arith, or_lt 64 word (1 * 2 ^ (first % 64) % 2 ^ 64 - 1) fits (omega arith), c.if-word.false))))
