-- A line without its comment, by one search for the mark that begins it.
use Rattle.std.proofs.Common.{◌≡◌, ◌==◌, ℕ, List, length, take, Some, None, ap, sym, ◌∙◌, arith}
use Rattle.std.proofs.lemmas.Bool.{false_from_ne_true}
use Rattle.std.proofs.lemmas.List.{take_all}
use Rattle.std.proofs.lemmas.List.Sums.{position_or_len_is}
use Rattle.memchr.specs.Find.{IsFirstByte, is_byte}
use Rattle.config_rules.specs.MachineText.{uncommented}

-- what stands before the mark
pub before_mark : (line : List ℕ) (k : ℕ) → IsFirstByte (is_byte 35) line (Some k) → take k line ≡ uncommented line
before_mark line k first =
    ap (λ n. take n line)
    (sym (position_or_len_is (λ c. c == 35) line k 0 (omega (arith, first.0.high)) (λ j lt. false_from_ne_true _ (first.0.before j (omega arith) lt)) (λ lt. first.1)))

-- all of it, where there is none
pub no_mark : (line : List ℕ) → IsFirstByte (is_byte 35) line None → line ≡ uncommented line
no_mark line none =
    sym (
    ap (λ n. take n line)
    (position_or_len_is (λ c. c == 35) line (length line) 0 (omega arith) (λ k lt. false_from_ne_true _ (none k (omega arith) lt)) (λ lt. absurd (omega (arith, lt))))
    ∙ take_all (length line) line (omega arith)
    )
