-- Marks of serials by their remainders.
use Rattle.std.proofs.Common.{◌≡◌, ◌≢◌, ◌%◌, ℕ, ◌∙◌, Bool, true, false, List, ap, get_or, length, sym, arith}
use Rattle.std.specs.List.{slice_set}
use Rattle.std.proofs.lemmas.Grind.{get_or-set_at}
use Rattle.std.proofs.lemmas.List.{get_or-set_other}

-- a serial without a mark after another was marked is not that one, and had none before
pub unmarked : (marks : List Bool) (x s : ℕ) → length marks ≡ 1024 → get_or (slice_set marks (x % 1024) true) (s % 1024) false ≡ false
    → (get_or marks (s % 1024) false ≡ false) × (x ≢ s)
unmarked marks x s full no_mark =
    let other : s % 1024 ≢ x % 1024 = λ e. absurd (cc (no_mark, get_or-set_at marks (x % 1024) (s % 1024) true false e (omega arith))) in
    (sym (get_or-set_other marks (x % 1024) (s % 1024) true false other) ∙ no_mark, λ e. other (ap (λ n. n % 1024) (sym e)))
