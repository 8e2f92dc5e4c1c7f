use Rattle.std.proofs.Common.{◌≡◌, ◌<◌, ℕ, true}
use Rattle.match_reasons.specs.Reasons.{fits_at}
use Rattle.match_reasons.proofs.locators.missed_at.Given as goal

abbrev pub invariant-loop-place : goal.invariant-loop-place
invariant-loop-place l = (k : ℕ) → k < l.place → fits_at l.locators l.values l.found k ≡ true
