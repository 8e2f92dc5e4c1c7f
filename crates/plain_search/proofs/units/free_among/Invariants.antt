use Rattle.std.proofs.Common.{◌≡◌, ◌<◌, ◌+◌, ℕ, true}
use Rattle.run_rules.specs.Search.{is_taken}
use Rattle.plain_search.proofs.units.free_among.Given as goal

-- what was tried is taken
abbrev pub invariant-loop-tried : goal.invariant-loop-tried
invariant-loop-tried l = (q : ℕ) → q < l.tried → is_taken l.rules l.devices l.driver (l.first + q) ≡ true
