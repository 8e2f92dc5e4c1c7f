use Rattle.std.proofs.Common.{◌≡◌, ◌+◌, drop, option_map}
use Rattle.std.specs.Prelude.{bytes_eq, position}
use Rattle.plain_world.proofs.rules.attr_named.Given as goal

abbrev pub invariant-loop-place : goal.invariant-loop-place
invariant-loop-place l = option_map (λ k. k + l.place) (position (λ x. bytes_eq x.name l.name) (drop l.place l.rules.tables.attrs)) ≡ position (λ x. bytes_eq x.name l.name) l.rules.tables.attrs
