use Rattle.std.proofs.Common.{◌≡◌, drop}
use Rattle.std.specs.Prelude.{find}
use Rattle.config_rules.specs.Joined.{suits}
use Rattle.cf_declare.proofs.join.suitable.Given as goal

abbrev pub invariant-loop-place : goal.invariant-loop-place
invariant-loop-place l = find (suits l.declared l.target) (drop l.place-index l.places) ≡ find (suits l.declared l.target) l.places
