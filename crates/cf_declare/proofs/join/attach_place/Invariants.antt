use Rattle.std.proofs.Common.{◌≡◌, drop}
use Rattle.cf_declare.proofs.JoinLemmas.{first_of}
use Rattle.cf_declare.proofs.join.attach_place.Given as goal

abbrev pub invariant-loop-number : goal.invariant-loop-number
invariant-loop-number l = first_of l.declared l.target (drop l.number-index l.numbers) ≡ first_of l.declared l.target l.numbers
