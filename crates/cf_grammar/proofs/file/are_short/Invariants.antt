use Rattle.std.proofs.Common.{◌≡◌, length, take, true}
use Rattle.std.specs.Prelude.{nat_le}
use Rattle.std.specs.List.{list_all}
use Rattle.config_rules.specs.Cut.{pieces}
use Rattle.cf_grammar.proofs.file.are_short.Given as goal

abbrev pub invariant-loop-token : goal.invariant-loop-token
invariant-loop-token l = list_all (λ q. nat_le (length q.text) 1023) (pieces l.text (take l.token-index l.tokens)) ≡ true
