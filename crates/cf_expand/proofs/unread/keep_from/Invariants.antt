use Rattle.std.proofs.Common.{◌≡◌, ◌++◌, take, drop}
use Rattle.cf_expand.proofs.unread.keep_from.Given as goal

abbrev pub invariant-loop-place : goal.invariant-loop-place
invariant-loop-place l = l.tokens.items ≡ take l.place (drop l.from l.initial.tokens.items) ++ drop l.place l.initial.tokens.items
