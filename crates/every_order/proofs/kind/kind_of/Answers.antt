use Rattle.std.proofs.Common.{arith}
use Rattle.plain_world.specs.Plain.{world_of}
use Rattle.every_order.proofs.Counting.{goers_none, goers_some}
use Rattle.every_order.proofs.kind.kind_of.Goals as goal

pub returns-then-count-gt0 : goal.returns-then-count-gt0
returns-then-count-gt0 c = λ s is. goers_some (world_of s c.args.plain.now) (λ none. omega (arith, is, none, c.if-count-gt0.true))

pub returns-in-Some : goal.returns-in-Some
returns-in-Some c = λ s is. record { still = goers_none (world_of s c.args.plain.now) (omega (arith, is, c.if-count-gt0.false)); caller = c.in-Some.field-0; waits = c.in-Some.ensures s }
