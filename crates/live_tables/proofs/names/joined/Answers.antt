use Rattle.std.proofs.Common.{◌≡◌, ◌++◌, ap, arith, rules, length, decimal, length-append}
use Rattle.std.proofs.lemmas.Fmt.{length-decimal-le}
use Rattle.run_rules.proofs.FormedNames.{written_length}
use Rattle.live_tables.proofs.names.joined.Goals as goal

pub make-requires-clause-not_long : goal.make-requires-clause-not_long
make-requires-clause-not_long c =
    let e : c.deref.result.now ≡ c.args.driver.now ++ decimal c.args.unit = search rules in
    let w = written_length c.args.driver.now c.requires in
    omega (arith, w.1, ap length e, length-append c.args.driver.now (decimal c.args.unit), length-decimal-le 10 c.args.unit (omega arith) (omega arith) (omega arith))
