use Rattle.std.proofs.Common.{◌≡◌, ap, length, arith, rules}
use Rattle.run_rules.specs.World.{unit_name}
use Rattle.plain_names.proofs.NameLaws.{name_fits}
use Rattle.plain_names.proofs.names.unit_name.Goals as goal

pub make-requires-clause-not_empty : goal.make-requires-clause-not_empty
make-requires-clause-not_empty c =
    let e : c.deref.result.now ≡ unit_name c.args.rules.now c.args.row c.args.unit = search rules in
    let fits = name_fits c.args.rules.now c.args.row c.args.unit c.stands.ensures.tables (omega arith) in
    omega (arith, fits.0, ap length e)

pub make-requires-clause-not_long : goal.make-requires-clause-not_long
make-requires-clause-not_long c =
    let e : c.deref.result.now ≡ unit_name c.args.rules.now c.args.row c.args.unit = search rules in
    let fits = name_fits c.args.rules.now c.args.row c.args.unit c.stands.ensures.tables (omega arith) in
    omega (arith, fits.1, ap length e)
