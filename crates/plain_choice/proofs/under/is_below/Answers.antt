use Rattle.std.proofs.Common.{◌%◌, sym}
use Rattle.run_rules.specs.World.{parent_of}
use Rattle.run_rules.specs.Chains.{NeverMeets}
use Rattle.run_rules.proofs.Climbs.{misses_under, two_kept}
use Rattle.plain_choice.proofs.under.is_below.Goals as goal

pub returns-in-Misses-clause-is : goal.returns-in-Misses-clause-is
returns-in-Misses-clause-is c = sym (misses_under c.args.live.now.devices c.args.target c.args.serial (rw c.in-Misses.is at c.follow.ensures))

pub returns-in-Misses-clause-aside : goal.returns-in-Misses-clause-aside
returns-in-Misses-clause-aside c =
    let never : NeverMeets c.args.live.now.devices c.args.target c.args.serial = rw c.in-Misses.is at c.follow.ensures in
    rw (c.keep-in-Misses.ensures, c.keep.ensures, c.parent_of.ensures)
    (two_kept c.args.live.now.devices c.args.target c.args.aside.now.kept (c.args.serial % 64) (parent_of c.args.live.now.devices c.args.serial % 64) c.args.serial c.requires never)
