use Rattle.std.proofs.Common.{◌%◌, sym}
use Rattle.run_rules.specs.World.{parent_of}
use Rattle.run_rules.specs.Chains.{NeverMeets}
use Rattle.run_rules.proofs.Climbs.{misses_under, two_kept}
use Rattle.pmf_order.proofs.under.is_under_by_walk.Goals as goal

pub returns-in-Apart-clause-is : goal.returns-in-Apart-clause-is
returns-in-Apart-clause-is c = sym (misses_under c.args.tree.now.live c.args.target c.args.serial (rw c.in-Apart.is at c.walk.ensures))

pub returns-in-Apart-clause-noted : goal.returns-in-Apart-clause-noted
returns-in-Apart-clause-noted c =
    let never : NeverMeets c.args.tree.now.live c.args.target c.args.serial = rw c.in-Apart.is at c.walk.ensures in
    rw (c.note-in-Apart.ensures, c.note.ensures, c.parent_of.ensures)
    (two_kept c.args.tree.now.live c.args.target c.args.strangers.now.serials (c.args.serial % 64) (parent_of c.args.tree.now.live c.args.serial % 64) c.args.serial c.requires never)
