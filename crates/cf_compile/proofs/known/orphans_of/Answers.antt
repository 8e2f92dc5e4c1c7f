use Rattle.std.proofs.Common.{rules}
use Rattle.cf_compile.specs.Judged.{Judges}
use Rattle.cf_compile.specs.declared.judge.Verdict.TheVariants.{Accepted}
use Rattle.cf_compile.proofs.KnownLaws.{devices_declared}
use Rattle.cf_compile.proofs.known.orphans_of.Goals as goal

pub orphans_in-requires : goal.orphans_in-requires
orphans_in-requires c =
    let judged : Judges c.args.files.now c.args.placed.now (Accepted c.in-Accepted.selection) = rw c.in-Accepted.is at c.in_ok-selection.ensures in
    devices_declared c.args.files.now c.args.placed.now c.in-Accepted.selection.declarations c.in-Accepted.selection.instances c.requires.accepted judged.1 judged.2
