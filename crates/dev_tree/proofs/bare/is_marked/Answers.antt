use Rattle.std.proofs.Common.{None, false, subst}
use Rattle.run_rules.specs.declared.world.Dev.{Dev}
use Rattle.dev_tree.specs.Bare.{IsBare}
use Rattle.dev_tree.proofs.BareLaws.{live_at}
use Rattle.dev_tree.proofs.bare.is_marked.Goals as goal

-- what stands past the end
abbrev blank : Dev
blank = record { serial = 0; row = 0; unit = 0; parent = 0; spot = 0; asleep = false; condemned = None }

pub returns-in-Some-clause-there : goal.returns-in-Some-clause-there
returns-in-Some-clause-there c = λ on. live_at c.args.live.now c.in-Some.place c.args.serial blank c.in-Some.ensures.0 (c.in-Some.ensures.1 blank)

pub returns-in-Some-clause-bare : goal.returns-in-Some-clause-bare
returns-in-Some-clause-bare c = λ on.
    subst (IsBare c.args.live.now) (c.in-Some.ensures.1 blank) (c.requires.marks.each c.in-Some.place blank c.in-Some.ensures.0 on)
