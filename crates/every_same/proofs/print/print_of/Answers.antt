use Rattle.every_same.specs.Print.{print_of}
use Rattle.every_same.proofs.print.print_of.Goals as goal

pub returns : goal.returns
unfolding print_of
returns c = c.whole_print.ensures
