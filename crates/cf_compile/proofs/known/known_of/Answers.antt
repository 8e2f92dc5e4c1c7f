use Rattle.std.proofs.Common.{◌≡◌, None, []}
use Rattle.config_rules.specs.Fault.{first_code}
use Rattle.cf_compile.specs.Meant.{reading_of}
use Rattle.cf_compile.proofs.KnownLaws.{no_code}
use Rattle.cf_compile.proofs.known.known_of.Goals as goal

pub orphans_of-requires-clause-accepted : goal.orphans_of-requires-clause-accepted
orphans_of-requires-clause-accepted c =
    let none : first_code c.args.read.files [] c.args.read.placed ≡ None = no_code (reading_of c.args.read) (rw (c.items.ensures, c.items-2.ensures) at c.in-Ok.ensures.0) in
    rw (c.items-3.ensures, c.items-4.ensures) none
