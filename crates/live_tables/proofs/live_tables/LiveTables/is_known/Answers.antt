use Rattle.std.proofs.Common.{◌∙◌, ap, is_some}
use Rattle.std.proofs.lemmas.Bool.{ne_eqb}
use Rattle.live_tables.proofs.OpenLaws.{known_is}
use Rattle.live_tables.proofs.live_tables.LiveTables.is_known.Goals as goal

pub returns-else-serial-eq0 : goal.returns-else-serial-eq0
returns-else-serial-eq0 c =
    rw (← c.self.view_is, ne_eqb c.args.serial 0 c.if-serial-eq0.false)
    (c.is_some.ensures ∙ ap is_some c.get.ensures ∙ known_is c.self.inside.tree.live c.args.serial)
