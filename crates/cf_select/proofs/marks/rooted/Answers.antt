use Rattle.std.proofs.Common.{Bool, List, map, subst, sym}
use Rattle.config_rules.specs.Meaning.{inst_of}
use Rattle.cf_select.specs.Carried.{RootedIn}
use Rattle.cf_select.proofs.TableLaws.{rooted_in_tables}
use Rattle.cf_select.proofs.marks.rooted.Goals as goal

pub returns-clause-tables : goal.returns-clause-tables
returns-clause-tables c =
    λ d h. rooted_in_tables d c.args.graph.now (map inst_of c.args.instances.now) c.from_vec.result h
    (subst (λ (marks : List Bool). RootedIn c.args.graph.now (map inst_of c.args.instances.now) marks) (sym c.from_vec.ensures) c.in_ok-marks.ensures)
