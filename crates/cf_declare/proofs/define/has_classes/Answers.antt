use Rattle.std.proofs.Common.{◌∙◌, sym}
use Rattle.config_rules.specs.Fault.{is_class}
use Rattle.cf_declare.proofs.ClassLemmas.{no_class, some_class}
use Rattle.cf_declare.proofs.define.has_classes.Goals as goal

pub returns-in-Some : goal.returns-in-Some
returns-in-Some c = c.has_other_class.ensures ∙ some_class (is_class c.args.declared.now) c.in-Some.class c.args.numbers.now (sym c.in-Some.ensures)

pub returns-in-None : goal.returns-in-None
returns-in-None c = no_class (is_class c.args.declared.now) c.args.numbers.now (sym c.in-None.ensures)
