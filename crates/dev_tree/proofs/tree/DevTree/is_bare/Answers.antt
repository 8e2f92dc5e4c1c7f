use Rattle.std.proofs.Common.{◌∙◌, ap, sym}
use Rattle.run_rules.specs.World.{children}
use Rattle.dev_tree.specs.Tree.{Devices}
use Rattle.dev_tree.proofs.BareLaws.{bare_children}
use Rattle.dev_tree.proofs.tree.DevTree.is_bare.Goals as goal

pub returns-clause-children : goal.returns-clause-children
returns-clause-children c = λ on.
    ap (λ (t : Devices). children t.live c.args.serial) (sym c.self.view_is) ∙ ap (λ ds. children ds c.args.serial) (sym c.deref.ensures.value) ∙ bare_children c.deref.result.now c.args.serial (c.is_marked.ensures.bare on)
