use Rattle.std.proofs.Common.{◌∙◌, ap, subst}
use Rattle.attr_graph.specs.Graphs.{IsGraphOf, declared_by}
use Rattle.dev_board.specs.Shown.{Shown}
use Rattle.run_rules.specs.World.{World}
use Rattle.dev_board.proofs.board.Board.graph.Goals as goal

pub returns : goal.returns
returns c =
    subst (λ (w : World). IsGraphOf (declared_by w.setup.tables) c.held.inside.site.graph) (c.held.view_is ∙ c.going.view_is ∙ ap (λ (b : Shown). b.world) c.self.view_is) c.held.inside.site.graphed
