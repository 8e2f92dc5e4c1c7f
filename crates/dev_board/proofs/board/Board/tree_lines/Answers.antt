use Rattle.std.proofs.Common.{◌≡◌, List, subst, sym}
use Rattle.std.specs.Prelude.{IfOk, Result, Ok, Err}
use Rattle.cf_types.specs.declared.tree.DevLine.{DevLine}
use Rattle.history_laws.specs.Tells.{TellsTree}
use Rattle.history_laws.proofs.TreeTold.{tree_always}
use Rattle.run_rules.specs.declared.event.Event.{Event}
use Rattle.run_rules.specs.Tree.{tree_lines}
use Rattle.dev_board.proofs.board.Board.tree_lines.Goals as goal

-- lines that are those of the tree tell what the history tells
told_lines : {E : Type 0} (lines : List DevLine) (h : List Event) (r : Result (List DevLine) E) → TellsTree h lines → IfOk r (λ ls. ls ≡ lines) → IfOk r (λ ls. TellsTree h ls)
told_lines lines h (Ok ls) told same = subst (TellsTree h) (sym same) told
told_lines lines h (Err e) told same = tt

pub returns-clause-told : goal.returns-clause-told
returns-clause-told c =
    let state = c.self.inside.state in
    rw (← c.self.view_is)
    (told_lines (tree_lines state.going) state.events.items c.tree_of.result
    (tree_always state.going.setup state.events.items state.going c.stands.ensures.goes_on.may c.self.invariant.run) c.tree_of.ensures)
