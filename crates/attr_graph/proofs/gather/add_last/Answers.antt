use Rattle.std.proofs.Common.{◌≡◌, ◌∙◌, Bool, List, refl, subst, sym, true}
use Rattle.std.specs.Prelude.{not, false}
use Rattle.std.specs.List.{list_all, slice_index_or}
use Rattle.attr_graph.proofs.ReachLemmas.{apart_all, unmarked_apart}
use Rattle.attr_graph.proofs.gather.add_last.Goals as goal

pub returns-then-are_unmarked-clause-ok : goal.returns-then-are_unmarked-clause-ok
returns-then-are_unmarked-clause-ok c =
    let unmarked = subst (λ (marks : List Bool). list_all (λ x. not (slice_index_or marks x false)) c.args.numbers.now ≡ true) c.deref.ensures.value (c.if-are_unmarked.ensures refl) in
    c.in_ok-extend_from_slice.ensures.ok
    ∙ sym (apart_all c.args.list.now.items c.args.numbers.now c.requires.once (unmarked_apart c.args.list.now.items c.args.marks.now.items c.args.numbers.now c.requires.marked unmarked c.requires.within))
