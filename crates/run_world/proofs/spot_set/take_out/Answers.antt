use Rattle.std.proofs.Common.{◌∙◌, ℕ, List, Bool, sym, ap, false, slice_index_or, rules, subst}
use Rattle.std.proofs.lemmas.Fn.{filter_same}
use Rattle.run_world.specs.Marked.{AreMarked}
use Rattle.run_world.proofs.MarkedLaws.{marked_less, none_less}
use Rattle.run_world.proofs.spot_set.take_out.Goals as goal

pub returns-then-is_marked-clause-spots : goal.returns-then-is_marked-clause-spots
returns-then-is_marked-clause-spots c = filter_same _ _ _ (λ x b f' k. search rules) _ _ c.retain.ensures.filtered

pub returns-then-is_marked-clause-marks : goal.returns-then-is_marked-clause-marks
returns-then-is_marked-clause-marks c =
    subst (λ (xs : List ℕ). AreMarked xs c.mark.new.marks.items) (sym (filter_same _ _ _ (λ x b f' k. search rules) _ _ c.retain.ensures.filtered))
    (marked_less c.args.spots.now.items c.args.marks.now.items c.mark.new.marks.items c.args.spot c.requires c.mark.ensures.marks)

pub returns-else-is_marked-clause-spots : goal.returns-else-is_marked-clause-spots
returns-else-is_marked-clause-spots c =
    none_less c.args.spots.now.items c.args.spot
    (sym (c.requires c.args.spot) ∙ ap (λ (bs : List Bool). slice_index_or bs c.args.spot false) (sym c.deref.ensures.value) ∙ sym c.is_marked.ensures.mark ∙ c.if-is_marked.false)
