use Rattle.std.proofs.Common.{◌∙◌, length, ap, sym}
use Rattle.cf_types.specs.Gather.{is_in}
use Rattle.cf_select.proofs.ReachedLemmas.{all_below, serve_one}
use Rattle.cf_select.proofs.marks.serve_want.Goals as goal

pub mark_all-requires : goal.mark_all-requires
mark_all-requires c =
    all_below c.items.result.now (length c.args.reached.now.marks.items) (λ x e. c.requires c.args.want x (ap (is_in x) (sym (c.items.ensures ∙ c.take-places.ensures.list)) ∙ e))

pub returns : goal.returns
returns c =
    serve_one c.args.reached.now.waiting.lists c.args.reached.now.marks.items c.args.reached.now.order.items c.take-places.new.self.lists c.mark_all.new.marks.items c.mark_all.new.order.items c.args.want c.items.result.now
    c.requires (c.items.ensures ∙ c.take-places.ensures.list) c.take-places.ensures.rest (λ q e. c.take-places.ensures.same q e ∙ sym c.items.ensures) c.in_ok-mark_all.ensures
