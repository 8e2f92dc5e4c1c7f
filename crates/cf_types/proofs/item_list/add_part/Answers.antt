use Rattle.std.proofs.Common.{◌≡◌, ◌∙◌, ◌+◌, ◌++◌, ◌∷◌, [], List, ap, length, length-append, subst, sym}
use Rattle.cf_types.specs.ItemParts.{AreEnds, items_in}
use Rattle.cf_types.specs.declared.item_list.Part.{Part}
use Rattle.cf_types.proofs.PartLemmas.{ends_more, ends_there, items_pushed}
use Rattle.cf_types.proofs.item_list.add_part.Goals as goal

pub returns-clause-ends : goal.returns-clause-ends
returns-clause-ends c =
    let old : List Part = c.args.parts.now.items in
    let part : Part = record { end = c.args.begun + length c.items-count.result.now; items = c.args.items } in
    let pushed : c.push_reserved.new.self.items ≡ old ++ part ∷ [] = c.push_reserved.ensures.items ∙ ap (λ (ps : List Part). ps ++ part ∷ []) c.reserve.ensures.items in
    subst AreEnds (sym pushed) (ends_more old part c.requires.ends (ends_there old part c.args.begun c.items-count.result.now c.requires.begun c.items-count.ensures))

pub returns-clause-items : goal.returns-clause-items
returns-clause-items c =
    let old : List Part = c.args.parts.now.items in
    let part : Part = record { end = c.args.begun + length c.items-count.result.now; items = c.args.items } in
    let pushed : c.push_reserved.new.self.items ≡ old ++ part ∷ [] = c.push_reserved.ensures.items ∙ ap (λ (ps : List Part). ps ++ part ∷ []) c.reserve.ensures.items in
    ap items_in pushed ∙ items_pushed old part

pub returns-clause-end : goal.returns-clause-end
returns-clause-end c =
    let old : List Part = c.args.parts.now.items in
    let part : Part = record { end = c.args.begun + length c.items-count.result.now; items = c.args.items } in
    let pushed : c.push_reserved.new.self.items ≡ old ++ part ∷ [] = c.push_reserved.ensures.items ∙ ap (λ (ps : List Part). ps ++ part ∷ []) c.reserve.ensures.items in
    ends_there old part c.args.begun c.items-count.result.now c.requires.begun c.items-count.ensures ∙ sym (ap (λ (ps : List Part). length (items_in ps)) pushed)
