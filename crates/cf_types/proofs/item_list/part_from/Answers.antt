use Rattle.cf_types.proofs.PartLemmas.{Found, found_there}
use Rattle.cf_types.proofs.item_list.part_from.Goals as goal

pub overflow_sub-start : goal.overflow_sub-start
overflow_sub-start c =
    (found_there c.args.parts.now c.find_part.result c.args.place _ c.index-parts-find_part.result c.items-items.result.now c.requires.ends c.find_part.ensures.within c.find_part.ensures.begun c.find_part.ensures.end
    c.index-parts-find_part.is c.items-items.ensures).begins

pub overflow_sub-result : goal.overflow_sub-result
overflow_sub-result c =
    (found_there c.args.parts.now c.find_part.result c.args.place _ c.index-parts-find_part.result c.items-items.result.now c.requires.ends c.find_part.ensures.within c.find_part.ensures.begun c.find_part.ensures.end
    c.index-parts-find_part.is c.items-items.ensures).from

pub returns-clause-items : goal.returns-clause-items
returns-clause-items c =
    (found_there c.args.parts.now c.find_part.result c.args.place _ c.index-parts-find_part.result c.items-items.result.now c.requires.ends c.find_part.ensures.within c.find_part.ensures.begun c.find_part.ensures.end
    c.index-parts-find_part.is c.items-items.ensures).items

pub returns-clause-some : goal.returns-clause-some
returns-clause-some c =
    (found_there c.args.parts.now c.find_part.result c.args.place _ c.index-parts-find_part.result c.items-items.result.now c.requires.ends c.find_part.ensures.within c.find_part.ensures.begun c.find_part.ensures.end
    c.index-parts-find_part.is c.items-items.ensures).some
