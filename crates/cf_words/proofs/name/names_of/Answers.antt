use Rattle.std.proofs.Common.{rules, ◌∙◌, ap, sym, map, Some}
use Rattle.config_rules.specs.Form.{alone, name_of}
use Rattle.cf_words.specs.Words.{parts_left, piece_of}
use Rattle.cf_words.proofs.ListLemmas.{with_none, part_more, part_none, part_all}
use Rattle.cf_words.proofs.name.names_of.Goals as goal

pub loop-left-init : goal.loop-left-init
loop-left-init c = search (rules, with_none)

pub returns-in-None : goal.returns-in-None
returns-in-None c =
    part_none (alone name_of) c.loop-left.names.items (map piece_of c.first_part.result.0.now) _ (parts_left c.first_part.result.1) _ c.loop-left.invariant (ap parts_left c.in-Some.is ∙ c.first_part.ensures.parts)
    (sym c.in-None.is ∙ c.in_ok-name.ensures)

pub loop-left-preserved : goal.loop-left-preserved
loop-left-preserved c =
    part_more (alone name_of) c.loop-left.names.items _ c.in-Some-2.name (map piece_of c.first_part.result.0.now) _ (parts_left c.first_part.result.1) _ c.loop-left.invariant (ap parts_left c.in-Some.is ∙ c.first_part.ensures.parts)
    (sym c.in-Some-2.is ∙ c.in_ok-name.ensures) c.in_ok-push-in-Some-2.ensures.items

pub returns : goal.returns
returns c = ap Some c.from_vec.ensures ∙ part_all (alone name_of) c.loop-left.names.items _ _ c.loop-left.invariant (ap parts_left c.in_default-left.is)
