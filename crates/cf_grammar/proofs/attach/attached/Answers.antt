use Rattle.std.proofs.Common.{◌∙◌, ◌-◌, ◌<◌, Some, None, ap, sym, map, length, refl, arith, codes}
use Rattle.std.proofs.lemmas.List.{length-map}
use Rattle.config_rules.specs.Form.{alone, name_of, names_of}
use Rattle.cf_words.specs.Words.{piece_of}
use Rattle.cf_words.proofs.ListLemmas.{map_back, map_front}
use Rattle.cf_grammar.proofs.AttachLemmas.{attached_named, attached_plain, long_enough}
use Rattle.cf_grammar.proofs.attach.attached.Goals as goal

pub returns-in_default : goal.returns-in_default
returns-in_default c =
    let words = c.args.words.now in
    attached_named c.args.device c.args.needs (map piece_of words) None _ c.if-not-is_named.ensures (sym c.in_default.is ∙ c.in_ok-places-2.ensures ∙ ap names_of (map_front piece_of words 2)) refl

pub returns-in-Some-3 : goal.returns-in-Some-3
returns-in-Some-3 c =
    let words = c.args.words.now in
    let long : 2 < length (map piece_of words) = long_enough (codes "with") (map piece_of words) c.if-not-is_named.ensures in
    attached_named c.args.device c.args.needs (map piece_of words) (Some c.in-Some-2.places) (Some c.in-Some-3.name) c.if-not-is_named.ensures
    (sym c.in-Some-2.is ∙ c.in_ok-places-2.ensures ∙ ap names_of (map_front piece_of words 2))
    (sym c.in-Some-3.is ∙ c.in_ok-name.ensures ∙ ap (alone name_of) (map_back piece_of words 1 (length words - 1) (omega (arith, length-map words piece_of))))

pub returns-in-None-2 : goal.returns-in-None-2
returns-in-None-2 c =
    let words = c.args.words.now in
    let long : 2 < length (map piece_of words) = long_enough (codes "with") (map piece_of words) c.if-not-is_named.ensures in
    attached_named c.args.device c.args.needs (map piece_of words) (Some c.in-Some-2.places) None c.if-not-is_named.ensures
    (sym c.in-Some-2.is ∙ c.in_ok-places-2.ensures ∙ ap names_of (map_front piece_of words 2))
    (sym c.in-None-2.is ∙ c.in_ok-name.ensures ∙ ap (alone name_of) (map_back piece_of words 1 (length words - 1) (omega (arith, length-map words piece_of))))

pub returns-in-Some : goal.returns-in-Some
returns-in-Some c =
    attached_plain c.args.device c.args.needs (map piece_of c.args.words.now) (Some c.in-Some.places) c.if-not-is_named.ensures (sym c.in-Some.is ∙ c.in_ok-places.ensures)

pub returns-in-None : goal.returns-in-None
returns-in-None c =
    attached_plain c.args.device c.args.needs (map piece_of c.args.words.now) None c.if-not-is_named.ensures (sym c.in-None.is ∙ c.in_ok-places.ensures)
