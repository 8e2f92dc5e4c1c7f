use Rattle.std.proofs.Common.{◌==◌, ◌&&◌, ◌∙◌, ℕ, List, ap, sym, take}
use Rattle.std.proofs.lemmas.List.{take_all}
use Rattle.cf_names.specs.Spots.{first_spot}
use Rattle.cf_declare.specs.FirstSpots.{earlier, offered}
use Rattle.cf_declare.proofs.SpotLemmas.{first_more, first_none}
use Rattle.cf_declare.proofs.spot.first_offered.Goals as goal

pub loop-attr-init : goal.loop-attr-init
loop-attr-init c = λ all are. first_none c.args.device all

pub loop-attr-preserved : goal.loop-attr-preserved
loop-attr-preserved c = λ all are.
    let i = c.loop-attr.attr-index in
    c.earlier-first.ensures
    ∙ ap (λ o. earlier o c.first_at.result) (c.loop-attr.invariant all are)
    ∙ ap (earlier (first_spot (λ s. (s.key.device == c.args.device) && offered (take i c.args.attrs.now) s.key.place) all)) (c.first_at.ensures all are)
    ∙ sym (first_more c.args.device c.args.attrs.now i all c.loop-attr-test.true)

pub returns : goal.returns
returns c = λ all are.
    c.loop-attr.invariant all are
    ∙ ap (λ (attrs : List ℕ). first_spot (λ s. (s.key.device == c.args.device) && offered attrs s.key.place) all)
    (take_all c.loop-attr.attr-index c.args.attrs.now c.loop-attr-test.false)
