use Rattle.std.proofs.Common.{◌∙◌, ◌+◌, ap, sym, drop}
use Rattle.std.specs.Prelude.{find}
use Rattle.std.proofs.lemmas.List.{drop_all}
use Rattle.config_rules.specs.Joined.{suits}
use Rattle.cf_types.specs.declared.instance.AttachPlace.{AttachPlace}
use Rattle.cf_declare.proofs.JoinLemmas.{first_of, first_here, or_else, spots_are}
use Rattle.cf_declare.proofs.join.attach_place.Goals as goal

pub returns-in-Some : goal.returns-in-Some
returns-in-Some c =
    let d = c.args.declared.now in
    let numbers = c.args.numbers.now in
    let i = c.loop-number.number-index in
    ap (λ o. or_else o (first_of d c.args.target (drop (i + 1) numbers))) c.in-Some.ensures
    ∙ sym (first_here d c.args.target numbers i c.loop-number-test.true)
    ∙ c.loop-number.invariant
    ∙ ap (first_of d c.args.target) c.requires.numbers
    ∙ ap (find (λ (s : AttachPlace). suits d c.args.target s.place)) (spots_are d c.args.device)

pub returns : goal.returns
returns c =
    let d = c.args.declared.now in
    let numbers = c.args.numbers.now in
    ap (first_of d c.args.target) (sym (drop_all c.loop-number.number-index numbers c.loop-number-test.false))
    ∙ c.loop-number.invariant
    ∙ ap (first_of d c.args.target) c.requires.numbers
    ∙ ap (find (λ (s : AttachPlace). suits d c.args.target s.place)) (spots_are d c.args.device)

pub loop-number-preserved : goal.loop-number-preserved
loop-number-preserved c =
    let d = c.args.declared.now in
    let numbers = c.args.numbers.now in
    let i = c.loop-number.number-index in
    ap (λ o. or_else o (first_of d c.args.target (drop (i + 1) numbers))) c.in-None.ensures
    ∙ sym (first_here d c.args.target numbers i c.loop-number-test.true)
    ∙ c.loop-number.invariant
