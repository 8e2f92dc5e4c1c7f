use Rattle.std.proofs.Common.{◌≡◌, ◌<◌, ◌∷◌, ◌++◌, [], ℕ, List, Some, None, length, append-nil, sym, ap, subst, ◌∙◌}
use Rattle.dev_event.specs.Reading.{all_named, before, behind, name_in, pieces}
use Rattle.dev_event.proofs.Cuts.{behind_shorter, pieces_last, pieces_more}
use Rattle.dev_event.proofs.Names.{goes_on, onto, stops}
use Rattle.dev_event.proofs.read_names.each_name.Goals as goal

pub words-smaller : goal.words-smaller
words-smaller c =
    let rest : List ℕ = c.words.rest.now in
    let P : List ℕ → Type 0 = λ text. length text < length rest in
    subst P (sym c.behind-rest.ensures) (behind_shorter rest (sym c.has_blank.ensures ∙ c.words-test.true))

pub words-preserved : goal.words-preserved
words-preserved c =
    let rest : List ℕ = c.words.rest.now in
    let cut : pieces rest ≡ before 32 rest ∷ pieces (behind 32 rest) = pieces_more rest (sym c.has_blank.ensures ∙ c.words-test.true) in
    let named : name_in (before 32 rest) ≡ Some c.in-Some.name = sym (ap name_in c.before-in-words.ensures) ∙ sym c.in_ok-name.ensures ∙ c.in-Some.is in
    ap (λ ns. onto ns (all_named (pieces c.behind-rest.result.now))) c.in_ok-push.ensures.ok
    ∙ ap (λ text. onto (c.words.names ++ c.in-Some.name ∷ []) (all_named (pieces text))) c.behind-rest.ensures
    ∙ goes_on c.words.names (pieces rest) (before 32 rest) c.in-Some.name (pieces (behind 32 rest)) (all_named (pieces c.args.text.now)) cut named c.words.invariant

pub returns-in_default : goal.returns-in_default
returns-in_default c =
    let rest : List ℕ = c.words.rest.now in
    let cut : pieces rest ≡ before 32 rest ∷ pieces (behind 32 rest) = pieces_more rest (sym c.has_blank.ensures ∙ c.words-test.true) in
    let none : name_in (before 32 rest) ≡ None = sym (ap name_in c.before-in-words.ensures) ∙ sym c.in_ok-name.ensures ∙ c.in_default.is in
    stops c.words.names (pieces rest) (before 32 rest) (pieces (behind 32 rest)) (all_named (pieces c.args.text.now)) cut none c.words.invariant

pub returns-in_default-2 : goal.returns-in_default-2
returns-in_default-2 c =
    let rest : List ℕ = c.words.rest.now in
    let cut : pieces rest ≡ before 32 rest ∷ [] = pieces_last rest (sym c.has_blank.ensures ∙ c.words-test.false) in
    let none : name_in (before 32 rest) ≡ None = sym (ap name_in c.before-2.ensures) ∙ sym c.in_ok-name-2.ensures ∙ c.in_default-2.is in
    stops c.words.names (pieces rest) (before 32 rest) [] (all_named (pieces c.args.text.now)) cut none c.words.invariant

pub returns : goal.returns
returns c =
    let rest : List ℕ = c.words.rest.now in
    let cut : pieces rest ≡ before 32 rest ∷ [] = pieces_last rest (sym c.has_blank.ensures ∙ c.words-test.false) in
    let named : name_in (before 32 rest) ≡ Some c.in-Some-2.name = sym (ap name_in c.before-2.ensures) ∙ sym c.in_ok-name-2.ensures ∙ c.in-Some-2.is in
    ap Some (c.in_ok-push-2.ensures.ok ∙ sym (append-nil (c.words.names ++ c.in-Some-2.name ∷ [])))
    ∙ goes_on c.words.names (pieces rest) (before 32 rest) c.in-Some-2.name [] (all_named (pieces c.args.text.now)) cut named c.words.invariant
