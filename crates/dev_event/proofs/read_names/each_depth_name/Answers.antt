use Rattle.std.proofs.Common.{◌≡◌, ◌<◌, ◌∷◌, ◌++◌, [], ℕ, List, Some, None, true, false, length, append-nil, sym, ap, subst, ◌∙◌, arith}
use Rattle.run_rules.specs.declared.event.DepthName.{DepthName}
use Rattle.dev_event.specs.Reading.{all_deep, before, behind, name_in, number_in, pieces}
use Rattle.dev_event.proofs.Cuts.{behind_shorter, has_blank, pieces_first, pieces_last, pieces_more}
use Rattle.dev_event.proofs.Names.{deep_goes_on, deep_odd, deep_stops, onto}
use Rattle.dev_event.proofs.read_names.each_depth_name.Goals as goal

abbrev deep : List ℕ → List ℕ → DepthName
deep depth name = record { depth = number_in depth; name = name }

pub returns-in_default : goal.returns-in_default
returns-in_default c =
    let rest : List ℕ = c.words.rest.now in
    let first = pieces_first (behind 32 rest) in
    let cut : pieces rest ≡ before 32 rest ∷ before 32 (behind 32 rest) ∷ first.0 = pieces_more rest (sym c.has_blank.ensures ∙ c.words-test.true) ∙ ap (λ ps. before 32 rest ∷ ps) first.1 in
    let none : name_in (before 32 (behind 32 rest)) ≡ None = sym (ap name_in (c.before-in-words-2.ensures ∙ ap (before 32) c.behind-behind_depth.ensures)) ∙ sym c.in_ok-name.ensures ∙ c.in_default.is in
    deep_stops c.words.names (pieces rest) (before 32 rest) (before 32 (behind 32 rest)) first.0 (all_deep (pieces c.args.text.now)) cut none c.words.invariant

pub returns-then-not-has_blank : goal.returns-then-not-has_blank
returns-then-not-has_blank c =
    let rest : List ℕ = c.words.rest.now in
    let last : has_blank (behind 32 rest) ≡ false = sym (c.has_blank-in-words.ensures ∙ ap has_blank c.behind-behind_depth.ensures) ∙ c.if-not-has_blank.true in
    let cut : pieces rest ≡ before 32 rest ∷ before 32 (behind 32 rest) ∷ [] = pieces_more rest (sym c.has_blank.ensures ∙ c.words-test.true) ∙ ap (λ ps. before 32 rest ∷ ps) (pieces_last (behind 32 rest) last) in
    let named : name_in (before 32 (behind 32 rest)) ≡ Some c.in-Some.name = sym (ap name_in (c.before-in-words-2.ensures ∙ ap (before 32) c.behind-behind_depth.ensures)) ∙ sym c.in_ok-name.ensures ∙ c.in-Some.is in
    let depth = c.number_in-depth.ensures ∙ ap number_in c.before-in-words.ensures in
    ap Some (c.in_ok-push.ensures.ok ∙ ap (λ n. c.words.names ++ record { depth = n; name = c.in-Some.name } ∷ []) depth ∙ sym (append-nil (c.words.names ++ deep (before 32 rest) c.in-Some.name ∷ [])))
    ∙ deep_goes_on c.words.names (pieces rest) (before 32 rest) (before 32 (behind 32 rest)) c.in-Some.name [] (all_deep (pieces c.args.text.now)) cut named c.words.invariant

pub words-smaller : goal.words-smaller
words-smaller c =
    let rest : List ℕ = c.words.rest.now in
    let more : has_blank (behind 32 rest) ≡ true = sym (c.has_blank-in-words.ensures ∙ ap has_blank c.behind-behind_depth.ensures) ∙ c.if-not-has_blank.false in
    let one : length (behind 32 rest) < length rest = behind_shorter rest (sym c.has_blank.ensures ∙ c.words-test.true) in
    let two : length (behind 32 (behind 32 rest)) < length (behind 32 rest) = behind_shorter (behind 32 rest) more in
    let both : length (behind 32 (behind 32 rest)) < length rest = omega arith in
    let P : List ℕ → Type 0 = λ text. length text < length rest in
    subst P (sym (c.behind-rest.ensures ∙ ap (behind 32) c.behind-behind_depth.ensures)) both

pub words-preserved : goal.words-preserved
words-preserved c =
    let rest : List ℕ = c.words.rest.now in
    let more : has_blank (behind 32 rest) ≡ true = sym (c.has_blank-in-words.ensures ∙ ap has_blank c.behind-behind_depth.ensures) ∙ c.if-not-has_blank.false in
    let cut : pieces rest ≡ before 32 rest ∷ before 32 (behind 32 rest) ∷ pieces (behind 32 (behind 32 rest)) = pieces_more rest (sym c.has_blank.ensures ∙ c.words-test.true) ∙ ap (λ ps. before 32 rest ∷ ps) (pieces_more (behind 32 rest) more) in
    let named : name_in (before 32 (behind 32 rest)) ≡ Some c.in-Some.name = sym (ap name_in (c.before-in-words-2.ensures ∙ ap (before 32) c.behind-behind_depth.ensures)) ∙ sym c.in_ok-name.ensures ∙ c.in-Some.is in
    let depth = c.number_in-depth.ensures ∙ ap number_in c.before-in-words.ensures in
    ap (λ ns. onto ns (all_deep (pieces c.behind-rest.result.now))) (c.in_ok-push.ensures.ok ∙ ap (λ n. c.words.names ++ record { depth = n; name = c.in-Some.name } ∷ []) depth)
    ∙ ap (λ text. onto (c.words.names ++ deep (before 32 rest) c.in-Some.name ∷ []) (all_deep (pieces text))) (c.behind-rest.ensures ∙ ap (behind 32) c.behind-behind_depth.ensures)
    ∙ deep_goes_on c.words.names (pieces rest) (before 32 rest) (before 32 (behind 32 rest)) c.in-Some.name (pieces (behind 32 (behind 32 rest))) (all_deep (pieces c.args.text.now)) cut named c.words.invariant

pub returns : goal.returns
returns c =
    let rest : List ℕ = c.words.rest.now in
    deep_odd c.words.names (pieces rest) (before 32 rest) (all_deep (pieces c.args.text.now)) (pieces_last rest (sym c.has_blank.ensures ∙ c.words-test.false)) c.words.invariant
