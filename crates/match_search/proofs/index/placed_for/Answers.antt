use Rattle.std.proofs.Common.{◌≡◌, ◌∙◌, ◌++◌, [], Some, rules, subst, sym}
use Rattle.match_search.specs.Sought.{HaveAll}
use Rattle.match_search.proofs.PlacedLaws.{have_both, have_found, have_place, same_value, under}
use Rattle.match_search.proofs.index.placed_for.Goals as goal
use Rattle.match_search.proofs.index.placed_for.Goals.{in_default-default-via-in-Some-default+else-default-first, in_default-default-via-in_default-default}

pub returns-in_default : goal.returns-in_default
returns-in_default c =
    let s = c.args.sought.now in
    let rows = c.rows.ensures s.tables.now.rows c.requires.placed in
    subst (λ xs. HaveAll s (xs ++ [])) (sym rows) (have_place s (sym c.first_locator.ensures ∙ c.in_default.is))

pub returns-in-Some-default : goal.returns-in-Some-default
returns-in-Some-default c =
    let s = c.args.sought.now in
    let first = c.in-Some.first in
    let some : c.rows-found.result.now ≡ under s (Some first.found) = search rules in
    let others : c.rows-in-Some-default.result.now ≡ under s (Some c.in-Some-default.default) = search rules in
    subst (λ xs. HaveAll s (xs ++ c.rows-in-Some-default.result.now)) (sym some)
    (subst (λ xs. HaveAll s (under s (Some first.found) ++ xs)) (sym others)
    (have_both s first c.in-Some-default.default (sym c.first_locator.ensures ∙ c.in-Some.is) c.in-Some-default.is))

pub returns-in_default-default : goal.returns-in_default-default
returns-in_default-default c =
    let s = c.args.sought.now in
    let first = c.in-Some.first in
    let some : c.rows-found.result.now ≡ under s (Some first.found) = search rules in
    subst (λ xs. HaveAll s (xs ++ [])) (sym some) (have_found s first (sym c.first_locator.ensures ∙ c.in-Some.is) (λ d e. elim c.in_default-default.branch [
      | in_default-default-via-in-Some-default+else-default-first w ↦
          let there : w.in-Some-default.default ≡ first.found = search rules in
          same_value d w.in-Some-default.default (sym e ∙ w.in-Some-default.is) ∙ there
      | in_default-default-via-in_default-default w ↦ absurd (w.in_default-default.not-Some d e)
    ]))
