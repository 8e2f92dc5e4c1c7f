use Rattle.std.proofs.Common.{[], ◌++◌, subst, sym}
use Rattle.match_search.specs.declared.placed.Looked.{Looked}
use Rattle.match_search.specs.Placed.{AreLooked}
use Rattle.match_search.specs.Sought.{HaveAll}
use Rattle.match_search.proofs.PlacedLaws.{have_listed}
use Rattle.match_search.proofs.index.rows_for.Goals as goal

pub returns-in-Listed : goal.returns-in-Listed
returns-in-Listed c =
    let s = c.args.sought.now in
    subst (λ xs. HaveAll s (xs ++ [])) (sym c.rows.ensures)
    (have_listed s c.in-Listed.lists (subst (λ (l : Looked). AreLooked s.tables.now.rows l) c.in-Listed.is c.requires.looked))
