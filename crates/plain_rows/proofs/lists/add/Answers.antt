use Rattle.std.proofs.Common.{◌∙◌, ◌≡◌, ◌==◌, ◌++◌, ◌∷◌, [], ℕ, List, cond, ap, refl, sym}
use Rattle.std.specs.Global.{Global}
use Rattle.std.specs.Prelude.{Vec}
use Rattle.std.proofs.lemmas.List.{get_or-map}
use Rattle.plain_rows.specs.Lists.{list_at}
use Rattle.plain_rows.proofs.ListLaws.{row_more}
use Rattle.plain_rows.proofs.lists.add.Goals as goal

pub returns : goal.returns
returns c =
    let lists = c.reach.new.lists.items in
    let number = c.args.number in
    let items = λ (v : Vec ℕ Global). v.items in
    let at : c.index_mut.result.now.items ≡ list_at lists number = ap items c.index_mut.ensures.value ∙ sym (get_or-map items lists number c.index_mut.result.now [] c.in_ok-reach.ensures.ok) in
    λ k.
    row_more lists _ number c.args.row c.push.new.self c.in_ok-reach.ensures.ok (c.in_ok-push.ensures.items ∙ ap (λ (xs : List ℕ). xs ++ c.args.row ∷ []) at) refl k
    ∙ ap (λ (xs : List ℕ). xs ++ cond (number == k) (c.args.row ∷ []) []) (c.in_ok-reach.ensures.same k)
