use Rattle.std.proofs.Common.{◌∙◌, ◌++◌, ap, filter, map, sym}
use Rattle.std.proofs.lemmas.List.{map-append}
use Rattle.std.proofs.lemmas.List.Elements.{filter-append}
use Rattle.match_search.specs.Index.{candidate}
use Rattle.match_search.specs.Sought.{candidates_in, suits_at}
use Rattle.match_search.proofs.index.suiting_rows.Goals as goal

pub returns : goal.returns
returns c =
    let s = c.args.sought.now in
    let some = c.rows_for.result.0.now in
    let others = c.rows_for.result.1.now in
    let one = candidate s.tables.now s.machine.now s.spot in
    record {
      rows = some ++ others;
      all = c.rows_for.ensures;
      are = c.in_ok-add_candidates-2.ensures ∙ ap (λ xs. xs ++ candidates_in s others) (c.in_ok-add_candidates.ensures ∙ ap (λ xs. xs ++ candidates_in s some) c.new-list.ensures.items)
          ∙ sym (map-append one (filter (suits_at s) some) (filter (suits_at s) others)) ∙ ap (map one) (sym (filter-append (suits_at s) some others));
    }
