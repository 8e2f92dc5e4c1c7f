use Rattle.run_rules.specs.MatchLines.{AreEverywhere}
use Rattle.run_rules.specs.Suits.{AreBestFirst}
use Rattle.run_rules.proofs.SpotLists.{IsIndexedTo, items_of}
use Rattle.match_search.proofs.index.lists_by.Given as goal

abbrev pub invariant-loop-number : goal.invariant-loop-number
invariant-loop-number l = record {
  indexed : IsIndexedTo (AreBestFirst l.tables l.machine) l.machine l.number (items_of l.lists.items);
  everywhere : AreEverywhere l.machine l.values.items;
}
