use Rattle.run_rules.specs.MatchLines.{AreEverywhere}
use Rattle.run_rules.proofs.SpotLists.{IsIndexedTo, items_of}
use Rattle.plain_rows.specs.Suited.{FindsBest}
use Rattle.plain_rows.proofs.suited.Suited.make.Given as goal

abbrev pub invariant-loop-number : goal.invariant-loop-number
invariant-loop-number l = record {
  indexed : IsIndexedTo (FindsBest l.tables l.machine) l.machine l.number (items_of l.lists.items);
  everywhere : AreEverywhere l.machine l.values.items;
}
