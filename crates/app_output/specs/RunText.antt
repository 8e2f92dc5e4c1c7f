-- What a run prints.
use Rattle.std.specs.Prelude.{ℕ, List, ◌++◌, codes, map}
use Rattle.cf_types.specs.Lines.{text_of}
use Rattle.cf_types.specs.declared.tables.Tables.{Tables}
use Rattle.cf_types.specs.declared.tree.DevLine.{DevLine}
use Rattle.config_rules.specs.Listing.{listing}
use Rattle.run_rules.specs.declared.event.Event.{Event}
use Rattle.run_rules.specs.Lines as history
use Rattle.run_rules.specs.Tree.{dev_text, tree_text}
use Rattle.run_rules.specs.World.{World}

-- the line `tree`, and the lines of these devices
abbrev pub tree_of : List DevLine → List ℕ
tree_of devices = codes "tree\n" ++ text_of (map dev_text devices)

-- the listing, the history and the tree that the history leaves
unfoldable pub run_text : Tables → List Event → World → List ℕ
run_text tables h w = listing tables ++ (history.lines h ++ tree_text w)
