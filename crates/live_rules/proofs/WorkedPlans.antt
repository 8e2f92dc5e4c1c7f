-- Two worked plans on a small PC, computed by the definitions: its serial ports come and go, and its ISA bus may not go.
use Rattle.std.proofs.Common.{◌≡◌, true, false, [], ◌∷◌, Some, None, refl}
use Rattle.std.specs.Prelude.{codes, pos, negsuc}
use Rattle.std.specs.Fmt.{digits}
use Rattle.cf_types.specs.Locators.{submatch}
use Rattle.cf_types.specs.Offers.{firsts, interfaces, interfaces_of, offers, walk}
use Rattle.cf_types.specs.Policies.{no_policy}
use Rattle.cf_types.specs.declared.machine.Machine.{Machine}
use Rattle.cf_types.specs.declared.machine.Policy.{Policy}
use Rattle.cf_types.specs.declared.tables.Place.TheVariants.{Root, At}
use Rattle.cf_types.specs.declared.tables.Tables.{Tables}
use Rattle.run_rules.specs.World.{lineage, parent_name, root_name, setup_of, unit_name}
use Rattle.run_rules.specs.Search.{child_spots, free_after, is_candidate, match_value, places_of, unit_of}
use Rattle.run_rules.specs.Tree.{tree_below}
use Rattle.live_rules.specs.declared.plan.PlanCommand.TheVariants.{Add, Remove, Scan}
use Rattle.live_rules.specs.declared.plan.LiveReply.TheVariants as reply
use Rattle.live_rules.specs.declared.plan.LiveLine.TheVariants.{Attached, Freed}
use Rattle.live_rules.specs.Live.{add, answer, answers, after, doomed, freed, group_of, hinders, is_doomed, is_free, opening, pass, remove, remove_unless, removed, scan, search_below, search_place, search_spot, spared, tree_lines, turned_on, winner_on}

-- a main bus, an ISA bus below it, and serial ports below that
pc_tables : Tables
pc_tables = record {
  attrs =
      (record { name = codes "mainbus"; iface = true; class = false; pseudo = false; locs = []; needs = [] })
      ∷ (record {
        name = codes "isa";
        iface = true;
        class = false;
        pseudo = false;
        locs = (record { name = codes "port"; default = Some (negsuc 0); optional = true }) ∷ (record { name = codes "irq"; default = Some (negsuc 0); optional = true }) ∷ [];
        needs = [];
      }) ∷ [];
  devices =
      (record { name = codes "mainbus"; own = Some 0; needs = [] }) ∷ (record { name = codes "isa"; own = Some 1; needs = [] }) ∷ (record { name = codes "com"; own = None; needs = [] }) ∷ [];
  attaches =
      (record { name = codes "mainbus"; device = 0; places = Root ∷ []; needs = [] }) ∷ (record { name = codes "isa"; device = 1; places = At 0 ∷ []; needs = [] })
      ∷ (record { name = codes "com_isa"; device = 2; places = At 1 ∷ []; needs = [] }) ∷ [];
  rows =
      (record { device = 0; unit = 0; star = false; attach = 0; place = Root; parent = None; locs = []; flags = pos 0 })
      ∷ (record { device = 1; unit = 0; star = false; attach = 1; place = At 0; parent = Some (record { device = 0; unit = Some 0 }); locs = []; flags = pos 0 })
      ∷ (record { device = 2; unit = 0; star = false; attach = 2; place = At 1; parent = Some (record { device = 1; unit = None }); locs = pos 1016 ∷ pos 4 ∷ []; flags = pos 0 })
      ∷ (record { device = 2; unit = 1; star = true; attach = 2; place = At 1; parent = Some (record { device = 1; unit = None }); locs = negsuc 0 ∷ negsuc 0 ∷ []; flags = pos 0 })
      ∷ [];
  pseudos = [];
  options = [];
  makeoptions = [];
  file_systems = [];
  warnings = [];
}

-- two serial ports, whose driver has this policy
pc_machine : Policy → Machine
pc_machine com_isa = record {
  spots =
      (record { name = codes "mb"; parent = None; place = Root; found = []; late = false; absent = false; bad = false })
      ∷ (record { name = codes "isa"; parent = Some 0; place = At 0; found = []; late = false; absent = false; bad = false })
      ∷ (record { name = codes "u0"; parent = Some 1; place = At 1; found = pos 1016 ∷ pos 4 ∷ []; late = false; absent = false; bad = false })
      ∷ (record { name = codes "u1"; parent = Some 1; place = At 1; found = pos 760 ∷ pos 3 ∷ []; late = false; absent = false; bad = false })
      ∷ [];
  matches =
      (record { attach = 0; spot = Some 0; value = 10 }) ∷ (record { attach = 1; spot = Some 1; value = 10 }) ∷ (record { attach = 2; spot = None; value = 10 }) ∷ [];
  styles = [];
  policies = no_policy ∷ no_policy ∷ com_isa ∷ [];
}

ports_come_and_go : answers (record { setup = setup_of pc_tables (pc_machine no_policy) []; groups = (record { name = codes "serial"; devices = 2 ∷ [] }) ∷ [] }) opening (Scan ∷ Add 0 ∷ Remove 0 ∷ [])
    ≡ ((reply.Ok, Attached (codes "mainbus0") (codes "root") 0 ∷ Attached (codes "isa0") (codes "mainbus0") 1 ∷ [])
    ∷ (reply.Ok, Attached (codes "com0") (codes "isa0") 2 ∷ Attached (codes "com1") (codes "isa0") 3 ∷ [])
    ∷ (reply.Ok, Freed (codes "com1") ∷ Freed (codes "com0") ∷ []) ∷ [])
unfolding answers answer scan add turned_on remove remove_unless removed freed doomed spared hinders is_doomed pass search_below search_place search_spot is_free winner_on group_of is_candidate match_value unit_of free_after child_spots places_of interfaces interfaces_of walk firsts offers submatch lineage parent_name root_name unit_name digits pc_tables pc_machine
ports_come_and_go = refl

bus_may_not_go : answers (record { setup = setup_of pc_tables (pc_machine (record no_policy { nodetach = true })) []; groups = (record { name = codes "b"; devices = 1 ∷ [] }) ∷ [] }) opening (Add 0 ∷ Add 0 ∷ Remove 0 ∷ [])
    ≡ ((
      reply.Ok,
      Attached (codes "mainbus0") (codes "root") 0 ∷ Attached (codes "isa0") (codes "mainbus0") 1 ∷ Attached (codes "com0") (codes "isa0") 2 ∷ Attached (codes "com1") (codes "isa0") 3 ∷ [],
    )
    ∷ (reply.OnAlready, []) ∷ (reply.Busy (codes "com0"), []) ∷ [])
unfolding answers answer scan add turned_on remove remove_unless removed freed doomed spared hinders is_doomed pass search_below search_place search_spot is_free winner_on group_of is_candidate match_value unit_of free_after child_spots places_of interfaces interfaces_of walk firsts offers submatch lineage parent_name root_name unit_name digits pc_tables pc_machine
bus_may_not_go = refl

-- the tree that the first plan leaves
ports_tree : tree_lines (record { setup = setup_of pc_tables (pc_machine no_policy) []; groups = (record { name = codes "serial"; devices = 2 ∷ [] }) ∷ [] })
    (after (record { setup = setup_of pc_tables (pc_machine no_policy) []; groups = (record { name = codes "serial"; devices = 2 ∷ [] }) ∷ [] }) opening (Scan ∷ Add 0 ∷ Remove 0 ∷ []))
    ≡ ((record { depth = 0; name = codes "mainbus0"; parent = codes "root"; row = 0; asleep = false; condemned = false; holders = [] })
    ∷ (record { depth = 1; name = codes "isa0"; parent = codes "mainbus0"; row = 1; asleep = false; condemned = false; holders = [] }) ∷ [])
unfolding after tree_lines tree_below answer scan add turned_on remove remove_unless removed freed doomed spared hinders is_doomed pass search_below search_place search_spot is_free winner_on group_of is_candidate match_value unit_of free_after child_spots places_of interfaces interfaces_of walk firsts offers submatch lineage parent_name root_name unit_name digits pc_tables pc_machine
ports_tree = refl
