-- Tables that come and go: rows are added and taken away in groups while devices live, after config_cfdata_attach and
-- config_cfdata_detach of autoconf(9). Winners, units and spots are those of a boot.
use Rattle.std.specs.Prelude.{◌≡◌, ℕ, ◌+◌, Bool, true, false, not, ◌&&◌, ◌||◌, ◌==◌, nat_le, if◌then◌else◌, List, [], ◌∷◌, ◌++◌, length, reverse, map, filter, find, fold, slice_get, Option, Some, None}
use Rattle.std.specs.List.{list_any, Contains}
use Rattle.std.specs.Option.{option_map_or}
use Rattle.cf_types.specs.Numbers.{below}
use Rattle.cf_types.specs.declared.tables.Place.{Place}
use Rattle.cf_types.specs.declared.tree.DevLine.{DevLine}
use Rattle.run_rules.specs.declared.world.Setup.{Setup}
use Rattle.run_rules.specs.declared.world.Dev.{Dev}
use Rattle.run_rules.specs.World.{device_at, driver_of, has, is_live, is_number, lineage, name_of, parent_name, policy_of}
use Rattle.run_rules.specs.Search.{child_spots, first_best, is_candidate, is_occupied, parent_ref, scan_places, spot_of, unit_of, value_of}
use Rattle.run_rules.specs.Tree.{tree_below}
use Rattle.live_rules.specs.declared.plan.Group.{Group}
use Rattle.live_rules.specs.declared.plan.PlanCommand.{PlanCommand}
use Rattle.live_rules.specs.declared.plan.PlanCommand.TheVariants.{Add, Remove, Scan}
use Rattle.live_rules.specs.declared.plan.LiveReply.{LiveReply}
use Rattle.live_rules.specs.declared.plan.LiveReply.TheVariants as reply
use Rattle.live_rules.specs.declared.plan.LiveLine.{LiveLine}
use Rattle.live_rules.specs.declared.plan.LiveLine.TheVariants.{Attached, Freed}

-- ---- worlds

-- what no command changes: the tables and the machine, and the groups of the plan
pub record LiveSite : Type 0 where
  pub setup : Setup
  pub groups : List Group

-- the live devices in the order in which they were attached, the serial of the next one, and the numbers of the groups that are on
pub record LiveWorld : Type 0 where
  pub live : List Dev
  pub next : ℕ
  pub on : List ℕ

-- no device lives, and every group is off
abbrev pub opening : LiveWorld
opening = record { live = []; next = 1; on = [] }

-- the group that a driver is in, if it is in one
abbrev pub has_device : List Group → ℕ → ℕ → Bool
has_device groups device g = option_map_or (λ group. has group.devices device) (slice_get groups g) false

unfoldable pub group_of : List Group → ℕ → Option ℕ
group_of groups device = find (has_device groups device) (below (length groups))

-- whether a row is in a group, and whether it is on: its driver is in no group, or in one that is on
abbrev pub is_in : LiveSite → ℕ → ℕ → Bool
is_in t g r = is_number (group_of t.groups (driver_of t.setup r)) g

abbrev pub is_on : LiveSite → List ℕ → ℕ → Bool
is_on t on r = option_map_or (has on) (group_of t.groups (driver_of t.setup r)) true

-- a candidate that is on
abbrev pub is_candidate_on : LiveSite → LiveWorld → ℕ → Place → ℕ → ℕ → Bool
is_candidate_on t w p place x r = is_on t w.on r && is_candidate t.setup w.live (parent_ref t.setup w.live p) place x r

-- the best candidate that is on, by match value, as in a boot
unfoldable pub winner_on : LiveSite → LiveWorld → ℕ → Place → ℕ → Option ℕ
winner_on t w p place x = first_best (is_candidate_on t w p place x) (λ r. value_of t.setup r x) (length t.setup.tables.rows)

-- ---- settled worlds

-- the root or a live device
abbrev pub is_known : LiveWorld → ℕ → Bool
is_known w p = p == 0 || is_live w.live p

-- the places that it offers, in order, and the spots below it on one of them, in file order
abbrev pub places_below : LiveSite → LiveWorld → ℕ → List Place
places_below t w p = scan_places t.setup w.live p None

abbrev pub spots_below : LiveSite → LiveWorld → ℕ → Place → List ℕ
spots_below t w p place = child_spots t.setup.machine (spot_of w.live p) place

-- a spot that is present, not late and without a live device
unfoldable pub is_free : LiveSite → LiveWorld → ℕ → Bool
is_free t w x = option_map_or (λ spot. not spot.absent && not spot.late) (slice_get t.setup.machine.spots x) false && not (is_occupied w.live x)

-- such a spot, below the root or a live device that offers its place
pub record IsBare (t : LiveSite) (w : LiveWorld) (p : ℕ) (place : Place) (x : ℕ) : Type 0 where
  pub known : is_known w p ≡ true
  pub offered : Contains (places_below t w p) place
  pub child : Contains (spots_below t w p place) x
  pub free : is_free t w x ≡ true

abbrev pub Settled : LiveSite → LiveWorld → Type 0
Settled t w = (p : ℕ) (place : Place) (x r : ℕ) → IsBare t w p place x → is_candidate_on t w p place x r ≡ false

-- ---- a pass

-- the device that comes by a row
abbrev pub new_device : LiveSite → LiveWorld → ℕ → ℕ → ℕ → Dev
new_device t w p x r =
    record { serial = w.next; row = r; unit = unit_of t.setup w.live r; parent = p; spot = x; asleep = false; condemned = None }

abbrev pub attach : LiveSite → LiveWorld → ℕ → ℕ → ℕ → LiveWorld
attach t w p x r = record w { live = w.live ++ new_device t w p x r ∷ []; next = w.next + 1 }

-- a spot is searched: where it is free and there is a winner, that is attached
unfoldable pub search_spot : LiveSite → ℕ → Place → LiveWorld → ℕ → LiveWorld
search_spot t p place w x = if is_free t w x then option_map_or (attach t w p x) (winner_on t w p place x) w else w

-- one spot after the other, and one place after the other
unfoldable pub search_place : LiveSite → ℕ → LiveWorld → Place → LiveWorld
search_place t p w place = fold (search_spot t p place) w (spots_below t w p place)

unfoldable pub search_below : LiveSite → LiveWorld → ℕ → LiveWorld
search_below t w p = if is_known w p then fold (search_place t p) w (places_below t w p) else w

-- below each parent by its serial, the root's being 0; a device that comes meanwhile has a later serial, and its turn comes too:
-- as each takes a spot, no serial reaches the last one's by more than the number of spots
unfoldable pub pass : LiveSite → LiveWorld → LiveWorld
pass t w = fold (search_below t) w (below (w.next + length t.setup.machine.spots))

-- ---- the doomed

-- whether the device of a serial came by a row of the group
abbrev pub is_member : LiveSite → List Dev → ℕ → ℕ → Bool
is_member t live g s = option_map_or (λ d. is_in t g d.row) (device_at live s) false

-- whether one does in the chain of parents that begins with s; as a parent has a lesser serial, so many steps serve
unfoldable pub is_doomed : LiveSite → List Dev → ℕ → ℕ → Bool
is_doomed t live g s = list_any (is_member t live g) (lineage s live s)

-- the doomed devices by serial, and the others
unfoldable pub doomed : LiveSite → LiveWorld → ℕ → List Dev
doomed t w g = filter (λ d. is_doomed t w.live g d.serial) w.live

unfoldable pub spared : LiveSite → LiveWorld → ℕ → List Dev
spared t w g = filter (λ d. not (is_doomed t w.live g d.serial)) w.live

-- ---- the commands

-- what a command is told, its lines, and the world after it
pub record Answer : Type 0 where
  pub reply : LiveReply
  pub lines : List LiveLine
  pub world : LiveWorld

abbrev pub attached_line : LiveSite → List Dev → Dev → LiveLine
attached_line t live d = Attached (name_of t.setup d) (parent_name t.setup live d.parent) d.row

abbrev pub freed_line : LiveSite → Dev → LiveLine
freed_line t d = Freed (name_of t.setup d)

-- those that came since then, in order
abbrev pub came : LiveWorld → LiveWorld → List Dev
came w v = filter (λ d. nat_le w.next d.serial) v.live

-- a pass, which is told `ok`, with a line for each device that came
unfoldable pub scan : LiveSite → LiveWorld → Answer
scan t w =
    let v = pass t w in
    record { reply = reply.Ok; lines = map (attached_line t v.live) (came w v); world = v }

unfoldable pub turned_on : LiveWorld → ℕ → LiveWorld
turned_on w g = record w { on = g ∷ w.on }

unfoldable pub add : LiveSite → LiveWorld → ℕ → Answer
add t w g = if has w.on g then record { reply = reply.OnAlready; lines = []; world = w } else scan t (turned_on w g)

-- the doomed device of least serial that may not go
unfoldable pub hinders : LiveSite → LiveWorld → ℕ → Option Dev
hinders t w g = find (λ d. (policy_of t.setup d.row).nodetach) (doomed t w g)

-- the doomed in the order in which they go: the greatest serial first
unfoldable pub freed : LiveSite → LiveWorld → ℕ → List Dev
freed t w g = reverse (doomed t w g)

unfoldable pub removed : LiveSite → LiveWorld → ℕ → LiveWorld
removed t w g = record w { live = spared t w g; on = filter (λ h. not (h == g)) w.on }

unfoldable pub remove_unless : LiveSite → LiveWorld → ℕ → Option Dev → Answer
remove_unless t w g (Some d) = record { reply = reply.Busy (name_of t.setup d); lines = []; world = w }
remove_unless t w g None = record { reply = reply.Ok; lines = map (freed_line t) (freed t w g); world = removed t w g }

unfoldable pub remove : LiveSite → LiveWorld → ℕ → Answer
remove t w g = if has w.on g then remove_unless t w g (hinders t w g) else record { reply = reply.OffAlready; lines = []; world = w }

unfoldable pub answer : LiveSite → LiveWorld → PlanCommand → Answer
answer t w (Add g) = add t w g
answer t w (Remove g) = remove t w g
answer t w Scan = scan t w

-- the world after these commands
unfoldable pub after : LiveSite → LiveWorld → List PlanCommand → LiveWorld
after t w [] = w
after t w (c ∷ cs) = after t (answer t w c).world cs

-- what these commands are told, with their lines
unfoldable pub answers : LiveSite → LiveWorld → List PlanCommand → List (LiveReply × List LiveLine)
answers t w [] = []
answers t w (c ∷ cs) = ((answer t w c).reply, (answer t w c).lines) ∷ answers t (answer t w c).world cs

-- ---- the tree

abbrev pub tree_line : LiveSite → LiveWorld → ℕ × Dev → DevLine
tree_line t w e = record {
  depth = e.0;
  name = name_of t.setup e.1;
  parent = parent_name t.setup w.live e.1.parent;
  row = e.1.row;
  asleep = false;
  condemned = false;
  holders = [];
}

-- the whole tree, from the root's children on
unfoldable pub tree_lines : LiveSite → LiveWorld → List DevLine
tree_lines t w = map (tree_line t w) (tree_below (length w.live) w.live 0 0)
