-- The turns of a scan, place by place.
use Rattle.std.specs.Prelude.{◌≡◌, ◌<◌, ℕ, Bool, true, false, not, ◌&&◌, ◌==◌, nat_lt, if◌then◌else◌, List, Option, Some, None, find, flat_map, length, map, reverse, MatchOption}
use Rattle.std.specs.List.{enumerate_from}
use Rattle.std.specs.Option.{option_map_or}
use Rattle.cf_types.specs.declared.machine.Machine.{Machine}
use Rattle.cf_types.specs.declared.tables.Place.{Place}
use Rattle.cf_types.specs.Numbers.{below}
use Rattle.cf_types.specs.declared.tables.Place.TheVariants.{At}
use Rattle.run_rules.specs.declared.world.Turn.{Turn}
use Rattle.run_rules.specs.World.{device_at}
use Rattle.run_rules.specs.Search.{bus_turns, child_spots, due, is_before, is_child, is_due, parent_offers, parent_ref, turns_at}
use Rattle.plain_world.specs.declared.rules.Rules.{Rules}
use Rattle.plain_search.specs.declared.turns.Bus.{Bus}
use Rattle.plain_search.specs.declared.turns.Going.{Going}
use Rattle.plain_world.specs.declared.world.Plain.{Plain}
use Rattle.plain_search.specs.declared.seeker.Seeker.{Seeker}
use Rattle.plain_search.specs.Open.{Follows}

-- a seeker that has counted the live devices may search for a scan, which has the live device of its serial and what rows call it
pub record MaySearch (k : Seeker) (p : Plain) (g : Going) : Type 0 where
  pub follows : Follows k p.live.devices
  pub device : g.device ≡ device_at p.live.devices g.serial
  pub parent : g.parent ≡ parent_ref k.rules.now p.live.devices g.serial

-- a bus says whether the device offers its place
abbrev pub IsOffered : Rules → Going → Bus → Type 0
IsOffered r g b = b.offered ≡ parent_offers r.tables g.parent b.place

-- a scan takes a turn that is due and not before its position
abbrev pub takes : Rules → Plain → Going → Turn → Bool
takes r p g t = not (is_before t.at g.from) && is_due r p.live.devices p.absent p.hidden g.serial g.filter.now t

-- the turn of a bus at a row and a spot
abbrev pub turn_on : Bus → ℕ → ℕ → Turn
turn_on b r x = record { at = record { attr = b.attr; row = r; spot = x }; place = b.place; indirect = b.indirect }

-- of all turns of a bus at a spot a scan takes this one alone
pub record IsTurnAt (r : Rules) (p : Plain) (g : Going) (b : Bus) (x : ℕ) (t : Turn) : Type 0 where
  pub is : t ≡ turn_on b t.at.row x
  pub within : t.at.row < length r.tables.rows
  pub taken : takes r p g (turn_on b t.at.row x) ≡ true
  pub others : (q : ℕ) → takes r p g (turn_on b q x) ≡ true → q ≡ t.at.row

-- the turn that a scan takes at a spot of a bus, if it takes one there
abbrev pub IsTurnOf : Rules → Plain → Going → Bus → ℕ → Option Turn → Type 0
IsTurnOf r p g b x turn = MatchOption turn ((row : ℕ) → takes r p g (turn_on b row x) ≡ false) (IsTurnAt r p g b x)

-- the first turn that a scan takes of those at a place of this number
abbrev pub taken_at : Rules → Plain → Going → ℕ → Place → Option Turn
taken_at r p g attr place = find (takes r p g) (turns_at r p.live.devices g.serial (attr, place))

-- the first due turn of a scan from its position on: of one attribute alone or of all
abbrev pub due_for : Rules → Plain → Going → Option ℕ → Option Turn
due_for r p g only = due r p.live.devices p.absent p.hidden g.serial only g.filter.now g.from

-- what the last style line for an attachment and an attribute says; direct without one
abbrev pub is_indirect_by : Machine → ℕ → ℕ → Bool
is_indirect_by m attach attr = option_map_or (λ line. line.indirect) (find (λ line. line.attach == attach && line.attr == attr) (reverse m.styles)) false

-- a scan takes the turn at a row and a spot, and the spot hangs below a parent at the place of the bus
abbrev pub takes_below : Rules → Plain → Going → Option ℕ → Bus → ℕ → ℕ → Bool
takes_below r p g parent b row x = is_child r.machine parent b.place x && takes r p g (turn_on b row x)

-- of the pairs of a row and a spot that pass a test this is the turn of the only one with the spot; it is of one of so many rows
pub record IsOnly (T : ℕ → ℕ → Bool) (turn : ℕ → ℕ → Turn) (rows x : ℕ) (t : Turn) : Type 0 where
  pub is : t ≡ turn t.at.row x
  pub within : t.at.row < rows
  pub passes : T t.at.row x ≡ true
  pub others : (q : ℕ) → T q x ≡ true → q ≡ t.at.row

-- or none passes
abbrev pub IsOnlyAt : (ℕ → ℕ → Bool) → (ℕ → ℕ → Turn) → ℕ → ℕ → Option Turn → Type 0
IsOnlyAt T turn rows x None = (r : ℕ) → T r x ≡ false
IsOnlyAt T turn rows x (Some t) = IsOnly T turn rows x t

-- of two turns the one of the earlier row, and of equals the first
abbrev pub better : Option Turn → Option Turn → Option Turn
better None t = t
better (Some b) None = Some b
better (Some b) (Some t) = if nat_lt t.at.row b.at.row then Some t else Some b

-- the turns of an indirect bus
abbrev pub row_turns : Rules → Option ℕ → Bus → List Turn
row_turns r parent b = flat_map (λ row. map (turn_on b row) (child_spots r.machine parent b.place)) (below (length r.tables.rows))

-- and of any bus
abbrev pub turns_on : Rules → Option ℕ → Bus → List Turn
turns_on r parent b = bus_turns r.machine (length r.tables.rows) b.indirect parent (b.attr, b.place)

-- those of these attributes, of which the first has this number
abbrev pub turns_among : Rules → Plain → ℕ → ℕ → List ℕ → List Turn
turns_among r p serial n attrs = flat_map (turns_at r p.live.devices serial) (enumerate_from n (map At attrs))
