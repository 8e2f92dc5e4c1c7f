-- Short forms for the inputs of a worked run and for events, with names as text.
use Prim.Native.String.{String}
use Rattle.std.proofs.Common.{ℕ, Bool, true, false, List, [], Option, Some, codes}
use Rattle.std.specs.Prelude.{ℤ, pos, negsuc}
use Rattle.cf_types.specs.declared.machine.Given.{Given}
use Rattle.cf_types.specs.declared.machine.MatchLine.{MatchLine}
use Rattle.cf_types.specs.declared.machine.Spot.{Spot}
use Rattle.cf_types.specs.declared.machine.StyleLine.{StyleLine}
use Rattle.cf_types.specs.declared.tables.Attach.{Attach}
use Rattle.cf_types.specs.declared.tables.Attr.{Attr}
use Rattle.cf_types.specs.declared.tables.Device.{Device}
use Rattle.cf_types.specs.declared.tables.Locator.{Locator}
use Rattle.cf_types.specs.declared.tables.ParentSpec.{ParentSpec}
use Rattle.cf_types.specs.declared.tables.Place.{Place}
use Rattle.cf_types.specs.declared.tables.Row.{Row}
use Rattle.cf_types.specs.declared.tables.Tables.{Tables}
use Rattle.run_rules.specs.declared.event.Act.{Act}
use Rattle.run_rules.specs.declared.event.Event.{Event}
use Rattle.run_rules.specs.declared.event.Got.{Got}
use Rattle.run_rules.specs.declared.event.Shown.{Shown}

-- ---- tables

abbrev pub tables_of : List Attr → List Device → List Attach → List Row → Tables
tables_of attrs devices attaches rows = record {
  attrs = attrs;
  devices = devices;
  attaches = attaches;
  rows = rows;
  pseudos = [];
  options = [];
  makeoptions = [];
  file_systems = [];
  warnings = [];
}

-- an optional locator with the default -1
abbrev pub locator : String → Locator
locator name = record { name = codes name; default = Some (negsuc 0); optional = true }

-- an interface attribute, its locators, and the attributes that it names
abbrev pub attr : String → List Locator → List ℕ → Attr
attr name locs needs = record { name = codes name; iface = true; class = false; pseudo = false; locs = locs; needs = needs }

-- its name, its own attribute, and those that it names
abbrev pub device : String → Option ℕ → List ℕ → Device
device name own needs = record { name = codes name; own = own; needs = needs }

abbrev pub attach : String → ℕ → List Place → Attach
attach name device places = record { name = codes name; device = device; places = places; needs = [] }

-- its device, unit and star, its attachment and place, the parent that it names, and its locator values
abbrev pub row : ℕ → ℕ → Bool → ℕ → Place → Option ParentSpec → List ℤ → Row
row d u s by at of locs = record { device = d; unit = u; star = s; attach = by; place = at; parent = of; locs = locs; flags = pos 0 }

abbrev pub parent : ℕ → Option ℕ → ParentSpec
parent device unit = record { device = device; unit = unit }

-- ---- machines and commands

abbrev pub spot : String → Option ℕ → Place → List ℤ → Spot
spot name of at found = record { name = codes name; parent = of; place = at; found = found; late = false; absent = false; bad = false }

abbrev pub late : Spot → Spot
late s = record s { late = true }

abbrev pub absent : Spot → Spot
absent s = record s { absent = true }

abbrev pub bad : Spot → Spot
bad s = record s { bad = true }

abbrev pub match_line : ℕ → Option ℕ → ℕ → MatchLine
match_line attach spot value = record { attach = attach; spot = spot; value = value }

abbrev pub style : ℕ → ℕ → Bool → StyleLine
style attach attr indirect = record { attach = attach; attr = attr; indirect = indirect }

abbrev pub given : String → ℤ → Given
given name value = record { name = codes name; value = value }

-- ---- events

-- the caller, the number of its command, and the act
abbrev pub event : ℕ → ℕ → Act → Event
event caller number act = record { caller = caller; number = number; act = act }

-- a device that came, and its row
abbrev pub got : String → ℕ → Got
got name row = record { name = codes name; row = row }

-- a late spot that was shown, and what came there
abbrev pub shown : String → Option Got → Shown
shown spot got = record { spot = codes spot; got = got }
