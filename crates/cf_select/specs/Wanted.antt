-- What an instance waits for, and what it is for those that wait.
use Rattle.std.specs.Prelude.{◌≡◌, ℕ, Bool, true, false, ◌&&◌, ◌==◌, List, [], ◌∷◌, Option, Some, None, flat_map, map, slice_get}
use Rattle.std.specs.List.{slice_index_or}
use Rattle.std.specs.Option.{option_map_or}
use Rattle.cf_types.specs.declared.stmt.UnitMark.{UnitMark}
use Rattle.cf_types.specs.declared.stmt.UnitMark.TheVariants.{Fixed, Star}
use Rattle.cf_types.specs.declared.tables.ParentSpec.{ParentSpec}
use Rattle.cf_types.specs.declared.tables.Place.{Place}
use Rattle.cf_types.specs.declared.tables.Place.TheVariants.{Root, At}
use Rattle.config_rules.specs.Select as select
use Rattle.std.specs.HashMap.{HashMap}
use Rattle.cf_select.specs.contracts.want.WantPartialEq.TheImpl as block
use Rattle.cf_select.specs.Places.{holds}
use Rattle.cf_select.specs.declared.want.Carrier.{Carrier}
use Rattle.cf_select.specs.declared.want.Carrier.TheVariants as carrier
use Rattle.cf_select.specs.declared.want.Want.{Want}

-- the place is at the attribute
abbrev pub is_at : ℕ → Place → Bool
is_at attr Root = false
is_at attr (At a) = a == attr

-- no unit is named, or one
abbrev pub asks_any : Option ℕ → Bool
asks_any None = true
asks_any (Some unit) = false

abbrev pub asks_one : Option ℕ → Bool
asks_one None = false
asks_one (Some unit) = true

abbrev pub asks_for : ℕ → Option ℕ → Bool
asks_for u None = false
asks_for u (Some unit) = unit == u

-- who names no parent asks for any carrier; who names one, for one of that device, or for a starred one and for that unit
abbrev pub asks : Option ParentSpec → Carrier → Bool
asks None carrier.Any = true
asks None (carrier.Of d) = false
asks None (carrier.Starred d) = false
asks None (carrier.Unit d u) = false
asks (Some p) carrier.Any = false
asks (Some p) (carrier.Of d) = p.device == d && asks_any p.unit
asks (Some p) (carrier.Starred d) = p.device == d && asks_one p.unit
asks (Some p) (carrier.Unit d u) = p.device == d && asks_for u p.unit

-- an instance waits for a carrier that offers the attribute
abbrev pub wants : select.Inst → Want → Bool
wants i q = is_at q.attr i.place && asks i.parent q.carrier

abbrev pub wants_at : List select.Inst → Want → ℕ → Bool
wants_at insts q place = option_map_or (λ i. wants i q) (slice_get insts place) false

-- the starred carriers of a device, or those of a unit
abbrev pub own_of : ℕ → UnitMark → Carrier
own_of device Star = carrier.Starred device
own_of device (Fixed unit) = carrier.Unit device unit

-- what an instance is for those that ask
abbrev pub carriers_of : select.Inst → List Carrier
carriers_of i = carrier.Any ∷ carrier.Of i.device ∷ own_of i.device i.mark ∷ []

-- the instance is among those that wait
abbrev pub waits : {S : Type 0} → HashMap Want (List ℕ) S → Want → ℕ → Bool
waits waiting q place = holds block.ghosts.eq waiting q place

-- each attribute that somebody waits for is noted
abbrev pub AreNoted : {S : Type 0} → HashMap Want (List ℕ) S → List Bool → Type 0
AreNoted lists noted = (q : Want) (x : ℕ) → waits lists q x ≡ true → slice_index_or noted q.attr false ≡ true

-- what an instance serves by attributes that it offers
abbrev pub wants_of : select.Inst → List ℕ → List Want
wants_of i attrs = flat_map (λ a. map (λ c. record { attr = a; carrier = c }) (carriers_of i)) attrs
