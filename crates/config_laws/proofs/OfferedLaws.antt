-- What the declarations of a configuration without a code name and offer.
use Rattle.std.proofs.Common.{◌≡◌, ℕ, ◌<◌, ◌≤◌, suc, zero, true, false, ◌⊎◌, inl, inr, Option, Some, None, List, [], ◌∷◌, ◌++◌, length, map, refl, ap, arith}
use Rattle.std.specs.Prelude.{IfSome, filter, slice_get}
use Rattle.std.specs.List.{All, list_all}
use Rattle.std.specs.Option.{option_map_or}
use Rattle.std.proofs.lemmas.Bool.{and_from}
use Rattle.std.proofs.lemmas.List.{length-map}
use Rattle.std.proofs.lemmas.List.Elements.{All-head, All-tail, All-weaker}
use Rattle.std.proofs.lemmas.Option.{slice_get_past}
use Rattle.cf_types.proofs.ListLemmas.{all_at}
use Rattle.cf_types.specs.declared.tables.Attr.{Attr}
use Rattle.cf_types.specs.declared.tables.Device.{Device}
use Rattle.cf_types.specs.declared.tables.Locator.{Locator}
use Rattle.cf_types.specs.declared.tables.Place.{Place}
use Rattle.cf_types.specs.declared.tables.Place.TheVariants.{Root, At}
use Rattle.cf_types.specs.Offers.{Node, firsts, interfaces, interfaces_of, is_interface, is_interface_node, named_by, needs_at, node_of, nodes_of, walk}
use Rattle.config_rules.specs.Declared.{Declared}
use Rattle.config_rules.specs.Formed.{is_place}
use Rattle.config_rules.specs.MachineText.{differ}
use Rattle.cf_declare.specs.Sound.{IsOpen, NamesDiffer, SoundAttach, SoundDevice, SoundDeclared}
use Rattle.cf_declare.proofs.SoundFacts.{open_within}
use Rattle.config_laws.proofs.FreeLaws.{names_differ}

-- ---- interface lists

-- a number that is none of an attribute offers nothing
offers_nothing : (nodes : List Node) (a : ℕ) → length nodes ≤ a → length (interfaces_of nodes (a ∷ [])) ≡ 0
unfolding interfaces_of firsts walk
offers_nothing nodes a h = by_steps (length nodes)
  where
    shut : is_interface_node nodes a ≡ false
    shut = ap (λ o. option_map_or (λ x. x.iface) o false) (slice_get_past nodes a h)

    alone : needs_at nodes a ≡ []
    alone = ap (λ o. option_map_or (λ x. x.needs) o []) (slice_get_past nodes a h)

    by_steps : (n : ℕ) → length (firsts (filter (is_interface_node nodes) (walk n nodes a ++ []))) ≡ 0
    by_steps zero = refl
    by_steps (suc n) = rw (alone, shut) refl

-- so the interface list of every number is short
pub few_offered : (d : Declared) → SoundDeclared d → (a : ℕ) → length (interfaces_of (nodes_of d.attrs) (a ∷ [])) ≤ 64
few_offered d sound a = by_size (grind arith)
  where
    by_size : (a < length d.attrs) ⊎ (length d.attrs ≤ a) → length (interfaces_of (nodes_of d.attrs) (a ∷ [])) ≤ 64
    by_size (inl within) = sound.attrs_offer_few a within
    by_size (inr beyond) = omega (arith, offers_nothing (nodes_of d.attrs) a (omega (arith, length-map d.attrs node_of)))

-- and that of every device
pub few_by_device : (d : Declared) → SoundDeclared d → (n : ℕ) → length (interfaces d.attrs d.devices n) ≤ 64
unfolding interfaces
few_by_device d sound n = by_device (slice_get d.devices n) refl
  where
    by_device : (o : Option Device) → slice_get d.devices n ≡ o → length (option_map_or (λ x. interfaces_of (nodes_of d.attrs) (named_by x)) o []) ≤ 64
    by_device None e = omega arith
    by_device (Some x) e = let one : SoundDevice d.attrs x = all_at (SoundDevice d.attrs) d.devices n x sound.devices_are_sound e in one.offers_few

-- ---- numbers

-- the own attribute of a device is one
pub own_within : (d : Declared) → SoundDeclared d → All (λ x. IfSome x.own (λ a. a < length d.attrs)) d.devices
own_within d sound = All-weaker (SoundDevice d.attrs) (λ x. IfSome x.own (λ a. a < length d.attrs)) (λ x one. by_own x.own one.own_is_open) d.devices sound.devices_are_sound
  where
    by_own : (o : Option ℕ) → IfSome o (λ a. is_interface d.attrs a ≡ true) → IfSome o (λ a. a < length d.attrs)
    by_own None h = tt
    by_own (Some a) h = open_within d.attrs a h

-- places that are open pass the test
open_places : (attrs : List Attr) (places : List Place) → All (IsOpen attrs) places → list_all (is_place attrs) places ≡ true
open_places attrs [] h = refl
open_places attrs (p ∷ places) h =
    and_from (is_place attrs p) (list_all (is_place attrs) places) (one p (All-head (IsOpen attrs) p places h)) (open_places attrs places (All-tail (IsOpen attrs) p places h))
  where
    one : (q : Place) → IsOpen attrs q → is_place attrs q ≡ true
    one Root h = refl
    one (At a) h = h

pub places_open : (d : Declared) → SoundDeclared d → All (λ x. list_all (is_place d.attrs) x.places ≡ true) d.attaches
places_open d sound =
    All-weaker (SoundAttach d.attrs d.devices) (λ x. list_all (is_place d.attrs) x.places ≡ true) (λ x one. open_places d.attrs x.places one.places_are_open) d.attaches sound.attaches_are_sound

-- ---- locators

pub locators_differ : (d : Declared) → SoundDeclared d → All (λ a. differ (map (λ l. l.name) a.locs) ≡ true) d.attrs
locators_differ d sound =
    All-weaker (λ (a : Attr). NamesDiffer (λ l. l.name) a.locs) (λ a. differ (map (λ l. l.name) a.locs) ≡ true) (λ a h. names_differ (λ (l : Locator). l.name) a.locs h) d.attrs sound.locators_differ
