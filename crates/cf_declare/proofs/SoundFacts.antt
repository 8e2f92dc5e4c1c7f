-- Sound declarations stay sound with one more attribute, device or attachment.
use Rattle.std.proofs.Common.{◌≡◌, ℕ, ◌+◌, ◌<◌, ◌≤◌, zero, suc, true, false, ◌⊎◌, inl, inr, Option, Some, None, List, [], ◌∷◌, ◌++◌, length, refl, ap, sym, ◌∙◌, subst, arith}
use Rattle.std.specs.Prelude.{bytes_eq, IfSome, if◌then◌else◌}
use Rattle.std.specs.List.{All}
use Rattle.std.specs.Option.{option_map_or}
use Rattle.std.proofs.lemmas.List.{map_push, length-map, length_push}
use Rattle.std.proofs.lemmas.List.Elements.{All-cons, All-append, All-push, All-weaker, All-nil}
use Rattle.cf_types.specs.declared.tables.Attr.{Attr}
use Rattle.cf_types.specs.declared.tables.Device.{Device}
use Rattle.cf_types.specs.declared.tables.Attach.{Attach}
use Rattle.cf_types.specs.declared.tables.Place.{Place}
use Rattle.cf_types.specs.declared.tables.Place.TheVariants.{Root, At}
use Rattle.cf_types.specs.Offers.{Node, AreEarlier, node_of, nodes_of, interfaces_of, is_interface, named_by}
use Rattle.cf_types.proofs.OfferLemmas.{interfaces_kept, earlier_more}
use Rattle.cf_types.specs.Lookups.{has_attach}
use Rattle.config_rules.specs.Declared.{Declared}
use Rattle.config_rules.specs.Fault.{has_attr, has_device}
use Rattle.cf_declare.specs.Sound.{AreAttrs, IsOpen, NamesDiffer, SoundDevice, SoundAttach, SoundDeclared}
use Rattle.cf_declare.proofs.ListFacts.{position_found}
use Rattle.cf_declare.proofs.NameFacts.{differ_push}
use Rattle.cf_declare.proofs.OfferFacts.{offers_new}

-- ---- nothing is declared

-- where there are no names, they differ
no_names : {X : Type 0} (name_of : X → List ℕ) → NamesDiffer name_of []
no_names name_of = λ i j d p q. absurd (omega arith)

-- where nothing is declared, it is sound
pub sound_nothing : SoundDeclared (record { attrs = []; devices = []; attaches = [] })
sound_nothing = record {
  needs_are_earlier = record { earlier = λ a. All-nil (λ b. b < a) };
  attrs_offer_few = λ a h. absurd (omega arith);
  locators_differ = All-nil (λ x. NamesDiffer (λ l. l.name) x.locs);
  devices_are_sound = All-nil (SoundDevice []);
  attaches_are_sound = All-nil (SoundAttach [] []);
  attr_names_differ = no_names (λ a. a.name);
  device_names_differ = no_names (λ x. x.name);
  attach_names_differ = no_names (λ a. a.name);
}

-- ---- numbers and places with one more attribute

-- numbers of attributes stay numbers of attributes
pub attrs_more : (attrs : List Attr) (x : Attr) (numbers : List ℕ) → AreAttrs attrs numbers → AreAttrs (attrs ++ x ∷ []) numbers
attrs_more attrs x numbers h = All-weaker (λ a. a < length attrs) (λ a. a < length (attrs ++ x ∷ [])) (λ a p. omega (arith, length_push attrs x)) numbers h

-- numbers of attributes are numbers of nodes
attrs_nodes : (attrs : List Attr) (numbers : List ℕ) → AreAttrs attrs numbers → All (λ b. b < length (nodes_of attrs)) numbers
attrs_nodes attrs numbers h = subst (λ (n : ℕ). All (λ b. b < n) numbers) (sym (length-map attrs node_of)) h

-- an interface attribute has a number
pub open_within : (attrs : List Attr) (a : ℕ) → is_interface attrs a ≡ true → a < length attrs
open_within [] a h = absurd (cc)
open_within (x ∷ attrs) zero h = omega arith
open_within (x ∷ attrs) (suc a) h = let p : a < length attrs = open_within attrs a h in omega arith

-- an interface attribute stays one
pub open_more : (attrs more : List Attr) (a : ℕ) → is_interface attrs a ≡ true → is_interface (attrs ++ more) a ≡ true
open_more [] more a h = absurd (cc)
open_more (y ∷ attrs) more zero h = h
open_more (y ∷ attrs) more (suc a) h = open_more attrs more a h

-- the new attribute has the next number
pub open_new : (attrs : List Attr) (x : Attr) → is_interface (attrs ++ x ∷ []) (length attrs) ≡ x.iface
open_new [] x = refl
open_new (y ∷ attrs) x = open_new attrs x

-- a place that is open stays open
pub place_more : (attrs more : List Attr) (p : Place) → IsOpen attrs p → IsOpen (attrs ++ more) p
place_more attrs more Root h = h
place_more attrs more (At a) h = open_more attrs more a h

-- what attributes offer stays
pub offers_kept : (attrs : List Attr) (x : Attr) → AreEarlier (nodes_of attrs) → (names : List ℕ) → AreAttrs attrs names → interfaces_of (nodes_of (attrs ++ x ∷ [])) names ≡ interfaces_of (nodes_of attrs) names
offers_kept attrs x e names h = ap (λ ns. interfaces_of ns names) (map_push node_of attrs x) ∙ interfaces_kept (nodes_of attrs) e (node_of x) names (attrs_nodes attrs names h)

-- the own attribute of a device, as a list
own_within : (attrs : List Attr) (own : Option ℕ) → IfSome own (λ a. is_interface attrs a ≡ true) → AreAttrs attrs (option_map_or (λ a. a ∷ []) own [])
own_within attrs None h = All-nil (λ a. a < length attrs)
own_within attrs (Some a) h = All-cons (λ b. b < length attrs) a [] (open_within attrs a h) (All-nil (λ b. b < length attrs))

-- the own attribute of a device stays an interface attribute
own_more : (attrs : List Attr) (x : Attr) (own : Option ℕ) → IfSome own (λ a. is_interface attrs a ≡ true) → IfSome own (λ a. is_interface (attrs ++ x ∷ []) a ≡ true)
own_more attrs x None h = h
own_more attrs x (Some a) h = open_more attrs (x ∷ []) a h

-- a device stays sound with one more attribute
device_more : (attrs : List Attr) (x : Attr) → AreEarlier (nodes_of attrs) → (y : Device) → SoundDevice attrs y → SoundDevice (attrs ++ x ∷ []) y
device_more attrs x e y s =
    let named : AreAttrs attrs (named_by y) = All-append (λ a. a < length attrs) (option_map_or (λ a. a ∷ []) y.own []) y.needs (own_within attrs y.own s.own_is_open) s.names_attrs in
    record {
      names_attrs = attrs_more attrs x y.needs s.names_attrs;
      own_is_open = own_more attrs x y.own s.own_is_open;
      offers_few = subst (λ (xs : List ℕ). length xs ≤ 64) (sym (offers_kept attrs x e (named_by y) named)) s.offers_few;
    }

-- an attachment stays sound with one more attribute
attach_more_attrs : (attrs : List Attr) (x : Attr) (devices : List Device) (y : Attach) → SoundAttach attrs devices y → SoundAttach (attrs ++ x ∷ []) devices y
attach_more_attrs attrs x devices y s = record {
  has_device = s.has_device;
  places_are_open = All-weaker (IsOpen attrs) (IsOpen (attrs ++ x ∷ [])) (place_more attrs (x ∷ [])) y.places s.places_are_open;
  names_attrs = attrs_more attrs x y.needs s.names_attrs;
}

-- and with one more device
attach_more_devices : (attrs : List Attr) (devices : List Device) (x : Device) (y : Attach) → SoundAttach attrs devices y → SoundAttach attrs (devices ++ x ∷ []) y
attach_more_devices attrs devices x y s =
    let below : y.device < length devices = s.has_device in
    record {
      has_device = omega (arith, length_push devices x);
      places_are_open = s.places_are_open;
      names_attrs = s.names_attrs;
    }

-- ---- one more of each

-- a new attribute offers itself, where it is an interface attribute, and what those that it names offer
few_at : (attrs : List Attr) (x : Attr) → AreEarlier (nodes_of attrs) → ((a : ℕ) → a < length attrs → length (interfaces_of (nodes_of attrs) (a ∷ [])) ≤ 64)
    → AreAttrs attrs x.needs → (if x.iface then 1 else 0) + length (interfaces_of (nodes_of attrs) x.needs) ≤ 64
    → (a : ℕ) → a < length (attrs ++ x ∷ []) → (a < length attrs) ⊎ (length attrs ≤ a) → length (interfaces_of (nodes_of (attrs ++ x ∷ [])) (a ∷ [])) ≤ 64
few_at attrs x e few needs limit a h (inl p) =
    subst (λ (xs : List ℕ). length xs ≤ 64) (sym (offers_kept attrs x e (a ∷ []) (All-cons (λ b. b < length attrs) a [] p (All-nil (λ b. b < length attrs))))) (few a p)
few_at attrs x e few needs limit a h (inr p) =
    let nodes = nodes_of attrs in
    let same : a ≡ length nodes = omega (arith, length_push attrs x, length-map attrs node_of) in
    let new : length (interfaces_of (nodes ++ node_of x ∷ []) (length nodes ∷ [])) ≤ (if x.iface then 1 else 0) + length (interfaces_of nodes x.needs) = offers_new nodes e (node_of x) (attrs_nodes attrs x.needs needs) in
    let short : length (interfaces_of (nodes ++ node_of x ∷ []) (length nodes ∷ [])) ≤ 64 = omega arith in
    subst (λ (ns : List Node). length (interfaces_of ns (a ∷ [])) ≤ 64) (sym (map_push node_of attrs x))
    (subst (λ (k : ℕ). length (interfaces_of (nodes ++ node_of x ∷ []) (k ∷ [])) ≤ 64) (sym same) short)

-- one more attribute
pub sound_attr : (d : Declared) (x : Attr) → SoundDeclared d → AreAttrs d.attrs x.needs → NamesDiffer (λ l. l.name) x.locs
    → (if x.iface then 1 else 0) + length (interfaces_of (nodes_of d.attrs) x.needs) ≤ 64 → has_attr d x.name ≡ false
    → SoundDeclared (record { attrs = d.attrs ++ x ∷ []; devices = d.devices; attaches = d.attaches })
sound_attr d x s needs locs limit new = record {
  needs_are_earlier = subst (λ (ns : List Node). AreEarlier ns) (sym (map_push node_of d.attrs x)) (earlier_more (nodes_of d.attrs) (node_of x) s.needs_are_earlier (attrs_nodes d.attrs x.needs needs));
  attrs_offer_few = λ a h. few_at d.attrs x s.needs_are_earlier s.attrs_offer_few needs limit a h (grind arith);
  locators_differ = All-push (λ y. NamesDiffer (λ l. l.name) y.locs) d.attrs x s.locators_differ locs;
  devices_are_sound = All-weaker (SoundDevice d.attrs) (SoundDevice (d.attrs ++ x ∷ [])) (device_more d.attrs x s.needs_are_earlier) d.devices s.devices_are_sound;
  attaches_are_sound = All-weaker (SoundAttach d.attrs d.devices) (SoundAttach (d.attrs ++ x ∷ []) d.devices) (attach_more_attrs d.attrs x d.devices) d.attaches s.attaches_are_sound;
  attr_names_differ = differ_push (λ a. a.name) d.attrs x s.attr_names_differ (sym (position_found (λ a. bytes_eq a.name x.name) d.attrs) ∙ new);
  device_names_differ = s.device_names_differ;
  attach_names_differ = s.attach_names_differ;
}

-- one more device
pub sound_device : (d : Declared) (x : Device) → SoundDeclared d → SoundDevice d.attrs x → has_device d x.name ≡ false
    → SoundDeclared (record { attrs = d.attrs; devices = d.devices ++ x ∷ []; attaches = d.attaches })
sound_device d x s sound new = record {
  needs_are_earlier = s.needs_are_earlier;
  attrs_offer_few = s.attrs_offer_few;
  locators_differ = s.locators_differ;
  devices_are_sound = All-push (SoundDevice d.attrs) d.devices x s.devices_are_sound sound;
  attaches_are_sound = All-weaker (SoundAttach d.attrs d.devices) (SoundAttach d.attrs (d.devices ++ x ∷ [])) (attach_more_devices d.attrs d.devices x) d.attaches s.attaches_are_sound;
  attr_names_differ = s.attr_names_differ;
  device_names_differ = differ_push (λ y. y.name) d.devices x s.device_names_differ (sym (position_found (λ y. bytes_eq y.name x.name) d.devices) ∙ new);
  attach_names_differ = s.attach_names_differ;
}

-- one more attachment
pub sound_attach : (d : Declared) (x : Attach) → SoundDeclared d → SoundAttach d.attrs d.devices x → has_attach d.attaches x.name ≡ false
    → SoundDeclared (record { attrs = d.attrs; devices = d.devices; attaches = d.attaches ++ x ∷ [] })
sound_attach d x s sound new = record {
  needs_are_earlier = s.needs_are_earlier;
  attrs_offer_few = s.attrs_offer_few;
  locators_differ = s.locators_differ;
  devices_are_sound = s.devices_are_sound;
  attaches_are_sound = All-push (SoundAttach d.attrs d.devices) d.attaches x s.attaches_are_sound sound;
  attr_names_differ = s.attr_names_differ;
  device_names_differ = s.device_names_differ;
  attach_names_differ = differ_push (λ a. a.name) d.attaches x s.attach_names_differ new;
}
