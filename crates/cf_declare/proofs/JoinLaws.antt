-- What an instance joins names what is declared, and goes on doing so.
use Rattle.std.proofs.Common.{◌≡◌, ℕ, ◌<◌, ◌≤◌, Bool, true, false, Option, Some, None, List, [], ◌++◌, length, map, refl, ap, sym, ◌∙◌, length-append, arith}
use Rattle.std.specs.Prelude.{not, ◌==◌, bytes_eq, find, slice_get, is_some, ok_or, IfOk, IfSome, Ok, Err, if◌then◌else◌}
use Rattle.std.specs.List.{All, Contains, enumerate_from}
use Rattle.std.specs.Option.{option_map_or, option_to_list}
use Rattle.std.proofs.lemmas.Bool.{eqb-true}
use Rattle.std.proofs.lemmas.List.{length-map}
use Rattle.std.proofs.lemmas.List.Elements.{All-map, All-weaker, All-contains, All-contains_itself, All-nil}
use Rattle.std.proofs.lemmas.Option.{slice_get_within}
use Rattle.cf_types.specs.declared.code.configuration.TheConstants.{NO_INTERFACE, UNIT_ON_ATTRIBUTE}
use Rattle.cf_types.specs.declared.stmt.Stmt.{Stmt}
use Rattle.cf_types.specs.declared.stmt.AtSpec.{AtSpec}
use Rattle.cf_types.specs.declared.stmt.AtSpec.TheVariants as written
use Rattle.cf_types.specs.declared.stmt.GivenLoc.{GivenLoc}
use Rattle.cf_types.specs.declared.instance.Joined.{Joined}
use Rattle.cf_types.specs.declared.tables.Attr.{Attr}
use Rattle.cf_types.specs.declared.tables.Attach.{Attach}
use Rattle.cf_types.specs.declared.tables.Locator.{Locator}
use Rattle.cf_types.specs.declared.tables.ParentSpec.{ParentSpec}
use Rattle.cf_types.specs.declared.tables.Place.{Place}
use Rattle.cf_types.specs.declared.tables.Place.TheVariants.{Root, At}
use Rattle.cf_types.specs.Locators.{locators_at}
use Rattle.cf_types.specs.Offers.{is_interface}
use Rattle.cf_types.proofs.ListLemmas.{slice_get-append_front, all_at}
use Rattle.config_rules.specs.Declared.{Declared}
use Rattle.cf_types.specs.declared.instance.AttachPlace.{AttachPlace}
use Rattle.cf_types.specs.declared.instance.Target.TheVariants.{Below, On}
use Rattle.cf_types.specs.Lookups.{attr_number, device_number}
use Rattle.config_rules.specs.Joined.{spots_of, suits, attr_target, target_of, parent_of, device_or, attached, fill_fault, filled, fill, join}
use Rattle.config_rules.proofs.CutLaws.{if_bind}
use Rattle.config_rules.proofs.Parts.{ok_is}
use Rattle.cf_declare.specs.Declare.{new_attr, new_device, new_attach, declare}
use Rattle.cf_declare.specs.Sound.{IsOpen, SoundAttach, SoundDeclared}
use Rattle.cf_declare.specs.Instances.{IsSpotOf, SoundJoined}
use Rattle.cf_declare.proofs.ListFacts.{all_found, all_pieces, all_numbered, found_within}
use Rattle.cf_declare.proofs.SoundFacts.{open_within, place_more}

-- ---- what is joined

-- a spot is one of the device
abbrev IsSpot : List Attach → ℕ → AttachPlace → Type 0
IsSpot attaches device s = IsSpotOf attaches device s.attach s.place

-- the spots of one attachment
spots_at : (attaches : List Attach) (device number : ℕ) (a : Attach) → slice_get attaches number ≡ Some a → (own : Bool) → (a.device == device) ≡ own
    → All (IsSpot attaches device) (if own then map (λ place. record { attach = number; place = place }) a.places else [])
spots_at attaches device number a at false e = All-nil (IsSpot attaches device)
spots_at attaches device number a at true e =
    All-map (IsSpot attaches device) (λ place. record { attach = number; place = place }) a.places
    (All-weaker (Contains a.places) (IsSpotOf attaches device number) (λ place c. record { attach = a; has_number = at; is_of_device = eqb-true a.device device e; has_place = c }) a.places (All-contains_itself a.places))

-- the spots of a device are those of its attachments
spots_known : (d : Declared) (device : ℕ) → All (IsSpot d.attaches device) (spots_of d device)
spots_known d device =
    all_pieces (IsSpot d.attaches device) (λ a. if a.1.device == device then map (λ place. record { attach = a.0; place = place }) a.1.places else []) (enumerate_from 0 d.attaches)
    (All-weaker (λ e. slice_get d.attaches e.0 ≡ Some e.1) _ (λ e at. spots_at d.attaches device e.0 e.1 at (e.1.device == device) refl) (enumerate_from 0 d.attaches) (all_numbered [] d.attaches))

-- the place of such a spot is open
spot_open : (d : Declared) → SoundDeclared d → (device number : ℕ) (place : Place) → IsSpotOf d.attaches device number place → IsOpen d.attrs place
spot_open d sound device number place spot =
    let of_attach : SoundAttach d.attrs d.devices spot.attach = all_at (SoundAttach d.attrs d.devices) d.attaches number spot.attach sound.attaches_are_sound spot.has_number in
    All-contains (IsOpen d.attrs) spot.attach.places place of_attach.places_are_open spot.has_place

-- an attribute has no parent
on_attr : (d : Declared) (unit a : Option ℕ) → IfOk (attr_target d unit a) (λ t. IfSome (parent_of t) (λ p. p.device < length d.devices))
on_attr d unit None = tt
on_attr d unit (Some a) = by_tests (is_interface d.attrs a) (is_some unit)
  where
    by_tests : (open_one with_unit : Bool) → IfOk {E = ℕ} (if not open_one then Err NO_INTERFACE else (if with_unit then Err UNIT_ON_ATTRIBUTE else Ok (On a))) (λ t. IfSome (parent_of t) (λ p. p.device < length d.devices))
    by_tests true true = tt
    by_tests true false = tt
    by_tests false with_unit = tt

-- a parent is a device that is declared
by_device : (d : Declared) (base : List ℕ) (unit : Option ℕ) (o : Option ℕ) → device_number d.devices base ≡ o
    → IfOk (option_map_or (λ device. Ok (Below (record { device = device; unit = unit }))) o (attr_target d unit (attr_number d.attrs base))) (λ t. IfSome (parent_of t) (λ p. p.device < length d.devices))
by_device d base unit None e = on_attr d unit (attr_number d.attrs base)
by_device d base unit (Some device) e = found_within (λ x. bytes_eq x.name base) d.devices device e

-- so is that of what an instance joins
parent_known : (d : Declared) (at : AtSpec) → IfOk (target_of d at) (λ t. IfSome (parent_of t) (λ p. p.device < length d.devices))
parent_known d written.Root = tt
parent_known d (written.Named base unit) = by_device d base unit (device_number d.devices base) refl

-- one value for each locator, or a code
values_or : (locs : List Locator) (pairs : List GivenLoc) (o : Option ℕ) → IfOk (option_map_or (λ code. Err code) o (Ok (map (filled pairs) locs))) (λ vs. length vs ≡ length locs)
values_or locs pairs None = length-map locs (filled pairs)
values_or locs pairs (Some code) = tt

-- as many values as locators
as_many : (locs : List Locator) (pairs : List GivenLoc) → IfOk (fill locs pairs) (λ vs. length vs ≡ length locs)
unfolding fill
as_many locs pairs = values_or locs pairs (fill_fault locs pairs)

-- the value of an option that isn't refused
pub some_of : {A : Type 0} (o : Option A) (code : ℕ) (x : A) → ok_or o code ≡ Ok x → o ≡ Some x
some_of None code x h = absurd (cc)
some_of (Some y) code x h = let e : y ≡ x = cc in ap Some e

-- what an instance joins names what is declared
pub joined_sound : (d : Declared) → SoundDeclared d → (base : List ℕ) (at : AtSpec) (pairs : List GivenLoc) → IfOk (join d base at pairs) (SoundJoined d)
unfolding join
joined_sound d sound base at pairs =
    if_bind (SoundJoined d) (device_or d base) _ (λ device e1.
    if_bind (SoundJoined d) (attached d device) _ (λ one e2.
    if_bind (SoundJoined d) (target_of d at) _ (λ target e3.
    if_bind (SoundJoined d) (ok_or (find (λ s. suits d target s.place) (spots_of d device)) 12) _ (λ s e4.
    if_bind (SoundJoined d) (fill (locators_at d.attrs s.place) pairs) _ (λ locs e5.
    let spot : IsSpotOf d.attaches device s.attach s.place = all_found (IsSpot d.attaches device) (λ x. suits d target x.place) (spots_of d device) s (spots_known d device) (some_of _ 12 s e4) in
    record {
      has_device = found_within (λ x. bytes_eq x.name base) d.devices device (some_of (device_number d.devices base) 10 device e1);
      has_attach = spot;
      place_is_open = spot_open d sound device s.attach s.place spot;
      has_parent = ok_is (λ t. IfSome (parent_of t) (λ p. p.device < length d.devices)) (target_of d at) target (parent_known d at) e3;
      has_values = ok_is (λ vs. length vs ≡ length (locators_at d.attrs s.place)) (fill (locators_at d.attrs s.place) pairs) locs (as_many (locators_at d.attrs s.place) pairs) e5;
    })))))

-- ---- after one more statement

-- a parent stays a device
parent_more : (n more : ℕ) → n ≤ more → (parent : Option ParentSpec) → IfSome parent (λ p. p.device < n) → IfSome parent (λ p. p.device < more)
parent_more n more le None h = h
parent_more n more le (Some p) h = let below : p.device < n = h in omega arith

-- the locators of an open place stay
locators_more : (attrs more : List Attr) (place : Place) → IsOpen attrs place → locators_at (attrs ++ more) place ≡ locators_at attrs place
locators_more attrs more Root h = refl
locators_more attrs more (At a) h = ap (λ o. option_map_or (λ x. x.locs) o []) (slice_get-append_front attrs more a (open_within attrs a h))

-- what an instance joins goes on naming what is declared
pub joined_more : (d : Declared) (s : Stmt) (j : Joined) → SoundJoined d j → SoundJoined (declare d s) j
joined_more d s j sound =
    let device : j.device < length d.devices = sound.has_device in
    let more : length d.devices ≤ length (declare d s).devices = omega (arith, length-append d.devices (option_to_list (new_device d s))) in
    let spot = sound.has_attach in
    record {
      has_device = omega arith;
      has_attach = record {
        attach = spot.attach;
        has_number = slice_get-append_front d.attaches (option_to_list (new_attach d s)) j.attach (slice_get_within d.attaches j.attach spot.attach spot.has_number) ∙ spot.has_number;
        is_of_device = spot.is_of_device;
        has_place = spot.has_place;
      };
      place_is_open = place_more d.attrs (option_to_list (new_attr d s)) j.place sound.place_is_open;
      has_parent = parent_more (length d.devices) (length (declare d s).devices) more j.parent sound.has_parent;
      has_values = sound.has_values ∙ ap length (sym (locators_more d.attrs (option_to_list (new_attr d s)) j.place sound.place_is_open));
    }
