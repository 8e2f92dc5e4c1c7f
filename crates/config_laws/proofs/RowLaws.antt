-- The rows of instances that join what is declared are formed.
use Rattle.std.proofs.Common.{◌≡◌, ℕ, ◌<◌, ◌≤◌, Bool, true, false, ◌&&◌, Option, Some, None, List, length, get_or, refl, ap, sym, ◌∙◌, subst, arith}
use Rattle.std.specs.Prelude.{Contains, IfSome, filter, filter_map, not, slice_get, is_some, unwrap_or, ◌==◌, if◌then◌else◌}
use Rattle.std.specs.List.{All}
use Rattle.std.specs.Option.{option_map_or}
use Rattle.std.proofs.lemmas.Bool.{eqb-true, eq-eqb}
use Rattle.std.proofs.lemmas.List.Elements.{All-filter, All-map, All-weaker, filter_passes}
use Rattle.cf_types.specs.Locators.{locators_at}
use Rattle.cf_types.specs.Numbers.{below}
use Rattle.cf_types.specs.declared.instance.Instance.{Instance}
use Rattle.cf_types.specs.declared.tables.Attach.{Attach}
use Rattle.cf_types.specs.declared.tables.Place.{Place}
use Rattle.cf_types.specs.declared.tables.Row.{Row}
use Rattle.cf_types.specs.declared.tables.Tables.{Tables}
use Rattle.config_rules.specs.Declared.{Declared}
use Rattle.config_rules.specs.Formed.{FormedRow, fixed_units}
use Rattle.config_rules.specs.Meaning.{device_rows, first_unit, in_order, row, rows_of, own_unit}
use Rattle.cf_declare.specs.Instances.{SoundJoined}
use Rattle.cf_declare.proofs.ListFacts.{all_pieces}
use Rattle.cf_rows.specs.Rows.{UnitFits}
use Rattle.config_laws.proofs.InstanceLaws.{IsAlone}
use Rattle.config_laws.proofs.ListLaws.{all_given, all_givers, all_mapped, all_passing, all_piece, number_below}
use Rattle.config_laws.proofs.OrderLaws.{order_complete, order_kept}
use Rattle.config_laws.proofs.UnitLaws.{below_first, same_first}

-- the instances of a device
abbrev pub own : List Instance → ℕ → List Instance
own insts device = filter (λ i. i.joined.device == device) insts

-- the first unit of its starred rows
abbrev pub first_of : List Instance → ℕ → ℕ
first_of insts device = first_unit (filter_map own_unit (own insts device))

-- what holds of the rows of each instance holds of all rows
pub rows_all : (P : Row → Type 0) (n : ℕ) (insts : List Instance) → ((device : ℕ) → All (λ i. P (row (first_of insts device) i)) (own insts device)) → All P (rows_of n insts)
unfolding rows_of
rows_all P n insts h =
    all_pieces P (device_rows insts) (below n) (λ k d lt.
    let device = get_or (below n) k d in
    All-map P (row (first_of insts device)) (in_order (own insts device)) (order_kept (λ i. P (row (first_of insts device) i)) (own insts device) (h device)))

-- what holds of all rows holds of the rows of each instance
pub own_all : (P : Row → Type 0) (n : ℕ) (insts : List Instance) (device : ℕ) → device < n → All P (rows_of n insts) → All (λ i. P (row (first_of insts device) i)) (own insts device)
unfolding rows_of
own_all P n insts device lt h =
    let piece : All P (device_rows insts device) = number_below (λ k. All P (device_rows insts k)) n device lt (all_piece P (device_rows insts) (below n) h) in
    order_complete (λ i. P (row (first_of insts device) i)) (own insts device) (all_mapped P (row (first_of insts device)) (in_order (own insts device)) piece)

-- ---- the first unit

-- a row of the device without star
abbrev fixed_of : ℕ → Row → Option ℕ
fixed_of device r = if not r.star && r.device == device then Some r.unit else None

by_unit : (P : ℕ → Type 0) (o : Option ℕ) (first : ℕ) → IfSome o P → IfSome (if not (not (is_some o)) && true then Some (unwrap_or o first) else None) P
by_unit P None first h = tt
by_unit P (Some u) first h = h

of_unit : (P : ℕ → Type 0) (o : Option ℕ) (first : ℕ) → IfSome (if not (not (is_some o)) && true then Some (unwrap_or o first) else None) P → IfSome o P
of_unit P None first h = tt
of_unit P (Some u) first h = h

no_unit : (P : ℕ → Type 0) (b : Bool) (u : ℕ) → IfSome (if b && false then Some u else None) P
no_unit P true u = tt
no_unit P false u = tt

-- the row of an instance, by whether it is one of the device
row_fixed : (P : ℕ → Type 0) (device first : ℕ) (i : Instance) (b : Bool) → (i.joined.device == device) ≡ b → (b ≡ true → IfSome (own_unit i) P) → IfSome (fixed_of device (row first i)) P
row_fixed P device first i true e h = rw e (by_unit P (own_unit i) first (h refl))
row_fixed P device first i false e h = rw e (no_unit P (not (not (is_some (own_unit i)))) (unwrap_or (own_unit i) first))

own_fixed : (P : ℕ → Type 0) (device first : ℕ) (i : Instance) → (i.joined.device == device) ≡ true → IfSome (fixed_of device (row first i)) P → IfSome (own_unit i) P
own_fixed P device first i e h = of_unit P (own_unit i) first (rw e at h)

-- the rows of a device have the units of its instances
pub same_starred : (n : ℕ) (insts : List Instance) (device : ℕ) → device < n → first_of insts device ≡ first_unit (fixed_units (rows_of n insts) device)
same_starred n insts device lt =
    let rows = rows_of n insts in
    let mine = own insts device in
    let Below : ℕ → Type 0 = λ u. u < first_of insts device in
    let Under : ℕ → Type 0 = λ u. u < first_unit (fixed_units rows device) in
    let mine_below : All (λ i. IfSome (own_unit i) Below) mine = all_givers Below own_unit mine (below_first (filter_map own_unit mine)) in
    let all_below : All (λ i. (i.joined.device == device) ≡ true → IfSome (own_unit i) Below) insts = all_passing (λ i. IfSome (own_unit i) Below) (λ i. i.joined.device == device) insts mine_below in
    let rows_below : All (λ r. IfSome (fixed_of device r) Below) rows =
    rows_all (λ r. IfSome (fixed_of device r) Below) n insts (λ k.
    All-weaker (λ i. (i.joined.device == device) ≡ true → IfSome (own_unit i) Below) (λ i. IfSome (fixed_of device (row (first_of insts k) i)) Below) (λ i h. row_fixed Below device (first_of insts k) i (i.joined.device == device) refl h)
    (own insts k) (All-filter (λ (i : Instance). i.joined.device == k) (λ i. (i.joined.device == device) ≡ true → IfSome (own_unit i) Below) insts all_below)) in
    let rows_under : All (λ r. IfSome (fixed_of device r) Under) rows = all_givers Under (fixed_of device) rows (below_first (fixed_units rows device)) in
    let own_rows : All (λ i. IfSome (fixed_of device (row (first_of insts device) i)) Under) mine = own_all (λ r. IfSome (fixed_of device r) Under) n insts device lt rows_under in
    let passes : All (λ i. (i.joined.device == device) ≡ true) mine = filter_passes (λ (i : Instance). i.joined.device == device) insts in
    let mine_under : All (λ i. IfSome (own_unit i) Under) mine = λ k d at. own_fixed Under device (first_of insts device) (get_or mine k d) (passes k d at) (own_rows k d at) in
    same_first (filter_map own_unit mine) (fixed_units rows device) (all_given Under own_unit mine mine_under) (all_given Below (fixed_of device) rows rows_below)

-- ---- the parts of a row

-- an instance that joins what is declared, with a unit in range, and without a parent at the root
pub record IsSound (d : Declared) (i : Instance) : Type 0 where
  pub joins : SoundJoined d i.joined
  pub fits : UnitFits i
  pub alone : IsAlone i.joined

attach_is : (device : ℕ) (o : Option Attach) (a : Attach) → o ≡ Some a → a.device ≡ device → option_map_or (λ x. x.device == device) o false ≡ true
attach_is device o a e same = rw e (eq-eqb a.device device same)

place_is : (place : Place) (o : Option Attach) (a : Attach) → o ≡ Some a → Contains a.places place → IfSome o (λ x. Contains x.places place)
place_is place o a e h = rw e h

unit_fits : (o : Option ℕ) (first : ℕ) → IfSome o (λ unit. unit ≤ 65535) → not (is_some o) ≡ false → unwrap_or o first ≤ 65535
unit_fits None first h e = absurd (cc)
unit_fits (Some u) first h e = h

star_first : (o : Option ℕ) (first : ℕ) → not (is_some o) ≡ true → unwrap_or o first ≡ first
star_first None first e = refl
star_first (Some u) first e = absurd (cc)

-- the row of an instance, where this is the first unit
row_formed : (t : Tables) (d : Declared) (first : ℕ) (i : Instance) → t.attrs ≡ d.attrs → t.devices ≡ d.devices → t.attaches ≡ d.attaches → IsSound d i → first ≡ first_unit (fixed_units t.rows i.joined.device) → FormedRow t (row first i)
row_formed t d first i ea ed ex sound same =
    let spot = sound.joins.has_attach in
    let at : slice_get t.attaches i.joined.attach ≡ Some spot.attach = ap (λ xs. slice_get xs i.joined.attach) ex ∙ spot.has_number in
    record {
      device = rw ed sound.joins.has_device;
      attach_of_device = attach_is i.joined.device (slice_get t.attaches i.joined.attach) spot.attach at spot.is_of_device;
      listed_place = place_is i.joined.place (slice_get t.attaches i.joined.attach) spot.attach at spot.has_place;
      one_value_a_locator = sound.joins.has_values ∙ ap (λ xs. length (locators_at xs i.joined.place)) (sym ea);
      parent = rw ed sound.joins.has_parent;
      no_parent_at_root = sound.alone;
      fixed_unit = unit_fits (own_unit i) first sound.fits;
      starred_unit = λ star. star_first (own_unit i) first star ∙ same;
    }

-- all rows
pub rows_formed : (t : Tables) (d : Declared) (insts : List Instance) → t.attrs ≡ d.attrs → t.devices ≡ d.devices → t.attaches ≡ d.attaches → t.rows ≡ rows_of (length d.devices) insts → All (IsSound d) insts → All (FormedRow t) t.rows
rows_formed t d insts ea ed ex er sound =
    let n = length d.devices in
    subst (λ (rows : List Row). All (FormedRow t) rows) (sym er) (rows_all (FormedRow t) n insts (λ device.
    let passes : All (λ i. (i.joined.device == device) ≡ true) (own insts device) = filter_passes (λ (i : Instance). i.joined.device == device) insts in
    let good : All (IsSound d) (own insts device) = All-filter (λ (i : Instance). i.joined.device == device) (IsSound d) insts sound in
    λ k x at. one device (get_or (own insts device) k x) (passes k x at) (good k x at)))
  where
    one : (device : ℕ) (i : Instance) → (i.joined.device == device) ≡ true → IsSound d i → FormedRow t (row (first_of insts device) i)
    one device i mine good =
        let is : i.joined.device ≡ device = eqb-true i.joined.device device mine in
        let within : i.joined.device < length d.devices = good.joins.has_device in
        let lt : device < length d.devices = omega arith in
        row_formed t d (first_of insts device) i ea ed ex good
        (same_starred (length d.devices) insts device lt ∙ ap (λ rows. first_unit (fixed_units rows device)) (sym er) ∙ ap (λ k. first_unit (fixed_units t.rows k)) (sym is))
