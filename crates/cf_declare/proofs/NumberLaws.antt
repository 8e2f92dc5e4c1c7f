-- Names among more names, and the numbers of what is declared.
use Rattle.std.proofs.Common.{◌≡◌, ℕ, Bool, true, false, ◌||◌, inl, inr, Option, Some, None, List, [], ◌++◌, map, refl, ap, sym, ◌∙◌}
use Rattle.std.specs.Prelude.{bytes_eq, filter_map, is_some, option_map, unwrap_or, if◌then◌else◌}
use Rattle.std.specs.List.{list_all}
use Rattle.std.proofs.lemmas.Bool.{and_parts, and_from, or_left, or_right, or_cases}
use Rattle.cf_types.specs.declared.stmt.Stmt.{Stmt}
use Rattle.cf_types.specs.declared.stmt.Stmt.TheVariants as stmt
use Rattle.cf_types.specs.declared.tables.Device.{Device}
use Rattle.cf_types.specs.declared.tables.Attach.{Attach}
use Rattle.cf_types.specs.declared.tables.Place.{Place}
use Rattle.cf_types.specs.declared.tables.Place.TheVariants.{Root, At}
use Rattle.cf_types.specs.Lookups.{attr_number, device_number, place_of_name}
use Rattle.config_rules.specs.Declared.{is_root, numbers_in, attr, attr_name, device_name, attr_of, device_of, attach_of, place_of, declared}
use Rattle.config_rules.specs.Fault.{has_attr, has_device}
use Rattle.cf_declare.specs.Settled.{is_among, are_among, names_among}
use Rattle.cf_declare.proofs.ListFacts.{position-map, position_kept, filter_map_same, map-filter_map, map_agree, all_weaker}
use Rattle.cf_declare.proofs.CodeLaws.{names_declared}

-- ---- among more names

-- what is among the names is among more, with the same place
pub among_more : (names more : List (List ℕ)) (name : List ℕ) → is_among names name ≡ true → is_among (names ++ more) name ≡ true
among_more names more name h = ap is_some (position_kept (λ n. bytes_eq n name) names more h) ∙ h

-- its place stays
pub same_place : (names more : List (List ℕ)) (name : List ℕ) → is_among names name ≡ true → place_of_name (names ++ more) name ≡ place_of_name names name
same_place names more name h = position_kept (λ n. bytes_eq n name) names more h

-- so do the places of several
pub same_numbers : (names more wanted : List (List ℕ)) → are_among names wanted ≡ true → numbers_in (names ++ more) wanted ≡ numbers_in names wanted
same_numbers names more wanted h = map_agree (is_among names) _ _ (λ name e. ap (λ o. unwrap_or o 0) (same_place names more name e)) wanted h

-- several that are among the names are among more
are_among_more : (names more wanted : List (List ℕ)) → are_among names wanted ≡ true → are_among (names ++ more) wanted ≡ true
are_among_more names more wanted h = all_weaker (is_among names) (is_among (names ++ more)) (among_more names more) wanted h

-- so is a place that is the root or among the names
place_more : (names more : List (List ℕ)) (place : List ℕ) → (is_root place || is_among names place) ≡ true → (is_root place || is_among (names ++ more) place) ≡ true
place_more names more place h =
    elim (or_cases (is_root place) (is_among names place) h) [
      | inl e ↦ or_left (is_root place) (is_among (names ++ more) place) e
      | inr e ↦ or_right (is_root place) (is_among (names ++ more) place) (among_more names more place e)
    ]

-- a statement whose names are among these has them among more
pub names_more : (attrs more devices others : List (List ℕ)) (s : Stmt) → names_among attrs devices s ≡ true → names_among (attrs ++ more) (devices ++ others) s ≡ true
names_more attrs more devices others (stmt.Define name locs needs) h = are_among_more attrs more needs h
names_more attrs more devices others (stmt.DefPseudo name locs needs) h = are_among_more attrs more needs h
names_more attrs more devices others (stmt.Device name locs needs) h = are_among_more attrs more needs h
names_more attrs more devices others (stmt.Attach device places name needs) h =
    let one = and_parts (is_among devices device) _ h in
    let two = and_parts (list_all (λ place. is_root place || is_among attrs place) places) (are_among attrs needs) one.1 in
    and_from (is_among (devices ++ others) device) _ (among_more devices others device one.0)
    (and_from _ (are_among (attrs ++ more) needs) (all_weaker _ (λ place. is_root place || is_among (attrs ++ more) place) (place_more attrs more) places two.0) (are_among_more attrs more needs two.1))
names_more attrs more devices others _ h = refl

-- ---- what a statement declares stays

-- the attribute that a statement declares
pub same_attr : (attrs more devices : List (List ℕ)) (s : Stmt) → names_among attrs devices s ≡ true → attr_of (attrs ++ more) s ≡ attr_of attrs s
same_attr attrs more devices (stmt.Define name locs needs) h = ap (λ ns. Some (attr name (is_some locs) false false (unwrap_or locs []) ns)) (same_numbers attrs more needs h)
same_attr attrs more devices (stmt.DefPseudo name locs needs) h = ap (λ ns. Some (attr name (is_some locs) false true (unwrap_or locs []) ns)) (same_numbers attrs more needs h)
same_attr attrs more devices _ h = refl

-- the device of this name, of these numbers
abbrev pub device_with : List ℕ → Option ℕ → List ℕ → Option Device
device_with name own needs = Some (record { name = name; own = own; needs = needs })

-- the device, whose own attribute is among the names too
pub same_device : (attrs more devices : List (List ℕ)) (s : Stmt) → names_among attrs devices s ≡ true → ((name : List ℕ) → attr_name s ≡ Some name → is_among attrs name ≡ true) → device_of (attrs ++ more) s ≡ device_of attrs s
same_device attrs more devices (stmt.Device name None needs) h own = ap (device_with name None) (same_numbers attrs more needs h)
same_device attrs more devices (stmt.Device name (Some locs) needs) h own =
    ap (λ o. device_with name o (numbers_in (attrs ++ more) needs)) (same_place attrs more name (own name refl))
    ∙ ap (device_with name (place_of_name attrs name)) (same_numbers attrs more needs h)
same_device attrs more devices _ h own = refl

-- a place of an attachment
at_same_place : (attrs more : List (List ℕ)) (place : List ℕ) → (is_root place || is_among attrs place) ≡ true → place_of (attrs ++ more) place ≡ place_of attrs place
at_same_place attrs more place h = by_root (is_root place) h
  where
    by_root : (root : Bool) → (root || is_among attrs place) ≡ true
        → (if root then Root else At (unwrap_or (place_of_name (attrs ++ more) place) 0)) ≡ (if root then Root else At (unwrap_or (place_of_name attrs place) 0))
    by_root true k = refl
    by_root false k = ap (λ o. At (unwrap_or o 0)) (same_place attrs more place k)

-- an attachment of these numbers
abbrev pub attach_with : List ℕ → ℕ → List Place → List ℕ → Option Attach
attach_with name device places needs = Some (record { name = name; device = device; places = places; needs = needs })

-- the attachment
pub same_attach : (attrs more devices others : List (List ℕ)) (s : Stmt) → names_among attrs devices s ≡ true → attach_of (attrs ++ more) (devices ++ others) s ≡ attach_of attrs devices s
same_attach attrs more devices others (stmt.Attach device places name needs) h =
    let one = and_parts (is_among devices device) _ h in
    let two = and_parts (list_all (λ place. is_root place || is_among attrs place) places) (are_among attrs needs) one.1 in
    ap (λ o. attach_with (unwrap_or name device) (unwrap_or o 0) (map (place_of (attrs ++ more)) places) (numbers_in (attrs ++ more) needs)) (same_place devices others device one.0)
    ∙ ap (λ ps. attach_with (unwrap_or name device) (unwrap_or (place_of_name devices device) 0) ps (numbers_in (attrs ++ more) needs))
    (map_agree (λ place. is_root place || is_among attrs place) (place_of (attrs ++ more)) (place_of attrs) (at_same_place attrs more) places two.0)
    ∙ ap (attach_with (unwrap_or name device) (unwrap_or (place_of_name devices device) 0) (map (place_of attrs) places)) (same_numbers attrs more needs two.1)
same_attach attrs more devices others _ h = refl

-- ---- numbers of what is declared

-- the name of the attribute that a statement declares
name_of_attr : (attrs : List (List ℕ)) (s : Stmt) → option_map (λ a. a.name) (attr_of attrs s) ≡ attr_name s
name_of_attr attrs (stmt.Define name locs needs) = refl
name_of_attr attrs (stmt.Class name) = refl
name_of_attr attrs (stmt.DefPseudo name locs needs) = refl
name_of_attr attrs (stmt.Device name None needs) = refl
name_of_attr attrs (stmt.Device name (Some locs) needs) = refl
name_of_attr attrs _ = refl

-- the name of the device
name_of_device : (attrs : List (List ℕ)) (s : Stmt) → option_map (λ d. d.name) (device_of attrs s) ≡ device_name s
name_of_device attrs (stmt.Device name locs needs) = refl
name_of_device attrs _ = refl

-- the names of the attributes that are declared
pub names_of_attrs : (stmts : List Stmt) → map (λ a. a.name) (declared stmts).attrs ≡ filter_map attr_name stmts
unfolding declared
names_of_attrs stmts = map-filter_map (λ a. a.name) (attr_of (filter_map attr_name stmts)) stmts ∙ filter_map_same _ attr_name stmts (λ i s h. name_of_attr (filter_map attr_name stmts) s)

-- and of the devices
pub names_of_devices : (stmts : List Stmt) → map (λ d. d.name) (declared stmts).devices ≡ filter_map device_name stmts
unfolding declared
names_of_devices stmts = map-filter_map (λ d. d.name) (device_of (filter_map attr_name stmts)) stmts ∙ filter_map_same _ device_name stmts (λ i s h. name_of_device (filter_map attr_name stmts) s)

-- the number of an attribute is the place of its name
pub attr_number_is : (stmts : List Stmt) (name : List ℕ) → attr_number (declared stmts).attrs name ≡ place_of_name (filter_map attr_name stmts) name
attr_number_is stmts name = sym (position-map (λ n. bytes_eq n name) (λ a. a.name) (declared stmts).attrs) ∙ ap (λ ns. place_of_name ns name) (names_of_attrs stmts)

-- and that of a device
pub device_number_is : (stmts : List Stmt) (name : List ℕ) → device_number (declared stmts).devices name ≡ place_of_name (filter_map device_name stmts) name
device_number_is stmts name = sym (position-map (λ n. bytes_eq n name) (λ d. d.name) (declared stmts).devices) ∙ ap (λ ns. place_of_name ns name) (names_of_devices stmts)

-- an attribute is declared exactly where its name is among those of the attributes
pub attr_known : (stmts : List Stmt) (name : List ℕ) → has_attr (declared stmts) name ≡ is_among (filter_map attr_name stmts) name
attr_known stmts name = ap is_some (attr_number_is stmts name)

-- and a device
device_known : (stmts : List Stmt) (name : List ℕ) → has_device (declared stmts) name ≡ is_among (filter_map device_name stmts) name
device_known stmts name = ap is_some (device_number_is stmts name)

-- attributes that are declared have their names among those of the attributes
attrs_known : (stmts : List Stmt) (wanted : List (List ℕ)) → list_all (has_attr (declared stmts)) wanted ≡ true → are_among (filter_map attr_name stmts) wanted ≡ true
attrs_known stmts wanted h = all_weaker (has_attr (declared stmts)) (is_among (filter_map attr_name stmts)) (λ name e. sym (attr_known stmts name) ∙ e) wanted h

-- what names what is declared names it among these names
pub names_known : (stmts : List Stmt) (s : Stmt) → names_declared (declared stmts) s ≡ true → names_among (filter_map attr_name stmts) (filter_map device_name stmts) s ≡ true
names_known stmts (stmt.Define name locs needs) h = attrs_known stmts needs h
names_known stmts (stmt.DefPseudo name locs needs) h = attrs_known stmts needs h
names_known stmts (stmt.Device name locs needs) h = attrs_known stmts needs h
names_known stmts (stmt.Attach device places name needs) h =
    let d = declared stmts in
    let attrs = filter_map attr_name stmts in
    let one = and_parts (has_device d device) _ h in
    let two = and_parts (list_all (λ place. is_root place || has_attr d place) places) (list_all (has_attr d) needs) one.1 in
    and_from (is_among (filter_map device_name stmts) device) _ (sym (device_known stmts device) ∙ one.0)
    (and_from _ (are_among attrs needs)
    (all_weaker (λ place. is_root place || has_attr d place) (λ place. is_root place || is_among attrs place) (λ place e. ap (λ b. is_root place || b) (sym (attr_known stmts place)) ∙ e) places two.0)
    (attrs_known stmts needs two.1))
names_known stmts _ h = refl
