-- What one more statement without a code adds to what is declared.
use Rattle.std.proofs.Common.{◌≡◌, ℕ, true, false, Some, None, List, [], ◌∷◌, ◌++◌, length, map, refl, ap, sym, ◌∙◌}
use Rattle.std.specs.Prelude.{bytes_eq, filter_map, is_some, unwrap_or, if◌then◌else◌, count_by}
use Rattle.std.specs.Option.{option_to_list}
use Rattle.std.proofs.lemmas.List.{length-map}
use Rattle.std.proofs.lemmas.Slice.Eq.{bytes_eq-Decides}
use Rattle.cf_types.specs.declared.stmt.Stmt.{Stmt}
use Rattle.cf_types.specs.declared.stmt.Stmt.TheVariants as stmt
use Rattle.cf_types.specs.declared.tables.Attr.{Attr}
use Rattle.cf_types.specs.declared.tables.Device.{Device}
use Rattle.cf_types.specs.declared.tables.Attach.{Attach}
use Rattle.cf_types.specs.declared.tables.Place.TheVariants.{Root, At}
use Rattle.cf_types.specs.Lookups.{device_number, place_of_name}
use Rattle.config_rules.specs.Declared.{Declared, is_root, numbers_in, attr, attr_name, device_name, attr_of, device_of, attach_of, place_of, declared}
use Rattle.config_rules.specs.Fault.{has_attr, attr_numbers, is_instance, fault_of}
use Rattle.cf_declare.specs.Declare.{new_attr, new_device, new_attach, place_named, declare}
use Rattle.cf_declare.specs.Settled.{names_among, Settled}
use Rattle.cf_declare.proofs.ListFacts.{position_new, filter_map_push, filter_map_same}
use Rattle.cf_declare.proofs.CodeLaws.{accepted_new}
use Rattle.cf_declare.proofs.NumberLaws.{same_numbers, same_attr, same_device, same_attach, device_with, attach_with, attr_number_is, device_number_is, names_of_attrs, attr_known}
use Rattle.cf_declare.proofs.SettledLaws.{accepted_among, settled_names, own_known}

-- numbers of attributes are the places of their names
attr_numbers_are : (stmts : List Stmt) (wanted : List (List ℕ)) → attr_numbers (declared stmts) wanted ≡ numbers_in (filter_map attr_name stmts) wanted
attr_numbers_are stmts [] = refl
attr_numbers_are stmts (name ∷ wanted) =
    ap (λ o. unwrap_or o 0 ∷ attr_numbers (declared stmts) wanted) (attr_number_is stmts name)
    ∙ ap (λ ns. unwrap_or (place_of_name (filter_map attr_name stmts) name) 0 ∷ ns) (attr_numbers_are stmts wanted)

-- the attribute of one more statement
attr_added : (stmts : List Stmt) (s : Stmt) → attr_of (filter_map attr_name stmts) s ≡ new_attr (declared stmts) s
attr_added stmts (stmt.Define name locs needs) = ap (λ ns. Some (attr name (is_some locs) false false (unwrap_or locs []) ns)) (sym (attr_numbers_are stmts needs))
attr_added stmts (stmt.Class name) = refl
attr_added stmts (stmt.DefPseudo name locs needs) = ap (λ ns. Some (attr name (is_some locs) false true (unwrap_or locs []) ns)) (sym (attr_numbers_are stmts needs))
attr_added stmts (stmt.Device name locs needs) = refl
attr_added stmts _ = refl

-- places by number are places by name
places_are : (stmts : List Stmt) (places : List (List ℕ)) → map (place_named (declared stmts)) places ≡ map (place_of (filter_map attr_name stmts)) places
places_are stmts [] = refl
places_are stmts (place ∷ places) =
    ap (λ o. (if is_root place then Root else At (unwrap_or o 0)) ∷ map (place_named (declared stmts)) places) (attr_number_is stmts place)
    ∙ ap (λ ps. place_of (filter_map attr_name stmts) place ∷ ps) (places_are stmts places)

-- the attachment of one more statement
attach_added : (stmts : List Stmt) (s : Stmt) → attach_of (filter_map attr_name stmts) (filter_map device_name stmts) s ≡ new_attach (declared stmts) s
attach_added stmts (stmt.Attach device places name needs) =
    let attrs = filter_map attr_name stmts in
    let d = declared stmts in
    ap (λ o. attach_with (unwrap_or name device) (unwrap_or o 0) (map (place_of attrs) places) (numbers_in attrs needs)) (sym (device_number_is stmts device))
    ∙ ap (λ ps. attach_with (unwrap_or name device) (unwrap_or (device_number d.devices device) 0) ps (numbers_in attrs needs)) (sym (places_are stmts places))
    ∙ ap (attach_with (unwrap_or name device) (unwrap_or (device_number d.devices device) 0) (map (place_named d) places)) (sym (attr_numbers_are stmts needs))
attach_added stmts _ = refl

-- the attribute of a new name gets the next number
own_number : (stmts : List Stmt) (name : List ℕ) → has_attr (declared stmts) name ≡ false → place_of_name (filter_map attr_name stmts ++ name ∷ []) name ≡ Some (length (declared stmts).attrs)
own_number stmts name h =
    let attrs = filter_map attr_name stmts in
    position_new (λ n. bytes_eq n name) attrs name (sym (attr_known stmts name) ∙ h) ((bytes_eq-Decides name name).1 refl)
    ∙ ap Some (ap length (sym (names_of_attrs stmts)) ∙ length-map (declared stmts).attrs (λ a. a.name))

-- the device of one more statement
device_added : (stmts : List Stmt) (s : Stmt) → names_among (filter_map attr_name stmts) (filter_map device_name stmts) s ≡ true
    → ((name : List ℕ) → attr_name s ≡ Some name → has_attr (declared stmts) name ≡ false)
    → device_of (filter_map attr_name stmts ++ option_to_list (attr_name s)) s ≡ new_device (declared stmts) s
device_added stmts (stmt.Device name None needs) h new =
    ap (device_with name None) (same_numbers (filter_map attr_name stmts) [] needs h ∙ sym (attr_numbers_are stmts needs))
device_added stmts (stmt.Device name (Some locs) needs) h new =
    ap (λ o. device_with name o (numbers_in (filter_map attr_name stmts ++ name ∷ []) needs)) (own_number stmts name (new name refl))
    ∙ ap (device_with name (Some (length (declared stmts).attrs))) (same_numbers (filter_map attr_name stmts) (name ∷ []) needs h ∙ sym (attr_numbers_are stmts needs))
device_added stmts _ h new = refl

-- equal parts make equal declarations
pub same_declared : (a b : List Attr) (c d : List Device) (e f : List Attach) → a ≡ b → c ≡ d → e ≡ f
    → ◌≡◌ {A = Declared} (record { attrs = a; devices = c; attaches = e }) (record { attrs = b; devices = d; attaches = f })
same_declared a b c d e f p q r = cc

-- the attributes with one more statement
attrs_more : (before : List Stmt) (s : Stmt) → Settled before → fault_of before s ≡ None → (declared (before ++ s ∷ [])).attrs ≡ (declare (declared before) s).attrs
unfolding declared
attrs_more before s settled accepted =
    let attrs = filter_map attr_name before in
    let a = option_to_list (attr_name s) in
    let known = settled_names before settled in
    ap (λ ns. filter_map (attr_of ns) (before ++ s ∷ [])) (filter_map_push attr_name before s)
    ∙ filter_map_push (attr_of (attrs ++ a)) before s
    ∙ ap (λ xs. xs ++ option_to_list (attr_of (attrs ++ a) s)) (filter_map_same (attr_of (attrs ++ a)) (attr_of attrs) before (λ i t at. same_attr attrs a (filter_map device_name before) t (known i t at)))
    ∙ ap (λ o. filter_map (attr_of attrs) before ++ option_to_list o) (same_attr attrs a (filter_map device_name before) s (accepted_among before s accepted) ∙ attr_added before s)

-- the name of the attribute that it adds is new
own_new : (before : List Stmt) (s : Stmt) → fault_of before s ≡ None → (name : List ℕ) → attr_name s ≡ Some name → has_attr (declared before) name ≡ false
unfolding fault_of
own_new before s accepted name e = accepted_new (declared before) (count_by is_instance before) s name accepted e

-- the devices with one more statement
devices_more : (before : List Stmt) (s : Stmt) → Settled before → fault_of before s ≡ None → (declared (before ++ s ∷ [])).devices ≡ (declare (declared before) s).devices
unfolding declared
devices_more before s settled accepted =
    let attrs = filter_map attr_name before in
    let a = option_to_list (attr_name s) in
    let known = settled_names before settled in
    ap (λ ns. filter_map (device_of ns) (before ++ s ∷ [])) (filter_map_push attr_name before s)
    ∙ filter_map_push (device_of (attrs ++ a)) before s
    ∙ ap (λ xs. xs ++ option_to_list (device_of (attrs ++ a) s)) (filter_map_same (device_of (attrs ++ a)) (device_of attrs) before (λ i t at. same_device attrs a (filter_map device_name before) t (known i t at) (own_known before i t at)))
    ∙ ap (λ o. filter_map (device_of attrs) before ++ option_to_list o) (device_added before s (accepted_among before s accepted) (own_new before s accepted))

-- the attachments with one more statement
attaches_more : (before : List Stmt) (s : Stmt) → Settled before → fault_of before s ≡ None → (declared (before ++ s ∷ [])).attaches ≡ (declare (declared before) s).attaches
unfolding declared
attaches_more before s settled accepted =
    let attrs = filter_map attr_name before in
    let devices = filter_map device_name before in
    let a = option_to_list (attr_name s) in
    let b = option_to_list (device_name s) in
    let known = settled_names before settled in
    ap (λ ns. filter_map (attach_of ns (filter_map device_name (before ++ s ∷ []))) (before ++ s ∷ [])) (filter_map_push attr_name before s)
    ∙ ap (λ ns. filter_map (attach_of (attrs ++ a) ns) (before ++ s ∷ [])) (filter_map_push device_name before s)
    ∙ filter_map_push (attach_of (attrs ++ a) (devices ++ b)) before s
    ∙ ap (λ xs. xs ++ option_to_list (attach_of (attrs ++ a) (devices ++ b) s)) (filter_map_same (attach_of (attrs ++ a) (devices ++ b)) (attach_of attrs devices) before (λ i t at. same_attach attrs a devices b t (known i t at)))
    ∙ ap (λ o. filter_map (attach_of attrs devices) before ++ option_to_list o) (same_attach attrs a devices b s (accepted_among before s accepted) ∙ attach_added before s)

-- one more statement without a code adds what it declares
pub declared_more : (before : List Stmt) (s : Stmt) → Settled before → fault_of before s ≡ None → declared (before ++ s ∷ []) ≡ declare (declared before) s
declared_more before s settled accepted =
    same_declared (declared (before ++ s ∷ [])).attrs (declare (declared before) s).attrs (declared (before ++ s ∷ [])).devices (declare (declared before) s).devices
    (declared (before ++ s ∷ [])).attaches (declare (declared before) s).attaches
    (attrs_more before s settled accepted) (devices_more before s settled accepted) (attaches_more before s settled accepted)
