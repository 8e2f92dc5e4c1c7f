-- The codes of statements by the names in them.
use Rattle.std.proofs.Common.{◌≡◌, ℕ, true, false, Some, None, List, [], ◌∷◌, map, refl, codes}
use Rattle.std.specs.Prelude.{pos}
use Rattle.std.specs.Prelude.{replicate}
use Rattle.std.specs.List.{enumerate_from}
use Rattle.cf_types.specs.declared.stmt.UnitMark.TheVariants.{Star}
use Rattle.cf_types.specs.declared.stmt.AtSpec.TheVariants as written
use Rattle.cf_types.specs.declared.stmt.Stmt.TheVariants as stmt
use Rattle.config_rules.specs.Cut.{parts_within}
use Rattle.config_rules.specs.Form.{table, form_of, form_fault, is_left_out}
use Rattle.config_rules.specs.Reading.{reader, reading}
use Rattle.config_rules.specs.Declared.{Declared, declared, attr}
use Rattle.cf_types.specs.Offers.{walk, firsts, interfaces_of, interfaces, offers}
use Rattle.config_rules.specs.Joined.{fill_fault, fill, join}
use Rattle.config_rules.specs.Fault.{fault_of, fault_in, first_fault, code_of, define_fault}
use Rattle.config_rules.specs.Select.{kept_items, takes_back, takes_item}
use Rattle.config_rules.specs.Meaning.{surviving, rows_of, warnings}
use Rattle.std.specs.Fmt.{digits}
use Rattle.config_rules.proofs.VectorWords.{Refused, Taken, Lists}

-- `root` can not be declared, and is unknown as an attribute and as a device
root_is_taken : (Refused (codes "define root" ∷ []) 1 18)
    × (Refused (codes "devclass root" ∷ []) 1 18)
    × (Refused (codes "defpseudo root" ∷ []) 1 18)
    × (Refused (codes "device root" ∷ []) 1 18)
    × (Refused (codes "device d" ∷ codes "attach d at root with root" ∷ []) 2 18)
    × (Refused (codes "device d: root" ∷ []) 1 8)
    × (Refused (codes "root0 at root" ∷ []) 1 10)
unfolding parts_within table form_of is_left_out form_fault reader reading declared walk firsts interfaces_of interfaces offers fill_fault fill join fault_of fault_in first_fault
root_is_taken = (refl, refl, refl, refl, refl, refl, refl)

-- an attribute is not known within its own definition
own_name : (Refused (codes "define a: a" ∷ []) 1 8)
    × (Refused (codes "device a {}: a" ∷ []) 1 8)
unfolding parts_within table form_of is_left_out form_fault reader reading declared walk firsts interfaces_of interfaces offers fill_fault fill join fault_of fault_in first_fault
own_name = (refl, refl)

-- a device and an attribute may share a name, unless the device has braces
shared_name : (Taken (codes "define p {}" ∷ codes "device p" ∷ []))
    × (Taken (codes "device p" ∷ codes "define p {}" ∷ []))
    × (Refused (codes "define p {}" ∷ codes "device p {}" ∷ []) 2 18)
unfolding parts_within table form_of is_left_out form_fault reader reading declared walk firsts interfaces_of interfaces offers fill_fault fill join fault_of fault_in first_fault
shared_name = (refl, refl, refl)

-- a second device class is one more that the device itself names
device_classes : (Taken (codes "devclass disk" ∷ codes "device d: disk, disk" ∷ []))
    × (Taken (codes "devclass disk" ∷ codes "devclass tape" ∷ codes "define a: disk" ∷ codes "device d: a, tape" ∷ []))
    × (Refused (codes "devclass disk" ∷ codes "devclass tape" ∷ codes "device d: disk, tape" ∷ []) 3 19)
unfolding parts_within table form_of is_left_out form_fault reader reading declared walk firsts interfaces_of interfaces offers fill_fault fill join fault_of fault_in first_fault
device_classes = (refl, refl, refl)

-- places are looked at one by one, then the name, then the attributes
places_in_order : (Refused (codes "define n" ∷ codes "device d" ∷ codes "attach d at n, m" ∷ []) 3 9)
    × (Refused (codes "define n" ∷ codes "device d" ∷ codes "attach d at m, n" ∷ []) 3 8)
    × (Refused (codes "device d" ∷ codes "attach d at root" ∷ codes "attach d at root: x" ∷ []) 3 18)
    × (Refused (codes "device d" ∷ codes "attach d at root with e: x" ∷ []) 2 8)
unfolding parts_within table form_of is_left_out form_fault reader reading declared walk firsts interfaces_of interfaces offers fill_fault fill join fault_of fault_in first_fault
places_in_order = (refl, refl, refl, refl)

-- interface attributes of so many names
interface_attrs : ℕ → Declared
interface_attrs n = record { attrs = map (λ e. attr (e.0 ∷ []) true false false [] []) (enumerate_from {X = ℕ} 0 (replicate n 0)); devices = []; attaches = [] }

-- the first so many of their names
names_of_attrs : ℕ → List (List ℕ)
names_of_attrs n = map (λ e. e.0 ∷ []) (enumerate_from {X = ℕ} 0 (replicate n 0))

-- an interface list has at most 64 entries, its own attribute counted
long_interface_list : (define_fault (interface_attrs 65) (codes "z") None (names_of_attrs 64) ≡ None)
    × (define_fault (interface_attrs 65) (codes "z") (Some []) (names_of_attrs 64) ≡ Some 25)
    × (define_fault (interface_attrs 65) (codes "z") None (names_of_attrs 65) ≡ Some 25)
unfolding interface_attrs names_of_attrs walk firsts interfaces_of
long_interface_list = (refl, refl, refl)

-- the limit on instances comes before the name of the device
many_instances : (code_of (declared []) 8192 (stmt.Inst (codes "x") Star written.Root [] (pos 0)) ≡ Some 24)
    × (code_of (declared []) 8191 (stmt.Inst (codes "x") Star written.Root [] (pos 0)) ≡ Some 10)
unfolding declared join
many_instances = (refl, refl)

-- a locator without brackets has to be written, also where it has a default
locators_not_written : (Refused (codes "device bus {target, lun = -1}" ∷ codes "attach bus at root" ∷ codes "device xa" ∷ codes "attach xa at bus" ∷ codes "bus0 at root" ∷ codes "xa0 at bus? lun ?" ∷ []) 6 13)
    × (Refused (codes "device bus {target, lun = -1}" ∷ codes "attach bus at root" ∷ codes "device xa" ∷ codes "attach xa at bus" ∷ codes "bus0 at root" ∷ codes "xa0 at bus? target 3" ∷ []) 6 13)
unfolding parts_within table form_of is_left_out form_fault reader reading declared walk firsts interfaces_of interfaces offers fill_fault fill join fault_of fault_in first_fault
locators_not_written = (refl, refl)

-- the pairs are looked at one by one, and then what is not written
locators_in_order : (Refused (codes "device bus {target, lun = -1}" ∷ codes "attach bus at root" ∷ codes "device xa" ∷ codes "attach xa at bus" ∷ codes "bus0 at root" ∷ codes "xa0 at bus? target ? lun 0" ∷ []) 6 16)
    × (Refused (codes "device bus {target, lun = -1}" ∷ codes "attach bus at root" ∷ codes "device xa" ∷ codes "attach xa at bus" ∷ codes "bus0 at root" ∷ codes "xa0 at bus? target ? drive 1" ∷ []) 6 16)
    × (Refused (codes "device bus {target, lun = -1}" ∷ codes "attach bus at root" ∷ codes "device xa" ∷ codes "attach xa at bus" ∷ codes "bus0 at root" ∷ codes "xa0 at bus? drive 1 target ?" ∷ []) 6 14)
    × (Refused (codes "device bus {target, lun = -1}" ∷ codes "attach bus at root" ∷ codes "device xa" ∷ codes "attach xa at bus" ∷ codes "bus0 at root" ∷ codes "xa0 at bus? target 3 target 4 lun 0" ∷ []) 6 15)
    × (Refused (codes "device bus {target, lun = -1}" ∷ codes "attach bus at root" ∷ codes "device xa" ∷ codes "attach xa at bus" ∷ codes "bus0 at root" ∷ codes "xa0 at bus? drive 1" ∷ []) 6 14)
unfolding parts_within table form_of is_left_out form_fault reader reading declared walk firsts interfaces_of interfaces offers fill_fault fill join fault_of fault_in first_fault
locators_in_order = (refl, refl, refl, refl, refl)

-- the root has no locators
locators_at_root : Refused (codes "device d" ∷ codes "attach d at root" ∷ codes "d0 at root port 1" ∷ []) 3 14
unfolding parts_within table form_of is_left_out form_fault reader reading declared walk firsts interfaces_of interfaces offers fill_fault fill join fault_of fault_in first_fault
locators_at_root = refl

-- more than 16 pairs are judged by their names
many_pairs : Refused (codes "device bus {[a = 1]}" ∷ codes "attach bus at root" ∷ codes "device d" ∷ codes "attach d at bus" ∷ codes "bus0 at root" ∷ codes "d0 at bus0 a 1 a 1 a 1 a 1 a 1 a 1 a 1 a 1 a 1 a 1 a 1 a 1 a 1 a 1 a 1 a 1 a 1" ∷ []) 6 15
unfolding parts_within table form_of is_left_out form_fault reader reading declared walk firsts interfaces_of interfaces offers fill_fault fill join fault_of fault_in first_fault
many_pairs = refl

-- `?` stands for the default
locators_filled : Lists (codes "device bus {target, lun = -1}" ∷ codes "attach bus at root" ∷ codes "device xa" ∷ codes "attach xa at bus" ∷ codes "bus0 at root" ∷ codes "xa0 at bus? target 3 lun ?" ∷ []) (true ∷ true ∷ []) ([] ∷ (0 ∷ []) ∷ []) (codes "tables" ∷ codes "iattr bus target lun=-1" ∷ codes "device bus offers bus" ∷ codes "device xa" ∷ codes "attach bus of bus at root" ∷ codes "attach xa of xa at bus" ∷ codes "row 0 bus0 at root by bus on root flags 0" ∷ codes "row 1 xa0 at bus? by xa on bus target=3 lun=-1 flags 0" ∷ [])
unfolding parts_within table form_of is_left_out form_fault reader reading declared walk firsts interfaces_of interfaces offers fill_fault fill join fault_of fault_in first_fault kept_items takes_back takes_item surviving rows_of warnings digits
locators_filled = (refl, refl, refl, refl)

-- flags go from -2147483648 to 4294967295, in octal and hexadecimal too
range_of_flags : (Lists (codes "device mainbus" ∷ codes "attach mainbus at root" ∷ codes "mainbus0 at root flags 037777777777" ∷ []) (true ∷ []) ([] ∷ []) (codes "tables" ∷ codes "device mainbus" ∷ codes "attach mainbus of mainbus at root" ∷ codes "row 0 mainbus0 at root by mainbus on root flags 4294967295" ∷ []))
    × (Lists (codes "device mainbus" ∷ codes "attach mainbus at root" ∷ codes "mainbus0 at root flags -0x80000000" ∷ []) (true ∷ []) ([] ∷ []) (codes "tables" ∷ codes "device mainbus" ∷ codes "attach mainbus of mainbus at root" ∷ codes "row 0 mainbus0 at root by mainbus on root flags -2147483648" ∷ []))
    × (Refused (codes "device mainbus" ∷ codes "attach mainbus at root" ∷ codes "mainbus0 at root flags 4294967296" ∷ []) 3 5)
    × (Refused (codes "device mainbus" ∷ codes "attach mainbus at root" ∷ codes "mainbus0 at root flags -2147483649" ∷ []) 3 5)
unfolding parts_within table form_of is_left_out form_fault reader reading declared walk firsts interfaces_of interfaces offers fill_fault fill join fault_of fault_in first_fault kept_items takes_back takes_item surviving rows_of warnings digits
range_of_flags = ((refl, refl, refl, refl), (refl, refl, refl, refl), refl, refl)

-- a device that is declared later does not change how an instance was read
later_device : Lists (codes "define p {}" ∷ codes "device m: p" ∷ codes "attach m at root" ∷ codes "m0 at root" ∷ codes "device d" ∷ codes "attach d at p" ∷ codes "d0 at p?" ∷ codes "device p" ∷ []) (true ∷ true ∷ []) ([] ∷ (0 ∷ []) ∷ []) (codes "tables" ∷ codes "iattr p" ∷ codes "device m offers p" ∷ codes "device d" ∷ codes "device p" ∷ codes "attach m of m at root" ∷ codes "attach d of d at p" ∷ codes "row 0 m0 at root by m on root flags 0" ∷ codes "row 1 d0 at p? by d on p flags 0" ∷ [])
unfolding parts_within table form_of is_left_out form_fault reader reading declared walk firsts interfaces_of interfaces offers fill_fault fill join fault_of fault_in first_fault kept_items takes_back takes_item surviving rows_of warnings digits
later_device = (refl, refl, refl, refl)

-- the first attachment and place that the parent offers, in the order in which they are written
attachment_order : Lists (codes "define x {}" ∷ codes "define y {}" ∷ codes "device bus: x, y" ∷ codes "attach bus at root" ∷ codes "device d" ∷ codes "attach d at root, y, x" ∷ codes "bus0 at root" ∷ codes "d0 at bus0" ∷ []) (true ∷ true ∷ []) ([] ∷ (0 ∷ []) ∷ []) (codes "tables" ∷ codes "iattr x" ∷ codes "iattr y" ∷ codes "device bus offers x y" ∷ codes "device d" ∷ codes "attach bus of bus at root" ∷ codes "attach d of d at root y x" ∷ codes "row 0 bus0 at root by bus on root flags 0" ∷ codes "row 1 d0 at bus0 by d on y flags 0" ∷ [])
unfolding parts_within table form_of is_left_out form_fault reader reading declared walk firsts interfaces_of interfaces offers fill_fault fill join fault_of fault_in first_fault kept_items takes_back takes_item surviving rows_of warnings digits
attachment_order = (refl, refl, refl, refl)
