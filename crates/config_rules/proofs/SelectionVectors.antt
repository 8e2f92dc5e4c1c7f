-- Whole configurations, and the tables that they mean.
use Rattle.std.proofs.Common.{◌≡◌, ℕ, true, false, Some, None, List, [], ◌∷◌, refl, codes}
use Rattle.cf_types.specs.declared.stmt.UnitMark.TheVariants.{Fixed, Star}
use Rattle.cf_types.specs.declared.tables.Place.TheVariants.{Root}
use Rattle.config_rules.specs.Cut.{parts_within}
use Rattle.config_rules.specs.Form.{table, form_of, form_fault, is_left_out}
use Rattle.config_rules.specs.Reading.{reader, reading}
use Rattle.config_rules.specs.Declared.{declared}
use Rattle.cf_types.specs.Offers.{walk, firsts, interfaces_of, interfaces, offers}
use Rattle.config_rules.specs.Joined.{fill_fault, fill, join}
use Rattle.config_rules.specs.Fault.{fault_of, fault_in, first_fault}
use Rattle.config_rules.specs.Select.{kept_items, takes_back, takes_item, is_parent}
use Rattle.config_rules.specs.Meaning.{surviving, rows_of, warnings}
use Rattle.std.specs.Fmt.{digits}
use Rattle.config_rules.proofs.VectorWords.{text, ListsIn, Lists}

-- the smallest configuration with a device
one_device : Lists (codes "device mainbus" ∷ codes "attach mainbus at root" ∷ codes "mainbus0 at root" ∷ []) (true ∷ []) ([] ∷ []) (codes "tables" ∷ codes "device mainbus" ∷ codes "attach mainbus of mainbus at root" ∷ codes "row 0 mainbus0 at root by mainbus on root flags 0" ∷ [])
unfolding parts_within table form_of is_left_out form_fault reader reading declared walk firsts interfaces_of interfaces offers fill_fault fill join fault_of fault_in first_fault kept_items takes_back takes_item surviving rows_of warnings digits
one_device = (refl, refl, refl, refl)

-- a bus, a serial port and any further ones
small_pc : Lists (codes "device mainbus {}" ∷ codes "attach mainbus at root" ∷ codes "device isa {[port = -1], [irq = -1]}" ∷ codes "attach isa at mainbus" ∷ codes "device com" ∷ codes "attach com at isa with com_isa" ∷ codes "mainbus0 at root" ∷ codes "isa0 at mainbus0" ∷ codes "com0 at isa? port 0x3f8 irq 4" ∷ codes "com* at isa?" ∷ []) (true ∷ true ∷ true ∷ true ∷ []) ([] ∷ (0 ∷ []) ∷ (1 ∷ 0 ∷ []) ∷ (1 ∷ 0 ∷ []) ∷ []) (codes "tables" ∷ codes "iattr mainbus" ∷ codes "iattr isa [port=-1] [irq=-1]" ∷ codes "device mainbus offers mainbus" ∷ codes "device isa offers isa" ∷ codes "device com" ∷ codes "attach mainbus of mainbus at root" ∷ codes "attach isa of isa at mainbus" ∷ codes "attach com_isa of com at isa" ∷ codes "row 0 mainbus0 at root by mainbus on root flags 0" ∷ codes "row 1 isa0 at mainbus0 by isa on mainbus flags 0" ∷ codes "row 2 com0 at isa? by com_isa on isa port=1016 irq=4 flags 0" ∷ codes "row 3 com* from 1 at isa? by com_isa on isa port=-1 irq=-1 flags 0" ∷ [])
unfolding parts_within table form_of is_left_out form_fault reader reading declared walk firsts interfaces_of interfaces offers fill_fault fill join fault_of fault_in first_fault kept_items takes_back takes_item surviving rows_of warnings digits
small_pc = (refl, refl, refl, refl)

-- a starred row begins above the greatest unit of the device
first_unit : Lists (codes "device mainbus {}" ∷ codes "attach mainbus at root" ∷ codes "device isa {[port = -1], [irq = -1]}" ∷ codes "attach isa at mainbus" ∷ codes "device com" ∷ codes "attach com at isa with com_isa" ∷ codes "mainbus0 at root" ∷ codes "isa0 at mainbus0" ∷ codes "com0 at isa? port 0x3f8 irq 4" ∷ codes "com3 at isa? port 0x2e8" ∷ codes "com* at isa?" ∷ []) (true ∷ true ∷ true ∷ true ∷ true ∷ []) ([] ∷ (0 ∷ []) ∷ (1 ∷ 0 ∷ []) ∷ (1 ∷ 0 ∷ []) ∷ (1 ∷ 0 ∷ []) ∷ []) (codes "tables" ∷ codes "iattr mainbus" ∷ codes "iattr isa [port=-1] [irq=-1]" ∷ codes "device mainbus offers mainbus" ∷ codes "device isa offers isa" ∷ codes "device com" ∷ codes "attach mainbus of mainbus at root" ∷ codes "attach isa of isa at mainbus" ∷ codes "attach com_isa of com at isa" ∷ codes "row 0 mainbus0 at root by mainbus on root flags 0" ∷ codes "row 1 isa0 at mainbus0 by isa on mainbus flags 0" ∷ codes "row 2 com0 at isa? by com_isa on isa port=1016 irq=4 flags 0" ∷ codes "row 3 com3 at isa? by com_isa on isa port=744 irq=-1 flags 0" ∷ codes "row 4 com* from 4 at isa? by com_isa on isa port=-1 irq=-1 flags 0" ∷ [])
unfolding parts_within table form_of is_left_out form_fault reader reading declared walk firsts interfaces_of interfaces offers fill_fault fill join fault_of fault_in first_fault kept_items takes_back takes_item surviving rows_of warnings digits
first_unit = (refl, refl, refl, refl)

-- a negation takes back what stands before it, and one that takes back nothing is told
taken_back : Lists (codes "device mainbus {}" ∷ codes "attach mainbus at root" ∷ codes "device isa {[port = -1], [irq = -1]}" ∷ codes "attach isa at mainbus" ∷ codes "device com" ∷ codes "attach com at isa with com_isa" ∷ codes "mainbus0 at root" ∷ codes "isa0 at mainbus0" ∷ codes "com0 at isa? port 0x3f8 irq 4" ∷ codes "com* at isa?" ∷ codes "no com0" ∷ codes "com0 at isa? port 0x2f8 irq 3" ∷ codes "no lpt0" ∷ []) (true ∷ true ∷ true ∷ true ∷ []) ([] ∷ (0 ∷ []) ∷ (1 ∷ 0 ∷ []) ∷ (1 ∷ 0 ∷ []) ∷ []) (codes "tables" ∷ codes "iattr mainbus" ∷ codes "iattr isa [port=-1] [irq=-1]" ∷ codes "device mainbus offers mainbus" ∷ codes "device isa offers isa" ∷ codes "device com" ∷ codes "attach mainbus of mainbus at root" ∷ codes "attach isa of isa at mainbus" ∷ codes "attach com_isa of com at isa" ∷ codes "row 0 mainbus0 at root by mainbus on root flags 0" ∷ codes "row 1 isa0 at mainbus0 by isa on mainbus flags 0" ∷ codes "row 2 com0 at isa? by com_isa on isa port=760 irq=3 flags 0" ∷ codes "row 3 com* from 1 at isa? by com_isa on isa port=-1 irq=-1 flags 0" ∷ codes "warning conf:13 nothing taken back" ∷ [])
unfolding parts_within table form_of is_left_out form_fault reader reading declared walk firsts interfaces_of interfaces offers fill_fault fill join fault_of fault_in first_fault kept_items takes_back takes_item surviving rows_of warnings digits
taken_back = (refl, refl, refl, refl)

-- what no longer leads to the root is dropped and told
orphans : Lists (codes "device mainbus {}" ∷ codes "attach mainbus at root" ∷ codes "device isa {[port = -1], [irq = -1]}" ∷ codes "attach isa at mainbus" ∷ codes "device com" ∷ codes "attach com at isa with com_isa" ∷ codes "mainbus0 at root" ∷ codes "isa0 at mainbus0" ∷ codes "com0 at isa? port 0x3f8 irq 4" ∷ codes "com* at isa?" ∷ codes "no mainbus0" ∷ []) (false ∷ false ∷ false ∷ []) ([] ∷ [] ∷ [] ∷ []) (codes "tables" ∷ codes "iattr mainbus" ∷ codes "iattr isa [port=-1] [irq=-1]" ∷ codes "device mainbus offers mainbus" ∷ codes "device isa offers isa" ∷ codes "device com" ∷ codes "attach mainbus of mainbus at root" ∷ codes "attach isa of isa at mainbus" ∷ codes "attach com_isa of com at isa" ∷ codes "warning conf:8 orphan" ∷ codes "warning conf:9 orphan" ∷ codes "warning conf:10 orphan" ∷ [])
unfolding parts_within table form_of is_left_out form_fault reader reading declared walk firsts interfaces_of interfaces offers fill_fault fill join fault_of fault_in first_fault kept_items takes_back takes_item surviving rows_of warnings digits
orphans = (refl, refl, refl, refl)

-- a negation names a unit and a parent as they are written
negation_as_written : (Lists (codes "device bus {}" ∷ codes "attach bus at root" ∷ codes "device d" ∷ codes "attach d at bus" ∷ codes "bus0 at root" ∷ codes "d0 at bus0" ∷ codes "no d0 at bus?" ∷ []) (true ∷ true ∷ []) ([] ∷ (0 ∷ []) ∷ []) (codes "tables" ∷ codes "iattr bus" ∷ codes "device bus offers bus" ∷ codes "device d" ∷ codes "attach bus of bus at root" ∷ codes "attach d of d at bus" ∷ codes "row 0 bus0 at root by bus on root flags 0" ∷ codes "row 1 d0 at bus0 by d on bus flags 0" ∷ codes "warning conf:7 nothing taken back" ∷ []))
    × (Lists (codes "device bus {}" ∷ codes "attach bus at root" ∷ codes "device d" ∷ codes "attach d at bus" ∷ codes "bus0 at root" ∷ codes "d0 at bus0" ∷ codes "d* at bus?" ∷ codes "no d*" ∷ []) (true ∷ true ∷ []) ([] ∷ (0 ∷ []) ∷ []) (codes "tables" ∷ codes "iattr bus" ∷ codes "device bus offers bus" ∷ codes "device d" ∷ codes "attach bus of bus at root" ∷ codes "attach d of d at bus" ∷ codes "row 0 bus0 at root by bus on root flags 0" ∷ codes "row 1 d0 at bus0 by d on bus flags 0" ∷ []))
    × (Lists (codes "device bus {}" ∷ codes "attach bus at root" ∷ codes "device d" ∷ codes "attach d at bus" ∷ codes "bus0 at root" ∷ codes "d0 at bus0" ∷ codes "d1 at bus?" ∷ codes "no device at bus?" ∷ []) (true ∷ true ∷ []) ([] ∷ (0 ∷ []) ∷ []) (codes "tables" ∷ codes "iattr bus" ∷ codes "device bus offers bus" ∷ codes "device d" ∷ codes "attach bus of bus at root" ∷ codes "attach d of d at bus" ∷ codes "row 0 bus0 at root by bus on root flags 0" ∷ codes "row 1 d0 at bus0 by d on bus flags 0" ∷ []))
unfolding parts_within table form_of is_left_out form_fault reader reading declared walk firsts interfaces_of interfaces offers fill_fault fill join fault_of fault_in first_fault kept_items takes_back takes_item surviving rows_of warnings digits
negation_as_written = ((refl, refl, refl, refl), (refl, refl, refl, refl), (refl, refl, refl, refl))

-- a starred instance carries every unit, and a fixed one its own
who_is_a_parent : (is_parent (record { device = 0; unit = Some 5 }) (record { device = 0; mark = Star; place = Root; parent = None }) ≡ true)
    × (is_parent (record { device = 0; unit = Some 5 }) (record { device = 0; mark = Fixed 5; place = Root; parent = None }) ≡ true)
    × (is_parent (record { device = 0; unit = Some 5 }) (record { device = 0; mark = Fixed 4; place = Root; parent = None }) ≡ false)
    × (is_parent (record { device = 0; unit = None }) (record { device = 0; mark = Fixed 4; place = Root; parent = None }) ≡ true)
    × (is_parent (record { device = 0; unit = None }) (record { device = 1; mark = Star; place = Root; parent = None }) ≡ false)
who_is_a_parent = (refl, refl, refl, refl, refl)

-- what is dropped or taken back counts for no first unit
rows_alone_count : Lists (codes "device bus {}" ∷ codes "attach bus at root" ∷ codes "device d" ∷ codes "attach d at bus" ∷ codes "bus0 at root" ∷ codes "d5 at bus1" ∷ codes "d3 at bus0" ∷ codes "no d3" ∷ codes "d* at bus?" ∷ []) (true ∷ false ∷ true ∷ []) ([] ∷ [] ∷ (0 ∷ []) ∷ []) (codes "tables" ∷ codes "iattr bus" ∷ codes "device bus offers bus" ∷ codes "device d" ∷ codes "attach bus of bus at root" ∷ codes "attach d of d at bus" ∷ codes "row 0 bus0 at root by bus on root flags 0" ∷ codes "row 1 d* from 0 at bus? by d on bus flags 0" ∷ codes "warning conf:6 orphan" ∷ [])
unfolding parts_within table form_of is_left_out form_fault reader reading declared walk firsts interfaces_of interfaces offers fill_fault fill join fault_of fault_in first_fault kept_items takes_back takes_item surviving rows_of warnings digits
rows_alone_count = (refl, refl, refl, refl)

-- equal instances are rows of their own, and rows of a unit stand together
equal_units : Lists (codes "device bus {}" ∷ codes "attach bus at root" ∷ codes "device d" ∷ codes "attach d at bus" ∷ codes "bus0 at root" ∷ codes "d1 at bus0" ∷ codes "d* at bus?" ∷ codes "d0 at bus0" ∷ codes "d1 at bus0" ∷ []) (true ∷ true ∷ true ∷ true ∷ true ∷ []) ([] ∷ (0 ∷ []) ∷ (0 ∷ []) ∷ (0 ∷ []) ∷ (0 ∷ []) ∷ []) (codes "tables" ∷ codes "iattr bus" ∷ codes "device bus offers bus" ∷ codes "device d" ∷ codes "attach bus of bus at root" ∷ codes "attach d of d at bus" ∷ codes "row 0 bus0 at root by bus on root flags 0" ∷ codes "row 1 d1 at bus0 by d on bus flags 0" ∷ codes "row 2 d1 at bus0 by d on bus flags 0" ∷ codes "row 3 d0 at bus0 by d on bus flags 0" ∷ codes "row 4 d* from 2 at bus? by d on bus flags 0" ∷ [])
unfolding parts_within table form_of is_left_out form_fault reader reading declared walk firsts interfaces_of interfaces offers fill_fault fill join fault_of fault_in first_fault kept_items takes_back takes_item surviving rows_of warnings digits
equal_units = (refl, refl, refl, refl)

-- a negation also takes back an orphan
orphan_taken_back : Lists (codes "device bus {}" ∷ codes "attach bus at root" ∷ codes "device d" ∷ codes "attach d at bus" ∷ codes "bus0 at root" ∷ codes "d0 at bus1" ∷ codes "no d0" ∷ []) (true ∷ []) ([] ∷ []) (codes "tables" ∷ codes "iattr bus" ∷ codes "device bus offers bus" ∷ codes "device d" ∷ codes "attach bus of bus at root" ∷ codes "attach d of d at bus" ∷ codes "row 0 bus0 at root by bus on root flags 0" ∷ [])
unfolding parts_within table form_of is_left_out form_fault reader reading declared walk firsts interfaces_of interfaces offers fill_fault fill join fault_of fault_in first_fault kept_items takes_back takes_item surviving rows_of warnings digits
orphan_taken_back = (refl, refl, refl, refl)

-- each name of a negation of items stands for itself
items_taken_back : (Lists (codes "options A" ∷ codes "no options A, A" ∷ []) [] [] (codes "tables" ∷ []))
    × (Lists (codes "no options A, A" ∷ []) [] [] (codes "tables" ∷ codes "warning conf:1 nothing taken back" ∷ codes "warning conf:1 nothing taken back" ∷ []))
    × (Lists (codes "options A" ∷ codes "no makeoptions A" ∷ []) [] [] (codes "tables" ∷ codes "options A" ∷ codes "warning conf:2 nothing taken back" ∷ []))
unfolding parts_within table form_of is_left_out form_fault reader reading declared walk firsts interfaces_of interfaces offers fill_fault fill join fault_of fault_in first_fault kept_items takes_back takes_item surviving rows_of warnings digits
items_taken_back = ((refl, refl, refl, refl), (refl, refl, refl, refl), (refl, refl, refl, refl))

-- a negation of what an earlier one took back takes back nothing
second_negation : (Lists (codes "device bus {}" ∷ codes "attach bus at root" ∷ codes "device d" ∷ codes "attach d at bus" ∷ codes "bus0 at root" ∷ codes "d0 at bus0" ∷ codes "no d0" ∷ codes "no d0 at bus0" ∷ []) (true ∷ []) ([] ∷ []) (codes "tables" ∷ codes "iattr bus" ∷ codes "device bus offers bus" ∷ codes "device d" ∷ codes "attach bus of bus at root" ∷ codes "attach d of d at bus" ∷ codes "row 0 bus0 at root by bus on root flags 0" ∷ codes "warning conf:8 nothing taken back" ∷ []))
    × (Lists (codes "options A" ∷ codes "no options A" ∷ codes "no options A" ∷ []) [] [] (codes "tables" ∷ codes "warning conf:3 nothing taken back" ∷ []))
unfolding parts_within table form_of is_left_out form_fault reader reading declared walk firsts interfaces_of interfaces offers fill_fault fill join fault_of fault_in first_fault kept_items takes_back takes_item surviving rows_of warnings digits
second_negation = ((refl, refl, refl, refl), (refl, refl, refl, refl))

-- a device offers its own attribute first, then those behind the attributes that it names, each once
offers_in_order : Lists (codes "define scsi {target}" ∷ codes "define common: scsi" ∷ codes "device ahc {}: common, scsi" ∷ codes "device sd: common" ∷ []) [] [] (codes "tables" ∷ codes "iattr scsi target" ∷ codes "attr common" ∷ codes "iattr ahc" ∷ codes "device ahc offers ahc scsi" ∷ codes "device sd offers scsi" ∷ [])
unfolding parts_within table form_of is_left_out form_fault reader reading declared walk firsts interfaces_of interfaces offers fill_fault fill join fault_of fault_in first_fault kept_items takes_back takes_item surviving rows_of warnings digits
offers_in_order = (refl, refl, refl, refl)

-- what is not written has its default
locator_kinds : Lists (codes "device bus {target, [lun = 0]}" ∷ codes "attach bus at root" ∷ codes "device sd" ∷ codes "attach sd at bus" ∷ codes "bus0 at root" ∷ codes "sd0 at bus0 target 3" ∷ codes "sd1 at bus0 target 4 lun ?" ∷ []) (true ∷ true ∷ true ∷ []) ([] ∷ (0 ∷ []) ∷ (0 ∷ []) ∷ []) (codes "tables" ∷ codes "iattr bus target [lun=0]" ∷ codes "device bus offers bus" ∷ codes "device sd" ∷ codes "attach bus of bus at root" ∷ codes "attach sd of sd at bus" ∷ codes "row 0 bus0 at root by bus on root flags 0" ∷ codes "row 1 sd0 at bus0 by sd on bus target=3 lun=0 flags 0" ∷ codes "row 2 sd1 at bus0 by sd on bus target=4 lun=0 flags 0" ∷ [])
unfolding parts_within table form_of is_left_out form_fault reader reading declared walk firsts interfaces_of interfaces offers fill_fault fill join fault_of fault_in first_fault kept_items takes_back takes_item surviving rows_of warnings digits
locator_kinds = (refl, refl, refl, refl)

-- items stay in order with repeats, and an option may have an empty value
items_kept : Lists (codes "options A=\"\"" ∷ codes "options B, A" ∷ codes "makeoptions C+=d" ∷ codes "file-system F, F" ∷ []) [] [] (codes "tables" ∷ codes "options A=" ∷ codes "options B" ∷ codes "options A" ∷ codes "makeoptions C+=d" ∷ codes "file-system F" ∷ codes "file-system F" ∷ [])
unfolding parts_within table form_of is_left_out form_fault reader reading declared walk firsts interfaces_of interfaces offers fill_fault fill join fault_of fault_in first_fault kept_items takes_back takes_item surviving rows_of warnings digits
items_kept = (refl, refl, refl, refl)

-- a kernel configuration of common size, read from `conf`, with the file that it includes
generic : List (List ℕ × List ℕ)
generic = (
  codes "conf",
  text (
      codes "include \"conf/files\""
      ∷ codes "machine amd64 x86"
      ∷ codes "ident \"GENERIC\""
      ∷ codes "maxusers 64"
      ∷ codes "options DDB, DDB_HISTORY_SIZE=512 # kernel debugger"
      ∷ codes "makeoptions DEBUG=\"-g\""
      ∷ codes "file-system FFS, NFS"
      ∷ codes "config netbsd root on ? type ?"
      ∷ codes "mainbus0 at root"
      ∷ codes "pci* at mainbus? bus ?"
      ∷ codes "isa0 at mainbus?"
      ∷ codes "com0 at isa? port 0x3f8"
      ∷ codes "\tirq 4"
      ∷ codes "com* at isa?"
      ∷ codes "pciide* at pci? dev ? function ? flags 0x0002"
      ∷ codes "atabus* at pciide? channel ?"
      ∷ codes "wd* at atabus? drive ? flags 0x0"
      ∷ codes "pseudo-device loop"
      ∷ []),
) ∷ (
  codes "conf/files",
  text (
      codes "maxusers 2 16 128"
      ∷ codes "devclass disk"
      ∷ codes "define ifnet"
      ∷ codes "define tty"
      ∷ codes "define pcibus {[bus = -1]}"
      ∷ codes "define isabus {}"
      ∷ codes "define ata {[channel = -1]}"
      ∷ codes "define ata_hl {[drive = -1]}"
      ∷ codes "defflag opt_ddb.h DDB"
      ∷ codes "defparam opt_ddb.h DDB_HISTORY_SIZE = 100"
      ∷ codes "deffs FFS NFS"
      ∷ codes "defpseudo loop: ifnet"
      ∷ codes "device mainbus: pcibus, isabus"
      ∷ codes "attach mainbus at root"
      ∷ codes "device pci {[dev = -1], [function = -1]}"
      ∷ codes "attach pci at pcibus"
      ∷ codes "device isa {[port = -1], [irq = -1]}"
      ∷ codes "attach isa at isabus"
      ∷ codes "device com: tty"
      ∷ codes "attach com at isa with com_isa"
      ∷ codes "file dev/ic/com.c com needs-flag"
      ∷ codes "device pciide: ata"
      ∷ codes "attach pciide at pci"
      ∷ codes "device atabus: ata_hl"
      ∷ codes "attach atabus at ata"
      ∷ codes "device wd: disk"
      ∷ codes "attach wd at ata_hl"
      ∷ []),
) ∷ []

-- and these are its tables
realistic : ListsIn generic (true ∷ true ∷ true ∷ true ∷ true ∷ true ∷ true ∷ true ∷ []) ([] ∷ (0 ∷ []) ∷ (0 ∷ []) ∷ (2 ∷ 0 ∷ []) ∷ (2 ∷ 0 ∷ []) ∷ (1 ∷ 0 ∷ []) ∷ (5 ∷ 1 ∷ 0 ∷ []) ∷ (6 ∷ 5 ∷ 1 ∷ 0 ∷ []) ∷ []) (
    codes "tables"
    ∷ codes "attr disk"
    ∷ codes "attr ifnet"
    ∷ codes "attr tty"
    ∷ codes "iattr pcibus [bus=-1]"
    ∷ codes "iattr isabus"
    ∷ codes "iattr ata [channel=-1]"
    ∷ codes "iattr ata_hl [drive=-1]"
    ∷ codes "attr loop"
    ∷ codes "iattr pci [dev=-1] [function=-1]"
    ∷ codes "iattr isa [port=-1] [irq=-1]"
    ∷ codes "device mainbus offers pcibus isabus"
    ∷ codes "device pci offers pci"
    ∷ codes "device isa offers isa"
    ∷ codes "device com"
    ∷ codes "device pciide offers ata"
    ∷ codes "device atabus offers ata_hl"
    ∷ codes "device wd"
    ∷ codes "attach mainbus of mainbus at root"
    ∷ codes "attach pci of pci at pcibus"
    ∷ codes "attach isa of isa at isabus"
    ∷ codes "attach com_isa of com at isa"
    ∷ codes "attach pciide of pciide at pci"
    ∷ codes "attach atabus of atabus at ata"
    ∷ codes "attach wd of wd at ata_hl"
    ∷ codes "row 0 mainbus0 at root by mainbus on root flags 0"
    ∷ codes "row 1 pci* from 0 at mainbus? by pci on pcibus bus=-1 flags 0"
    ∷ codes "row 2 isa0 at mainbus? by isa on isabus flags 0"
    ∷ codes "row 3 com0 at isa? by com_isa on isa port=1016 irq=4 flags 0"
    ∷ codes "row 4 com* from 1 at isa? by com_isa on isa port=-1 irq=-1 flags 0"
    ∷ codes "row 5 pciide* from 0 at pci? by pciide on pci dev=-1 function=-1 flags 2"
    ∷ codes "row 6 atabus* from 0 at pciide? by atabus on ata channel=-1 flags 0"
    ∷ codes "row 7 wd* from 0 at atabus? by wd on ata_hl drive=-1 flags 0"
    ∷ codes "pseudo loop 1"
    ∷ codes "options DDB"
    ∷ codes "options DDB_HISTORY_SIZE=512"
    ∷ codes "makeoptions DEBUG=-g"
    ∷ codes "file-system FFS"
    ∷ codes "file-system NFS"
    ∷ [])
unfolding generic parts_within table form_of is_left_out form_fault reader reading declared walk firsts interfaces_of interfaces offers fill_fault fill join fault_of fault_in first_fault kept_items takes_back takes_item surviving rows_of warnings digits
realistic = (refl, refl, refl, refl)
