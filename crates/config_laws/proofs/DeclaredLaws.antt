-- How much statements that are written declare, and by what names.
use Rattle.std.proofs.Common.{◌≡◌, ℕ, ◌≤◌, true, false, Some, None, List, length, map, sym, subst, arith}
use Rattle.std.specs.Prelude.{IfSome, filter_map}
use Rattle.std.specs.List.{All}
use Rattle.std.proofs.lemmas.List.Elements.{All-map, All-weaker}
use Rattle.cf_types.specs.declared.stmt.Stmt.{Stmt}
use Rattle.cf_types.specs.declared.stmt.Stmt.TheVariants as stmt
use Rattle.cf_types.specs.declared.tables.Attr.{Attr}
use Rattle.cf_types.specs.declared.tables.Attach.{Attach}
use Rattle.cf_types.specs.declared.tables.Device.{Device}
use Rattle.cf_text.specs.Shapes.{ends_with_digit}
use Rattle.config_rules.specs.Declared.{attach_of, attr_name, attr_of, declared, device_name, device_of}
use Rattle.config_rules.specs.Formed.{AreNames}
use Rattle.config_rules.specs.MachineText.{is_free_name}
use Rattle.config_rules.specs.Written.{IsWritten}
use Rattle.cf_declare.specs.Limits.{HasFewLocators}
use Rattle.cf_declare.specs.Sound.{SoundDeclared}
use Rattle.cf_declare.proofs.NumberLaws.{names_of_attrs, names_of_devices}
use Rattle.config_laws.specs.Free.{IsFree}
use Rattle.config_laws.proofs.FreeLaws.{free_name, names_differ}
use Rattle.config_laws.proofs.ListLaws.{all_given, given_few}

-- a statement that is written and defines nothing by the name `root`
abbrev pub IsGood : Stmt → Type 0
IsGood s = IsWritten s × IsFree s

abbrev IsFreeName : List ℕ → Type 0
IsFreeName name = is_free_name name ≡ true

-- ---- how many

-- no more attributes than statements
pub few_attrs : (stmts : List Stmt) → length (declared stmts).attrs ≤ length stmts
unfolding declared
few_attrs stmts = given_few (attr_of (filter_map attr_name stmts)) stmts

-- nor devices
pub few_devices : (stmts : List Stmt) → length (declared stmts).devices ≤ length stmts
unfolding declared
few_devices stmts = given_few (device_of (filter_map attr_name stmts)) stmts

-- nor attachments
pub few_attaches : (stmts : List Stmt) → length (declared stmts).attaches ≤ length stmts
unfolding declared
few_attaches stmts = given_few (attach_of (filter_map attr_name stmts) (filter_map device_name stmts)) stmts

-- ---- of one statement

attr_few : (attrs : List (List ℕ)) (s : Stmt) → IsGood s → IfSome (attr_of attrs s) (λ a. length a.locs ≤ 16)
attr_few attrs (stmt.Define name locs needs) h = h.0.1.0
attr_few attrs (stmt.Class name) h = omega arith
attr_few attrs (stmt.DefPseudo name locs needs) h = h.0.1.0
attr_few attrs (stmt.Device name None needs) h = tt
attr_few attrs (stmt.Device name (Some locs) needs) h = h.0.2.0
attr_few attrs _ h = tt

attr_free : (s : Stmt) → IsGood s → IfSome (attr_name s) IsFreeName
attr_free (stmt.Define name locs needs) h = free_name name h.0.0 h.1
attr_free (stmt.Class name) h = free_name name h.0 h.1
attr_free (stmt.DefPseudo name locs needs) h = free_name name h.0.0 h.1
attr_free (stmt.Device name None needs) h = tt
attr_free (stmt.Device name (Some locs) needs) h = free_name name h.0.0 h.1
attr_free _ h = tt

device_free : (s : Stmt) → IsGood s → IfSome (device_name s) IsFreeName
device_free (stmt.Device name locs needs) h = free_name name h.0.0 h.1
device_free _ h = tt

device_plain : (attrs : List (List ℕ)) (s : Stmt) → IsGood s → IfSome (device_of attrs s) (λ d. ends_with_digit d.name ≡ false)
device_plain attrs (stmt.Device name locs needs) h = h.0.1
device_plain attrs _ h = tt

attach_free : (attrs devices : List (List ℕ)) (s : Stmt) → IsGood s → IfSome (attach_of attrs devices s) (λ a. IsFreeName a.name)
attach_free attrs devices (stmt.Attach device places None needs) h = free_name device h.0.0 h.1
attach_free attrs devices (stmt.Attach device places (Some name) needs) h = free_name name h.0.2 h.1
attach_free attrs devices _ h = tt

-- a statement that is written has few locators
pub few_written : (s : Stmt) → IsWritten s → HasFewLocators s
few_written (stmt.Define name locs needs) h = h.1.0
few_written (stmt.DefPseudo name locs needs) h = h.1.0
few_written (stmt.Device name locs needs) h = h.2.0
few_written _ h = tt

-- ---- of all

-- at most 16 locators an attribute
pub few_locators : (stmts : List Stmt) → All IsGood stmts → All (λ a. length a.locs ≤ 16) (declared stmts).attrs
unfolding declared
few_locators stmts good =
    let attrs = filter_map attr_name stmts in
    all_given (λ (a : Attr). length a.locs ≤ 16) (attr_of attrs) stmts (All-weaker IsGood (λ s. IfSome (attr_of attrs s) (λ a. length a.locs ≤ 16)) (attr_few attrs) stmts good)

-- the digits at the end of a chunk are a unit
pub plain_devices : (stmts : List Stmt) → All IsGood stmts → All (λ d. ends_with_digit d.name ≡ false) (declared stmts).devices
unfolding declared
plain_devices stmts good =
    let attrs = filter_map attr_name stmts in
    all_given (λ (d : Device). ends_with_digit d.name ≡ false) (device_of attrs) stmts (All-weaker IsGood (λ s. IfSome (device_of attrs s) (λ d. ends_with_digit d.name ≡ false)) (device_plain attrs) stmts good)

free_attrs : (stmts : List Stmt) → All IsGood stmts → All IsFreeName (map (λ a. a.name) (declared stmts).attrs)
free_attrs stmts good =
    subst (λ (names : List (List ℕ)). All IsFreeName names) (sym (names_of_attrs stmts))
    (all_given IsFreeName attr_name stmts (All-weaker IsGood (λ s. IfSome (attr_name s) IsFreeName) attr_free stmts good))

free_devices : (stmts : List Stmt) → All IsGood stmts → All IsFreeName (map (λ d. d.name) (declared stmts).devices)
free_devices stmts good =
    subst (λ (names : List (List ℕ)). All IsFreeName names) (sym (names_of_devices stmts))
    (all_given IsFreeName device_name stmts (All-weaker IsGood (λ s. IfSome (device_name s) IsFreeName) device_free stmts good))

free_attaches : (stmts : List Stmt) → All IsGood stmts → All (λ (a : Attach). IsFreeName a.name) (declared stmts).attaches
unfolding declared
free_attaches stmts good =
    let attrs = filter_map attr_name stmts in
    let devices = filter_map device_name stmts in
    all_given (λ (a : Attach). IsFreeName a.name) (attach_of attrs devices) stmts (All-weaker IsGood (λ s. IfSome (attach_of attrs devices s) (λ a. IsFreeName a.name)) (attach_free attrs devices) stmts good)

-- names of attributes
pub attr_names : (stmts : List Stmt) → All IsGood stmts → SoundDeclared (declared stmts) → AreNames (map (λ a. a.name) (declared stmts).attrs)
attr_names stmts good sound = record { shaped = free_attrs stmts good; different = names_differ (λ (a : Attr). a.name) (declared stmts).attrs sound.attr_names_differ }

-- names of devices
pub device_names : (stmts : List Stmt) → All IsGood stmts → SoundDeclared (declared stmts) → AreNames (map (λ d. d.name) (declared stmts).devices)
device_names stmts good sound = record { shaped = free_devices stmts good; different = names_differ (λ (d : Device). d.name) (declared stmts).devices sound.device_names_differ }

-- names of attachments
pub attach_names : (stmts : List Stmt) → All IsGood stmts → SoundDeclared (declared stmts) → AreNames (map (λ a. a.name) (declared stmts).attaches)
attach_names stmts good sound = record {
  shaped = All-map IsFreeName (λ (a : Attach). a.name) (declared stmts).attaches (free_attaches stmts good);
  different = names_differ (λ (a : Attach). a.name) (declared stmts).attaches sound.attach_names_differ;
}
