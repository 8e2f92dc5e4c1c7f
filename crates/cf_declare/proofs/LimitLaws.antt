-- How much one more statement declares at most.
use Rattle.std.proofs.Common.{◌+◌, ◌≤◌, Some, None, [], length, arith}
use Rattle.std.specs.Prelude.{unwrap_or, is_some, true, false}
use Rattle.std.specs.Option.{option_to_list}
use Rattle.std.proofs.lemmas.List.Elements.{All-cons, All-append, All-nil}
use Rattle.cf_types.specs.declared.stmt.Stmt.{Stmt}
use Rattle.cf_types.specs.declared.stmt.Stmt.TheVariants as stmt
use Rattle.config_rules.specs.Declared.{Declared, attr}
use Rattle.config_rules.specs.Fault.{attr_numbers}
use Rattle.cf_declare.specs.Declare.{new_attr, new_device, new_attach, declare}
use Rattle.cf_declare.specs.Limits.{HasFewLocators, HaveFewLocators}
use Rattle.cf_declare.proofs.ListFacts.{with_option}

-- ---- at most one of each

-- at most one attribute
pub attrs_at_most : (d : Declared) (s : Stmt) → length (declare d s).attrs ≤ length d.attrs + 1
attrs_at_most d s = with_option d.attrs (new_attr d s)

-- at most one device
pub devices_at_most : (d : Declared) (s : Stmt) → length (declare d s).devices ≤ length d.devices + 1
devices_at_most d s = with_option d.devices (new_device d s)

-- at most one attachment
pub attaches_at_most : (d : Declared) (s : Stmt) → length (declare d s).attaches ≤ length d.attaches + 1
attaches_at_most d s = with_option d.attaches (new_attach d s)

-- ---- at most 16 locators

-- the attribute of a statement has its locators
few_new : (d : Declared) (s : Stmt) → HasFewLocators s → HaveFewLocators (option_to_list (new_attr d s))
few_new d (stmt.Define name locs needs) h =
    All-cons (λ x. length x.locs ≤ 16) (attr name (is_some locs) false false (unwrap_or locs []) (attr_numbers d needs)) [] h (All-nil (λ x. length x.locs ≤ 16))
few_new d (stmt.Class name) h = All-cons (λ x. length x.locs ≤ 16) (attr name false true false [] []) [] (omega arith) (All-nil (λ x. length x.locs ≤ 16))
few_new d (stmt.DefPseudo name locs needs) h =
    All-cons (λ x. length x.locs ≤ 16) (attr name (is_some locs) false true (unwrap_or locs []) (attr_numbers d needs)) [] h (All-nil (λ x. length x.locs ≤ 16))
few_new d (stmt.Device name None needs) h = All-nil (λ x. length x.locs ≤ 16)
few_new d (stmt.Device name (Some locs) needs) h = All-cons (λ x. length x.locs ≤ 16) (attr name true false false locs []) [] h (All-nil (λ x. length x.locs ≤ 16))
few_new d _ h = All-nil (λ x. length x.locs ≤ 16)

-- attributes keep having at most 16
pub few_locators_more : (d : Declared) (s : Stmt) → HaveFewLocators d.attrs → HasFewLocators s → HaveFewLocators (declare d s).attrs
few_locators_more d s few h = All-append (λ x. length x.locs ≤ 16) d.attrs (option_to_list (new_attr d s)) few (few_new d s h)
