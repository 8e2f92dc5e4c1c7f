-- What a statement without a code adds fits what is declared.
use Rattle.std.proofs.Common.{◌≡◌, ℕ, ◌<◌, true, false, Option, Some, None, List, [], ◌∷◌, ◌++◌, length, map, refl, ap, sym, ◌∙◌, subst, All}
use Rattle.std.specs.Prelude.{unwrap_or}
use Rattle.std.specs.Option.{option_map_or, option_to_list}
use Rattle.std.proofs.lemmas.List.{length-map}
use Rattle.std.proofs.lemmas.List.Elements.{All-cons, All-nil, All-append}
use Rattle.cf_types.specs.declared.code.configuration.TheConstants.{LOCATOR_TWICE, NAME_TAKEN}
use Rattle.config_rules.proofs.GivenLaws.{no_code}
use Rattle.cf_types.specs.declared.stmt.Stmt.{Stmt}
use Rattle.cf_types.specs.declared.stmt.Stmt.TheVariants as stmt
use Rattle.cf_types.specs.declared.tables.Attr.{Attr}
use Rattle.cf_types.specs.declared.tables.Device.{Device}
use Rattle.cf_types.specs.Offers.{named_by, node_of}
use Rattle.attr_graph.specs.Graphs.{IsGraphOf}
use Rattle.attr_graph.specs.Reach.{Shape}
use Rattle.config_rules.specs.Declared.{Declared, attr}
use Rattle.config_rules.specs.Fault.{attr_numbers, repeats, repeats_locator, code_of}
use Rattle.cf_declare.specs.Declare.{declare, new_attr}
use Rattle.cf_declare.specs.Graphs.{LocatorsFit}
use Rattle.cf_declare.specs.Judging.{Takes}
use Rattle.cf_declare.specs.Limits.{HasFewLocators}
use Rattle.cf_declare.proofs.LimitLaws.{few_locators_more}

abbrev pub Differ : Attr → Type 0
Differ a = repeats (map (λ l. l.name) a.locs) ≡ false

single : (a : Attr) → Differ a → All Differ (a ∷ [])
single a h = All-cons Differ a [] h (All-nil Differ)

-- the locators of a new attribute differ
new_differ : (d : Declared) (n : ℕ) (s : Stmt) → code_of d n s ≡ None → All Differ (option_to_list (new_attr d s))
new_differ d n (stmt.Define name locs needs) h =
    single (attr name _ false false (unwrap_or locs []) (attr_numbers d needs)) (no_code (repeats_locator locs) LOCATOR_TWICE _ (no_code _ NAME_TAKEN _ h).1).0
new_differ d n (stmt.Class name) h = single (attr name false true false [] []) refl
new_differ d n (stmt.DefPseudo name locs needs) h =
    single (attr name _ false true (unwrap_or locs []) (attr_numbers d needs)) (no_code (repeats_locator locs) LOCATOR_TWICE _ (no_code _ NAME_TAKEN _ h).1).0
new_differ d n (stmt.Device name None needs) h = All-nil Differ
new_differ d n (stmt.Device name (Some locs) needs) h =
    single (attr name true false false locs []) (no_code (repeats_locator (Some locs)) LOCATOR_TWICE _ (no_code _ NAME_TAKEN _ h).1).0
new_differ d n _ h = All-nil Differ

-- the locators of each attribute still fit
pub locators_more : (d : Declared) (n : ℕ) (s : Stmt) → LocatorsFit d → code_of d n s ≡ None → HasFewLocators s → LocatorsFit (declare d s)
locators_more d n s fit h few = record {
  few = few_locators_more d s fit.few few;
  differ = All-append Differ d.attrs (option_to_list (new_attr d s)) fit.differ (new_differ d n s h);
}

-- so they do, whether a statement has a code or not
pub locators_after : (d new : Declared) (s : Stmt) (code : Option ℕ) → LocatorsFit d → HasFewLocators s → Takes (code_of d 0 s) d (declare d s) new code → LocatorsFit new
locators_after d new s None fit few h = subst (λ (e : Declared). LocatorsFit e) (sym h.1) (locators_more d 0 s fit h.0 few)
locators_after d new s (Some code) fit few h = subst (λ (e : Declared). LocatorsFit e) (sym h.1) fit

own_names : (own : Option ℕ) → option_map_or (λ a. a ∷ []) own [] ≡ option_to_list own
own_names None = refl
own_names (Some a) = refl

-- what a device names is there in the graph
pub names_there : (d : Declared) (g : Shape) (x : Device) (needs : List ℕ) → IsGraphOf d g → All (λ a. a < length d.attrs) (named_by x) → needs ≡ x.needs → All (λ a. a < length g.attrs) (option_to_list x.own ++ needs)
names_there d g x needs graph known e =
    let size : length g.attrs ≡ length d.attrs = ap length graph.attrs ∙ length-map d.attrs node_of in
    subst (λ (names : List ℕ). All (λ a. a < length g.attrs) names) (ap (λ (names : List ℕ). names ++ x.needs) (own_names x.own) ∙ ap (λ (names : List ℕ). option_to_list x.own ++ names) (sym e))
    (subst (λ (n : ℕ). All (λ a. a < n) (named_by x)) (sym size) known)
