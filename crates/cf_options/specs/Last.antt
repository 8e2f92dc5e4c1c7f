-- The last negation of each name, by its place.
use Rattle.std.specs.Prelude.{◌≡◌, ℕ, ◌+◌, Bool, false, not, nat_lt, List, drop, filter, Option}
use Rattle.std.specs.Option.{option_map_or}
use Rattle.std.specs.HashMap.{HashMap, get_by}
use Rattle.std.specs.List.{list_any}
use Rattle.std.specs.Str.{bytes_eq}
use Rattle.cf_types.specs.declared.stmt.ItemKind.{ItemKind}
use Rattle.cf_types.specs.declared.stmt.ItemKind.TheVariants as of_kind
use Rattle.cf_types.specs.declared.stmt.Placed.{Placed}
use Rattle.config_rules.specs.Select.{drops}
use Rattle.cf_options.specs.declared.last.Negations.{Negations}
use denote.Ref.{Bor}

-- the place that a map has for a name
abbrev pub place_of : {S : Type 0} → HashMap (Bor (List ℕ)) ℕ S → List ℕ → Option ℕ
place_of places name = get_by (λ k. bytes_eq name k.now) places

-- the place is behind this one
abbrev pub is_behind : ℕ → Option ℕ → Bool
is_behind place last = option_map_or (λ j. nat_lt place j) last false

-- the last negation of a name is behind this place
abbrev pub is_dropped : {S : Type 0} → HashMap (Bor (List ℕ)) ℕ S → ℕ → List ℕ → Bool
is_dropped last place name = is_behind place (place_of last name)

-- those of the items that are not dropped
abbrev pub not_dropped : {A : Type 0} → (List ℕ → Bool) → (A → List ℕ) → List A → List A
not_dropped dropped name_of items = filter (λ x. not (dropped (name_of x))) items

-- the last negation of a name of this kind
abbrev pub last_of : Negations → ItemKind → List ℕ → Option ℕ
last_of negations of_kind.Options name = place_of negations.options name
last_of negations of_kind.MakeOptions name = place_of negations.makeoptions name
last_of negations of_kind.PseudoDevice name = place_of negations.pseudos name
last_of negations of_kind.FileSystem name = place_of negations.file_systems name

-- one of the statements behind a place negates a name of this kind
abbrev pub is_negated_behind : List Placed → ItemKind → ℕ → List ℕ → Bool
is_negated_behind placed kind place name = list_any (λ p. drops kind name p.stmt) (drop (place + 1) placed)

-- the places tell of each name of this kind whether it is negated behind a place
abbrev pub AreLast : {S : Type 0} → List Placed → ItemKind → HashMap (Bor (List ℕ)) ℕ S → Type 0
AreLast placed kind last = (place : ℕ) (name : List ℕ) → is_dropped last place name ≡ is_negated_behind placed kind place name

-- they do for all kinds
pub record AreNegations (placed : List Placed) (negations : Negations) : Type 0 where
  pub options : AreLast placed of_kind.Options negations.options
  pub makeoptions : AreLast placed of_kind.MakeOptions negations.makeoptions
  pub pseudos : AreLast placed of_kind.PseudoDevice negations.pseudos
  pub file_systems : AreLast placed of_kind.FileSystem negations.file_systems
