-- Instances that are listed by reference, by device and by unit.
use Rattle.std.specs.Prelude.{◌≡◌, ◌≤◌, ◌<◌, ℕ, not, List, [], ◌∷◌, ◌++◌, length, map, filter, flat_map, slice_index, slice_index_or, Option, Some, IfSome}
use Rattle.std.specs.List.{All, filter_map}
use Rattle.std.specs.Borrow.{Bor}
use Rattle.cf_types.specs.Offers.{firsts}
use Rattle.cf_types.specs.declared.instance.Instance.{Instance}
use Rattle.cf_types.specs.declared.stmt.UnitMark.TheVariants.{Fixed, Star}
use Rattle.config_rules.specs.Select.{same_mark}
use Rattle.config_rules.specs.Meaning.{own_unit}

-- the instances behind references
abbrev pub seen : List (Bor Instance) → List Instance
seen refs = map (λ r. r.now) refs

-- an instance is starred, or its unit is at most 65,535
abbrev pub UnitFits : Instance → Type 0
UnitFits i = IfSome (own_unit i) (λ unit. unit ≤ 65535)

-- the instances of a unit
abbrev pub of_unit : List Instance → ℕ → List Instance
of_unit insts unit = filter (λ i. same_mark i.mark (Fixed unit)) insts

-- the starred instances
abbrev pub starred : List Instance → List Instance
starred insts = filter (λ i. same_mark i.mark Star) insts

-- the instances that are not starred
abbrev pub fixed : List Instance → List Instance
fixed insts = filter (λ i. not (same_mark i.mark Star)) insts

-- the units in the order of their first instances
abbrev pub units_of : List Instance → List ℕ
units_of insts = firsts (filter_map own_unit insts)

-- one group of instances for each unit, and the place of each unit's group
pub record AreGroups (insts : List Instance) (groups : List (List (Bor Instance))) (place : ℕ → Option ℕ) : Type 0 where
  pub as_many : length groups ≡ length (units_of insts)
  pub found : (unit p : ℕ) → place unit ≡ Some p → (p < length groups) × (slice_index (units_of insts) p ≡ unit)
  pub there : (p : ℕ) → p < length groups → place (slice_index (units_of insts) p) ≡ Some p
  pub own : (p : ℕ) → p < length groups → seen (slice_index_or groups p []) ≡ of_unit insts (slice_index (units_of insts) p)

-- where those were the groups of some instances, these are the groups of them and of this one
abbrev pub Joins : Instance → List (List (Bor Instance)) → (ℕ → Option ℕ) → List (List (Bor Instance)) → (ℕ → Option ℕ) → Type 0
Joins i old was new is = (insts : List Instance) → AreGroups insts old was → AreGroups (insts ++ i ∷ []) new is

-- the units ascend, so that the groups one after the other are the instances that are not starred; all are below this number
pub record AreAscending (insts : List Instance) (least : ℕ) : Type 0 where
  pub same : flat_map (of_unit insts) (units_of insts) ≡ fixed insts
  pub below : All (λ unit. unit < least) (units_of insts)
