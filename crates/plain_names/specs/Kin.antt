-- Live devices in lists by their parents.
use Rattle.std.specs.Prelude.{◌≡◌, ◌<◌, ◌%◌, ℕ, List, [], ◌∷◌, ◌++◌, length, map, Vec}
use Rattle.std.specs.Global.{Global}
use Rattle.std.specs.List.{slice_index_or}
use Rattle.run_rules.specs.declared.world.Dev.{Dev}
use Rattle.run_rules.specs.World.{children}
use Rattle.plain_names.specs.declared.kin.Kin.{Kin}

abbrev pub lists_of : List (Vec Dev Global) → List (List Dev)
lists_of lists = map (λ list. list.items) lists

-- the list of a parent
abbrev pub list_for : List (Vec Dev Global) → ℕ → List Dev
list_for lists p = slice_index_or (lists_of lists) (p % length lists) []

-- so many lists, none with a device
pub record AreEmpty (n : ℕ) (lists : List (Vec Dev Global)) : Type 0 where
  pub count : length lists ≡ n
  pub none : (k : ℕ) → ◌≡◌ {A = List Dev} (slice_index_or (lists_of lists) k []) []

-- each parent's list has its children among these devices, in their order
pub record HaveChildren (live : List Dev) (lists : List (Vec Dev Global)) : Type 0 where
  pub some : 0 < length lists
  pub all : (p : ℕ) → children (list_for lists p) p ≡ children live p

-- the same where there are lists
abbrev pub AreKin : Kin → Type 0
AreKin kin = 0 < length kin.lists.items → HaveChildren kin.live.now kin.lists.items

-- the list of its parent has a device more
pub record HasDevice (old new : List (Vec Dev Global)) (d : Dev) : Type 0 where
  pub count : length new ≡ length old
  pub all : (p : ℕ) → children (list_for new p) p ≡ children (list_for old p) p ++ children (d ∷ []) p
