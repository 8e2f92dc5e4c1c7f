-- References that count, and sole use: this project's profile. A pair of a serial and a caller stands as often as the
-- caller holds the device.
use Rattle.std.specs.Prelude.{◌≡◌, ◌≤◌, ◌<◌, ℕ, ◌+◌, ◌^◌, Bool, true, false, not, ◌&&◌, ◌==◌, if◌then◌else◌, List, [], ◌∷◌, ◌++◌, filter, map, count_by, sum_by}
use Rattle.cf_types.specs.Numbers.{below}
use Rattle.cf_types.specs.declared.tree.Hold.{Hold}
use Rattle.run_rules.specs.declared.world.Ref.{Ref}
use Rattle.run_rules.specs.World.{has, holds_in, refers_to}

-- the callers that may hold a device, 1 to 16
abbrev pub possible_holders : List ℕ
possible_holders = map (λ i. i + 1) (below 16)

abbrev pub is_of : ℕ → ℕ → Ref → Bool
is_of k s r = r.serial == s && r.caller == k

-- how often a caller holds a device
abbrev pub count_in : List Ref → ℕ → ℕ → ℕ
count_in refs k s = count_by (is_of k s) refs

-- the list without the first that passes the test
abbrev pub without_first : {A : Type 0} → (A → Bool) → List A → List A
without_first p [] = []
without_first p (x ∷ xs) = if p x then xs else x ∷ without_first p xs

-- the references without one of a caller to a device
abbrev pub given_back : List Ref → ℕ → ℕ → List Ref
given_back refs k s = without_first (is_of k s) refs

-- the references to a device, of whatever caller
abbrev pub refs_to : List Ref → ℕ → ℕ
refs_to refs s = count_by (λ r. r.serial == s) refs

-- a caller holds a device at most 15 times, and one that is held solely is held once
pub record AreCounted (refs : List Ref) (sole : List ℕ) : Type 0 where
  pub few : (k s : ℕ) → count_in refs k s ≤ 15
  pub alone : (s : ℕ) → has sole s ≡ true → refs_to refs s ≡ 1

-- a caller may hold a device once more: solely where nobody holds it, else where nobody holds it solely and the caller fewer than 15 times
abbrev pub MayHold : List Ref → List ℕ → ℕ → ℕ → Bool → Type 0
MayHold refs sole k s true = refers_to refs s ≡ false
MayHold refs sole k s false = (has sole s ≡ false) × (count_in refs k s < 15)

-- the devices that are held solely, with one more or as they are
abbrev pub sole_with : List ℕ → ℕ → Bool → List ℕ
sole_with sole s alone = if alone then sole ++ s ∷ [] else sole

-- the devices that are held solely without this one
abbrev pub shared_again : List ℕ → ℕ → List ℕ
shared_again sole s = filter (λ x. not (x == s)) sole

-- what a caller holds of a device
abbrev pub hold_of : List Ref → List ℕ → ℕ → ℕ → Hold
hold_of refs sole s k = record { caller = k; count = count_in refs k s; sole = has sole s }

-- who holds a device, by caller
unfoldable pub holds_on : List Ref → List ℕ → ℕ → List Hold
holds_on refs sole s = map (hold_of refs sole s) (filter (λ k. holds_in refs k s) possible_holders)

-- the same as a mask: bit k-1 stands for caller k
unfoldable pub holder_mask : List Ref → ℕ → ℕ
holder_mask refs s = sum_by (λ i. if holds_in refs (i + 1) s then 2 ^ i else 0) (below 16)
