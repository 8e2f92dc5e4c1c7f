-- References that count, and sole use: this project's profile.
use Rattle.std.specs.Prelude.{◌≡◌, ℕ, ◌≤◌, ◌==◌, Bool, true, List, [], ◌∷◌, ◌++◌, count_by}
use Rattle.std.specs.List.{All}
use Rattle.run_rules.specs.declared.world.Ref.{Ref}
use Rattle.run_rules.specs.World.{has, holds_in}
use Rattle.run_rules.specs.References.{MayHold, count_in, given_back, shared_again, sole_with}

-- what contracts see: a pair for each reference, in the order in which they were granted, and the devices that are held
-- solely
pub record Ledger : Type 0 where
  pub refs : List Ref
  pub sole : List ℕ

abbrev pub no_references : Ledger
no_references = record { refs = []; sole = [] }

abbrev pub ref_of : ℕ → ℕ → Ref
ref_of serial caller = record { serial = serial; caller = caller }

-- callers that may hold a reference are numbered from 1 to 16
abbrev pub IsHolder : ℕ → Type 0
IsHolder caller = (1 ≤ caller) × (caller ≤ 16)

-- a caller holds a device at most 15 times, and what is held solely is held once
pub record IsKept (refs : List Ref) (sole : List ℕ) : Type 0 where
  pub callers : All (λ r. IsHolder r.caller) refs
  pub few : (k s : ℕ) → count_in refs k s ≤ 15
  pub alone : (s : ℕ) → has sole s ≡ true → count_by (λ r. r.serial == s) refs ≡ 1

-- nobody has the device solely; the only reference comes where there is none, another where the caller has fewer than 15
abbrev pub MayGrant : Ledger → ℕ → ℕ → Bool → Type 0
MayGrant ledger serial caller sole = MayHold ledger.refs ledger.sole caller serial sole

-- with one reference more
abbrev pub granted : Ledger → ℕ → ℕ → Bool → Ledger
granted ledger serial caller sole = record {
  refs = ledger.refs ++ ref_of serial caller ∷ [];
  sole = sole_with ledger.sole serial sole;
}

-- with one reference less; the device is then held by nobody solely
abbrev pub returned : Ledger → ℕ → ℕ → Ledger
returned ledger serial caller = record {
  refs = given_back ledger.refs caller serial;
  sole = shared_again ledger.sole serial;
}

-- the caller has the only reference to the device
pub record IsSoleHolder (ledger : Ledger) (serial caller : ℕ) : Type 0 where
  pub sole : has ledger.sole serial ≡ true
  pub held : holds_in ledger.refs caller serial ≡ true

-- the least serial of a device that the caller holds
pub record IsLeastHeld (refs : List Ref) (caller serial : ℕ) : Type 0 where
  pub held : holds_in refs caller serial ≡ true
  pub least : (s : ℕ) → holds_in refs caller s ≡ true → serial ≤ s
