-- What a caller holds, as a list.
use Rattle.std.proofs.Common.{◌≡◌, ℕ, zero, suc, List, [], ◌∷◌, map, length, ◌<◌, ◌≤◌, ◌+◌, refl, ap, arith}
use Rattle.std.specs.Prelude.{slice_index_or, slice_set, replicate, None}
use Rattle.lease_table.specs.declared.view.Claim.{Claim}
use Rattle.lease_table.specs.declared.view.Claim.TheVariants.{Nothing}
use Rattle.lease_table.specs.Holding.{claim_of}

pub none_held : (n : ℕ) → map claim_of (replicate n None) ≡ replicate n Nothing
none_held zero = refl
none_held (suc n) = ap (λ (z : List Claim). Nothing ∷ z) (none_held n)

-- beyond the slots nothing is held, and a slot that was given back stays so
pub none_beyond : (h : List Claim) (x : ℕ) → length h ≤ x → slice_index_or h x Nothing ≡ Nothing
none_beyond [] x l = refl
none_beyond (a ∷ h) zero l = absurd (omega arith)
none_beyond (a ∷ h) (suc x) l = none_beyond h x (omega arith)

pub one_cleared : (h : List Claim) (i x : ℕ) → (x < i → slice_index_or h x Nothing ≡ Nothing) → x < i + 1 → slice_index_or (slice_set h i Nothing) x Nothing ≡ Nothing
one_cleared [] i x before l = refl
one_cleared (a ∷ h) zero zero before l = refl
one_cleared (a ∷ h) zero (suc x) before l = absurd (omega arith)
one_cleared (a ∷ h) (suc i) zero before l = before (omega arith)
one_cleared (a ∷ h) (suc i) (suc x) before l = one_cleared h i x (λ m. before (omega arith)) (omega arith)
