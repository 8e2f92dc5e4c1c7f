-- The places of a list of worlds that grows at its end.
use Rattle.std.proofs.Common.{◌≡◌, ◌⊎◌, inl, inr, ◌≤◌, ◌<◌, ◌∙◌, ℕ, List, [], ◌∷◌, ◌++◌, length, get_or, sym, ap, subst, arith, length-append}
use Rattle.std.proofs.Math.Seq.{get_or-append_seam}
use Rattle.std.proofs.lemmas.Bool.{cases_lt}
use Rattle.std.proofs.lemmas.List.{get_or_append_left, get_or_default}
use Rattle.run_rules.specs.declared.world.Setup.{Setup}
use Rattle.run_rules.specs.World.{World}
use Rattle.every_order.specs.declared.known.Met.{Met}
use Rattle.every_order.specs.Search.{HasWithin, IsAt}

pub at_stays : (xs : List Met) (m x : Met) (j : ℕ) → IsAt xs j x → IsAt (xs ++ m ∷ []) j x
at_stays xs m x j at = let lt = at.0 in (omega (arith, length-append xs (m ∷ []), lt), get_or_append_left xs (m ∷ []) x j at.0 ∙ at.1)

pub at_end : (xs : List Met) (m : Met) → IsAt (xs ++ m ∷ []) (length xs) m
at_end xs m = (omega (arith, length-append xs (m ∷ [])), get_or-append_seam xs m [] m)

pub at_cases : (xs : List Met) (m x : Met) (j : ℕ) → IsAt (xs ++ m ∷ []) j x → IsAt xs j x ⊎ ((j ≡ length xs) × (x ≡ m))
at_cases xs m x j at = by (cases_lt j (length xs))
  where
    by : (j < length xs) ⊎ (length xs ≤ j) → IsAt xs j x ⊎ ((j ≡ length xs) × (x ≡ m))
    by (inl lt) = inl (lt, sym (get_or_append_left xs (m ∷ []) x j lt) ∙ at.1)
    by (inr ge) =
        let below = at.0 in
        let last : j ≡ length xs = omega (arith, length-append xs (m ∷ []), below) in
        inr (last, sym at.1 ∙ ap (λ (i : ℕ). get_or (xs ++ m ∷ []) i x) last ∙ get_or-append_seam xs m [] x)

-- what stands at a place of the shorter list
pub at_shorter : (xs : List Met) (m x : Met) (j : ℕ) → j < length xs → IsAt (xs ++ m ∷ []) j x → IsAt xs j x
at_shorter xs m x j lt at = (lt, sym (get_or_append_left xs (m ∷ []) x j lt) ∙ at.1)

pub at_one : (xs : List Met) (j : ℕ) (a b : Met) → IsAt xs j a → IsAt xs j b → a ≡ b
at_one xs j a b x y = sym x.1 ∙ get_or_default xs j a b x.0 ∙ y.1

-- something stands at each place
pub at_some : (xs : List Met) (j : ℕ) → j < length xs → (m : Met) × IsAt xs j m
at_some [] j lt = absurd (omega (arith, lt))
at_some (x ∷ xs) j lt = (get_or (x ∷ xs) j x, (lt, get_or_default (x ∷ xs) j (get_or (x ∷ xs) j x) x lt))

-- what stands at a place that the shorter list has stood there
pub at_back : (old new : List Met) (j : ℕ) (m : Met) → ((i : ℕ) (x : Met) → IsAt old i x → IsAt new i x) → j < length old → IsAt new j m → IsAt old j m
at_back old new j m stays lt at =
    let there : IsAt old j (get_or old j m) = (lt, get_or_default old j (get_or old j m) m lt) in
    subst (IsAt old j) (at_one new j (get_or old j m) m (stays j (get_or old j m) there) at) there

-- a place of the shorter list is one of the longer list too
pub at_longer : (old new : List Met) (j : ℕ) → ((i : ℕ) (x : Met) → IsAt old i x → IsAt new i x) → j < length old → j < length new
at_longer old new j stays lt = let there = at_some old j lt in (stays j there.0 there.1).0

pub has_still : (s : Setup) (old new : List Met) (v : World) (n : ℕ) → ((i : ℕ) (x : Met) → IsAt old i x → IsAt new i x) → HasWithin s old v n → HasWithin s new v n
has_still s old new v n stays has = record { place = has.place; one = has.one; at = stays has.place has.one has.at; same = has.same; near = has.near }

pub has_later : (s : Setup) (met : List Met) (v : World) (m n : ℕ) → m ≤ n → HasWithin s met v m → HasWithin s met v n
has_later s met v m n few has = let near = has.near in record { place = has.place; one = has.one; at = has.at; same = has.same; near = omega (arith, near, few) }
