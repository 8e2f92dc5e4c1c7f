-- Slots are published in order.
use Rattle.std.proofs.Common.{◌≡◌, ◌≢◌, ℕ, zero, suc, ◌+◌, ◌<◌, true, false, List, [], ◌∷◌, map, length, sym, refl, ap, ◌∙◌, arith}
use Rattle.std.specs.Prelude.{slice_get, slice_index_or, slice_set, replicate, Some}
use Rattle.ref_ledger.specs.declared.state.SlotState.{SlotState}
use Rattle.ref_ledger.specs.declared.state.SlotState.TheVariants as state
use Rattle.lease_table.specs.declared.view.SlotRecord.{SlotRecord}
use Rattle.lease_table.specs.Leases.{free_slot}
use Rattle.board_lock.specs.Boards.{is_occupied}
use Rattle.board_lock.specs.Seats.{published_below}

pub none_published : (xs : List SlotState) → map (λ (k : SlotRecord). k.state) (replicate (length xs) free_slot) ≡ published_below xs 0
none_published [] = refl
none_published (x ∷ xs) = ap (λ (z : List SlotState). state.Free ∷ z) (none_published xs)

pub all_published : (xs : List SlotState) → published_below xs (length xs) ≡ xs
all_published [] = refl
all_published (x ∷ xs) = ap (λ (z : List SlotState). x ∷ z) (all_published xs)

pub free_yet : (xs : List SlotState) (i : ℕ) → i < length xs → slice_get (published_below xs i) i ≡ Some state.Free
free_yet [] i l = absurd (omega arith)
free_yet (x ∷ xs) zero l = refl
free_yet (x ∷ xs) (suc i) l = free_yet xs i (omega arith)

next : (i : ℕ) → suc i ≡ i + 1
next i = omega arith

yes_and_no : (x : SlotState) → is_occupied x ≡ true → x ≢ state.Condemned → x ≡ state.Live
yes_and_no state.Free e n = search e
yes_and_no state.Live e n = refl
yes_and_no state.Condemned e n = absurd (n refl)

set_next : (xs : List SlotState) (i : ℕ) → is_occupied (slice_index_or xs i state.Free) ≡ true → ((x : ℕ) → slice_get xs x ≢ Some state.Condemned) → slice_set (published_below xs i) i state.Live ≡ published_below xs (suc i)
set_next [] i e n = refl
set_next (x ∷ xs) zero e n = ap (λ (z : SlotState). z ∷ published_below xs 0) (sym (yes_and_no x e (λ is. n 0 (ap (λ (z : SlotState). Some z) is))))
set_next (x ∷ xs) (suc i) e n = ap (λ (z : List SlotState). x ∷ z) (set_next xs i e (λ j. n (suc j)))

skip_next : (xs : List SlotState) (i : ℕ) → is_occupied (slice_index_or xs i state.Free) ≡ false → published_below xs i ≡ published_below xs (suc i)
skip_next [] i e = refl
skip_next (state.Free ∷ xs) zero e = refl
skip_next (state.Live ∷ xs) zero e = search e
skip_next (state.Condemned ∷ xs) zero e = search e
skip_next (x ∷ xs) (suc i) e = ap (λ (z : List SlotState). x ∷ z) (skip_next xs i e)

-- the next slot is occupied, by what is not condemned, and is published
pub one_published : (xs : List SlotState) (i : ℕ) → is_occupied (slice_index_or xs i state.Free) ≡ true → ((x : ℕ) → slice_get xs x ≢ Some state.Condemned) → slice_set (published_below xs i) i state.Live ≡ published_below xs (i + 1)
one_published xs i e n = set_next xs i e n ∙ ap (published_below xs) (next i)

-- the next slot is not occupied
pub one_skipped : (xs : List SlotState) (i : ℕ) → is_occupied (slice_index_or xs i state.Free) ≡ false → published_below xs i ≡ published_below xs (i + 1)
one_skipped xs i e = skip_next xs i e ∙ ap (published_below xs) (next i)
