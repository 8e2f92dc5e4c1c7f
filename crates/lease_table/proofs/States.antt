-- The states that the keeper knows.
use Rattle.std.proofs.Common.{◌≡◌, ℕ, zero, suc, ◌+◌, ◌<◌, true, List, [], ◌∷◌, map, length, refl, ap, ◌∙◌, subst, arith}
use Rattle.std.specs.Prelude.{slice_get, slice_index_or, slice_set, Option, Some, None}
use Rattle.ref_ledger.specs.declared.state.SlotState.{SlotState}
use Rattle.ref_ledger.specs.declared.state.SlotState.TheVariants.{Free}
use Rattle.lease_table.specs.declared.view.SlotRecord.{SlotRecord}
use Rattle.lease_table.specs.declared.view.SeatRecord.{SeatRecord}
use Rattle.lease_table.specs.declared.view.View.{View}
use Rattle.lease_table.specs.declared.view.SlotWord.{SlotWord}
use Rattle.ref_ledger.specs.Slots.{Answers, Denies}
use Rattle.ref_ledger.specs.declared.buried.Bury.{Bury}
use Rattle.ref_ledger.specs.declared.buried.Bury.TheVariants as bury
use Rattle.std.proofs.lemmas.List.{map-set}
use Rattle.lease_table.specs.Leases.{free_slot, slot_at, noticed, knowing, freed, next_generation}
use Rattle.lease_table.specs.Shown.{states_in, denial_in, denial_of, BuryIs}

abbrev there : Option SlotState → ℕ
there None = 0
there (Some s) = 1

abbrev the : Option SlotState → SlotState
the None = Free
the (Some s) = s

known : (l : List SlotRecord) (x : ℕ) (s : SlotState) → slice_get (map (λ (k : SlotRecord). k.state) l) x ≡ Some s → (x < length l) × ((slice_index_or l x free_slot).state ≡ s)
known [] x s e = let t = ap there e in absurd (omega arith)
known (k ∷ l) zero s e = (omega arith, ap the e)
known (k ∷ l) (suc x) s e = let t = known l x s e in (let u = t.0 in omega arith, t.1)

pub known_state : (v : View) (x : ℕ) (s : SlotState) → slice_get (states_in v) x ≡ Some s → (x < length v.standing.slots) × ((slot_at v.standing x).state ≡ s)
known_state v x s e = known v.standing.slots x s e

-- a word without a holder's bit was not shown
pub none_noticed : (mask : ℕ) (v : View) (x : ℕ) (word : SlotWord) → mask ≡ 0 → noticed mask v x word ≡ v
none_noticed zero v x word e = refl
none_noticed (suc mask) v x word e = absurd (omega arith)

pub knowing_state : (v : View) (x : ℕ) (s : SlotState) → states_in (knowing v x s) ≡ slice_set (states_in v) x s
knowing_state v x s = map-set (λ (k : SlotRecord). k.state) v.standing.slots x record { state = s; generation = (slot_at v.standing x).generation }

pub freed_state : (v : View) (x : ℕ) → states_in (freed v x) ≡ slice_set (states_in v) x Free
freed_state v x = map-set (λ (k : SlotRecord). k.state) v.standing.slots x (slot_at (freed_at v x) 0)
  where
    freed_at : View → ℕ → SeatRecord
    freed_at v x = record { keeps = true; number = 0; claims = []; slots = record { state = Free; generation = next_generation (slot_at v.standing x).generation } ∷ []; drawn = 0 }

one_more_denial : (n s : ℕ) (m : SlotWord) → denial_of (n + 1) s m ≡ Some (record { slot = s; mask = m.holders })
one_more_denial n s m = subst (λ (z : ℕ). denial_of z s m ≡ Some (record { slot = s; mask = m.holders })) (next n) refl
  where
    next : (n : ℕ) → suc n ≡ n + 1
    next n = omega arith

-- a burial, as slots see it
pub burial : (x : ℕ) (v w : View) (b : Bury) → BuryIs x v b w → Answers x (states_in v) b (states_in w) × Denies x v.shown (denial_in v) b w.shown (denial_in w)
burial x v w (bury.Buried token) t = ((ap states_in t.0 ∙ freed_state v x, ap (λ z. z.slot) t.1), (ap (λ z. z.shown) t.0, ap denial_in t.0))
burial x v w (bury.Held mask) t =
    let more : w.shown ≡ v.shown + 1 = ap (λ z. z.shown) t.0 in (
      ap states_in t.0,
      (
        omega arith,
        ap denial_in t.0 ∙ (one_more_denial v.shown x w.word ∙ ap (λ m. Some (record { slot = x; mask = m })) t.1),
        t.2,
      ),
    )
