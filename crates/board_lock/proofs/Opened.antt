-- A board that has done its boot and nothing else, at the beginning of a run.
use Rattle.std.proofs.Common.{◌≡◌, ◌+◌, ℕ, length, sym, ap, ◌∙◌, arith}
use Rattle.atomic_table.specs.Seated.{TableId}
use Rattle.lease_table.specs.Shown.{KeeperShown, first_seats, states_in}
use Rattle.cf_types.specs.declared.machine.Ticket.{Ticket}
use Rattle.run_rules.specs.declared.world.Setup.{Setup}
use Rattle.run_rules.specs.Counts.{dids_of, ends_of}
use Rattle.run_rules.specs.World.{World}
use Rattle.run_sound.specs.Kept.{MayRun}
use Rattle.history_laws.specs.Calm.{IsCalm}
use Rattle.history_laws.proofs.Boots.{calm_boot}
use Rattle.deed_effect.specs.Agreement.{slots_of}
use Rattle.dev_board.specs.Booting.{IsBooted}
use Rattle.dev_board.specs.Shown.{Shown, began}
use Rattle.board_lock.specs.Boards.{scripts_of, spots_of}
use Rattle.board_lock.specs.Carried.{CarriedRun}
use Rattle.board_lock.specs.Kept.{LockedKept}
use Rattle.board_lock.specs.Names.{AreNames}
use Rattle.board_lock.specs.Seats.{Parts, PartsFit}
use Rattle.board_lock.specs.Tallies.{Totals, none_yet}
use Rattle.dev_board.proofs.Began.{opening_setup}
use Rattle.board_lock.proofs.Carried.{carried_same}

-- the setup of a board is that of the world that it began with
pub same_setup : (b : Shown) (w : World) → began b ≡ w → b.world.setup ≡ w.setup
same_setup b w e = sym (opening_setup b.world.setup) ∙ ap (λ (v : World). v.setup) e

pub same_scripts : (b : Shown) (w : World) → began b ≡ w → scripts_of b.world ≡ scripts_of w
same_scripts b w e = ap (λ (s : Setup). length s.scripts) (same_setup b w e)

-- after the boot nothing is condemned, and no script has done anything
pub calm_of : (b : Shown) → MayRun b.world.setup → IsBooted b → IsCalm b.events b.world
calm_of b may booted = calm_boot b.world.setup b.events b.world may booted.boot

-- what is kept behind the lock holds at the beginning
pub first_kept : (w : World) (c d s : ℕ) (z : TableId) (b : Shown) (p : Parts) (t : Totals) (k : KeeperShown) → AreNames w c d s z b p → PartsFit p b → IsBooted b → IsCalm b.events b.world
    → t ≡ none_yet (scripts_of w) → states_in k.view ≡ p.states → LockedKept w z b t k
first_kept w c d s z b p t k names fits booted calm books states = record {
  opening = names.opening;
  closings = ap (λ (u : Totals). u.closings) books ∙ sym calm.no_ends;
  dids = ap (λ (u : Totals). u.dids) books ∙ sym calm.no_dids;
  rights = let none = booted.stops in let all = ap (λ (u : Totals). u.rights) books in omega arith;
  words = ap (λ (x : Setup). length x.machine.spots + 1) (sym (same_setup b w names.opening)) ∙ (sym fits.words ∙ ap (λ (x : TableId). x.words) names.table);
  states = states ∙ fits.states;
}

pub same_spots : (b : Shown) (w : World) → began b ≡ w → spots_of b.world ≡ spots_of w
same_spots b w e = ap (λ (s : Setup). length s.machine.spots) (same_setup b w e)

-- the table's seats are those of the run's callers
pub seats_dealt : (w : World) (c d s : ℕ) (z : TableId) (b : Shown) (p : Parts) → AreNames w c d s z b p → PartsFit p b → p.callers ≡ first_seats z (spots_of w) (scripts_of w)
seats_dealt w c d s z b p names fits =
    fits.callers ∙ ap (λ (t : TableId × (ℕ × ℕ)). first_seats t.0 t.1.0 t.1.1) (λ i. (names.table i, (same_spots b w names.opening i, same_scripts b w names.opening i)))

-- a step at which the board stays as it is keeps what lies behind the lock
pub kept_same : (P : Ticket → Type 0) (w : World) (z : TableId) (b v : Shown) (t : Totals) (k l : KeeperShown) → LockedKept w z b t k × CarriedRun P w b.events b.world → v ≡ b
    → states_in l.view ≡ slots_of v.world → LockedKept w z v t l × CarriedRun P w v.events v.world
kept_same P w z b v t k l (kept, carried) same states = (
  record {
    opening = ap began same ∙ kept.opening;
    closings = kept.closings ∙ ap (λ (s : Shown). ends_of s.events) (sym same);
    dids = kept.dids ∙ ap (λ (s : Shown). dids_of s.events) (sym same);
    rights = ap (λ (s : Shown). s.stops + t.rights) same ∙ kept.rights;
    words = kept.words;
    states = states;
  },
  carried_same P w b v carried same,
)
