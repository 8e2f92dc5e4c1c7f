-- The board before any event shows the opening world.
use Rattle.std.proofs.Common.{◌≡◌, [], refl, sym, ◌∙◌, ap, subst, arith}
use Rattle.run_rules.specs.declared.world.Setup.{Setup}
use Rattle.run_rules.specs.World.{World, opening}
use Rattle.run_sound.specs.Kept.{MayRun}
use Rattle.run_sound.proofs.Calls.{calls_first}
use Rattle.run_sound.proofs.Opening.{opening_kept}
use Rattle.run_world.specs.Scripted.{FormedScripts}
use Rattle.run_world.specs.Going.{GoesOn}
use Rattle.run_world.specs.View.{Books, IsFirst}
use Rattle.run_world.specs.declared.parts.Core.{Core}
use Rattle.dev_board.specs.StateKept.{StateKept}
use Rattle.dev_board.specs.declared.board_state.BoardState.{BoardState}
use Rattle.deed_effect.proofs.MarkLaws.{first_marks}
use Rattle.run_world.proofs.UnitLaws.{first_units}
use Rattle.dev_board.proofs.Began.{opening_setup}

no_devices : (s : Setup) → (opening s).live ≡ []
unfolding opening
no_devices s = refl

from_one : (s : Setup) → (opening s).next ≡ 1
unfolding opening
from_one s = refl

pub first_books : (s : Setup) (core : Core) → IsFirst s core → Books s core
first_books s core f =
    let live : core.tree.live ≡ [] = ap (λ (w : World). w.live) f.world ∙ no_devices s in
    record { marks = rw (f.rows, live) (first_marks s); units = rw live (first_units s core.units f.units); drivers = rw (f.drivers, live) refl; recent = f.recent }

pub first_goes : (s : Setup) → MayRun s → FormedScripts s → GoesOn (opening s)
first_goes s may scripts = record {
  may = subst MayRun (sym (opening_setup s)) may;
  scripts = subst FormedScripts (sym (opening_setup s)) scripts;
  kept = opening_kept s may;
  calls = calls_first s;
}

pub begins : (s : Setup) (r : BoardState) → r.going ≡ opening s → r.events.items ≡ [] → StateKept r
begins s r first none =
    let next : r.going.next ≡ 1 = ap (λ (w : World). w.next) first ∙ from_one s in
    let setup : s ≡ r.going.setup = sym (ap (λ (w : World). w.setup) first ∙ opening_setup s) in
    record {
      run = rw none (sym (first ∙ ap opening setup));
      formed = rw none tt;
      next_high = omega (arith, next);
    }
