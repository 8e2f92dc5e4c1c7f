-- What is left of a machine on which scripts ran side by side.
use Rattle.std.specs.Prelude.{◌≡◌, ◌≢◌, ◌⊎◌, List}
use Rattle.cf_types.specs.declared.machine.Ticket.{Ticket}
use Rattle.boot_laws.specs.Thorough.{IsThorough}
use Rattle.history_laws.specs.Reliable.{IsReliable}
use Rattle.run_rules.specs.declared.event.Event.{Event}
use Rattle.run_rules.specs.declared.world.Setup.{Setup}
use Rattle.run_rules.specs.Run.{Run}
use Rattle.run_rules.specs.World.{World, opening}
use Rattle.script_laws.specs.Whole.{AllRanWhole}
use Rattle.whole_laws.specs.Order.{AreInOrder}
use Rattle.progress_laws.specs.Still.{IsStuck}
use Rattle.board_lock.specs.Boards.{FinishedShown, scripts_of}
use Rattle.board_lock.specs.Carried.{CarriedRun}

-- the history is one run of this setup, which leaves this world; each transfer that ended in it was carried out; each event of a script is in
-- the order of its commands, the first one of each the answer, `drop` and `end` last; the history is reliable and thorough
pub record RanTogether (carried : Ticket → Type 0) (setup : Setup) (h : List Event) (w : World) : Type 0 where
  pub run : Run (opening setup) h w
  pub transfers : CarriedRun carried (opening setup) h w
  pub made : w.setup ≡ setup
  pub ordered : AreInOrder h w
  pub reliable : IsReliable h w
  pub thorough : IsThorough h w

-- it begins with the boot, every script has ended in it, and each command of a script was answered once, in the order of its script
pub record RanSideBySide (carried : Ticket → Type 0) (setup : Setup) (h : List Event) (w : World) : Type 0 where
  pub together : RanTogether carried setup h w
  pub whole : AllRanWhole h w

-- it leads to a world in which nobody goes on and some wait
pub record RanStuck (carried : Ticket → Type 0) (setup : Setup) (h : List Event) (w : World) : Type 0 where
  pub together : RanTogether carried setup h w
  pub stuck : IsStuck w

-- as many scripts have ended as there are, or not
abbrev pub HaveEnded : FinishedShown → Type 0
HaveEnded left = left.ended ≡ scripts_of left.board.world

abbrev pub HaveNotEnded : FinishedShown → Type 0
HaveNotEnded left = left.ended ≢ scripts_of left.board.world

-- what is left: all have ended, or some wait and nobody goes on
abbrev pub HasRunOut : (Ticket → Type 0) → Setup → FinishedShown → Type 0
HasRunOut carried setup left =
    (HaveEnded left × RanSideBySide carried setup left.board.events left.board.world)
    ⊎ (HaveNotEnded left × RanStuck carried setup left.board.events left.board.world)
