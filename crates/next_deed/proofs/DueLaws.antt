-- A search that goes from turn to turn finds the due one.
use Rattle.std.proofs.Common.{◌≡◌, ◌<◌, ℕ, true, false, List, Option, Some, None, sym}
use Rattle.run_rules.specs.declared.world.Setup.{Setup}
use Rattle.run_rules.specs.declared.world.Dev.{Dev}
use Rattle.run_rules.specs.declared.world.Position.{Position}
use Rattle.run_rules.specs.declared.world.Turn.{Turn}
use Rattle.run_rules.specs.declared.world.Wanted.{Wanted}
use Rattle.run_rules.specs.Search.{due, is_due, turns, turns_of, driver_at, attach_at, spot_of}
use Rattle.scan_engine.specs.Turns.{first_from, past, turns_after}
use Rattle.scan_engine.proofs.TurnLaws.{none_left, taken, passed_turn, fewer_left}
use Rattle.next_deed.specs.declared.due.Searcher.{Searcher}
use Rattle.next_deed.specs.Turns.{searcher_of}

-- the turns of a searcher
abbrev pub turns_by : Setup → Searcher → Option ℕ → List Turn
turns_by s by only = turns_of s.tables s.machine by.driver by.attach by.spot only

pub none_due : (s : Setup) (live : List Dev) (absent hidden : List ℕ) (p : ℕ) (only : Option ℕ) (wanted : List Wanted) (from : Position) (by : Searcher)
    → by ≡ searcher_of s live p → first_from (turns_by s by only) from ≡ None → due s live absent hidden p only wanted from ≡ None
unfolding due
none_due s live absent hidden p only wanted from by is h = none_left (turns s live p only) from (is_due s live absent hidden p wanted) (rw is at h)

pub this_due : (s : Setup) (live : List Dev) (absent hidden : List ℕ) (p : ℕ) (only : Option ℕ) (wanted : List Wanted) (from : Position) (by : Searcher) (t : Turn)
    → by ≡ searcher_of s live p → first_from (turns_by s by only) from ≡ Some t → is_due s live absent hidden p wanted t ≡ true → due s live absent hidden p only wanted from ≡ Some t
unfolding due
this_due s live absent hidden p only wanted from by t is h k = taken (turns s live p only) from (is_due s live absent hidden p wanted) t (rw is at h) k

pub not_due : (s : Setup) (live : List Dev) (absent hidden : List ℕ) (p : ℕ) (only : Option ℕ) (wanted : List Wanted) (from : Position) (by : Searcher) (t : Turn)
    → by ≡ searcher_of s live p → first_from (turns_by s by only) from ≡ Some t → is_due s live absent hidden p wanted t ≡ false
    → due s live absent hidden p only wanted (past t.at) ≡ due s live absent hidden p only wanted from
unfolding due
not_due s live absent hidden p only wanted from by t is h k =
    sym (passed_turn s.tables s.machine (driver_at s live p) (attach_at s live p) (spot_of live p) only from (is_due s live absent hidden p wanted) t (rw is at h) k)

pub fewer_turns : (s : Setup) (by : Searcher) (only : Option ℕ) (from : Position) (t : Turn) → first_from (turns_by s by only) from ≡ Some t
    → turns_after (turns_by s by only) (past t.at) < turns_after (turns_by s by only) from
fewer_turns s by only from t h = fewer_left (turns_by s by only) from t h
