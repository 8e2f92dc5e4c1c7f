-- What contracts see of shares of the three ledgers of a run, and of their books.
use Rattle.std.specs.Prelude.{◌≡◌, ℕ, ◌+◌}
use Rattle.run_rules.specs.declared.event.Event.{Event}
use Rattle.board_lock.specs.Boards.{one_end}

-- how many seats the shares are of; the ends and the events that these seats' callers did; and the rights to stop that they have left
pub record Tally : Type 0 where
  pub parts : ℕ
  pub closings : ℕ
  pub dids : ℕ
  pub rights : ℕ

-- what all shares have together
pub record Totals : Type 0 where
  pub closings : ℕ
  pub dids : ℕ
  pub rights : ℕ

abbrev pub together : Tally → Tally → Tally
together s t = record { parts = s.parts + t.parts; closings = s.closings + t.closings; dids = s.dids + t.dids; rights = s.rights + t.rights }

-- the shares of n seats that did nothing yet, each with its right to stop
abbrev pub unused : ℕ → Tally
unused n = record { parts = n; closings = 0; dids = 0; rights = n }

-- the books of n seats that did nothing yet
abbrev pub none_yet : ℕ → Totals
none_yet n = record { closings = 0; dids = 0; rights = n }

-- after one event more
abbrev pub one_more : Tally → Event → Tally
one_more t e = record { parts = t.parts; closings = t.closings + one_end e; dids = t.dids + 1; rights = t.rights }

abbrev pub more_in_all : Totals → Event → Totals
more_in_all t e = record { closings = t.closings + one_end e; dids = t.dids + 1; rights = t.rights }

-- but for the rights
abbrev pub SameCounts : Totals → Totals → Type 0
SameCounts s t = (t.closings ≡ s.closings) × (t.dids ≡ s.dids)

abbrev pub SameShares : Tally → Tally → Type 0
SameShares s t = (t.parts ≡ s.parts) × (t.closings ≡ s.closings) × (t.dids ≡ s.dids)

-- the shares have what the books say
pub record Agrees (s : Tally) (t : Totals) : Type 0 where
  pub closings : s.closings ≡ t.closings
  pub dids : s.dids ≡ t.dids
  pub rights : s.rights ≡ t.rights
