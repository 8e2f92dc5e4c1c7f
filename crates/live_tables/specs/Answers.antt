-- What the commands of a plan answer and leave.
use Rattle.std.specs.Prelude.{◌≡◌, ℕ, List, ◌++◌}
use Rattle.live_rules.specs.declared.plan.LiveLine.{LiveLine}
use Rattle.live_rules.specs.declared.plan.LiveReply.{LiveReply}
use Rattle.live_rules.specs.Live.{Answer, Settled}
use Rattle.live_rules.specs.Laws.{IsUndone}
use Rattle.live_tables.specs.Running.{Running}

-- the world after a command, with its lines behind those that were there
pub record Leaves (r v : Running) (old new : List LiveLine) (a : Answer) : Type 0 where
  pub running : v ≡ record r { world = a.world }
  pub lines : new ≡ old ++ a.lines

-- and its reply
pub record Answers (r v : Running) (old new : List LiveLine) (a : Answer) (told : LiveReply) : Type 0 where
  pub reply : told ≡ a.reply
  pub leaves : Leaves r v old new a

-- where nothing was left to come before, the group that came can be taken back
abbrev pub MayUndo : Running → ℕ → Running → Type 0
MayUndo r g v = Settled r.site r.world → IsUndone r.site r.world g v.world

-- all is as before
pub record Stays (r v : Running) (old new : List LiveLine) : Type 0 where
  pub running : v ≡ r
  pub lines : new ≡ old
