-- What the search of all orders answers.
use Rattle.std.specs.Prelude.{◌≡◌, ◌≢◌, ◌<◌, ◌≤◌, ◌*◌, ℕ, All, List, Option, Some, None, length}
use Rattle.std.specs.List.{Contains, slice_index_or}
use Rattle.progress_laws.specs.Still.{HaveAllEnded, IsStuck}
use Rattle.run_rules.specs.declared.world.Setup.{Setup}
use Rattle.run_rules.specs.Tree.{tree_text}
use Rattle.run_rules.specs.World.{World}
use Rattle.every_order.specs.declared.every.Every.{Every}
use Rattle.every_order.specs.Kinds.{turns_in, wait_text}
use Rattle.every_order.specs.Reach.{IsBooted, Leads}
use Rattle.every_order.specs.Ways.{AreWays}

-- some order leads from w to v
abbrev pub IsReached : World → World → Type 0
IsReached w v = (ks : List ℕ) × Leads w ks v

-- no world stands twice
abbrev pub AreApart : List World → Type 0
AreApart ws = (i j : ℕ) (d : World) → i < j → j < length ws → slice_index_or ws i d ≢ slice_index_or ws j d

-- more worlds than so many are reached
pub record HasMore (w : World) (most : ℕ) : Type 0 where
  pub worlds : List World
  pub reached : All (IsReached w) worlds
  pub apart : AreApart worlds
  pub more : most < length worlds

-- these are the worlds that are reached, each once
pub record AreReached (w : World) (ws : List World) : Type 0 where
  pub real : All (IsReached w) ws
  pub every : (ks : List ℕ) (v : World) → Leads w ks v → Contains ws v
  pub apart : AreApart ws

-- so many worlds are reached, no more than the bound, with so many turns, at most 17 in each; and these are the ways to the worlds in which all callers have ended,
-- by their trees, and to those in which nobody can go on though some caller has not ended, by who waits for whom
pub record IsEvery (w : World) (most : ℕ) (e : Every) : Type 0 where
  pub worlds : List World
  pub reached : AreReached w worlds
  pub counted : length worlds ≡ e.worlds
  pub few : e.worlds ≤ most
  pub turns : turns_in worlds ≡ e.turns
  pub few_turns : e.turns ≤ 17 * e.worlds
  pub ends : AreWays w HaveAllEnded tree_text e.ends.items
  pub stuck : AreWays w IsStuck wait_text e.stuck.items

abbrev pub IsEveryOrMore : World → ℕ → Option Every → Type 0
IsEveryOrMore w most (Some e) = IsEvery w most e
IsEveryOrMore w most None = HasMore w most

-- the same from the world in which the boot ends
pub record IsEveryOrder (s : Setup) (most : ℕ) (answer : Option Every) : Type 0 where
  pub world : World
  pub booted : IsBooted s world
  pub every : IsEveryOrMore world most answer
