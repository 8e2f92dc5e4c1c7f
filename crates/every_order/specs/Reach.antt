-- The worlds that callers' turns lead to, by an order of callers.
use Rattle.std.specs.Prelude.{◌≡◌, ◌↔◌, ℕ, List, [], ◌∷◌, map}
use Rattle.run_rules.specs.declared.deed.Choice.TheVariants.{Does}
use Rattle.run_rules.specs.declared.deed.Deed.{Deed}
use Rattle.run_rules.specs.declared.event.Event.{Event}
use Rattle.run_rules.specs.declared.world.Setup.{Setup}
use Rattle.run_rules.specs.After.{after}
use Rattle.run_rules.specs.Next.{next}
use Rattle.run_rules.specs.Run.{Boot, Run, played}
use Rattle.run_rules.specs.World.{World, opening}

-- caller k does what it does next in v, which leaves u
pub record IsTurn (v : World) (k : ℕ) (u : World) : Type 0 where
  pub deed : Deed
  pub chosen : next v k ≡ Does deed
  pub world : u ≡ after v k deed

-- an order of callers leads from w to v, where each of them can go on when its turn comes
abbrev pub Leads : World → List ℕ → World → Type 0
Leads w [] v = w ≡ v
Leads w (k ∷ ks) v = (m : World) × IsTurn w k m × Leads m ks v

-- the world in which the boot ends
pub record IsBooted (s : Setup) (w : World) : Type 0 where
  pub events : List Event
  pub boot : Boot (opening s) events w

-- ---- laws

-- an order leads to a world exactly where a run does whose events are of these callers
pub record IsRun (w : World) (ks : List ℕ) (v : World) : Type 0 where
  pub events : List Event
  pub run : Run w events v
  pub callers : map (λ e. e.caller) events ≡ ks

abbrev pub LeadsAsRuns : Type 0
LeadsAsRuns = (w : World) (ks : List ℕ) (v : World) → Leads w ks v ↔ IsRun w ks v

-- and then its turns, played, leave that world
abbrev pub IsPlayed : Type 0
IsPlayed = (w : World) (ks : List ℕ) (v : World) → Leads w ks v → (played w ks).1 ≡ v
