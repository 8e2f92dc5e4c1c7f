-- Whether anybody goes on in a world.
use Rattle.std.specs.Prelude.{◌≡◌, ◌≢◌, ℕ, true, false}
use Rattle.run_rules.specs.declared.deed.Deed.{Deed}
use Rattle.run_rules.specs.declared.deed.Choice.TheVariants.{Does}
use Rattle.run_rules.specs.Next.{next}
use Rattle.run_rules.specs.World.{World, has_ended}

-- some caller does something
abbrev pub SomebodyDoes : World → Type 0
SomebodyDoes w = (k : ℕ) × (d : Deed) × (next w k ≡ Does d)

-- no caller does anything: each waits or has ended
abbrev pub NobodyDoes : World → Type 0
NobodyDoes w = (k : ℕ) (d : Deed) → next w k ≢ Does d

abbrev pub HaveAllEnded : World → Type 0
HaveAllEnded w = (k : ℕ) → has_ended w k ≡ true

-- scripts stand still: no caller does anything, and some caller has not ended, so it waits
pub record IsStuck (w : World) : Type 0 where
  pub still : NobodyDoes w
  pub caller : ℕ
  pub waits : has_ended w caller ≡ false
