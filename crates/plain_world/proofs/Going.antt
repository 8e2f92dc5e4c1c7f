-- What a deed keeps of a plain world, from the opening world on.
use Rattle.std.proofs.Common.{◌≡◌, ◌≤◌, ◌<◌, ◌+◌, ◌-◌, ◌^◌, ◌∙◌, ℕ, [], length, refl, sym, ap, subst, arith}
use Rattle.run_rules.specs.declared.deed.Choice.TheVariants.{Does}
use Rattle.run_rules.specs.declared.deed.Deed.{Deed}
use Rattle.run_rules.specs.declared.world.Setup.{Setup}
use Rattle.run_rules.specs.After.{after}
use Rattle.run_rules.specs.Next.{next}
use Rattle.run_rules.specs.World.{World, opening}
use Rattle.run_sound.specs.Kept.{Kept, MayRun}
use Rattle.run_sound.proofs.Opening.{opening_kept}
use Rattle.run_sound.proofs.RangesDeeds.{after_serials}
use Rattle.run_sound.proofs.Steps.{kept_after}
use Rattle.plain_world.specs.declared.world.Plain.{Plain}
use Rattle.plain_world.specs.Plain.{world_of}

pub kept_then : (s : Setup) (p q : Plain) (k : ℕ) (d : Deed) → MayRun s → Kept (world_of s p) → next (world_of s p) k ≡ Does d → world_of s q ≡ after (world_of s p) k d → Kept (world_of s q)
kept_then s p q k d may kept chosen same = subst Kept (sym same) (kept_after (world_of s p) k d may kept chosen)

-- at most one serial is given in a deed
pub next_grows : (s : Setup) (p q : Plain) (k : ℕ) (d : Deed) → world_of s q ≡ after (world_of s p) k d → q.live.next ≤ p.live.next + 1
next_grows s p q k d same = omega (arith, ap (λ (w : World). w.next) same, (after_serials (world_of s p) k d).1)

-- ---- the opening world

pub kept_first : (s : Setup) (p : Plain) → MayRun s → world_of s p ≡ opening s → Kept (world_of s p)
kept_first s p may same = subst Kept (sym same) (opening_kept s may)

opening_next : (s : Setup) → (opening s).next ≡ 1
unfolding opening
opening_next s = refl

pub next_first : (s : Setup) (p : Plain) → world_of s p ≡ opening s → p.live.next ≤ 1
next_first s p same = omega (arith, ap (λ (w : World). w.next) same, opening_next s)

opening_live : (s : Setup) → (opening s).live ≡ []
unfolding opening
opening_live s = refl

pub none_first : (s : Setup) (p : Plain) → world_of s p ≡ opening s → p.live.devices ≡ []
none_first s p same = ap (λ (w : World). w.live) same ∙ opening_live s

-- the boot's list is no longer than memory
pub few_called : (p : Plain) → length p.finalisers.items < 2 ^ 64 - 1
few_called p = let same = p.finalisers.ok.0 in let low = p.finalisers.ok.1 in let within = p.finalisers.small in omega (arith, same, low, within)
