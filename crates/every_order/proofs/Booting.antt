-- The boot, event by event.
use Rattle.std.proofs.Common.{◌≡◌, ◌≤◌, ◌+◌, ◌^◌, ℕ, true, List, [], ◌∷◌, ◌++◌, refl, sym, ap, subst, arith}
use Rattle.std.specs.List.{AllByRecursion}
use Rattle.run_rules.specs.declared.deed.Choice.TheVariants.{Does}
use Rattle.run_rules.specs.declared.deed.Deed.{Deed}
use Rattle.run_rules.specs.declared.event.Event.{Event}
use Rattle.run_rules.specs.declared.world.Setup.{Setup}
use Rattle.run_rules.specs.After.{after}
use Rattle.run_rules.specs.Next.{next}
use Rattle.run_rules.specs.Run.{Run, event_of}
use Rattle.run_rules.specs.World.{World, has_ended, opening}
use Rattle.run_rules.proofs.Devices.{all_snoc}
use Rattle.run_sound.specs.Kept.{Kept, MayRun}
use Rattle.plain_world.specs.declared.world.Plain.{Plain}
use Rattle.plain_world.specs.Plain.{world_of}
use Rattle.every_order.specs.Search.{HasBooted}
use Rattle.plain_world.proofs.Going.{kept_first, kept_then, next_first, next_grows}

-- n events of caller 0 led to a plain world
pub record IsBooting (s : Setup) (p : Plain) (n : ℕ) : Type 0 where
  pub events : List Event
  pub run : Run (opening s) events (world_of s p)
  pub alone : AllByRecursion (λ (e : Event). e.caller ≡ 0) events
  pub kept : Kept (world_of s p)
  pub low : p.live.next ≤ n + 1

run_more : (w : World) (h : List Event) (v : World) (d : Deed) (u : World) → Run w h v → next v 0 ≡ Does d → u ≡ after v 0 d → Run w (h ++ event_of v 0 d ∷ []) u
unfolding event_of
run_more w [] v d u run chosen same =
    (u, record { deed = d; chosen = subst (λ (x : World). next x 0 ≡ Does d) (sym run) chosen; event = ap (λ (x : World). event_of x 0 d) (sym run); world = subst (λ (x : World). u ≡ after x 0 d) (sym run) same }, refl)
run_more w (e ∷ h) v d u run chosen same = (run.0, run.1, run_more run.0 h v d u run.2 chosen same)

by_boot : (v : World) (d : Deed) → (event_of v 0 d).caller ≡ 0
unfolding event_of
by_boot v d = refl

pub booting_first : (s : Setup) (p : Plain) → MayRun s → world_of s p ≡ opening s → IsBooting s p 0
booting_first s p may same = record { events = []; run = sym same; alone = tt; kept = kept_first s p may same; low = omega (arith, next_first s p same) }

pub booting_more : (s : Setup) (p q : Plain) (n : ℕ) (d : Deed) → MayRun s → IsBooting s p n → next (world_of s p) 0 ≡ Does d → world_of s q ≡ after (world_of s p) 0 d → IsBooting s q (n + 1)
booting_more s p q n d may so chosen same = record {
  events = so.events ++ event_of (world_of s p) 0 d ∷ [];
  run = run_more (opening s) so.events (world_of s p) d (world_of s q) so.run chosen same;
  alone = all_snoc (λ (e : Event). e.caller ≡ 0) so.events (event_of (world_of s p) 0 d) so.alone (by_boot (world_of s p) d);
  kept = kept_then s p q 0 d may so.kept chosen same;
  low = omega (arith, so.low, next_grows s p q 0 d same);
}

pub has_booted : (s : Setup) (p : Plain) (n : ℕ) → n ≤ 2 ^ 62 → IsBooting s p n → has_ended (world_of s p) 0 ≡ true → HasBooted s p
has_booted s p n few so over = record {
  booted = record { events = so.events; boot = record { run = so.run; alone = so.alone; over = over } };
  kept = so.kept;
  low = omega (arith, so.low, few);
}
