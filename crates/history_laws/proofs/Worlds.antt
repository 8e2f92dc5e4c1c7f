-- What each deed leaves of the devices that are held solely.
use Rattle.std.proofs.Common.{◌≡◌, ℕ, Bool, true, false, Some, None, refl}
use Rattle.std.specs.Prelude.{if◌then◌else◌}
use Rattle.run_rules.specs.declared.deed.Deed.{Deed}
use Rattle.run_rules.specs.declared.deed.Deed.TheVariants.{Search, Finalise, Drop, Open, Close, Free, Unplug}
use Rattle.run_rules.specs.declared.world.Arrival.{Arrival}
use Rattle.run_rules.specs.World.{World, caller_at}
use Rattle.run_rules.specs.After.{after, freed, freeing_target, listed, over, released}
use Rattle.run_sound.specs.Holding.{opened_by, returned_by}
use Rattle.run_sound.proofs.Beside.{IsBeside, call_part, search_part}

sole_beside : IsBeside (λ (w : World). w.sole)
sole_beside = record { callers = λ w cs. refl; finalisers = λ w xs. refl; deferred = λ w es. refl; place = λ w n b. refl; hidden = λ w xs. refl }

come_sole : (w : World) (a : Arrival) → (listed w a).sole ≡ w.sole
unfolding listed
come_sole w a = refl

freed_sole : (w : World) (k s : ℕ) (last : Bool) → (if last then over (freed w s) k else freed w s).sole ≡ w.sole
freed_sole w k s true = refl
freed_sole w k s false = refl

pub sole_same : (w : World) (k : ℕ) (d : Deed) → opened_by d ≡ None → returned_by d ≡ None → (after w k d).sole ≡ w.sole
unfolding after released
sole_same w k (Search p spot to got) a b = search_part (λ (w : World). w.sole) sole_beside come_sole w k p spot to got
sole_same w k (Finalise s shown got place anew) a b = call_part (λ (w : World). w.sole) sole_beside come_sole w k s shown got place anew
sole_same w k (Free s) a b = freed_sole w k s (freeing_target (caller_at w k).doing s)
sole_same w k (Open s sole) a b = absurd cc
sole_same w k (Close s) a b = absurd cc
sole_same w k (Drop s) a b = absurd cc
sole_same w k (Unplug x None) a b = refl
sole_same w k (Unplug x (Some s)) a b = refl
sole_same w k d a b = refl
