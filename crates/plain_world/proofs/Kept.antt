-- Serials stay in order where a device comes, where one goes, and where marks change.
use Rattle.std.proofs.Common.{◌≡◌, ℕ, ◌+◌, ◌<◌, Bool, true, false, not, ◌==◌, Some, List, [], ◌∷◌, ◌++◌, map, refl, sym, subst, arith}
use Rattle.std.specs.Prelude.{filter, if◌then◌else◌}
use Rattle.std.specs.List.{AllByRecursion}
use Rattle.run_rules.specs.declared.world.Arrival.{Arrival}
use Rattle.run_rules.specs.declared.world.Dev.{Dev}
use Rattle.run_rules.specs.After.{with_condemner, with_sleep}
use Rattle.run_rules.specs.World.{is_under}
use Rattle.run_rules.specs.Sound.{EachLater}
use Rattle.run_rules.proofs.Devices.{all_imp, all_snoc, later_snoc}
use Rattle.run_rules.proofs.Each.{all_filter, later_filter}
use Rattle.plain_world.specs.LiveDevices.{AreInOrder, device_of}

pub none_yet : AreInOrder [] 1
none_yet = record { from_one = omega arith; above = tt; below = tt; later = tt }

pub one_more : (ds : List Dev) (next : ℕ) (a : Arrival) → AreInOrder ds next → AreInOrder (ds ++ device_of next a ∷ []) (next + 1)
one_more ds next a h = record {
  from_one = omega arith;
  above = all_snoc (λ d. 0 < d.serial) ds (device_of next a) h.above h.from_one;
  below = all_snoc (λ d. d.serial < next + 1) ds (device_of next a) (all_imp (λ d. d.serial < next) (λ d. d.serial < next + 1) (λ d lt. omega arith) ds h.below) (omega arith);
  later = later_snoc (λ d e. d.serial < e.serial) ds (device_of next a) h.later h.below;
}

pub one_less : (ds : List Dev) (next s : ℕ) → AreInOrder ds next → AreInOrder (filter (λ d. not (d.serial == s)) ds) next
one_less ds next s h = record {
  from_one = h.from_one;
  above = all_filter (λ d. 0 < d.serial) (λ d. not (d.serial == s)) ds h.above;
  below = all_filter (λ d. d.serial < next) (λ d. not (d.serial == s)) ds h.below;
  later = later_filter (λ d e. d.serial < e.serial) (λ d. not (d.serial == s)) ds h.later;
}

-- ---- marks

all_map : (P : ℕ → Type 0) (f : Dev → Dev) → ((d : Dev) → (f d).serial ≡ d.serial) → (ds : List Dev) → AllByRecursion (λ d. P d.serial) ds → AllByRecursion (λ d. P d.serial) (map f ds)
all_map P f same [] h = tt
all_map P f same (d ∷ ds) h = (subst P (sym (same d)) h.0, all_map P f same ds h.1)

later_map : (f : Dev → Dev) → ((d : Dev) → (f d).serial ≡ d.serial) → (ds : List Dev) → EachLater (λ d e. d.serial < e.serial) ds → EachLater (λ d e. d.serial < e.serial) (map f ds)
later_map f same [] h = tt
later_map f same (d ∷ ds) h =
    (subst (λ n. AllByRecursion (λ e. n < e.serial) (map f ds)) (sym (same d)) (all_map (λ n. d.serial < n) f same ds h.0), later_map f same ds h.1)

pub marked : (f : Dev → Dev) → ((d : Dev) → (f d).serial ≡ d.serial) → (ds : List Dev) (next : ℕ) → AreInOrder ds next → AreInOrder (map f ds) next
marked f same ds next h = record {
  from_one = h.from_one;
  above = all_map (λ n. 0 < n) f same ds h.above;
  below = all_map (λ n. n < next) f same ds h.below;
  later = later_map f same ds h.later;
}

pub rested_serial : (s : ℕ) (asleep : Bool) (d : Dev) → (with_sleep s asleep d).serial ≡ d.serial
rested_serial s asleep d = cases (d.serial == s)
  where
    cases : (b : Bool) → (if b then record d { asleep = asleep } else d).serial ≡ d.serial
    cases true = refl
    cases false = refl

pub condemned_serial : (live : List Dev) (k s : ℕ) (d : Dev) → (with_condemner live k s d).serial ≡ d.serial
condemned_serial live k s d = cases (is_under live s d.serial)
  where
    cases : (b : Bool) → (if b then record d { condemned = Some k } else d).serial ≡ d.serial
    cases true = refl
    cases false = refl
