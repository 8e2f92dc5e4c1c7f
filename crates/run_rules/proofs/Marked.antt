-- What a device is after it fell asleep, woke or was condemned, and numbers that may be none.
use Rattle.std.proofs.Common.{◌≡◌, ◌≢◌, ℕ, Bool, true, false, Option, Some, None, List, refl, ap}
use Rattle.std.proofs.lemmas.Bool.{eq-eqb, eqb-true, ne_eqb}
use Rattle.run_rules.specs.declared.world.Dev.{Dev}
use Rattle.run_rules.specs.World.{is_number, is_under}
use Rattle.run_rules.specs.After.{with_sleep, with_condemner}

pub sleep_at : (s : ℕ) (asleep : Bool) (d : Dev) → d.serial ≡ s → with_sleep s asleep d ≡ record d { asleep = asleep }
sleep_at s asleep d e = rw (eq-eqb d.serial s e) refl

pub sleep_past : (s : ℕ) (asleep : Bool) (d : Dev) → d.serial ≢ s → with_sleep s asleep d ≡ d
sleep_past s asleep d ne = rw (ne_eqb d.serial s ne) refl

pub condemned_at : (live : List Dev) (k s : ℕ) (d : Dev) → is_under live s d.serial ≡ true → with_condemner live k s d ≡ record d { condemned = Some k }
condemned_at live k s d e = rw e refl

pub condemned_past : (live : List Dev) (k s : ℕ) (d : Dev) → is_under live s d.serial ≡ false → with_condemner live k s d ≡ d
condemned_past live k s d e = rw e refl

pub number_is : (o : Option ℕ) (k : ℕ) → is_number o k ≡ true → o ≡ Some k
number_is None k h = absurd cc
number_is (Some m) k h = ap (λ (x : ℕ). Some x) (eqb-true m k h)

pub is_numbered : (o : Option ℕ) (k : ℕ) → o ≡ Some k → is_number o k ≡ true
is_numbered o k e = rw e (eq-eqb k k refl)
