-- What the caller that has the power turn has left, where another one does something.
use Rattle.std.proofs.Common.{◌≡◌, ◌≢◌, ◌≤◌, ℕ, ◌+◌, ◌==◌, Bool, true, false, cond, List, [], ◌∷◌, ◌++◌, map, count_by, Option, Some, None, refl, ap, arith, eq-eqb}
use Rattle.std.specs.Prelude.{filter}
use Rattle.std.specs.Option.{option_map_or}
use Rattle.std.proofs.lemmas.List.Sums.{sum_by-append, sum_by-cons}
use Rattle.run_rules.specs.declared.event.PowerKind.TheVariants as kind
use Rattle.run_rules.specs.declared.world.Dev.{Dev}
use Rattle.run_rules.specs.declared.world.Activity.{Activity}
use Rattle.run_rules.specs.declared.world.Activity.TheVariants as activity
use Rattle.run_rules.specs.World.{World, caller_at, is_number}
use Rattle.run_rules.specs.Sound.{Sound, is_powering}
use Rattle.run_sound.proofs.Callers.{clash}
use Rattle.progress_laws.specs.Ahead.{asleep_in, awake_in, power_left, turn_left}

-- as many devices sleep, and as many are awake, or so many more
pub record Stirs (x : ℕ) (w v : World) : Type 0 where
  pub asleep : asleep_in v.live ≤ asleep_in w.live + x
  pub awake : awake_in v.live ≤ awake_in w.live + x

pub still : (w v : World) → v.live ≡ w.live → Stirs 0 w v
still w v same = record { asleep = rw same (omega arith); awake = rw same (omega arith) }

power_stirs : (x : ℕ) (w v : World) (a : Activity) → Stirs x w v → power_left v.live a ≤ power_left w.live a + x
power_stirs x w v (activity.Power kind.Suspend target) s = s.awake
power_stirs x w v (activity.Power kind.Resume target) s = s.asleep
power_stirs x w v (activity.Power kind.ResumeTree target) s = s.asleep
power_stirs x w v activity.Idle s = omega arith
power_stirs x w v activity.Ended s = omega arith
power_stirs x w v activity.Scans s = omega arith
power_stirs x w v (activity.Transfer t) s = omega arith
power_stirs x w v (activity.Frees t) s = omega arith

-- who is in no power command has not the turn
pub no_turn : (w : World) (k : ℕ) → Sound w → is_powering (caller_at w k).doing ≡ false → is_number w.power_owner k ≡ false
no_turn w k sound off = cases (is_number w.power_owner k) refl
  where
    cases : (b : Bool) → is_number w.power_owner k ≡ b → is_number w.power_owner k ≡ false
    cases false e = e
    cases true e = clash (is_powering (caller_at w k).doing) ((sound.callers k).turn.0 e) off

turn_for : (x : ℕ) (w v : World) (k : ℕ) (o : Option ℕ) → is_number o k ≡ false → ((j : ℕ) → j ≢ k → caller_at v j ≡ caller_at w j) → Stirs x w v
    → option_map_or (λ j. power_left v.live (caller_at v j).doing) o 0 ≤ option_map_or (λ j. power_left w.live (caller_at w j).doing) o 0 + x
turn_for x w v k None off others s = omega arith
turn_for x w v k (Some j) off others s =
    let other : j ≢ k = λ at. clash (j == k) (eq-eqb j k at) off in
    rw (others j other) (power_stirs x w v (caller_at w j).doing s)

-- so the turn has no more left, or so much more
pub turn_stirs : (x : ℕ) (w v : World) (k : ℕ) → Sound w → is_powering (caller_at w k).doing ≡ false → v.power_owner ≡ w.power_owner → ((j : ℕ) → j ≢ k → caller_at v j ≡ caller_at w j) → Stirs x w v
    → turn_left v ≤ turn_left w + x
turn_stirs x w v k sound off same others s = rw same (turn_for x w v k w.power_owner (no_turn w k sound off) others s)

-- ---- devices come, go and change

pub count_cons : (p : Dev → Bool) (d : Dev) (ds : List Dev) → count_by p (d ∷ ds) ≡ cond (p d) 1 0 + count_by p ds
count_cons p d ds = sum_by-cons (λ (e : Dev). cond (p e) 1 0) d ds

pub count_more : (p : Dev → Bool) (live : List Dev) (d : Dev) → count_by p (live ++ d ∷ []) ≡ count_by p live + cond (p d) 1 0
count_more p live d = omega (arith, sum_by-append (λ (e : Dev). cond (p e) 1 0) live (d ∷ []))

pub count_less : (p q : Dev → Bool) (live : List Dev) → count_by p (filter q live) ≤ count_by p live
count_less p q [] = omega arith
count_less p q (d ∷ ds) = cases (q d) (count_less p q ds)
  where
    cases : (b : Bool) → count_by p (filter q ds) ≤ count_by p ds → count_by p (cond b (d ∷ filter q ds) (filter q ds)) ≤ count_by p (d ∷ ds)
    cases true le = omega (arith, le, count_cons p d ds, count_cons p d (filter q ds))
    cases false le = omega (arith, le, count_cons p d ds)

pub count_map : (p : Dev → Bool) (f : Dev → Dev) (live : List Dev) → ((d : Dev) → p (f d) ≡ p d) → count_by p (map f live) ≡ count_by p live
count_map p f [] same = refl
count_map p f (d ∷ ds) same =
    let one : Bool → ℕ = λ b. cond b 1 0 in
    let here : one (p (f d)) ≡ one (p d) = ap one (same d) in
    omega (arith, here, count_cons p d ds, count_cons p (f d) (map f ds), count_map p f ds same)
