-- The world before any event is sound, and in its ranges.
use Rattle.std.proofs.Common.{◌≡◌, ◌≢◌, ◌↔◌, ℕ, zero, suc, Bool, false, ◌==◌, ◌||◌, cond, List, [], ◌∷◌, map, length, refl, inl, arith}
use Rattle.std.specs.Prelude.{IsTrue, slice_index_or}
use Rattle.std.specs.List.{AllByRecursion}
use Rattle.std.proofs.lemmas.List.{length-map}
use Rattle.std.proofs.lemmas.List.Sums.{sum_by-append}
use Rattle.cf_types.specs.Numbers.{below}
use Rattle.cf_types.specs.declared.machine.Command.{Command}
use Rattle.cf_types.specs.declared.machine.Ticket.{Ticket}
use Rattle.run_rules.specs.declared.world.Setup.{Setup}
use Rattle.run_rules.specs.declared.world.Activity.TheVariants as activity
use Rattle.run_rules.specs.World.{Caller, beginning, is_live, late_spots, nobody, opening, scan_of, frame_serial}
use Rattle.run_rules.specs.Search.{is_occupied}
use Rattle.run_rules.specs.Sound.{IsSoundCaller, IsUnbegun, Sound, is_powering}
use Rattle.run_sound.specs.Kept.{InRange, Kept, MayRun}
use Rattle.run_sound.specs.Left.{free_spots}
use Rattle.run_sound.proofs.Scripts.{scripts_open}
use Rattle.run_sound.proofs.Tickets.{tickets_open}

-- with no device each spot is free
all_free : (n : ℕ) → free_spots [] n ≡ n
all_free zero = refl
all_free (suc n) = omega (arith, sum_by-append (λ x. cond (is_occupied [] x) 0 1) (below n) (n ∷ []), all_free n)

all_bare : (xs : List ℕ) → AllByRecursion (λ x. is_occupied [] x ≡ false) xs
all_bare [] = tt
all_bare (x ∷ xs) = (refl, all_bare xs)

-- ---- callers

-- a caller that is in the middle of nothing
record Rests (c : Caller) : Type 0 where
  turn : is_powering c.doing ≡ false
  transfer : (t : Ticket) → c.doing ≢ activity.Transfer t
  target : (s : ℕ) → c.doing ≢ activity.Frees s

idle_rests : (stack : List _) → Rests (beginning stack)
idle_rests stack = record { turn = refl; transfer = λ t e. cc; target = λ s e. cc }

nobody_rests : Rests nobody
nobody_rests = record { turn = refl; transfer = λ t e. cc; target = λ s e. cc }

script_rests : (scripts : List (List Command)) (k : ℕ) → Rests (slice_index_or (map (λ script. beginning []) scripts) k nobody)
script_rests [] k = nobody_rests
script_rests (x ∷ xs) zero = idle_rests []
script_rests (x ∷ xs) (suc k) = script_rests xs k

script_empty : (scripts : List (List Command)) (k : ℕ) → (slice_index_or (map (λ script. beginning []) scripts) k nobody).stack ≡ []
script_empty [] k = refl
script_empty (x ∷ xs) zero = refl
script_empty (x ∷ xs) (suc k) = script_empty xs k

scripts_unbegun : (scripts : List (List Command)) → AllByRecursion IsUnbegun (map (λ script. beginning []) scripts)
scripts_unbegun [] = tt
scripts_unbegun (x ∷ xs) = ((refl, refl, refl), scripts_unbegun xs)

no_frames : (live : List _) (scripts : List (List Command)) → AllByRecursion (λ c. AllByRecursion (λ f. IsTrue (frame_serial f == 0 || is_live live (frame_serial f))) c.stack) (map (λ script. beginning []) scripts)
no_frames live [] = tt
no_frames live (x ∷ xs) = (tt, no_frames live xs)

same_false : (a b : Bool) → a ≡ false → b ≡ false → IsTrue a ↔ IsTrue b
same_false a b x y = rw (x, y) ((λ h. h), (λ h. h))

caller_opens : (s : Setup) (k : ℕ) → IsSoundCaller (opening s) k
unfolding opening
caller_opens s zero = record {
  turn = ((λ h. h), (λ h. h));
  transfer = λ t e. absurd (begin_rests.transfer t e);
  ended = λ e. absurd (idle_not_ended e);
  frames = λ h some. absurd (true_false h);
  target = λ x e. absurd (begin_rests.target x e);
}
  where
    begin_rests : Rests (beginning (scan_of 0 ∷ []))
    begin_rests = idle_rests (scan_of 0 ∷ [])

    idle_not_ended : activity.Idle ≢ activity.Ended
    idle_not_ended e = cc

    true_false : IsTrue false → ⊥
    true_false e = cc
caller_opens s (suc k) =
    let c : Caller = slice_index_or (map (λ script. beginning []) s.scripts) k nobody in
    let rests : Rests c = script_rests s.scripts k in
    let empty : c.stack ≡ [] = script_empty s.scripts k in
    record {
      turn = same_false false (is_powering c.doing) refl rests.turn;
      transfer = λ t e. absurd (rests.transfer t e);
      ended = λ e. (empty, tt);
      frames = λ h some. absurd (some empty);
      target = λ x e. absurd (rests.target x e);
    }

sound_opens : (s : Setup) → Sound (opening s)
unfolding opening
sound_opens s = record {
  devices = record { placed = tt; apart = tt };
  refs = record { live_ones = tt; counted = record { few = λ k s. omega arith; alone = λ s h. absurd cc } };
  condemned = tt;
  asleep = tt;
  frames = ((refl, tt), no_frames [] s.scripts);
  deferred = tt;
  callers = caller_opens s;
  interrupts_on = λ h. tt;
  boot = λ goes. record { awake = tt; spared = tt; no_refs = refl; no_turn = refl; waiting = scripts_unbegun s.scripts; finalisers = tt };
}

ranges_open : (s : Setup) → InRange (opening s)
unfolding opening
ranges_open s = record {
  devices = record {
    rows = tt;
    units = tt;
    spots = tt;
    bare = all_bare (late_spots s);
    few = omega (arith, all_free (length s.machine.spots));
  };
  callers = record {
    as_many = omega (arith, length-map s.scripts (λ script. beginning []));
    booting = inl refl;
    placed = scripts_open s;
    tickets = tickets_open s;
    holders = tt;
  };
  list = λ goes. record { few = omega (arith, all_free (length s.machine.spots)); some = λ again. absurd (cc) };
  counted = omega arith;
}

pub opening_kept : (s : Setup) → MayRun s → Kept (opening s)
opening_kept s may = record { sound = sound_opens s; ranges = ranges_open s }
