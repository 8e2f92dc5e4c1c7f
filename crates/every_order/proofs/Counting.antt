-- How many callers can go on.
use Rattle.std.proofs.Common.{◌≡◌, ◌≢◌, ◌≤◌, ◌<◌, ◌+◌, ℕ, zero, suc, Bool, true, false, cond, [], ◌∷◌, length, count_by, refl, ap, arith, add-one, length-append}
use Rattle.std.proofs.lemmas.List.Sums.{count_by-le-length, sum_by_push}
use Rattle.cf_types.specs.Numbers.{below}
use Rattle.progress_laws.specs.Still.{HaveAllEnded, IsStuck, NobodyDoes, SomebodyDoes}
use Rattle.run_rules.specs.declared.deed.Choice.{Choice}
use Rattle.run_rules.specs.declared.deed.Choice.TheVariants.{Does, Ended, Waits}
use Rattle.run_rules.specs.declared.deed.Deed.{Deed}
use Rattle.run_rules.specs.declared.world.Setup.{Setup}
use Rattle.run_rules.specs.Next.{next}
use Rattle.run_rules.specs.World.{World, has_ended}
use Rattle.run_sound.proofs.Callers.{doing_there, unended_there}
use Rattle.plain_world.specs.declared.world.Plain.{Plain}
use Rattle.plain_world.specs.Plain.{world_of}
use Rattle.progress_laws.proofs.Still.{below_next}
use Rattle.every_order.specs.Kinds.{goers, goes, is_deed}
use Rattle.every_order.proofs.Reaching.{ends_still}

-- ---- a count of callers

abbrev pub goers_below : World → ℕ → ℕ
goers_below w n = count_by (goes w) (below n)

pub count_more : (w : World) (n : ℕ) → goers_below w (n + 1) ≡ goers_below w n + cond (goes w n) 1 0
count_more w n = rw add-one (sum_by_push (λ (k : ℕ). cond (goes w k) 1 0) (below n) n)

length_below : (n : ℕ) → length (below n) ≡ n
length_below zero = refl
length_below (suc n) = omega (arith, length-append (below n) (n ∷ []), length_below n)

pub goers_whole : (w : World) (n : ℕ) → n ≡ length w.callers → goers_below w n ≡ goers w
unfolding goers
goers_whole w n all = ap (goers_below w) all

pub goers_few : (w : World) → length w.callers ≤ 17 → goers w ≤ 17
unfolding goers
goers_few w few = omega (arith, count_by-le-length (goes w) (below (length w.callers)), length_below (length w.callers), few)

-- ---- what the count says

never_both : (b : Bool) → b ≡ false → b ≡ true → ⊥
never_both b isnt is = absurd cc

does_so : (w : World) (k : ℕ) (c : Choice) → next w k ≡ c → is_deed c ≡ true → SomebodyDoes w
does_so w k (Does d) is so = (k, d, is)
does_so w k (Waits why) is so = absurd cc
does_so w k Ended is so = absurd cc

no_deed : (w : World) (k : ℕ) (d : Deed) → goes w k ≡ false → next w k ≡ Does d → ⊥
no_deed w k d not_so is = let so : goes w k ≡ true = ap is_deed is in absurd (never_both (goes w k) not_so so)

some_below : (w : World) (n : ℕ) → goers_below w n ≢ 0 → SomebodyDoes w
some_below w zero some = absurd (some refl)
some_below w (suc n) some = by (goes w n) refl (some_below w n)
  where
    by : (b : Bool) → goes w n ≡ b → (goers_below w n ≢ 0 → SomebodyDoes w) → SomebodyDoes w
    by true so earlier = does_so w n (next w n) refl so
    by false not_so earlier =
        let last : goers_below w (suc n) ≡ goers_below w n + cond (goes w n) 1 0 = sum_by_push (λ (k : ℕ). cond (goes w k) 1 0) (below n) n in
        let none : ◌≡◌ {A = ℕ} (cond (goes w n) 1 0) 0 = rw not_so refl in
        earlier (λ e. some (omega (arith, last, none, e)))

last_not : (w : World) (n : ℕ) → ◌≡◌ {A = ℕ} (cond (goes w n) 1 0) 0 → goes w n ≡ false
last_not w n none = by (goes w n) refl
  where
    by : (b : Bool) → goes w n ≡ b → goes w n ≡ false
    by true so = let one : ◌≡◌ {A = ℕ} (cond (goes w n) 1 0) 1 = rw so refl in absurd (omega (arith, none, one))
    by false not_so = not_so

none_below : (w : World) (n : ℕ) → goers_below w n ≡ 0 → (k : ℕ) → k < n → (d : Deed) → next w k ≢ Does d
none_below w zero none = λ k lt. absurd (omega (arith, lt))
none_below w (suc n) none =
    let last : goers_below w (suc n) ≡ goers_below w n + cond (goes w n) 1 0 = sum_by_push (λ (k : ℕ). cond (goes w k) 1 0) (below n) n in
    below_next (λ (k : ℕ). (d : Deed) → next w k ≢ Does d) n (none_below w n (omega (arith, last, none))) (λ d is. no_deed w n d (last_not w n (omega (arith, last, none))) is)

pub goers_some : (w : World) → goers w ≢ 0 → SomebodyDoes w
unfolding goers
goers_some w some = some_below w (length w.callers) some

pub goers_none : (w : World) → goers w ≡ 0 → NobodyDoes w
unfolding goers
goers_none w none k d is = none_below w (length w.callers) none k (doing_there w k d is) d is

-- ---- who has not ended

-- where none of the first n has not ended, none has
pub all_ended : (s : Setup) (p : Plain) (n : ℕ) → length p.callers.items ≤ n → ((k : ℕ) → k < n → has_ended (world_of s p) k ≡ true) → HaveAllEnded (world_of s p)
all_ended s p n few below k = by (has_ended (world_of s p) k) refl
  where
    by : (b : Bool) → has_ended (world_of s p) k ≡ b → has_ended (world_of s p) k ≡ true
    by true is = is
    by false is = let there = unended_there (world_of s p) k is in below k (omega (arith, there, few))

-- ---- kinds exclude each other

pub no_end : (w : World) → SomebodyDoes w → HaveAllEnded w → ⊥
no_end w can ended = ends_still w ended can.0 can.1 can.2

pub no_stuck : (w : World) → SomebodyDoes w → IsStuck w → ⊥
no_stuck w can stuck = stuck.still can.0 can.1 can.2

pub stuck_no_end : (w : World) → IsStuck w → HaveAllEnded w → ⊥
stuck_no_end w stuck ended = never_both (has_ended w stuck.caller) stuck.waits (ended stuck.caller)
