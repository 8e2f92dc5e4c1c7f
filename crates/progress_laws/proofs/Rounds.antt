-- Turns in rounds: each round lowers what is left, until nobody does anything.
use Rattle.std.proofs.Common.{◌≡◌, ◌<◌, ◌≤◌, ◌⊎◌, inl, inr, ℕ, zero, suc, ◌==◌, true, false, List, [], ◌∷◌, ◌++◌, length, refl, sym, ap, ◌∙◌, subst, arith, eqb-true, eq-eqb}
use Rattle.std.proofs.lemmas.Bool.{or_cases, or_left, or_right}
use Rattle.std.proofs.lemmas.List.Folds.{list_any-append}
use Rattle.cf_types.specs.Numbers.{below}
use Rattle.run_rules.specs.declared.world.Setup.{Setup}
use Rattle.run_rules.specs.declared.deed.Deed.{Deed}
use Rattle.run_rules.specs.declared.deed.Choice.{Choice}
use Rattle.run_rules.specs.declared.deed.Choice.TheVariants.{Ended, Waits, Does}
use Rattle.run_rules.specs.World.{World, has, opening}
use Rattle.run_rules.specs.Next.{next}
use Rattle.run_rules.specs.After.{after}
use Rattle.run_rules.specs.declared.event.Event.{Event}
use Rattle.run_rules.specs.Run.{Run, event_of, played, taken}
use Rattle.run_rules.proofs.Setups.{after_setup}
use Rattle.run_sound.proofs.Callers.{doing_there}
use Rattle.progress_laws.specs.Ahead.{run_left}
use Rattle.progress_laws.specs.Ends.{RoundsEnd, all_callers, most_events, rounds}
use Rattle.progress_laws.specs.Still.{NobodyDoes}
use Rattle.progress_laws.proofs.Falls.{left_falls}
use Rattle.progress_laws.proofs.Opening.{left_first, opens_with}
use Rattle.progress_laws.proofs.Runs.{Reached, by_one, opens, reached_on}
use Rattle.progress_laws.proofs.Still.{below_next, somebody_or_nobody}

-- ---- one turn

abbrev turn : World → ℕ → World
turn w k = (taken w k (next w k)).1

-- it leaves a world as runs come to, with the same setup, and no more is left
record Turns (w v : World) : Type 0 where
  reached : Reached v
  setup : v.setup ≡ w.setup
  left : run_left v ≤ run_left w

no_turn : (w : World) → Reached w → Turns w w
no_turn w at = record { reached = at; setup = refl; left = omega arith }

takes : (w : World) (k : ℕ) (c : Choice) → Reached w → next w k ≡ c → Turns w (taken w k c).1
takes w k (Does d) at is = record { reached = reached_on w k d at is; setup = after_setup w k d; left = omega (arith, left_falls w k d at.may at.full.kept is) }
takes w k (Waits why) at is = no_turn w at
takes w k Ended at is = no_turn w at

then_turns : (w u v : World) → Turns w u → Turns u v → Turns w v
then_turns w u v a b = record { reached = b.reached; setup = b.setup ∙ a.setup; left = omega (arith, a.left, b.left) }

played_on : (w : World) (k : ℕ) (ks : List ℕ) → (played w (k ∷ ks)).1 ≡ (played (turn w k) ks).1
unfolding played
played_on w k ks = refl

plays : (w : World) (ks : List ℕ) → Reached w → Turns w (played w ks).1
unfolding played
plays w [] at = no_turn w at
plays w (k ∷ ks) at =
    let first : Turns w (turn w k) = takes w k (next w k) at refl in
    then_turns w (turn w k) (played (turn w k) ks).1 first (plays (turn w k) ks first.reached)

-- ---- a round

-- where one of the callers does something, less is left
round_falls : (w : World) (ks : List ℕ) (k : ℕ) (d : Deed) → Reached w → next w k ≡ Does d → has ks k ≡ true → run_left (played w ks).1 < run_left w
round_falls w [] k d at does here = absurd cc
round_falls w (j ∷ ks) k d at does here =
    subst (λ (v : World). run_left v < run_left w) (sym (played_on w j ks)) (cases (next w j) refl (λ more. round_falls w ks k d at does more) (or_cases (j == k) (has ks k) here))
  where
    cases : (c : Choice) → next w j ≡ c → (has ks k ≡ true → run_left (played w ks).1 < run_left w) → ((j == k) ≡ true) ⊎ (has ks k ≡ true) → run_left (played (taken w j c).1 ks).1 < run_left w
    cases (Does e) is rest where_is = omega (arith, left_falls w j e at.may at.full.kept is, (plays (after w j e) ks (reached_on w j e at is)).left)
    cases (Waits why) is rest (inr more) = rest more
    cases Ended is rest (inr more) = rest more
    cases (Waits why) is rest (inl same) = let no : Waits why ≡ Does d = sym is ∙ ap (next w) (eqb-true j k same) ∙ does in absurd cc
    cases Ended is rest (inl same) = let no : Ended ≡ Does d = sym is ∙ ap (next w) (eqb-true j k same) ∙ does in absurd cc

-- where nobody does anything, nothing changes
still_stays : (w : World) (ks : List ℕ) → NobodyDoes w → (played w ks).1 ≡ w
unfolding played
still_stays w [] still = refl
still_stays w (k ∷ ks) still = ap (λ (v : World). (played v ks).1) (stays (next w k) refl) ∙ still_stays w ks still
  where
    stays : (c : Choice) → next w k ≡ c → (taken w k c).1 ≡ w
    stays (Does d) is = absurd (still k d is)
    stays (Waits why) is = refl
    stays Ended is = refl

played_append : (w : World) (js ks : List ℕ) → (played w (js ++ ks)).1 ≡ (played (played w js).1 ks).1
unfolding played
played_append w [] ks = refl
played_append w (j ∷ js) ks = played_append (turn w j) js ks

has_more : (n i : ℕ) → has (below n) i ≡ true → has (below (suc n)) i ≡ true
has_more n i there = list_any-append (λ y. y == i) (below n) (n ∷ []) ∙ or_left (has (below n) i) (has (n ∷ []) i) there

has_last : (n : ℕ) → has (below (suc n)) n ≡ true
has_last n = list_any-append (λ y. y == n) (below n) (n ∷ []) ∙ or_right (has (below n) n) (has (n ∷ []) n) (or_left (n == n) false (eq-eqb n n refl))

has_below : (n k : ℕ) → k < n → has (below n) k ≡ true
has_below zero k lt = absurd (omega (arith, lt))
has_below (suc n) k lt = below_next (λ i. has (below (suc n)) i ≡ true) n (λ i less. has_more n i (has_below n i less)) (has_last n) k lt

-- ---- the rounds

still_rounds : (n : ℕ) (w : World) (ks : List ℕ) → Reached w → ((k : ℕ) → k < suc (length w.setup.scripts) → has ks k ≡ true) → run_left w ≤ n → NobodyDoes (played w (rounds n ks)).1
unfolding played
still_rounds zero w ks at all le = elim (somebody_or_nobody w) [
  | inl a ↦ absurd (omega (arith, le, left_falls w a.0 a.1 at.may at.full.kept a.2))
  | inr still ↦ still
]
still_rounds (suc n) w ks at all le = elim (somebody_or_nobody w) [
  | inl a ↦
      let there : a.0 < suc (length w.setup.scripts) = omega (arith, doing_there w a.0 a.1 a.2, at.full.kept.ranges.callers.as_many) in
      let round : Turns w (played w ks).1 = plays w ks at in
      let less : run_left (played w ks).1 < run_left w = round_falls w ks a.0 a.1 at a.2 (all a.0 there) in
      subst NobodyDoes (sym (played_append w ks (rounds n ks)))
      (still_rounds n (played w ks).1 ks round.reached (λ k lt. all k (omega (arith, lt, ap (λ (s : Setup). length s.scripts) round.setup))) (omega (arith, less, le)))
  | inr still ↦ subst NobodyDoes (sym (still_stays w (ks ++ rounds n ks) still)) still
]

-- ---- turns make a run

pub record Makes (w v : World) : Type 0 where
  pub events : List Event
  pub run : Run w events v

makes_one : (w : World) (k : ℕ) (c : Choice) → next w k ≡ c → (v : World) → Makes (taken w k c).1 v → Makes w v
makes_one w k (Does d) is v m = record { events = event_of w k d ∷ m.events; run = (after w k d, by_one w (k, d, is), m.run) }
makes_one w k (Waits why) is v m = m
makes_one w k Ended is v m = m

pub makes : (w : World) (ks : List ℕ) → Makes w (played w ks).1
unfolding played
makes w [] = record { events = []; run = refl }
makes w (k ∷ ks) = makes_one w k (next w k) refl (played (turn w k) ks).1 (makes (turn w k) ks)

-- ---- the law

pub rounds_end : RoundsEnd
rounds_end s may =
    still_rounds (most_events s) (opening s) (all_callers s) (opens s may)
    (λ k lt. has_below (suc (length s.scripts)) k (omega (arith, lt, ap (λ (x : Setup). length x.scripts) (opens_with s)))) (left_first s may)
