-- What a search has met, turn by turn.
use Rattle.std.proofs.Common.{◌≡◌, ◌⊎◌, inl, inr, ◌≤◌, ◌<◌, ◌+◌, ◌∙◌, ℕ, List, [], ◌∷◌, ◌++◌, length, Some, None, sym, ap, subst, arith, length-append}
use Rattle.std.proofs.lemmas.Bool.{cases_lt}
use Rattle.run_rules.specs.declared.world.Setup.{Setup}
use Rattle.run_rules.specs.World.{World}
use Rattle.run_sound.specs.Kept.{MayRun}
use Rattle.run_sound.proofs.Callers.{doing_there}
use Rattle.plain_search.specs.declared.seeker.Seeker.{Seeker}
use Rattle.plain_world.specs.declared.world.Plain.{Plain}
use Rattle.plain_world.specs.Plain.{world_of}
use Rattle.every_order.specs.declared.known.Known.{Known}
use Rattle.every_order.specs.declared.known.Met.{Met}
use Rattle.every_order.specs.Meeting.{IsOfTurn, Meets, MeetsNew}
use Rattle.every_order.specs.Reach.{IsTurn}
use Rattle.every_order.specs.Search.{AreMet, CameFrom, Follows, FollowsAll, FollowsAt, GoesFurther, HasWithin, IsAt, IsFirst, IsFollowed, IsFrontier, IsKnown, IsLeft, IsMet, IsNew, IsThere}
use Rattle.every_order.proofs.Going.{turn_grows, turn_kept}
use Rattle.every_order.proofs.Indexing.{indexed_more}
use Rattle.every_order.proofs.Places.{at_back, at_cases, at_end, at_longer, at_one, at_stays, has_still}
use Rattle.every_order.proofs.Reaching.{turn_from, turn_one}

depth_same : (a b : Met) → a ≡ b → a.depth ≡ b.depth
depth_same a b same = ap (λ (m : Met). m.depth) same

world_same : (s : Setup) (a b : Met) → a ≡ b → world_of s a.plain ≡ world_of s b.plain
world_same s a b same = ap (λ (m : Met). world_of s m.plain) same

-- ---- a world more

-- a turn from the world at a place left it
pub record IsNext (s : Setup) (xs : List Met) (at : ℕ) (one m : Met) : Type 0 where
  pub here : IsAt xs at one
  pub from_is : m.from ≡ at
  pub turn : IsTurn (world_of s one.plain) m.caller (world_of s m.plain)
  pub depth_is : m.depth ≡ one.depth + 1

came_still : (s : Setup) (xs : List Met) (m x : Met) (j : ℕ) → IsFirst j x ⊎ CameFrom s xs j x → IsFirst j x ⊎ CameFrom s (xs ++ m ∷ []) j x
came_still s xs m x j (inl first) = inl first
came_still s xs m x j (inr from) =
    inr (record { before = from.before; whence = from.whence; at = at_stays xs m from.whence x.from from.at; turn = from.turn; deeper = from.deeper })

met_last : (s : Setup) (xs : List Met) (at : ℕ) (one m : Met) → MayRun s → AreMet s xs → IsNext s xs at one m → IsMet s (xs ++ m ∷ []) (length xs) m
met_last s xs at one m may met next = record {
  came = inr (record {
    before = omega (arith, next.here.0, next.from_is);
    whence = one;
    at = subst (λ (i : ℕ). IsAt (xs ++ m ∷ []) i one) (sym next.from_is) (at_stays xs m one at next.here);
    turn = next.turn;
    deeper = next.depth_is;
  });
  kept = turn_kept s one.plain m.plain m.caller may (met.each at one next.here).kept next.turn;
  low = omega (arith, (met.each at one next.here).low, turn_grows s one.plain m.plain m.caller next.turn, next.here.0);
  shallow = omega (arith, (met.each at one next.here).shallow, next.here.0, next.depth_is);
}

pub met_more : (s : Setup) (xs : List Met) (at : ℕ) (one m : Met) → MayRun s → AreMet s xs → IsFrontier xs at → IsNew xs m.plain → IsNext s xs at one m → AreMet s (xs ++ m ∷ [])
met_more s xs at one m may met frontier fresh next = record {
  each = λ j x here. each_by j x (at_cases xs m x j here);
  apart = λ i j a b x y same. apart_by i j a b same (at_cases xs m a i x) (at_cases xs m b j y);
  rising = λ i j a b le x y. rising_by i j a b le (at_cases xs m a i x) (at_cases xs m b j y);
}
  where
    each_by : (j : ℕ) (x : Met) → IsAt xs j x ⊎ ((j ≡ length xs) × (x ≡ m)) → IsMet s (xs ++ m ∷ []) j x
    each_by j x (inl old) = let h = met.each j x old in record { came = came_still s xs m x j h.came; kept = h.kept; low = h.low; shallow = h.shallow }
    each_by j x (inr e) =
        subst (λ (i : ℕ). IsMet s (xs ++ m ∷ []) i x) (sym e.0) (subst (IsMet s (xs ++ m ∷ []) (length xs)) (sym e.1) (met_last s xs at one m may met next))

    apart_by : (i j : ℕ) (a b : Met) → world_of s a.plain ≡ world_of s b.plain → IsAt xs i a ⊎ ((i ≡ length xs) × (a ≡ m)) → IsAt xs j b ⊎ ((j ≡ length xs) × (b ≡ m)) → i ≡ j
    apart_by i j a b same (inl x) (inl y) = met.apart i j a b x y same
    apart_by i j a b same (inl x) (inr f) = absurd (fresh s i a x (same ∙ world_same s b m f.1))
    apart_by i j a b same (inr e) (inl y) = absurd (fresh s j b y (sym same ∙ world_same s a m e.1))
    apart_by i j a b same (inr e) (inr f) = e.0 ∙ sym f.0

    rising_by : (i j : ℕ) (a b : Met) → i ≤ j → IsAt xs i a ⊎ ((i ≡ length xs) × (a ≡ m)) → IsAt xs j b ⊎ ((j ≡ length xs) × (b ≡ m)) → a.depth ≤ b.depth
    rising_by i j a b le (inl x) (inl y) = met.rising i j a b le x y
    rising_by i j a b le (inl x) (inr f) = omega (arith, frontier i one a next.here x, next.depth_is, depth_same b m f.1)
    rising_by i j a b le (inr e) (inl y) = absurd (omega (arith, le, e.0, y.0))
    rising_by i j a b le (inr e) (inr f) = omega (arith, depth_same a m e.1, depth_same b m f.1)

frontier_more : (xs : List Met) (at : ℕ) (one m : Met) → IsAt xs at one → m.depth ≡ one.depth + 1 → IsFrontier xs at → IsFrontier (xs ++ m ∷ []) at
frontier_more xs at one m here depth frontier j a b x y = by (at_cases xs m b j y)
  where
    same : a ≡ one
    same = at_one (xs ++ m ∷ []) at a one x (at_stays xs m one at here)

    by : IsAt xs j b ⊎ ((j ≡ length xs) × (b ≡ m)) → b.depth ≤ a.depth + 1
    by (inl old) = omega (arith, depth_same a one same, frontier j one b here old)
    by (inr e) = omega (arith, depth_same a one same, depth_same b m e.1, depth)

-- ---- a turn is followed

-- the turn from a world at a place is followed where the one world that it leaves is met
followed_one : (s : Setup) (ys : List Met) (at k : ℕ) (one : Met) (q : Plain) → IsAt ys at one → IsLeft s one.plain k (Some q) → HasWithin s ys (world_of s q) (one.depth + 1) → (m : Met) → IsAt ys at m → IsFollowed s ys m k
followed_one s ys at k one q here left has m there u turn =
    let same : m ≡ one = at_one ys at m one there here in
    let is : world_of s q ≡ u = turn_one (world_of s one.plain) k (world_of s q) u left (turn_from (world_of s m.plain) (world_of s one.plain) k u (world_same s m one same) turn) in
    subst (λ (n : ℕ). HasWithin s ys u (n + 1)) (sym (depth_same m one same)) (subst (λ (v : World). HasWithin s ys v (one.depth + 1)) is has)

next_of : (s : Setup) (xs : List Met) (at k depth : ℕ) (one m : Met) (q : Plain) → IsAt xs at one → depth ≡ one.depth + 1 → IsLeft s one.plain k (Some q) → IsOfTurn q at k depth m → IsNext s xs at one m
next_of s xs at k depth one m q here deep left of = record {
  here = here;
  from_is = of.from_is;
  turn = subst (λ (p : Plain). IsTurn (world_of s one.plain) m.caller (world_of s p)) (sym of.world) (subst (λ (c : ℕ). IsTurn (world_of s one.plain) c (world_of s q)) (sym of.caller_is) left);
  depth_is = of.depth_is ∙ deep;
}

follows_new : (s : Setup) (old new : Known) (at k depth : ℕ) (one : Met) (q : Plain) → MayRun s → IsKnown s old at → IsAt old.met.items at one → depth ≡ one.depth + 1 → IsLeft s one.plain k (Some q) → MeetsNew old q at k depth new → Follows s old at k new
follows_new s old new at k depth one q may known here deep left more =
    let xs : List Met = old.met.items in
    let m : Met = more.one in
    record {
      further = record {
        known = record {
          met = subst (AreMet s) (sym more.added.met) (met_more s xs at one m may known.met known.frontier fresh next);
          indexed = indexed_more old new m known.indexed more.printed more.earlier more.added;
          frontier = subst (λ (l : List Met). IsFrontier l at) (sym more.added.met) (frontier_more xs at one m here next.depth_is known.frontier);
        };
        stays = λ j x there. subst (λ (l : List Met). IsAt l j x) (sym more.added.met) (at_stays xs m x j there);
        few = omega (arith, ap (λ (l : List Met). length l) more.added.met, length-append xs (m ∷ []));
      };
      followed = subst (λ (l : List Met). (x : Met) → IsAt l at x → IsFollowed s l x k) (sym more.added.met) (followed_one s (xs ++ m ∷ []) at k one q (at_stays xs m one at here) left has);
    }
  where
    next : IsNext s old.met.items at one more.one
    next = next_of s old.met.items at k depth one more.one q here deep left more.of_turn

    fresh : IsNew old.met.items more.one.plain
    fresh = subst (IsNew old.met.items) (sym more.of_turn.world) more.fresh

    has : HasWithin s (old.met.items ++ more.one ∷ []) (world_of s q) (one.depth + 1)
    has = record { place = length old.met.items; one = more.one; at = at_end old.met.items more.one; same = ap (world_of s) more.of_turn.world; near = omega (arith, next.depth_is) }

-- nothing is added
pub stays_so : (s : Setup) (old : Known) (at : ℕ) → IsKnown s old at → GoesFurther s old at 1 old
stays_so s old at known = record { known = known; stays = λ j x there. there; few = omega arith }

follows_old : (s : Setup) (old : Known) (at k : ℕ) (one : Met) (q : Plain) → IsKnown s old at → IsAt old.met.items at one → IsLeft s one.plain k (Some q) → (place : ℕ) → IsThere old.met.items q place → Follows s old at k old
follows_old s old at k one q known here left place there = record {
  further = stays_so s old at known;
  followed = followed_one s old.met.items at k one q here left (record { place = place; one = there.0; at = there.1; same = there.2 s; near = known.frontier place one there.0 here there.1 });
}

pub follows_some : (s : Setup) (old new : Known) (at k depth : ℕ) (one : Met) (q : Plain) → MayRun s → IsKnown s old at → IsAt old.met.items at one → depth ≡ one.depth + 1 → IsLeft s one.plain k (Some q) → Meets old q at k depth new → Follows s old at k new
follows_some s old new at k depth one q may known here deep left (inl more) = follows_new s old new at k depth one q may known here deep left more
follows_some s old new at k depth one q may known here deep left (inr was) = subst (Follows s old at k) (sym was.same) (follows_old s old at k one q known here left was.place was.there)

pub follows_none : (s : Setup) (old : Known) (at k : ℕ) (one : Met) → IsKnown s old at → IsAt old.met.items at one → IsLeft s one.plain k None → Follows s old at k old
follows_none s old at k one known here none = record {
  further = stays_so s old at known;
  followed = λ m there u turn.
      let same : m ≡ one = at_one old.met.items at m one there here in
      let here_too : IsTurn (world_of s one.plain) k u = turn_from (world_of s m.plain) (world_of s one.plain) k u (world_same s m one same) turn in
      absurd (none here_too.deed here_too.chosen);
}

-- ---- the turns of the callers below n are followed

pub record FollowsBelow (s : Setup) (old : Known) (at n : ℕ) (new : Known) : Type 0 where
  pub further : GoesFurther s old at n new
  pub followed : (m : Met) → IsAt new.met.items at m → (k : ℕ) → k < n → IsFollowed s new.met.items m k

pub below_none : (s : Setup) (old : Known) (at : ℕ) → IsKnown s old at → FollowsBelow s old at 0 old
below_none s old at known = record {
  further = record { known = known; stays = λ j x there. there; few = omega arith };
  followed = λ m here k lt. absurd (omega (arith, lt));
}

pub below_more : (s : Setup) (a b c : Known) (at n : ℕ) → at < length a.met.items → FollowsBelow s a at n b → Follows s b at n c → FollowsBelow s a at (n + 1) c
below_more s a b c at n within so next = record {
  further = record {
    known = next.further.known;
    stays = λ j x there. next.further.stays j x (so.further.stays j x there);
    few = omega (arith, so.further.few, next.further.few);
  };
  followed = λ m here k lt. by m here k (cases_lt k n) lt;
}
  where
    by : (m : Met) → IsAt c.met.items at m → (k : ℕ) → (k < n) ⊎ (n ≤ k) → k < n + 1 → IsFollowed s c.met.items m k
    by m here k (inl lt) _ = λ u turn.
        let long : at < length b.met.items = at_longer a.met.items b.met.items at so.further.stays within in
        has_still s b.met.items c.met.items u (m.depth + 1) next.further.stays (so.followed m (at_back b.met.items c.met.items at m next.further.stays long here) k lt u turn)
    by m here k (inr ge) lt =
        let same : k ≡ n = omega (arith, ge, lt) in
        subst (IsFollowed s c.met.items m) (sym same) (next.followed m here)

pub long_enough : (s : Setup) (a b : Known) (at n : ℕ) → at < length a.met.items → FollowsBelow s a at n b → at < length b.met.items
long_enough s a b at n within so = at_longer a.met.items b.met.items at so.further.stays within

-- the seeker has counted the devices of the same world
pub follows_still : (s : Setup) (k : Seeker) (a b : Known) (at n : ℕ) → at < length a.met.items → FollowsBelow s a at n b → FollowsAt k a.met.items at → FollowsAt k b.met.items at
follows_still s k a b at n within so follows m here = follows m (at_back a.met.items b.met.items at m so.further.stays within here)

-- there are no other callers
pub follows_all : (s : Setup) (old new : Known) (at n : ℕ) → length s.scripts + 1 ≤ n → n ≤ 256 → FollowsBelow s old at n new → FollowsAll s old at new
follows_all s old new at n all few so = record {
  further = record { known = so.further.known; stays = so.further.stays; few = omega (arith, so.further.few, few) };
  followed = λ m here k u turn.
      let there = doing_there (world_of s m.plain) k turn.deed turn.chosen in
      let callers = (so.further.known.met.each at m here).kept.ranges.callers.as_many in
      so.followed m here k (omega (arith, there, callers, all)) u turn;
}
