-- When a search is done.
use Rattle.std.proofs.Common.{◌≡◌, ◌⊎◌, inl, inr, ◌≤◌, ◌<◌, ◌+◌, ◌^◌, ◌∙◌, ℕ, zero, suc, List, [], ◌∷◌, ◌++◌, length, get_or, Vec, Option, Some, None, refl, sym, ap, subst, arith}
use Rattle.std.specs.Prelude.{All, IfOk, option_map}
use Rattle.std.specs.Global.{Global}
use Rattle.std.specs.declared.result.Result.{Result}
use Rattle.std.specs.declared.result.Result.TheVariants.{Ok, Err}
use Rattle.std.specs.List.{Contains}
use Rattle.std.proofs.lemmas.Bool.{cases_lt}
use Rattle.run_rules.specs.declared.world.Setup.{Setup}
use Rattle.run_rules.specs.World.{World}
use Rattle.run_sound.specs.Kept.{Kept}
use Rattle.plain_world.specs.declared.world.Plain.{Plain}
use Rattle.plain_world.specs.Plain.{world_of}
use Rattle.every_order.specs.declared.known.Known.{Known}
use Rattle.every_order.specs.declared.known.Met.{Met}
use Rattle.every_order.specs.Every.{AreApart, AreReached, HasMore, IsReached}
use Rattle.every_order.specs.Reach.{IsTurn, Leads}
use Rattle.every_order.specs.Search.{AreFollowed, AreMet, CameFrom, FollowsAll, HasWithin, IsAt, IsBeginning, IsFirst, IsFrontier, IsKnown, IsMet, IsWhole, IsWholeOrMore, worlds_in}
use Rattle.every_order.proofs.Ordering.{first_near}
use Rattle.every_order.proofs.Places.{at_back, at_end, at_longer, at_one, at_some, has_later, has_still}
use Rattle.every_order.proofs.Reaching.{leads_more, turn_from}

-- the first i worlds were followed, and the first is w
pub record IsSearch (s : Setup) (w : World) (now : Known) (i : ℕ) : Type 0 where
  pub known : IsKnown s now i
  pub first : Met
  pub at_first : IsAt now.met.items 0 first
  pub same : world_of s first.plain ≡ w
  pub followed : AreFollowed s now.met.items i

-- ---- the beginning

only : (m x : Met) (j : ℕ) → IsAt (m ∷ []) j x → (j ≡ 0) × (x ≡ m)
only m x j at =
    let below = at.0 in
    let zero_place : j ≡ 0 = omega (arith, below) in
    (zero_place, at_one (m ∷ []) 0 x m (subst (λ (i : ℕ). IsAt (m ∷ []) i x) zero_place at) (at_end [] m))

first_met : (s : Setup) (m : Met) → m.depth ≡ 0 → Kept (world_of s m.plain) → m.plain.live.next ≤ 2 ^ 63 → AreMet s (m ∷ [])
first_met s m near kept low = record {
  each = λ j x at. by j x (only m x j at);
  apart = λ i j a b x y same. (only m a i x).0 ∙ sym (only m b j y).0;
  rising = λ i j a b le x y. omega (arith, ap (λ (z : Met). z.depth) ((only m a i x).1 ∙ sym (only m b j y).1));
}
  where
    here : IsMet s (m ∷ []) 0 m
    here = record { came = inl (refl, near); kept = kept; low = omega (arith, low); shallow = omega (arith, near) }

    by : (j : ℕ) (x : Met) → (j ≡ 0) × (x ≡ m) → IsMet s (m ∷ []) j x
    by j x is = subst (λ (i : ℕ). IsMet s (m ∷ []) i x) (sym is.0) (subst (IsMet s (m ∷ []) 0) (sym is.1) here)

first_frontier : (m : Met) → IsFrontier (m ∷ []) 0
first_frontier m j a b x y = omega (arith, ap (λ (z : Met). z.depth) ((only m a 0 x).1 ∙ sym (only m b j y).1))

pub search_first : (s : Setup) (p : Plain) (known : Known) → Kept (world_of s p) → p.live.next ≤ 2 ^ 63 → IsBeginning p known → IsSearch s (world_of s p) known 0
search_first s p known kept low begins = record {
  known = record {
    met = subst (AreMet s) (sym begins.met) (first_met s begins.one begins.depth (subst (λ (q : Plain). Kept (world_of s q)) (sym begins.world) kept) (subst (λ (q : Plain). q.live.next ≤ 2 ^ 63) (sym begins.world) low));
    indexed = begins.indexed;
    frontier = subst (λ (l : List Met). IsFrontier l 0) (sym begins.met) (first_frontier begins.one);
  };
  first = begins.one;
  at_first = subst (λ (l : List Met). IsAt l 0 begins.one) (sym begins.met) (at_end [] begins.one);
  same = ap (world_of s) begins.world;
  followed = λ j m lt at. absurd (omega (arith, lt));
}

-- ---- one more

pub search_more : (s : Setup) (w : World) (old new : Known) (i : ℕ) → i < length old.met.items → IsSearch s w old i → FollowsAll s old i new → IsSearch s w new (i + 1)
search_more s w old new i within so next = record {
  known = record { met = next.further.known.met; indexed = next.further.known.indexed; frontier = frontier };
  first = so.first;
  at_first = next.further.stays 0 so.first so.at_first;
  same = so.same;
  followed = λ j m lt at. by j m at (cases_lt j i) lt;
}
  where
    -- what is a turn behind the world at i is at most a turn behind the next one
    frontier : IsFrontier new.met.items (i + 1)
    frontier j a b x y =
        let long : i < length new.met.items = at_longer old.met.items new.met.items i next.further.stays within in
        let here = at_some new.met.items i long in
        omega (arith, next.further.known.frontier j here.0 b here.1 y, next.further.known.met.rising i (i + 1) here.0 a (omega arith) here.1 x)

    by : (j : ℕ) (m : Met) → IsAt new.met.items j m → (j < i) ⊎ (i ≤ j) → j < i + 1 → (k : ℕ) → (u : World) → IsTurn (world_of s m.plain) k u → HasWithin s new.met.items u (m.depth + 1)
    by j m at (inl lt) _ = λ k u turn.
        has_still s old.met.items new.met.items u (m.depth + 1) next.further.stays (so.followed j m lt (at_back old.met.items new.met.items j m next.further.stays (omega (arith, lt, within)) at) k u turn)
    by j m at (inr ge) lt =
        let same : j ≡ i = omega (arith, ge, lt) in
        next.followed m (subst (λ (n : ℕ). IsAt new.met.items n m) same at)

-- ---- done: each turn of a world of the list leaves one of the list, so it has all that is reached

closed_has : (s : Setup) (met : List Met) (i : ℕ) → length met ≤ i → AreFollowed s met i → (v : World) (ks : List ℕ) (u : World) (n : ℕ) → HasWithin s met v n → Leads v ks u → HasWithin s met u (n + length ks)
closed_has s met i done followed v [] u n here leads = has_later s met u n (n + 0) (omega arith) (subst (λ (x : World). HasWithin s met x n) leads here)
closed_has s met i done followed v (k ∷ ks) u n here leads =
    let below = here.at.0 in
    let near = here.near in
    let next : HasWithin s met leads.0 (here.one.depth + 1) =
    followed here.place here.one (omega (arith, done, below)) here.at k leads.0 (turn_from v (world_of s here.one.plain) k leads.0 (sym here.same) leads.1) in
    has_later s met u (n + 1 + length ks) (n + length (k ∷ ks)) (omega arith)
    (closed_has s met i done followed leads.0 ks u (n + 1) (has_later s met leads.0 (here.one.depth + 1) (n + 1) (omega (arith, near)) next) leads.2)

pub search_done : (s : Setup) (w : World) (known : Known) (i : ℕ) → length known.met.items ≤ i → IsSearch s w known i → IsWhole s w known.met.items
search_done s w known i done so =
    let first : HasWithin s known.met.items w 0 =
    record { place = 0; one = so.first; at = so.at_first; same = so.same; near = omega (arith, first_near s known.met.items so.first so.known.met so.at_first) } in
    record {
      kept = so.known.met;
      first = first;
      first_place = refl;
      whole = λ ks v leads. has_later s known.met.items v (0 + length ks) (length ks) (omega arith) (closed_has s known.met.items i done so.followed w ks v 0 first leads);
    }

-- ---- what is in the list is reached, and stands there once

reached_by : (s : Setup) (w : World) (met : List Met) (first : Met) → AreMet s met → IsAt met 0 first → world_of s first.plain ≡ w → (n j : ℕ) (m : Met) → j < n → IsAt met j m → IsReached w (world_of s m.plain)
reached_by s w met first all at_first same zero j m lt at = absurd (omega (arith, lt))
reached_by s w met first all at_first same (suc n) j m lt at =
    by (all.each j m at).came (λ from. let before = from.before in reached_by s w met first all at_first same n m.from from.whence (omega (arith, before, lt)) from.at)
  where
    by : IsFirst j m ⊎ CameFrom s met j m → ((from : CameFrom s met j m) → IsReached w (world_of s from.whence.plain)) → IsReached w (world_of s m.plain)
    by (inl is) earlier =
        let one : first ≡ m = at_one met 0 first m at_first (subst (λ (x : ℕ). IsAt met x m) is.0 at) in
        ([], sym same ∙ ap (λ (y : Met). world_of s y.plain) one)
    by (inr from) earlier =
        let r = earlier from in
        (r.0 ++ m.caller ∷ [], leads_more w r.0 (world_of s from.whence.plain) m.caller (world_of s m.plain) r.1 from.turn)

pub length_worlds : (s : Setup) (met : List Met) → length (worlds_in s met) ≡ length met
length_worlds s [] = refl
length_worlds s (m ∷ met) = ap (λ (n : ℕ). suc n) (length_worlds s met)

-- what stands at a place of the worlds is the world of what stands there
pub world_at : (s : Setup) (met : List Met) (k : ℕ) (d : World) → k < length met → (m : Met) × IsAt met k m × (get_or (worlds_in s met) k d ≡ world_of s m.plain)
world_at s [] k d lt = absurd (omega (arith, lt))
world_at s (m ∷ met) zero d lt = (m, (omega arith, refl), refl)
world_at s (m ∷ met) (suc k) d lt =
    let rest = world_at s met k d (omega (arith, lt)) in
    (rest.0, (omega (arith, lt), rest.1.1), rest.2)

pub all_reached : (s : Setup) (w : World) (met : List Met) (first : Met) → AreMet s met → IsAt met 0 first → world_of s first.plain ≡ w → All (IsReached w) (worlds_in s met)
all_reached s w met first all at_first same k d lt =
    let one = world_at s met k d (omega (arith, length_worlds s met, lt)) in
    subst (IsReached w) (sym one.2) (reached_by s w met first all at_first same (k + 1) k one.0 (omega arith) one.1)

pub all_apart : (s : Setup) (met : List Met) → AreMet s met → AreApart (worlds_in s met)
all_apart s met all i j d lt within same =
    let a = world_at s met i d (omega (arith, length_worlds s met, lt, within)) in
    let b = world_at s met j d (omega (arith, length_worlds s met, within)) in
    let equal : i ≡ j = all.apart i j a.0 b.0 a.1 b.1 (sym a.2 ∙ same ∙ b.2) in
    omega (arith, equal, lt)

-- what has a place has its world among the worlds
pub contains_place : (s : Setup) (met : List Met) (k : ℕ) (m : Met) (v : World) → IsAt met k m → world_of s m.plain ≡ v → Contains (worlds_in s met) v
contains_place s met k m v at same =
    let below = at.0 in
    let one = world_at s met k v below in
    (k, omega (arith, length_worlds s met, below), one.2 ∙ ap (λ (y : Met). world_of s y.plain) (at_one met k one.0 m one.1 at) ∙ same)

pub are_reached : (s : Setup) (w : World) (met : List Met) → IsWhole s w met → AreReached w (worlds_in s met)
are_reached s w met so = record {
  real = all_reached s w met so.first.one so.kept (subst (λ (i : ℕ). IsAt met i so.first.one) so.first_place so.first.at) so.first.same;
  every = λ ks v leads. let has = so.whole ks v leads in contains_place s met has.place has.one v has.at has.same;
  apart = all_apart s met so.kept;
}

-- there are more worlds than the bound
pub has_more : (s : Setup) (w : World) (known : Known) (i most : ℕ) → most < length known.met.items → IsSearch s w known i → HasMore w most
has_more s w known i most many so = record {
  worlds = worlds_in s known.met.items;
  reached = all_reached s w known.met.items so.first so.known.met so.at_first so.same;
  apart = all_apart s known.met.items so.known.met;
  more = omega (arith, length_worlds s known.met.items, many);
}

-- ---- what the search answers

-- the worlds are there
pub of_some : (s : Setup) (w : World) (most : ℕ) (all : Option (Vec Met Global)) (met : Vec Met Global) → all ≡ Some met → IsWholeOrMore s w most (option_map (λ (v : Vec Met Global). v.items) all) → IsWhole s w met.items × (length met.items ≤ most)
of_some s w most all met is so = subst (λ (o : Option (Vec Met Global)). IsWholeOrMore s w most (option_map (λ (v : Vec Met Global). v.items) o)) is so

-- there are more than the bound
pub of_none : (s : Setup) (w : World) (most : ℕ) (all : Option (Vec Met Global)) → all ≡ None → IsWholeOrMore s w most (option_map (λ (v : Vec Met Global). v.items) all) → HasMore w most
of_none s w most all is so = subst (λ (o : Option (Vec Met Global)). IsWholeOrMore s w most (option_map (λ (v : Vec Met Global). v.items) o)) is so

-- what holds of an answer holds of it in other words
pub if_ok : {A E : Type 0} (P Q : A → Type 0) (r : Result A E) → IfOk r P → ((a : A) → P a → Q a) → IfOk r Q
if_ok P Q (Ok a) so more = more a so
if_ok P Q (Err e) so more = tt
