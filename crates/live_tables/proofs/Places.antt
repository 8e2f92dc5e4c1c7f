-- The spots below a parent at a place, one after the other.
use Rattle.std.proofs.Common.{◌≡◌, ◌≤◌, ◌<◌, ◌+◌, ℕ, zero, suc, Bool, true, false, not, ◌&&◌, cond, nat_lt, List, [], ◌∷◌, ◌++◌, length, Option, Ok, Err, refl, sym, ap, ◌∙◌, subst, inl, inr, arith}
use Rattle.std.specs.Prelude.{filter, fold}
use Rattle.std.proofs.lemmas.Bool.{cases_lt}
use Rattle.std.proofs.lemmas.Bool.Decides.{nat_tests}
use Rattle.std.proofs.lemmas.List.Elements.{filter-append}
use Rattle.cf_types.specs.Numbers.{below}
use Rattle.cf_types.specs.declared.memory.Memory.{Memory}
use Rattle.cf_types.specs.declared.tables.Place.{Place}
use Rattle.run_rules.specs.Search.{child_spots, is_child, spot_of}
use Rattle.run_rules.proofs.Spans.{spans_hold}
use Rattle.scan_engine.specs.Spans.{AreSpansOf, Covers, span_at}
use Rattle.run_rules.specs.declared.world.Span.{Span}
use Rattle.live_rules.specs.declared.plan.LiveLine.{LiveLine}
use Rattle.live_rules.specs.Laws.{IsSound}
use Rattle.live_rules.specs.Live.{LiveWorld, LiveSite, search_place, search_spot}
use Rattle.live_tables.specs.Coming.{Begins, Brings, Searched}
use Rattle.live_tables.specs.Running.{Running}
use Rattle.live_tables.proofs.Comings.{begins_trans, brings_same, brings_trans, fold_begins, spot_begins}

-- ---- the numbers from one on that pass a test

abbrev pub from_on : (ℕ → Bool) → ℕ → ℕ → List ℕ
from_on q n i = filter (λ x. q x && not (nat_lt x i)) (below n)

same_tests : (p q : ℕ → Bool) (n : ℕ) → ((x : ℕ) → x < n → p x ≡ q x) → filter p (below n) ≡ filter q (below n)
same_tests p q zero same = refl
same_tests p q (suc n) same =
    filter-append p (below n) (n ∷ []) ∙ ap (λ (l : List ℕ). l ++ filter p (n ∷ [])) (same_tests p q n (λ x lt. same x (omega (arith, lt))))
    ∙ ap (λ (b : Bool). filter q (below n) ++ cond b (n ∷ []) []) (same n (omega arith)) ∙ sym (filter-append q (below n) (n ∷ []))

not_below : (a : Bool) (x i : ℕ) → i ≤ x → (a && not (nat_lt x i)) ≡ a
not_below true x i le = grind (arith, nat_tests)
not_below false x i le = refl

is_below : (a : Bool) (x i : ℕ) → x < i → (a && not (nat_lt x i)) ≡ false
is_below true x i lt = grind (arith, nat_tests)
is_below false x i lt = refl

none_of_them : (p : ℕ → Bool) (n : ℕ) → ((x : ℕ) → x < n → p x ≡ false) → filter p (below n) ≡ []
none_of_them p n none = same_tests p (λ x. false) n none ∙ nothing n
  where
    nothing : (m : ℕ) → filter (λ x. false) (below m) ≡ []
    nothing zero = refl
    nothing (suc m) = filter-append (λ x. false) (below m) (m ∷ []) ∙ ap (λ (l : List ℕ). l ++ []) (nothing m)

-- from a number on that none is below of
pub from_first : (q : ℕ → Bool) (n i : ℕ) → ((x : ℕ) → q x ≡ true → i ≤ x) → from_on q n i ≡ filter q (below n)
from_first q n i all = same_tests (λ x. q x && not (nat_lt x i)) q n (λ x lt. one x (q x) refl)
  where
    one : (x : ℕ) (b : Bool) → q x ≡ b → (q x && not (nat_lt x i)) ≡ q x
    one x true e = not_below (q x) x i (all x e)
    one x false e = ap (λ (a : Bool). a && not (nat_lt x i)) e ∙ sym e

-- and from one on that all are below of
pub from_end : (q : ℕ → Bool) (n i : ℕ) → ((x : ℕ) → q x ≡ true → x < n → x < i) → from_on q n i ≡ []
from_end q n i all = none_of_them (λ x. q x && not (nat_lt x i)) n (λ x lt. one x lt (q x) refl)
  where
    one : (x : ℕ) → x < n → (b : Bool) → q x ≡ b → (q x && not (nat_lt x i)) ≡ false
    one x lt true e = is_below (q x) x i (all x e lt)
    one x lt false e = ap (λ (a : Bool). a && not (nat_lt x i)) e

pub from_one : (q : ℕ → Bool) (n i : ℕ) → i < n → from_on q n i ≡ cond (q i) (i ∷ from_on q n (i + 1)) (from_on q n (i + 1))
from_one q zero i lt = absurd (omega (arith, lt))
from_one q (suc n) i lt = elim (cases_lt i n) [
  | inl less ↦
      filter-append (λ x. q x && not (nat_lt x i)) (below n) (n ∷ []) ∙ ap (λ (l : List ℕ). l ++ filter (λ x. q x && not (nat_lt x i)) (n ∷ [])) (from_one q n i less)
      ∙ ap (λ (b : Bool). cond (q i) (i ∷ from_on q n (i + 1)) (from_on q n (i + 1)) ++ cond b (n ∷ []) [])
      (not_below (q n) n i (omega (arith, less)) ∙ sym (not_below (q n) n (i + 1) (omega (arith, less))))
      ∙ inside (q i) (from_on q n (i + 1)) (filter (λ x. q x && not (nat_lt x (i + 1))) (n ∷ []))
      ∙ ap (λ (l : List ℕ). cond (q i) (i ∷ l) l) (sym (filter-append (λ x. q x && not (nat_lt x (i + 1))) (below n) (n ∷ [])))
  | inr past ↦ let same : i ≡ n = omega (arith, lt, past) in
      subst (λ (k : ℕ). from_on q (suc n) k ≡ cond (q k) (k ∷ from_on q (suc n) (k + 1)) (from_on q (suc n) (k + 1))) (sym same) (last (q n) refl)
]
  where
    inside : (b : Bool) (xs ys : List ℕ) → (cond b (i ∷ xs) xs ++ ys) ≡ cond b (i ∷ (xs ++ ys)) (xs ++ ys)
    inside true xs ys = refl
    inside false xs ys = refl

    none_before : filter (λ x. q x && not (nat_lt x n)) (below n) ≡ []
    none_before = none_of_them (λ x. q x && not (nat_lt x n)) n (λ x less. is_below (q x) x n less)

    none_after : from_on q (suc n) (n + 1) ≡ []
    none_after = none_of_them (λ x. q x && not (nat_lt x (n + 1))) (suc n) (λ x less. is_below (q x) x (n + 1) (omega (arith, less)))

    last : (b : Bool) → q n ≡ b → from_on q (suc n) n ≡ cond (q n) (n ∷ from_on q (suc n) (n + 1)) (from_on q (suc n) (n + 1))
    last b e =
        filter-append (λ x. q x && not (nat_lt x n)) (below n) (n ∷ []) ∙ ap (λ (l : List ℕ). l ++ filter (λ x. q x && not (nat_lt x n)) (n ∷ [])) none_before
        ∙ ap (λ (c : Bool). cond c (n ∷ []) []) (not_below (q n) n n (omega arith)) ∙ ap (λ (l : List ℕ). cond (q n) (n ∷ l) l) (sym none_after)

-- ---- what is left of the spots

abbrev pub left : Running → ℕ → Place → ℕ → List ℕ
left r p place i = from_on (is_child r.site.setup.machine (spot_of r.world.live p) place) (length r.site.setup.machine.spots) i

-- what came so far, and what comes of the spots from here on is what comes of all
pub record PlaceSoFar (r l : Running) (old new : List LiveLine) (p : ℕ) (place : Place) (i : ℕ) : Type 0 where
  pub sound : IsSound l.site l.world
  pub brings : Brings r l old new
  pub rest : fold (search_spot r.site p place) l.world (left r p place i) ≡ search_place r.site p r.world place

pub place_begun : (r : Running) (lines : List LiveLine) (p : ℕ) (place : Place) (i : ℕ) → IsSound r.site r.world
    → ((x : ℕ) → is_child r.site.setup.machine (spot_of r.world.live p) place x ≡ true → i ≤ x) → PlaceSoFar r r lines lines p place i
unfolding search_place child_spots
place_begun r lines p place i h first = record {
  sound = h;
  brings = brings_same r lines;
  rest = ap (fold (search_spot r.site p place) r.world) (from_first (is_child r.site.setup.machine (spot_of r.world.live p) place) (length r.site.setup.machine.spots) i first);
}

pub place_passed : (r l : Running) (old new : List LiveLine) (p : ℕ) (place : Place) (i : ℕ) → i < length r.site.setup.machine.spots
    → is_child r.site.setup.machine (spot_of r.world.live p) place i ≡ false → PlaceSoFar r l old new p place i → PlaceSoFar r l old new p place (i + 1)
place_passed r l old new p place i lt out h = record {
  sound = h.sound;
  brings = h.brings;
  rest = ap (fold (search_spot r.site p place) l.world)
      (sym (from_one (is_child r.site.setup.machine (spot_of r.world.live p) place) (length r.site.setup.machine.spots) i lt
      ∙ ap (λ (b : Bool). cond b (i ∷ left r p place (i + 1)) (left r p place (i + 1))) out)) ∙ h.rest;
}

searched_first : (r l : Running) (p : ℕ) (place : Place) (i : ℕ) → i < length r.site.setup.machine.spots → is_child r.site.setup.machine (spot_of r.world.live p) place i ≡ true
    → fold (search_spot r.site p place) (search_spot r.site p place l.world i) (left r p place (i + 1)) ≡ fold (search_spot r.site p place) l.world (left r p place i)
searched_first r l p place i lt child =
    ap (fold (search_spot r.site p place) l.world)
    (sym (from_one (is_child r.site.setup.machine (spot_of r.world.live p) place) (length r.site.setup.machine.spots) i lt
    ∙ ap (λ (b : Bool). cond b (i ∷ left r p place (i + 1)) (left r p place (i + 1))) child))

pub place_more : (r l v : Running) (old mid new : List LiveLine) (p : ℕ) (place : Place) (i : ℕ) → i < length r.site.setup.machine.spots
    → is_child r.site.setup.machine (spot_of r.world.live p) place i ≡ true → IsSound v.site v.world
    → PlaceSoFar r l old mid p place i → Brings l v mid new → v.world ≡ search_spot l.site p place l.world i → PlaceSoFar r v old new p place (i + 1)
place_more r l v old mid new p place i lt child sound h brings is = record {
  sound = sound;
  brings = brings_trans r l v old mid new h.brings brings;
  rest = ap (λ (w : LiveWorld). fold (search_spot r.site p place) w (left r p place (i + 1))) (is ∙ ap (λ (t : LiveSite). search_spot t p place l.world i) h.brings.site)
      ∙ searched_first r l p place i lt child ∙ h.rest;
}

pub place_cut : (r l v : Running) (old mid new : List LiveLine) (p : ℕ) (place : Place) (i : ℕ) (e : Memory) → i < length r.site.setup.machine.spots
    → is_child r.site.setup.machine (spot_of r.world.live p) place i ≡ true
    → PlaceSoFar r l old mid p place i → Searched l v (search_spot l.site p place l.world i) mid new (Err e) → Searched r v (search_place r.site p r.world place) old new (Err e)
place_cut r l v old mid new p place i e lt child h one = record {
  brings = brings_trans r l v old mid new h.brings one.brings;
  ok = tt;
  err =
      let spot : LiveWorld = search_spot r.site p place l.world i in
      let some : Begins v.world spot = subst (λ (t : LiveSite). Begins v.world (search_spot t p place l.world i)) h.brings.site one.err in
      subst (Begins v.world) (searched_first r l p place i lt child ∙ h.rest)
      (begins_trans v.world spot (fold (search_spot r.site p place) spot (left r p place (i + 1))) some
      (fold_begins (search_spot r.site p place) (spot_begins r.site p place) (left r p place (i + 1)) spot));
}

pub place_whole : (r l : Running) (old new : List LiveLine) (p : ℕ) (place : Place) (i : ℕ)
    → ((x : ℕ) → is_child r.site.setup.machine (spot_of r.world.live p) place x ≡ true → x < length r.site.setup.machine.spots → x < i)
    → PlaceSoFar r l old new p place i → Searched r l (search_place r.site p r.world place) old new (Ok tt)
place_whole r l old new p place i last h = record {
  brings = h.brings;
  ok = ap (fold (search_spot r.site p place) l.world) (sym (from_end (is_child r.site.setup.machine (spot_of r.world.live p) place) (length r.site.setup.machine.spots) i last)) ∙ h.rest;
  err = tt;
}

-- all spots below the parent stand in its span
pub holds_here : (r q : Running) (spans : List Span) (p : ℕ) (above : Option ℕ) (span : Span) (place : Place) (x : ℕ) → q ≡ r → AreSpansOf q.site.setup.machine spans → above ≡ spot_of r.world.live p
    → span ≡ span_at spans above → is_child r.site.setup.machine (spot_of r.world.live p) place x ≡ true → Covers span x
holds_here r q spans p above span place x same spanned spot is child =
    subst (λ (s : Span). Covers s x) (sym is)
    (spans_hold r.site.setup.machine spans above (subst (λ (u : Running). AreSpansOf u.site.setup.machine spans) same spanned) place x
    (ap (λ (o : Option ℕ). is_child r.site.setup.machine o place x) spot ∙ child))
