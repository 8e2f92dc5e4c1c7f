-- What was noted of the first worlds of a list, and of all.
use Rattle.std.proofs.Common.{◌≡◌, ◌⊎◌, inl, inr, ◌≤◌, ◌<◌, ◌+◌, ◌∙◌, ℕ, List, [], ◌∷◌, ◌++◌, length, map, take, get_or, refl, sym, ap, subst, arith}
use Rattle.std.specs.Prelude.{All}
use Rattle.std.specs.List.{Contains}
use Rattle.std.proofs.lemmas.Bool.{cases_lt}
use Rattle.std.proofs.lemmas.List.{get_or_default, take_all}
use Rattle.std.proofs.lemmas.List.Elements.{All-nil, All-weaker}
use Rattle.std.proofs.lemmas.List.Sums.{sum_by_more}
use Rattle.progress_laws.specs.Still.{HaveAllEnded, IsStuck, SomebodyDoes}
use Rattle.run_rules.specs.declared.world.Setup.{Setup}
use Rattle.run_rules.specs.Tree.{tree_text}
use Rattle.run_rules.specs.World.{World}
use Rattle.run_sound.specs.Kept.{Kept, MayRun}
use Rattle.plain_world.specs.Plain.{world_of}
use Rattle.every_order.specs.declared.known.Met.{Met}
use Rattle.every_order.specs.declared.every.Every.{Every}
use Rattle.every_order.specs.declared.ways.Noted.{Noted}
use Rattle.every_order.specs.declared.ways.Way.{Way}
use Rattle.every_order.specs.Every.{IsEvery}
use Rattle.every_order.specs.declared.kind.Kind.{Kind}
use Rattle.every_order.specs.declared.kind.Kind.TheVariants.{End, Stuck, GoesOn}
use Rattle.every_order.specs.Kinds.{IsKind, goers, turns_in, wait_text}
use Rattle.every_order.specs.Noted.{AddsText, AreFound, AreNoted, AreSorted, IsAmong, IsFound, IsFoundIn, IsNoted, IsOther, AddsWay, Notes, Texts, way_of, ways_in}
use Rattle.every_order.specs.Reach.{Leads}
use Rattle.every_order.specs.Search.{AreMet, HasWithin, IsAt, IsWhole, worlds_in}
use Rattle.every_order.specs.Ways.{AreWays, IsShortest, LeadsTo, texts_of}
use Rattle.every_order.proofs.Counting.{goers_few, no_end, no_stuck, stuck_no_end}
use Rattle.every_order.proofs.Going.{callers_few}
use Rattle.every_order.proofs.Places.{at_one, at_some}
use Rattle.every_order.proofs.Texts.{all_more, contains_more, contains_new}
use Rattle.every_order.proofs.Whole.{are_reached, length_worlds, world_at}

-- ---- nothing was noted

pub found_none : (s : Setup) (met : List Met) (Kind : World → Type 0) (text_of : World → List ℕ) (ways : List Way) → ways ≡ [] → AreFound s met 0 Kind text_of ways
found_none s met Kind text_of ways none = subst (AreFound s met 0 Kind text_of) (sym none) (record { real = All-nil (IsFound s met Kind text_of); every = λ j m lt. absurd (omega (arith, lt)) })

-- ---- the world at the next place

-- where a world of the kind at the place has its text among the others
found_with : (s : Setup) (met : List Met) (n : ℕ) (Kind : World → Type 0) (text_of : World → List ℕ) (ways : List Way) → All (IsFound s met Kind text_of) ways
    → ((j : ℕ) (m : Met) → j < n → IsAt met j m → Kind (world_of s m.plain) → Contains (texts_of ways) (text_of (world_of s m.plain)))
    → ((m : Met) → IsAt met n m → Kind (world_of s m.plain) → Contains (texts_of ways) (text_of (world_of s m.plain))) → AreFound s met (n + 1) Kind text_of ways
found_with s met n Kind text_of ways real before here = record { real = real; every = λ j m lt at kind. by j m (cases_lt j n) lt at kind }
  where
    by : (j : ℕ) (m : Met) → (j < n) ⊎ (n ≤ j) → j < n + 1 → IsAt met j m → Kind (world_of s m.plain) → Contains (texts_of ways) (text_of (world_of s m.plain))
    by j m (inl less) lt at kind = before j m less at kind
    by j m (inr ge) lt at kind = let last : j ≡ n = omega (arith, ge, lt) in here m (subst (λ (x : ℕ). IsAt met x m) last at) kind

-- the text of what stands at a place
text_at : (s : Setup) (met : List Met) (n : ℕ) (text_of : World → List ℕ) (a b : Met) → IsAt met n a → IsAt met n b → text_of (world_of s a.plain) ≡ text_of (world_of s b.plain)
text_at s met n text_of a b x y = ap (λ (m : Met). text_of (world_of s m.plain)) (at_one met n a b x y)

way_found : (s : Setup) (met : List Met) (n : ℕ) (Kind : World → Type 0) (text_of : World → List ℕ) (old new : Texts) (among : IsAmong s met n Kind text_of old new) → AreMet s met → AreFound s met n Kind text_of (ways_in old)
    → (adds : AddsWay met n (text_of (world_of s among.one.plain)) old new) → IsFound s met Kind text_of adds.way
way_found s met n Kind text_of old new among all so adds = record {
  place = n;
  one = among.one;
  at = among.at;
  kind = among.kind;
  text_is = sym adds.text_is;
  order = adds.order s all;
  first = λ j m lt at kind same. adds.absent (subst (Contains (texts_of (ways_in old))) (same ∙ adds.text_is) (so.every j m lt at kind));
}

found_adds : (s : Setup) (met : List Met) (n : ℕ) (Kind : World → Type 0) (text_of : World → List ℕ) (old new : Texts) (among : IsAmong s met n Kind text_of old new) → AreMet s met → AreFound s met n Kind text_of (ways_in old)
    → AddsText met n (text_of (world_of s among.one.plain)) old new → AreFound s met (n + 1) Kind text_of (ways_in new)
found_adds s met n Kind text_of old new among all so (inl keeps) =
    subst (λ (t : Texts). AreFound s met (n + 1) Kind text_of (ways_in t)) (sym keeps.same)
    (found_with s met n Kind text_of (ways_in old) so.real so.every (λ m at kind. subst (Contains (texts_of (ways_in old))) (text_at s met n text_of among.one m among.at at) keeps.among))
found_adds s met n Kind text_of old new among all so (inr adds) =
    subst (AreFound s met (n + 1) Kind text_of) (sym adds.more.are)
    (found_with s met n Kind text_of (adds.more.before ++ adds.way ∷ adds.more.behind)
    (all_more (IsFound s met Kind text_of) adds.more.before adds.more.behind adds.way (subst (All (IsFound s met Kind text_of)) adds.more.were so.real) (way_found s met n Kind text_of old new among all so adds))
    (λ j m lt at kind. contains_more adds.more.before adds.more.behind adds.way (text_of (world_of s m.plain)) (subst (λ (l : List Way). Contains (texts_of l) (text_of (world_of s m.plain))) adds.more.were (so.every j m lt at kind)))
    (λ m at kind. contains_new adds.more.before adds.more.behind adds.way (text_of (world_of s m.plain)) (adds.text_is ∙ text_at s met n text_of among.one m among.at at)))

pub found_more : (s : Setup) (met : List Met) (n : ℕ) (Kind : World → Type 0) (text_of : World → List ℕ) (old new : Texts) (one : Met) → IsAt met n one → AreMet s met → AreFound s met n Kind text_of (ways_in old) → IsNoted s met n Kind text_of old new
    → AreFound s met (n + 1) Kind text_of (ways_in new)
found_more s met n Kind text_of old new one at all so (inl other) =
    subst (λ (t : Texts). AreFound s met (n + 1) Kind text_of (ways_in t)) (sym other.same)
    (found_with s met n Kind text_of (ways_in old) so.real so.every (λ m here kind. absurd (other.other m here kind)))
found_more s met n Kind text_of old new one at all so (inr among) = found_adds s met n Kind text_of old new among all so among.adds

-- ---- turns

pub turns_none : (s : Setup) (met : List Met) → turns_in (take 0 (worlds_in s met)) ≡ 0
turns_none s met = refl

pub turns_more : (s : Setup) (met : List Met) (n : ℕ) (m : Met) → IsAt met n m → turns_in (take (n + 1) (worlds_in s met)) ≡ turns_in (take n (worlds_in s met)) + goers (world_of s m.plain)
turns_more s met n m at =
    let below = at.0 in
    let d : World = world_of s m.plain in
    let one = world_at s met n d below in
    let same : get_or (worlds_in s met) n d ≡ world_of s m.plain = one.2 ∙ ap (λ (y : Met). world_of s y.plain) (at_one met n one.0 m one.1 at) in
    sum_by_more goers (worlds_in s met) n d (omega (arith, length_worlds s met, below)) ∙ ap (λ (w : World). turns_in (take n (worlds_in s met)) + goers w) same

pub turns_whole : (s : Setup) (met : List Met) (n : ℕ) → n ≡ length met → turns_in (take n (worlds_in s met)) ≡ turns_in (worlds_in s met)
turns_whole s met n all = ap turns_in (take_all n (worlds_in s met) (omega (arith, length_worlds s met, all)))

-- ---- all that is reached

way_leads : (s : Setup) (w : World) (met : List Met) (Kind : World → Type 0) (text_of : World → List ℕ) (way : Way) → IsWhole s w met → IsFound s met Kind text_of way → LeadsTo w Kind text_of way.text.items way.order.items
way_leads s w met Kind text_of way whole found = record {
  world = world_of s found.one.plain;
  leads = subst (λ (x : World). Leads x way.order.items (world_of s found.one.plain)) whole.first.same
      (found.order.leads whole.first.one found.one (subst (λ (i : ℕ). IsAt met i whole.first.one) whole.first_place whole.first.at) found.at);
  kind = found.kind;
  same = found.text_is;
}

-- the first world with a text is no further than any other
no_shorter : (s : Setup) (w : World) (met : List Met) (Kind : World → Type 0) (text_of : World → List ℕ) (way : Way) → IsWhole s w met → IsFound s met Kind text_of way → (ks : List ℕ) → LeadsTo w Kind text_of way.text.items ks
    → length way.order.items ≤ length ks
no_shorter s w met Kind text_of way whole found ks to = by (whole.whole ks to.world to.leads)
  where
    by : HasWithin s met to.world (length ks) → length way.order.items ≤ length ks
    by has = cases (cases_lt has.place found.place)
      where
        kind : Kind (world_of s has.one.plain)
        kind = subst Kind (sym has.same) to.kind

        cases : (has.place < found.place) ⊎ (found.place ≤ has.place) → length way.order.items ≤ length ks
        cases (inl lt) = absurd (found.first has.place has.one lt has.at kind (ap text_of has.same ∙ to.same))
        cases (inr ge) = omega (arith, found.order.long found.one found.at, whole.kept.rising found.place has.place found.one has.one ge found.at has.at, has.near)

pub are_ways : (s : Setup) (w : World) (met : List Met) (Kind : World → Type 0) (text_of : World → List ℕ) (ways : List Way) → IsWhole s w met → AreFound s met (length met) Kind text_of ways → AreSorted ways → AreWays w Kind text_of ways
are_ways s w met Kind text_of ways whole found sorted = record {
  real = All-weaker (IsFound s met Kind text_of) (λ way. IsShortest w Kind text_of way.text.items way.order.items) (λ way is. record { way = way_leads s w met Kind text_of way whole is; least = no_shorter s w met Kind text_of way whole is }) ways found.real;
  every = λ ks v leads kind.
      let has = whole.whole ks v leads in
      subst (λ (x : World). Contains (texts_of ways) (text_of x)) has.same (found.every has.place has.one has.at.0 has.at (subst Kind (sym has.same) kind));
  in_order = sorted;
}

pub is_every : (s : Setup) (w : World) (most : ℕ) (met : List Met) (e : Every) → IsWhole s w met → length met ≤ most → IsFoundIn s met e → IsEvery w most e
is_every s w most met e whole few found = record {
  worlds = worlds_in s met;
  reached = are_reached s w met whole;
  counted = length_worlds s met ∙ sym found.worlds;
  few = omega (arith, found.worlds, few);
  turns = sym found.turns;
  few_turns = omega (arith, found.few, found.worlds);
  ends = are_ways s w met HaveAllEnded tree_text e.ends.items whole found.ends found.ends_sorted;
  stuck = are_ways s w met IsStuck wait_text e.stuck.items whole found.stuck found.stuck_sorted;
}

-- ---- the world at a place is noted

turns_at : (s : Setup) (met : List Met) (place : ℕ) (one : Met) (old new : Noted) → IsAt met place one → new.turns ≡ old.turns + goers (world_of s one.plain) → (m : Met) → IsAt met place m → new.turns ≡ old.turns + goers (world_of s m.plain)
turns_at s met place one old new at turns m here = turns ∙ ap (λ (y : Met). old.turns + goers (world_of s y.plain)) (at_one met place one m at here)

is_other : (s : Setup) (met : List Met) (place : ℕ) (one : Met) (Kind : World → Type 0) (old new : Texts) → IsAt met place one → (Kind (world_of s one.plain) → ⊥) → new ≡ old → IsOther s met place Kind old new
is_other s met place one Kind old new at never same =
    record { other = λ m here. subst (λ (y : Met). Kind (world_of s y.plain) → ⊥) (at_one met place one m at here) never; same = same }

note_end : (s : Setup) (met : List Met) (place : ℕ) (one : Met) (old new : Noted) → IsAt met place one → new.turns ≡ old.turns + goers (world_of s one.plain) → HaveAllEnded (world_of s one.plain)
    → AddsText met place (tree_text (world_of s one.plain)) old.ends new.ends → new.stuck ≡ old.stuck → Notes s met place old new
note_end s met place one old new at turns kind adds same = record {
  turns = turns_at s met place one old new at turns;
  ends = inr (record { one = one; at = at; kind = kind; adds = adds });
  stuck = inl (is_other s met place one IsStuck old.stuck new.stuck at (λ stuck. stuck_no_end (world_of s one.plain) stuck kind) same);
}

note_stuck : (s : Setup) (met : List Met) (place : ℕ) (one : Met) (old new : Noted) → IsAt met place one → new.turns ≡ old.turns + goers (world_of s one.plain) → IsStuck (world_of s one.plain)
    → AddsText met place (wait_text (world_of s one.plain)) old.stuck new.stuck → new.ends ≡ old.ends → Notes s met place old new
note_stuck s met place one old new at turns kind adds same = record {
  turns = turns_at s met place one old new at turns;
  ends = inl (is_other s met place one HaveAllEnded old.ends new.ends at (stuck_no_end (world_of s one.plain) kind) same);
  stuck = inr (record { one = one; at = at; kind = kind; adds = adds });
}

note_goes : (s : Setup) (met : List Met) (place : ℕ) (one : Met) (old new : Noted) → IsAt met place one → new.turns ≡ old.turns + goers (world_of s one.plain) → SomebodyDoes (world_of s one.plain)
    → new.ends ≡ old.ends → new.stuck ≡ old.stuck → Notes s met place old new
note_goes s met place one old new at turns kind ends stuck = record {
  turns = turns_at s met place one old new at turns;
  ends = inl (is_other s met place one HaveAllEnded old.ends new.ends at (no_end (world_of s one.plain) kind) ends);
  stuck = inl (is_other s met place one IsStuck old.stuck new.stuck at (no_stuck (world_of s one.plain) kind) stuck);
}

-- the world at a place, with any other to read the list by
pub here_at : (met : List Met) (place : ℕ) (d : Met) → place < length met → IsAt met place (get_or met place d)
here_at met place d lt = (lt, get_or_default met place (get_or met place d) d lt)

-- it is kept, by rules that are the same
pub kept_at : (s t : Setup) (met : List Met) (place : ℕ) (d : Met) → t ≡ s → AreMet s met → place < length met → Kept (world_of t (get_or met place d).plain)
kept_at s t met place d same all lt =
    subst (λ (r : Setup). Kept (world_of r (get_or met place d).plain)) (sym same) (all.each place (get_or met place d) (here_at met place d lt)).kept

-- n callers of a world can go on, counted by rules that are the same; and it is of a kind
pub record IsOfKind (s t : Setup) (one : Met) (n : ℕ) (kind : Kind) : Type 0 where
  pub same : t ≡ s
  pub counted : n ≡ goers (world_of t one.plain)
  pub known : (u : Setup) → n ≡ goers (world_of u one.plain) → IsKind (world_of u one.plain) kind

counted_in : (s t : Setup) (one : Met) (n : ℕ) (kind : Kind) → IsOfKind s t one n kind → n ≡ goers (world_of s one.plain)
counted_in s t one n kind so = subst (λ (r : Setup). n ≡ goers (world_of r one.plain)) so.same so.counted

turns_in_all : (s t : Setup) (one : Met) (n m : ℕ) (kind : Kind) → IsOfKind s t one n kind → m + n ≡ m + goers (world_of s one.plain)
turns_in_all s t one n m kind so = ap (λ (k : ℕ). m + k) (counted_in s t one n kind so)

kind_in : (s t : Setup) (one : Met) (n : ℕ) (kind it : Kind) → IsOfKind s t one n kind → kind ≡ it → IsKind (world_of s one.plain) it
kind_in s t one n kind it so is = subst (IsKind (world_of s one.plain)) is (so.known s (counted_in s t one n kind so))

-- its text, told by those rules
told_in : (s t : Setup) (met : List Met) (place : ℕ) (one : Met) (text_of : World → List ℕ) (text : List ℕ) (old new : Texts) → t ≡ s → text ≡ text_of (world_of t one.plain)
    → AddsText met place text old new → AddsText met place (text_of (world_of s one.plain)) old new
told_in s t met place one text_of text old new same told adds =
    subst (λ (x : List ℕ). AddsText met place x old new) (subst (λ (r : Setup). text ≡ text_of (world_of r one.plain)) same told) adds

pub end_noted : (s t : Setup) (met : List Met) (place : ℕ) (one : Met) (n : ℕ) (kind : Kind) (text : List ℕ) (old new : Noted) → IsOfKind s t one n kind → kind ≡ End → IsAt met place one
    → text ≡ tree_text (world_of t one.plain) → new.turns ≡ old.turns + n → new.stuck ≡ old.stuck → AddsText met place text old.ends new.ends → Notes s met place old new
end_noted s t met place one n kind text old new so is at told turns stuck adds =
    note_end s met place one old new at (turns ∙ turns_in_all s t one n old.turns kind so) (kind_in s t one n kind End so is) (told_in s t met place one tree_text text old.ends new.ends so.same told adds) stuck

pub stuck_noted : (s t : Setup) (met : List Met) (place : ℕ) (one : Met) (n : ℕ) (kind : Kind) (text : List ℕ) (old new : Noted) → IsOfKind s t one n kind → kind ≡ Stuck → IsAt met place one
    → text ≡ wait_text (world_of t one.plain) → new.turns ≡ old.turns + n → new.ends ≡ old.ends → AddsText met place text old.stuck new.stuck → Notes s met place old new
stuck_noted s t met place one n kind text old new so is at told turns ends adds =
    note_stuck s met place one old new at (turns ∙ turns_in_all s t one n old.turns kind so) (kind_in s t one n kind Stuck so is) (told_in s t met place one wait_text text old.stuck new.stuck so.same told adds) ends

pub goes_noted : (s t : Setup) (met : List Met) (place : ℕ) (one : Met) (n : ℕ) (kind : Kind) (old new : Noted) → IsOfKind s t one n kind → kind ≡ GoesOn → IsAt met place one
    → new.turns ≡ old.turns + n → new.ends ≡ old.ends → new.stuck ≡ old.stuck → Notes s met place old new
goes_noted s t met place one n kind old new so is at turns ends stuck =
    note_goes s met place one old new at (turns ∙ turns_in_all s t one n old.turns kind so) (kind_in s t one n kind GoesOn so is) ends stuck

-- ---- one after the other

pub noted_none : (s : Setup) (met : List Met) (noted : Noted) → noted.turns ≡ 0 → noted.ends.entries ≡ [] → noted.stuck.entries ≡ [] → AreNoted s met 0 noted
noted_none s met noted turns ends stuck = record {
  turns = turns;
  few = omega (arith, turns);
  ends = found_none s met HaveAllEnded tree_text (ways_in noted.ends) (ap (map way_of) ends);
  stuck = found_none s met IsStuck wait_text (ways_in noted.stuck) (ap (map way_of) stuck);
}

pub noted_more : (s : Setup) (met : List Met) (n : ℕ) (old new : Noted) → MayRun s → AreMet s met → n < length met → AreNoted s met n old → Notes s met n old new → AreNoted s met (n + 1) new
noted_more s met n old new may all lt so next =
    let here = at_some met n lt in
    let one = here.0 in
    let kept = (all.each n one here.1).kept in
    record {
      turns = next.turns one here.1 ∙ ap (λ (t : ℕ). t + goers (world_of s one.plain)) so.turns ∙ sym (turns_more s met n one here.1);
      few = omega (arith, so.few, next.turns one here.1, goers_few (world_of s one.plain) (callers_few s one.plain may kept));
      ends = found_more s met n HaveAllEnded tree_text old.ends new.ends one here.1 all so.ends next.ends;
      stuck = found_more s met n IsStuck wait_text old.stuck new.stuck one here.1 all so.stuck next.stuck;
    }

-- ---- and all

pub found_in : (s : Setup) (met : List Met) (noted : Noted) (e : Every) → AreNoted s met (length met) noted → e.worlds ≡ length met → e.turns ≡ noted.turns
    → e.ends.items ≡ ways_in noted.ends → AreSorted (ways_in noted.ends) → e.stuck.items ≡ ways_in noted.stuck → AreSorted (ways_in noted.stuck) → IsFoundIn s met e
found_in s met noted e so worlds turns ends ends_sorted stuck stuck_sorted = record {
  worlds = worlds;
  turns = turns ∙ so.turns ∙ turns_whole s met (length met) refl;
  few = omega (arith, turns, so.few);
  ends = subst (AreFound s met (length met) HaveAllEnded tree_text) (sym ends) so.ends;
  ends_sorted = subst AreSorted (sym ends) ends_sorted;
  stuck = subst (AreFound s met (length met) IsStuck wait_text) (sym stuck) so.stuck;
  stuck_sorted = subst AreSorted (sym stuck) stuck_sorted;
}
