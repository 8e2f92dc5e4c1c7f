-- A search of an indirect bus may go on at the next pair of an open spot and the row that takes it.
use Rattle.std.proofs.Common.{◌≡◌, ℕ, ◌+◌, ◌<◌, ◌≤◌, Bool, true, false, not, ◌&&◌, List, [], ◌∷◌, length, filter, cond, Option, Some, None, slice_get, inl, inr, refl, sym, subst, ap, add-one, ◌∙◌, arith}
use Rattle.std.specs.Prelude.{IfSome, option_map}
use Rattle.std.specs.List.{AllByRecursion, enumerate_from}
use Rattle.std.proofs.lemmas.Bool.{cases_lt}
use Rattle.std.proofs.lemmas.Bool.Decides.{nat_tests}
use Rattle.cf_types.specs.declared.machine.Machine.{Machine}
use Rattle.cf_types.specs.declared.tables.Place.{Place}
use Rattle.cf_types.specs.declared.tables.Tables.{Tables}
use Rattle.run_rules.proofs.Each.{find_alike, all_found}
use Rattle.run_rules.specs.declared.world.Dev.{Dev}
use Rattle.run_rules.specs.declared.world.Position.{Position}
use Rattle.run_rules.specs.declared.world.Setup.{Setup}
use Rattle.run_rules.specs.declared.world.Turn.{Turn}
use Rattle.run_rules.specs.declared.world.Wanted.{Wanted}
use Rattle.run_rules.specs.Search.{due, is_before, is_child, is_due, is_open, is_bus_indirect, places_of, bus_turns, turns_of, turns, driver_at, attach_at, spot_of}
use Rattle.scan_engine.specs.Turns.{first_from, past, turns_after}
use Rattle.scan_engine.proofs.Order.{all_weaken, all_flat}
use Rattle.scan_engine.proofs.Positions.{by_attr}
use Rattle.scan_engine.proofs.TurnsOf.{all_bus}
use Rattle.next_deed.specs.declared.due.Searcher.{Searcher}
use Rattle.next_deed.specs.Pairs.{at_pair}
use Rattle.next_deed.specs.Turns.{searcher_of}
use Rattle.next_deed.proofs.DueLaws.{turns_by, not_due, fewer_turns}

-- ---- positions

-- what is before the position behind one is before all behind that one
before_both : (a t b : Position) → is_before a (past t) ≡ true → is_before t b ≡ true → is_before a b ≡ true
unfolding is_before
before_both a t b h k = grind (arith, nat_tests)

behind_past : (a t : Position) → is_before a (past t) ≡ false → is_before t a ≡ true
unfolding is_before
behind_past a t h = grind (arith, nat_tests)

pub later_attr : (a b : Position) → is_before a b ≡ true → a.attr ≤ b.attr
unfolding is_before
later_attr a b h = grind (arith, nat_tests)

-- ---- which place a turn is of

-- the turn's place is the one of its number, and its spot hangs there
record IsOf (t : Tables) (m : Machine) (attach spot : Option ℕ) (places : List Place) (u : Turn) : Type 0 where
  place : slice_get places u.at.attr ≡ Some u.place
  style : u.indirect ≡ is_bus_indirect m attach u.place
  within : u.at.spot < length m.spots
  child : is_child m spot u.place u.at.spot ≡ true

numbered : {A : Type 0} (n : ℕ) (xs : List A) (f : ℕ → Option A) → ((k : ℕ) → f (n + k) ≡ slice_get xs k) → AllByRecursion (λ e. f e.0 ≡ Some e.1) (enumerate_from n xs)
numbered n [] f h = tt
numbered n (x ∷ xs) f h =
    let here : n ≡ n + 0 = omega arith in (
      ap f here ∙ h 0,
      numbered (n + 1) xs f (λ k. let e : (n + 1) + k ≡ n + (k + 1) = omega arith in ap f e ∙ h (k + 1) ∙ ap (slice_get (x ∷ xs)) (add-one k)),
    )

all_of : (t : Tables) (m : Machine) (driver attach spot only : Option ℕ) → AllByRecursion (IsOf t m attach spot (places_of t driver only)) (turns_of t m driver attach spot only)
unfolding turns_of
all_of t m driver attach spot only =
    let places = places_of t driver only in
    all_flat (IsOf t m attach spot places) (λ e. bus_turns m (length t.rows) (is_bus_indirect m attach e.1) spot e) (enumerate_from 0 places)
    (all_weaken (λ e. slice_get places e.0 ≡ Some e.1) (λ e. AllByRecursion (IsOf t m attach spot places) (bus_turns m (length t.rows) (is_bus_indirect m attach e.1) spot e)) (enumerate_from 0 places)
    (λ e is. all_bus (IsOf t m attach spot places) m (length t.rows) (is_bus_indirect m attach e.1) spot e
    (λ r x row straight lt child. record { place = is; style = refl; within = lt; child = child }))
    (numbered 0 places (slice_get places) (λ k. let e : 0 + k ≡ k = omega arith in ap (slice_get places) e)))

same_bus : (t : Tables) (m : Machine) (attach spot : Option ℕ) (places : List Place) (u v : Turn) → IsOf t m attach spot places u → IsOf t m attach spot places v → u.at.attr ≡ v.at.attr
    → u ≡ at_pair v u.at.row u.at.spot
same_bus t m attach spot places u v a b e =
    let both : Path (Option Place) (Some u.place) (Some v.place) = sym a.place ∙ ap (slice_get places) e ∙ b.place in
    let same : u.place ≡ v.place = cc in
    let style : u.indirect ≡ v.indirect = a.style ∙ ap (is_bus_indirect m attach) same ∙ sym b.style in
    rw (← same, ← style, ← e) refl

-- ---- the search

fewer_or_same : {A : Type 0} (p p' : A → Bool) (xs : List A) → ((x : A) → p x ≡ false → p' x ≡ false) → length (filter p' xs) ≤ length (filter p xs)
fewer_or_same p p' [] h = omega arith
fewer_or_same p p' (x ∷ xs) h = cases (p x) (p' x) (h x) (fewer_or_same p p' xs h)
  where
    cases : (b b' : Bool) → (b ≡ false → b' ≡ false) → length (filter p' xs) ≤ length (filter p xs) → length (cond b' (x ∷ filter p' xs) (filter p' xs)) ≤ length (cond b (x ∷ filter p xs) (filter p xs))
    cases true true e more = omega arith
    cases true false e more = omega arith
    cases false true e more = absurd (let no : true ≡ false = e refl in cc)
    cases false false e more = more

-- where all between the position behind a turn and a later one is not due, the search may go on there
pub gone_on : (s : Setup) (live : List Dev) (absent hidden : List ℕ) (p : ℕ) (only : Option ℕ) (wanted : List Wanted) (from next : Position) (by : Searcher) (t : Turn)
    → by ≡ searcher_of s live p → first_from (turns_by s by only) from ≡ Some t → is_due s live absent hidden p wanted t ≡ false
    → is_before t.at next ≡ true → ((q : Position) → is_before q next ≡ true → q.attr ≤ t.at.attr)
    → ((r x : ℕ) → x < length s.machine.spots → is_child s.machine by.spot t.place x ≡ true → is_before t.at (at_pair t r x).at ≡ true → is_before (at_pair t r x).at next ≡ true
    → is_due s live absent hidden p wanted (at_pair t r x) ≡ false)
    → due s live absent hidden p only wanted next ≡ due s live absent hidden p only wanted from
unfolding due
gone_on s live absent hidden p only wanted from next by t is h k behind bus idle =
    find_alike (λ u. not (is_before u.at next) && q u) (λ u. not (is_before u.at (past t.at)) && q u) ts
    (all_weaken (IsOf s.tables s.machine by.attach by.spot (places_of s.tables by.driver only)) (λ u. (not (is_before u.at next) && q u) ≡ (not (is_before u.at (past t.at)) && q u)) ts each all)
    ∙ not_due s live absent hidden p only wanted from by t is h k
  where
    q : Turn → Bool
    q = is_due s live absent hidden p wanted

    ts : List Turn
    ts = turns s live p only

    all : AllByRecursion (IsOf s.tables s.machine by.attach by.spot (places_of s.tables by.driver only)) ts
    all = rw is (all_of s.tables s.machine (driver_at s live p) (attach_at s live p) (spot_of live p) only)

    mine : IsOf s.tables s.machine by.attach by.spot (places_of s.tables by.driver only) t
    mine = all_found (IsOf s.tables s.machine by.attach by.spot (places_of s.tables by.driver only)) (λ u. not (is_before u.at from)) (turns_by s by only) t (all_of s.tables s.machine by.driver by.attach by.spot only) h

    between : (u : Turn) → IsOf s.tables s.machine by.attach by.spot (places_of s.tables by.driver only) u → is_before u.at (past t.at) ≡ false → is_before u.at next ≡ true → q u ≡ false
    between u of late early =
        let after : is_before t.at u.at ≡ true = behind_past u.at t.at late in
        let attr : u.at.attr ≡ t.at.attr = omega (arith, bus u.at early, later_attr t.at u.at after) in
        let pair : u ≡ at_pair t u.at.row u.at.spot = same_bus s.tables s.machine by.attach by.spot (places_of s.tables by.driver only) u t of mine attr in
        let place : u.place ≡ t.place = ap (λ (v : Turn). v.place) pair in
        ap q pair
        ∙ idle u.at.row u.at.spot of.within (subst (λ (z : Place). is_child s.machine by.spot z u.at.spot ≡ true) place of.child)
        (subst (λ (v : Turn). is_before t.at v.at ≡ true) pair after) (subst (λ (v : Turn). is_before v.at next ≡ true) pair early)

    each : (u : Turn) → IsOf s.tables s.machine by.attach by.spot (places_of s.tables by.driver only) u → (not (is_before u.at next) && q u) ≡ (not (is_before u.at (past t.at)) && q u)
    each u of = by_tests (is_before u.at next) (is_before u.at (past t.at)) refl refl
      where
        by_tests : (b c : Bool) → is_before u.at next ≡ b → is_before u.at (past t.at) ≡ c → (not b && q u) ≡ (not c && q u)
        by_tests true true f g = refl
        by_tests false false f g = refl
        by_tests true false f g = sym (between u of g f)
        by_tests false true f g = absurd (let yes : is_before u.at next ≡ true = before_both u.at t.at next g behind in let no : true ≡ false = sym yes ∙ f in cc)

-- ---- a direct bus

after_spot : (a q b : Position) → b.attr ≡ a.attr → b.row ≡ a.row → is_before a q ≡ true → is_before q b ≡ true → a.spot < q.spot
unfolding is_before
after_spot a q b same row h k = grind (arith, nat_tests)

before_spot : (a q b : Position) → b.attr ≡ a.attr → b.row ≡ a.row → is_before a q ≡ true → is_before q b ≡ true → q.spot < b.spot
unfolding is_before
before_spot a q b same row h k = grind (arith, nat_tests)

-- where no spot between is open, none of them is due
pub closed_between : (s : Setup) (live : List Dev) (absent hidden : List ℕ) (p : ℕ) (wanted : List Wanted) (parent : Option ℕ) (t : Turn) (next : Position) → next.attr ≡ t.at.attr → next.row ≡ t.at.row
    → ((x : ℕ) → t.at.spot < x → x < next.spot → x < length s.machine.spots → is_child s.machine parent t.place x ≡ true → is_open s.machine live absent hidden wanted x ≡ false)
    → (r x : ℕ) → x < length s.machine.spots → is_child s.machine parent t.place x ≡ true → is_before t.at (at_pair t r x).at ≡ true → is_before (at_pair t r x).at next ≡ true
    → is_due s live absent hidden p wanted (at_pair t r x) ≡ false
unfolding is_due
closed_between s live absent hidden p wanted parent t next attr row closed r x lt child after before =
    rw (closed x (after_spot t.at (at_pair t r x).at next attr row after before) (before_spot t.at (at_pair t r x).at next attr row after before) lt child) refl

pub further_on : (a b : Position) → b.attr ≡ a.attr → b.row ≡ a.row → a.spot < b.spot → is_before a b ≡ true
unfolding is_before
further_on a b same row h = grind (arith, nat_tests)

-- fewer turns are left there
pub fewer_gone : (s : Setup) (by : Searcher) (only : Option ℕ) (from next : Position) (t : Turn) → first_from (turns_by s by only) from ≡ Some t → is_before t.at next ≡ true
    → turns_after (turns_by s by only) next < turns_after (turns_by s by only) from
fewer_gone s by only from next t h behind =
    let less : turns_after (turns_by s by only) (past t.at) < turns_after (turns_by s by only) from = fewer_turns s by only from t h in
    let same : turns_after (turns_by s by only) next ≤ turns_after (turns_by s by only) (past t.at) =
    fewer_or_same (λ u. not (is_before u.at (past t.at))) (λ u. not (is_before u.at next)) (turns_by s by only) (λ u k. fails u (is_before u.at (past t.at)) refl k) in
    omega (arith, less, same)
  where
    fails : (u : Turn) (b : Bool) → is_before u.at (past t.at) ≡ b → not b ≡ false → not (is_before u.at next) ≡ false
    fails u true e k = ap not (before_both u.at t.at next e behind)
    fails u false e k = absurd cc

-- ---- the loop over the spots

-- of the pairs of the first spots none that lies between is due
pub record NothingBefore (s : Setup) (live : List Dev) (absent hidden : List ℕ) (p : ℕ) (wanted : List Wanted) (parent : Option ℕ) (t : Turn) (k : ℕ) (next : Position) : Type 0 where
  pub behind : is_before t.at next ≡ true
  pub bus : (q : Position) → is_before q next ≡ true → q.attr ≤ t.at.attr
  pub idle : (r x : ℕ) → t.indirect ≡ true → x < k → is_child s.machine parent t.place x ≡ true → is_before t.at (at_pair t r x).at ≡ true → is_before (at_pair t r x).at next ≡ true
      → is_due s live absent hidden p wanted (at_pair t r x) ≡ false

before_start : (q : Position) (a : ℕ) → is_before q (record { attr = a + 1; row = 0; spot = 0 }) ≡ true → q.attr ≤ a
unfolding is_before
before_start q a h = grind (arith, nat_tests)

pub none_yet : (s : Setup) (live : List Dev) (absent hidden : List ℕ) (p : ℕ) (wanted : List Wanted) (parent : Option ℕ) (t : Turn)
    → NothingBefore s live absent hidden p wanted parent t 0 (record { attr = t.at.attr + 1; row = 0; spot = 0 })
none_yet s live absent hidden p wanted parent t = record {
  behind = by_attr t.at (record { attr = t.at.attr + 1; row = 0; spot = 0 }) (omega arith);
  bus = λ q h. before_start q t.at.attr h;
  idle = λ r x i lt child after before. absurd (omega (arith, lt));
}

pub one_spot_more : (s : Setup) (live : List Dev) (absent hidden : List ℕ) (p : ℕ) (wanted : List Wanted) (parent : Option ℕ) (t : Turn) (k : ℕ) (next now : Position) (found : Option Position)
    → IfSome found (λ q. (q.attr ≡ t.at.attr) × (q.spot ≡ k))
    → ((r : ℕ) → t.indirect ≡ true → is_child s.machine parent t.place k ≡ true → is_due s live absent hidden p wanted (at_pair t r k) ≡ true → option_map (λ q. q.row) found ≡ Some r)
    → (is_before t.at next ≡ true → is_before t.at now ≡ true) → ((q : Position) → is_before q now ≡ true → is_before q next ≡ true)
    → IfSome found (λ q. is_before t.at q ≡ true → is_before q now ≡ false)
    → NothingBefore s live absent hidden p wanted parent t k next → NothingBefore s live absent hidden p wanted parent t (k + 1) now
one_spot_more s live absent hidden p wanted parent t k next now found place due behind sooner taken h = record {
  behind = behind h.behind;
  bus = λ q b. h.bus q (sooner q b);
  idle = λ r x i lt child after before. elim (cases_lt x k) [
    | inl less ↦ h.idle r x i less child after (sooner (at_pair t r x).at before)
    | inr more ↦ let same : x ≡ k = omega (arith, lt, more) in here found place taken r x same child after before (is_due s live absent hidden p wanted (at_pair t r x)) refl (λ b. due r i (subst (λ y. is_child s.machine parent t.place y ≡ true) same child) (subst (λ y. is_due s live absent hidden p wanted (at_pair t r y) ≡ true) same b))
  ];
}
  where
    here : (o : Option Position) → IfSome o (λ q. (q.attr ≡ t.at.attr) × (q.spot ≡ k)) → IfSome o (λ q. is_before t.at q ≡ true → is_before q now ≡ false)
        → (r x : ℕ) → x ≡ k → is_child s.machine parent t.place x ≡ true → is_before t.at (at_pair t r x).at ≡ true → is_before (at_pair t r x).at now ≡ true
        → (b : Bool) → is_due s live absent hidden p wanted (at_pair t r x) ≡ b → (is_due s live absent hidden p wanted (at_pair t r x) ≡ true → option_map (λ (q : Position). q.row) o ≡ Some r)
        → is_due s live absent hidden p wanted (at_pair t r x) ≡ false
    here o at out r x same child after before false e finds = e
    here None at out r x same child after before true e finds = let no : Path (Option ℕ) None (Some r) = finds e in absurd cc
    here (Some q) at out r x same child after before true e finds =
        let both : Path (Option ℕ) (Some q.row) (Some r) = finds e in
        let row : q.row ≡ r = cc in
        let spot : q.spot ≡ x = at.1 ∙ sym same in
        let pair : q ≡ (at_pair t r x).at = rw (← row, ← spot, ← at.0) refl in
        let no : is_before q now ≡ false = out (subst (λ (z : Position). is_before t.at z ≡ true) (sym pair) after) in
        let yes : is_before q now ≡ true = subst (λ (z : Position). is_before z now ≡ true) (sym pair) before in
        let clash : true ≡ false = sym yes ∙ no in
        absurd cc
