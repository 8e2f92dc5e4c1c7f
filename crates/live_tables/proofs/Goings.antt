-- The doomed devices go, the last one first.
use Rattle.std.proofs.Common.{◌≡◌, ◌≢◌, ◌<◌, ◌≤◌, ℕ, zero, suc, Bool, true, false, not, ◌||◌, ◌==◌, cond, List, [], ◌∷◌, ◌++◌, length, drop, take, get_or, refl, sym, ap, ◌∙◌, subst, arith, eq-eqb, eqb-true}
use Rattle.std.specs.Prelude.{filter}
use Rattle.std.specs.List.{AllByRecursion, Contains}
use Rattle.std.proofs.lemmas.Bool.{ne_eqb, not-true}
use Rattle.std.proofs.lemmas.List.{drop_all, take_all}
use Rattle.std.proofs.lemmas.List.Elements.{filter-append}
use Rattle.run_rules.specs.declared.world.Dev.{Dev}
use Rattle.run_rules.specs.World.{children, is_live}
use Rattle.run_rules.specs.Sound.{IsApart, IsPlaced}
use Rattle.run_rules.proofs.Devices.{all_both}
use Rattle.run_sound.proofs.Callers.{all_append, all_filter, clash}
use Rattle.run_sound.proofs.Members.{any_passed, each_passed, later_at, later_passed}
use Rattle.live_rules.specs.Laws.{IsSound}
use Rattle.live_rules.specs.Live.{LiveWorld, LiveSite, is_doomed, is_on, spared}
use Rattle.live_rules.proofs.Appends.{append-assoc, append_nil}
use Rattle.live_rules.proofs.Doomed.{after_parents}
use Rattle.live_rules.proofs.Lists.{filter_all, filter_none}
use Rattle.live_rules.proofs.Removes.{child_doomed}
use Rattle.live_tables.specs.Going.{with_live, without_device}
use Rattle.live_tables.specs.Running.{Running}
use Rattle.live_tables.proofs.Dooms.{filter_hit, filter_miss}
use Rattle.live_tables.proofs.Passes.{any_default, blank, each_at, serials_rise}

-- the first so many devices are all there, and of the others those that are not doomed
abbrev pub left_at : Running → ℕ → ℕ → List Dev
left_at r g i = take i r.world.live ++ filter (λ d. not (is_doomed r.site r.world.live g d.serial)) (drop i r.world.live)

pub record GoneSoFar (r l : Running) (g i : ℕ) : Type 0 where
  pub within : i ≤ length r.world.live
  pub running : l ≡ with_live r (left_at r g i)

-- ---- lists by their places

all_taken : (P : Dev → Type 0) (xs : List Dev) (k : ℕ) → ((i : ℕ) → i < k → i < length xs → P (get_or xs i blank)) → AllByRecursion P (take k xs)
all_taken P xs zero h = tt
all_taken P [] (suc k) h = tt
all_taken P (x ∷ xs) (suc k) h = (h 0 (omega arith) (omega arith), all_taken P xs k (λ i lt there. h (suc i) (omega (arith, lt)) (omega (arith, there))))

all_dropped : (P : Dev → Type 0) (xs : List Dev) (k : ℕ) → ((i : ℕ) → k ≤ i → i < length xs → P (get_or xs i blank)) → AllByRecursion P (drop k xs)
all_dropped P [] zero h = tt
all_dropped P [] (suc k) h = tt
all_dropped P (x ∷ xs) zero h = (h 0 (omega arith) (omega arith), all_dropped P xs zero (λ i le there. h (suc i) (omega arith) (omega (arith, there))))
all_dropped P (x ∷ xs) (suc k) h = all_dropped P xs k (λ i le there. h (suc i) (omega (arith, le)) (omega (arith, there)))

take_one : (xs : List Dev) (k : ℕ) → k < length xs → take (suc k) xs ≡ take k xs ++ get_or xs k blank ∷ []
take_one [] k lt = absurd (omega (arith, lt))
take_one (x ∷ xs) zero lt = refl
take_one (x ∷ xs) (suc k) lt = ap (λ (l : List Dev). x ∷ l) (take_one xs k (omega (arith, lt)))

taken_at : (xs ys : List Dev) (k : ℕ) (d : Dev) → k < length xs → get_or (take (suc k) xs ++ ys) k d ≡ get_or xs k blank
taken_at [] ys k d lt = absurd (omega (arith, lt))
taken_at (x ∷ xs) ys zero d lt = refl
taken_at (x ∷ xs) ys (suc k) d lt = taken_at xs ys k d (omega (arith, lt))

taken_there : (xs ys : List Dev) (k : ℕ) → k < length xs → k < length (take (suc k) xs ++ ys)
taken_there [] ys k lt = absurd (omega (arith, lt))
taken_there (x ∷ xs) ys zero lt = omega arith
taken_there (x ∷ xs) ys (suc k) lt = omega (arith, taken_there xs ys k (omega (arith, lt)))

contains_at : (xs : List Dev) (k : ℕ) → k < length xs → Contains xs (get_or xs k blank)
contains_at xs k lt = (k, lt, any_default xs k (get_or xs k blank) blank lt)

-- ---- one device goes

serial_rises : (t : LiveSite) (w : LiveWorld) → IsSound t w → (a b : ℕ) → a < b → b < length w.live → (get_or w.live a blank).serial < (get_or w.live b blank).serial
serial_rises t w h a b lt there = later_at (λ (d e : Dev). d.serial < e.serial) w.live a b blank blank (serials_rise t w h) lt there

-- the other serials
abbrev others : ℕ → Dev → Bool
others s d = not (d.serial == s)

other_serial : (a b : ℕ) → a ≢ b → not (a == b) ≡ true
other_serial a b h = ap not (ne_eqb a b h)

pub here_is : (r l : Running) (g k : ℕ) (d : Dev) → GoneSoFar r l g (suc k) → get_or l.world.live k d ≡ get_or r.world.live k blank
here_is r l g k d h =
    ap (λ (q : Running). get_or q.world.live k d) h.running
    ∙ taken_at r.world.live (filter (λ (e : Dev). not (is_doomed r.site r.world.live g e.serial)) (drop (suc k) r.world.live)) k d (omega (arith, h.within))

pub here_lives : (r l : Running) (g k : ℕ) → GoneSoFar r l g (suc k) → k < length l.world.live
here_lives r l g k h =
    subst (λ (q : Running). k < length q.world.live) (sym h.running)
    (taken_there r.world.live (filter (λ (e : Dev). not (is_doomed r.site r.world.live g e.serial)) (drop (suc k) r.world.live)) k (omega (arith, h.within)))

-- all its children went before it
pub here_bare : (r l : Running) (g k : ℕ) → IsSound r.site r.world → GoneSoFar r l g (suc k) → is_doomed r.site r.world.live g (get_or r.world.live k blank).serial ≡ true
    → children l.world.live (get_or r.world.live k blank).serial ≡ []
here_bare r l g k sound h hit =
    ap (λ (q : Running). children q.world.live e.serial) h.running
    ∙ ap (λ (ds : List Dev). children (ds ++ filter spares (drop (suc k) r.world.live)) e.serial) (take_one r.world.live k there)
    ∙ filter_none (λ (d : Dev). d.parent == e.serial) ((take k r.world.live ++ e ∷ []) ++ filter spares (drop (suc k) r.world.live))
    (all_append NoChild (take k r.world.live ++ e ∷ []) (filter spares (drop (suc k) r.world.live)) (all_append NoChild (take k r.world.live) (e ∷ []) before (own, tt)) behind)
  where
    there : k < length r.world.live
    there = omega (arith, h.within)

    e : Dev
    e = get_or r.world.live k blank

    spares : Dev → Bool
    spares d = not (is_doomed r.site r.world.live g d.serial)

    NoChild : Dev → Type 0
    NoChild d = (d.parent == e.serial) ≡ false

    parents : AllByRecursion (λ (d : Dev). d.parent < d.serial) r.world.live
    parents = after_parents r.site.setup r.world.live r.world.next sound.devices

    own : NoChild e
    own = let less : e.parent < e.serial = each_at (λ (d : Dev). d.parent < d.serial) r.world.live k blank parents there in ne_eqb e.parent e.serial (λ same. absurd (omega (arith, less, same)))

    before : AllByRecursion NoChild (take k r.world.live)
    before = all_taken NoChild r.world.live k (λ i lt here.
        let less : (get_or r.world.live i blank).parent < (get_or r.world.live i blank).serial = each_at (λ (d : Dev). d.parent < d.serial) r.world.live i blank parents here in
        let rises = serial_rises r.site r.world sound i k lt there in
        ne_eqb (get_or r.world.live i blank).parent e.serial (λ same. absurd (omega (arith, less, rises, same))))

    spared_none : (d : Dev) → Contains r.world.live d → spares d ≡ true → (b : Bool) → (d.parent == e.serial) ≡ b → b ≡ false
    spared_none d here pass false is = refl
    spared_none d here pass true is =
        clash (is_doomed r.site r.world.live g d.serial) (child_doomed r.site r.world g e d sound here (eqb-true d.parent e.serial is) hit) (not-true (is_doomed r.site r.world.live g d.serial) pass)

    behind : AllByRecursion NoChild (filter spares (drop (suc k) r.world.live))
    behind = each_passed NoChild spares (drop (suc k) r.world.live)
        (all_dropped (λ (d : Dev). spares d ≡ true → NoChild d) r.world.live (suc k) (λ i le here pass. spared_none (get_or r.world.live i blank) (contains_at r.world.live i here) pass ((get_or r.world.live i blank).parent == e.serial) refl))

pub one_gone : (r l v : Running) (g k : ℕ) → IsSound r.site r.world → GoneSoFar r l g (suc k) → is_doomed r.site r.world.live g (get_or r.world.live k blank).serial ≡ true
    → v ≡ without_device l (get_or r.world.live k blank).serial → GoneSoFar r v g k
one_gone r l v g k sound h hit is = record {
  within = omega (arith, h.within);
  running = is ∙ ap (λ (q : Running). without_device q e.serial) h.running ∙ ap (with_live r) left;
}
  where
    there : k < length r.world.live
    there = omega (arith, h.within)

    e : Dev
    e = get_or r.world.live k blank

    spares : Dev → Bool
    spares d = not (is_doomed r.site r.world.live g d.serial)

    IsOther : Dev → Type 0
    IsOther d = others e.serial d ≡ true

    before : AllByRecursion IsOther (take k r.world.live)
    before = all_taken IsOther r.world.live k (λ i lt here. let rises = serial_rises r.site r.world sound i k lt there in other_serial (get_or r.world.live i blank).serial e.serial (λ same. omega (arith, rises, same)))

    behind : AllByRecursion IsOther (filter spares (drop (suc k) r.world.live))
    behind = all_filter IsOther spares (drop (suc k) r.world.live)
        (all_dropped IsOther r.world.live (suc k) (λ i le here. let rises = serial_rises r.site r.world sound k i (omega (arith, le)) here in other_serial (get_or r.world.live i blank).serial e.serial (λ same. omega (arith, rises, same))))

    left : filter (others e.serial) (left_at r g (suc k)) ≡ left_at r g k
    left =
        ap (λ (ds : List Dev). filter (others e.serial) (ds ++ filter spares (drop (suc k) r.world.live))) (take_one r.world.live k there)
        ∙ filter-append (others e.serial) (take k r.world.live ++ e ∷ []) (filter spares (drop (suc k) r.world.live))
        ∙ ap (λ (ds : List Dev). ds ++ filter (others e.serial) (filter spares (drop (suc k) r.world.live)))
        (filter-append (others e.serial) (take k r.world.live) (e ∷ []) ∙ ap (λ (b : Bool). filter (others e.serial) (take k r.world.live) ++ cond (not b) (e ∷ []) []) (eq-eqb e.serial e.serial refl))
        ∙ ap (λ (ds : List Dev). (ds ++ []) ++ filter (others e.serial) (filter spares (drop (suc k) r.world.live))) (filter_all (others e.serial) (take k r.world.live) before)
        ∙ ap (λ (ds : List Dev). ds ++ filter (others e.serial) (filter spares (drop (suc k) r.world.live))) (sym (append_nil (take k r.world.live)))
        ∙ ap (λ (ds : List Dev). take k r.world.live ++ ds) (filter_all (others e.serial) (filter spares (drop (suc k) r.world.live)) behind)
        ∙ ap (λ (ds : List Dev). take k r.world.live ++ ds) (sym (filter_miss spares r.world.live k blank there (ap not hit)))

pub one_stays : (r l : Running) (g k : ℕ) → GoneSoFar r l g (suc k) → is_doomed r.site r.world.live g (get_or r.world.live k blank).serial ≡ false → GoneSoFar r l g k
one_stays r l g k h miss = record {
  within = omega (arith, h.within);
  running = h.running
      ∙ ap (with_live r)
      (ap (λ (ds : List Dev). ds ++ filter (λ (d : Dev). not (is_doomed r.site r.world.live g d.serial)) (drop (suc k) r.world.live)) (take_one r.world.live k (omega (arith, h.within)))
      ∙ append-assoc (take k r.world.live) (get_or r.world.live k blank ∷ []) (filter (λ (d : Dev). not (is_doomed r.site r.world.live g d.serial)) (drop (suc k) r.world.live))
      ∙ ap (λ (ds : List Dev). take k r.world.live ++ ds)
      (sym (filter_hit (λ (d : Dev). not (is_doomed r.site r.world.live g d.serial)) r.world.live k blank (omega (arith, h.within)) (ap not miss))));
}

pub none_gone : (r : Running) (g n : ℕ) → n ≡ length r.world.live → GoneSoFar r r g n
none_gone r g n is = record {
  within = omega (arith, is);
  running = ap (with_live r)
      (append_nil r.world.live ∙ ap (λ (ds : List Dev). ds ++ []) (sym (take_all n r.world.live (omega (arith, is))))
      ∙ ap (λ (ds : List Dev). take n r.world.live ++ filter (λ (d : Dev). not (is_doomed r.site r.world.live g d.serial)) ds) (sym (drop_all n r.world.live (omega (arith, is)))));
}

pub all_gone : (r l : Running) (g i : ℕ) → i ≡ 0 → GoneSoFar r l g i → l ≡ with_live r (spared r.site r.world g)
unfolding spared
all_gone r l g i none h = h.running ∙ ap (λ (k : ℕ). with_live r (left_at r g k)) none

-- ---- a device without children goes

none_parent : (s : ℕ) (live : List Dev) → children live s ≡ [] → AllByRecursion (λ (d : Dev). (d.parent == s) ≡ false) live
none_parent s [] e = tt
none_parent s (d ∷ ds) e = cases (λ k. none_parent s ds k) (d.parent == s) refl e
  where
    cases : (children ds s ≡ [] → AllByRecursion (λ (x : Dev). (x.parent == s) ≡ false) ds) → (b : Bool) → (d.parent == s) ≡ b → cond b (d ∷ children ds s) (children ds s) ≡ []
        → ((d.parent == s) ≡ false) × AllByRecursion (λ (x : Dev). (x.parent == s) ≡ false) ds
    cases more true is k = absurd cc
    cases more false is k = (is, more k)

pub sound_without : (t : LiveSite) (w : LiveWorld) (s : ℕ) → IsSound t w → children w.live s ≡ [] → IsSound t (record w { live = filter (λ d. not (d.serial == s)) w.live })
sound_without t w s h bare = record {
  low = h.low;
  devices = record {
    placed = each_passed (IsPlaced (filter (others s) w.live) w.next) (others s) w.live
        (all_both (IsPlaced w.live w.next) (λ (d : Dev). (d.parent == s) ≡ false) (λ (d : Dev). others s d ≡ true → IsPlaced (filter (others s) w.live) w.next d)
        (λ d was other _. record { below_next = was.below_next; after_parent = was.after_parent; parent_live = parent_left d (d.parent == 0) was.parent_live other }) w.live h.devices.placed (none_parent s w.live bare));
    apart = later_passed (IsApart t.setup) (others s) w.live h.devices.apart;
  };
  spots = all_filter (λ (d : Dev). d.spot < length t.setup.machine.spots) (others s) w.live h.spots;
  rows = all_filter (λ (d : Dev). d.row < length t.setup.tables.rows) (others s) w.live h.rows;
  on = all_filter (λ (d : Dev). is_on t w.on d.row ≡ true) (others s) w.live h.on;
}
  where
    parent_left : (d : Dev) (b : Bool) → (b || is_live w.live d.parent) ≡ true → (d.parent == s) ≡ false → (b || is_live (filter (others s) w.live) d.parent) ≡ true
    parent_left d true there other = refl
    parent_left d false there other = any_passed (λ (e : Dev). e.serial == d.parent) (others s) w.live (λ e same. ap not (ap (λ (n : ℕ). n == s) (eqb-true e.serial d.parent same) ∙ other)) there
