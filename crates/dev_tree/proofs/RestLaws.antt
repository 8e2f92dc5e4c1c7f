-- Which devices are awake and asleep, with one device more, with one less, and with one that fell asleep or woke.
use Rattle.std.proofs.Common.{◌≡◌, ◌≢◌, ℕ, zero, suc, ◌+◌, ◌-◌, ◌<◌, ◌≤◌, Bool, true, false, ◌==◌, Some, None, List, [], ◌∷◌, ◌++◌, length, get_or, take, drop, map, refl, ap, sym, ◌∙◌, inl, inr, arith}
use Rattle.std.specs.Prelude.{find, remove, reverse, ◌⊎◌, if◌then◌else◌}
use Rattle.std.specs.List.{AllByRecursion}
use Rattle.std.proofs.lemmas.Bool.{cases_lt, eqb-true, eqb-false}
use Rattle.std.proofs.lemmas.List.{get_or-map, length-map, length-append, reverse-append}
use Rattle.std.proofs.lemmas.List.Edits.{get_or-remove_below, get_or-remove_above}
use Rattle.std.proofs.lemmas.List.Folds.{find-append}
use Rattle.run_rules.proofs.Marked.{sleep_at, sleep_past}
use Rattle.run_rules.specs.After.{with_sleep, with_condemner}
use Rattle.run_rules.specs.declared.world.Dev.{Dev}
use Rattle.run_rules.specs.Sound.{EachLater}
use Rattle.run_rules.specs.World.{is_under}
use Rattle.dev_tree.specs.declared.resting.Resting.{Resting}
use Rattle.dev_tree.specs.Rest.{AreResting}
use Rattle.dev_tree.proofs.BranchLaws.{apart_at}

-- ---- one device more, one less

pub snoc_at : {A : Type 0} (live : List A) (e : A) (i : ℕ) (d : A) → i < length live → get_or (live ++ e ∷ []) i d ≡ get_or live i d
snoc_at [] e i d lt = absurd (omega arith)
snoc_at (x ∷ xs) e zero d lt = refl
snoc_at (x ∷ xs) e (suc i) d lt = snoc_at xs e i d (omega arith)

pub snoc_end : {A : Type 0} (live : List A) (e : A) (i : ℕ) (d : A) → i ≡ length live → get_or (live ++ e ∷ []) i d ≡ e
snoc_end [] e zero d is = refl
snoc_end [] e (suc i) d is = absurd (omega arith)
snoc_end (x ∷ xs) e zero d is = absurd (omega arith)
snoc_end (x ∷ xs) e (suc i) d is = snoc_end xs e i d (omega arith)

pub rest_more : (live : List Dev) (e : Dev) (old new : Resting) → new.awake_before ≡ old.awake_before → new.asleep_from ≡ length live + 1 → e.asleep ≡ false → AreResting live old → AreResting (live ++ e ∷ []) new
rest_more live e old new same end awake h =
    let long : length (live ++ e ∷ []) ≡ length live + 1 = length-append live (e ∷ []) in
    record {
      awake = λ i d lt low. elim (cases_lt i (length live)) [
        | inl less ↦ ap (λ (x : Dev). x.asleep) (snoc_at live e i d less) ∙ h.awake i d less (omega (arith, same))
        | inr more ↦ ap (λ (x : Dev). x.asleep) (snoc_end live e i d (omega (arith, long))) ∙ awake
      ];
      asleep = λ i d lt high. absurd (omega (arith, long, end));
    }

pub removed_short : {A : Type 0} (live : List A) (k : ℕ) → k < length live → length (remove live k) + 1 ≡ length live
removed_short [] k lt = absurd (omega arith)
removed_short (x ∷ xs) zero lt = omega arith
removed_short (x ∷ xs) (suc k) lt = omega (arith, removed_short xs k (omega arith))

pub rest_less : (live : List Dev) (k : ℕ) (old new : Resting) → k < length live → new.awake_before ≡ old.awake_before - 1 → new.asleep_from ≡ old.asleep_from → AreResting live old → AreResting (remove live k) new
rest_less live k old new here less same h =
    let short : length (remove live k) + 1 ≡ length live = removed_short live k here in
    record {
      awake = λ i d lt low. elim (cases_lt i k) [
        | inl below ↦ ap (λ (x : Dev). x.asleep) (get_or-remove_below live k d i below here) ∙ h.awake i d (omega (arith, short)) (omega (arith, less))
        | inr above ↦ ap (λ (x : Dev). x.asleep) (get_or-remove_above live k d i above here) ∙ h.awake (i + 1) d (omega (arith, short)) (omega (arith, less))
      ];
      asleep = λ i d lt high. elim (cases_lt i k) [
        | inl below ↦ ap (λ (x : Dev). x.asleep) (get_or-remove_below live k d i below here) ∙ h.asleep i d (omega (arith, short)) (omega (arith, same))
        | inr above ↦ ap (λ (x : Dev). x.asleep) (get_or-remove_above live k d i above here) ∙ h.asleep (i + 1) d (omega (arith, short)) (omega (arith, same))
      ];
    }

-- ---- other marks

pub rest_mapped : (f : Dev → Dev) → ((d : Dev) → (f d).asleep ≡ d.asleep) → (live : List Dev) (r : Resting) → AreResting live r → AreResting (map f live) r
rest_mapped f same live r h =
    let long : length (map f live) ≡ length live = length-map live f in
    record {
      awake = λ i d lt low. ap (λ (x : Dev). x.asleep) (get_or-map f live i d d (omega (arith, long))) ∙ same (get_or live i d) ∙ h.awake i d (omega (arith, long)) low;
      asleep = λ i d lt high. ap (λ (x : Dev). x.asleep) (get_or-map f live i d d (omega (arith, long))) ∙ same (get_or live i d) ∙ h.asleep i d (omega (arith, long)) high;
    }

-- ---- one device fell asleep, or woke

mark_past : (live : List Dev) (place s i : ℕ) (b : Bool) (d : Dev) → EachLater (λ d e. d.serial < e.serial) live → place < length live → ((x : Dev) → (get_or live place x).serial ≡ s)
    → i < length live → i ≢ place → (get_or (map (with_sleep s b) live) i d).asleep ≡ (get_or live i d).asleep
mark_past live place s i b d later here at lt ne =
    ap (λ (x : Dev). x.asleep) (get_or-map (with_sleep s b) live i d d lt ∙ sleep_past s b (get_or live i d) (λ e. apart_at live i place d later lt here ne (e ∙ sym (at d))))

mark_here : (live : List Dev) (place s i : ℕ) (b : Bool) (d : Dev) → place < length live → ((x : Dev) → (get_or live place x).serial ≡ s) → i ≡ place → (get_or (map (with_sleep s b) live) i d).asleep ≡ b
mark_here live place s i b d here at is =
    ap (λ k. (get_or (map (with_sleep s b) live) k d).asleep) is
    ∙ ap (λ (x : Dev). x.asleep) (get_or-map (with_sleep s b) live place d d here ∙ sleep_at s b (get_or live place d) (at d))

pub rest_fallen : (live : List Dev) (place s : ℕ) (old new : Resting) → EachLater (λ d e. d.serial < e.serial) live → place < length live → ((x : Dev) → (get_or live place x).serial ≡ s)
    → ((i : ℕ) → i < new.awake_before → (i < old.awake_before) × (i ≢ place)) → ((i : ℕ) → new.asleep_from ≤ i → i ≢ place → old.asleep_from ≤ i)
    → AreResting live old → AreResting (map (with_sleep s true) live) new
rest_fallen live place s old new later here at before from h =
    let long : length (map (with_sleep s true) live) ≡ length live = length-map live (with_sleep s true) in
    record {
      awake = λ i d lt low.
          let b = before i low in
          mark_past live place s i true d later here at (omega (arith, long)) b.1 ∙ h.awake i d (omega (arith, long)) b.0;
      asleep = λ i d lt high. cases i d (omega (arith, long)) high (i == place) refl;
    }
  where
    cases : (i : ℕ) (d : Dev) → i < length live → new.asleep_from ≤ i → (b : Bool) → (i == place) ≡ b → (get_or (map (with_sleep s true) live) i d).asleep ≡ true
    cases i d lt high true e = mark_here live place s i true d here at (eqb-true i place e)
    cases i d lt high false e =
        let ne : i ≢ place = eqb-false i place e in
        mark_past live place s i true d later here at lt ne ∙ h.asleep i d lt (from i high ne)

pub rest_woken : (live : List Dev) (place s : ℕ) (old new : Resting) → EachLater (λ d e. d.serial < e.serial) live → place < length live → ((x : Dev) → (get_or live place x).serial ≡ s)
    → ((i : ℕ) → i < new.awake_before → i ≢ place → i < old.awake_before) → ((i : ℕ) → new.asleep_from ≤ i → (old.asleep_from ≤ i) × (i ≢ place))
    → AreResting live old → AreResting (map (with_sleep s false) live) new
rest_woken live place s old new later here at before from h =
    let long : length (map (with_sleep s false) live) ≡ length live = length-map live (with_sleep s false) in
    record {
      awake = λ i d lt low. cases i d (omega (arith, long)) low (i == place) refl;
      asleep = λ i d lt high.
          let b = from i high in
          mark_past live place s i false d later here at (omega (arith, long)) b.1 ∙ h.asleep i d (omega (arith, long)) b.0;
    }
  where
    cases : (i : ℕ) (d : Dev) → i < length live → i < new.awake_before → (b : Bool) → (i == place) ≡ b → (get_or (map (with_sleep s false) live) i d).asleep ≡ false
    cases i d lt low true e = mark_here live place s i false d here at (eqb-true i place e)
    cases i d lt low false e =
        let ne : i ≢ place = eqb-false i place e in
        mark_past live place s i false d later here at lt ne ∙ h.awake i d lt (before i low ne)

-- ---- what a test finds that those devices fail

none_found : (test : Dev → Bool) (ds : List Dev) → AllByRecursion (λ d. test d ≡ false) ds → find test ds ≡ None
none_found test [] h = refl
none_found test (d ∷ ds) h = rw h.0 (none_found test ds h.1)

none_back : (test : Dev → Bool) (ds : List Dev) → AllByRecursion (λ d. test d ≡ false) ds → find test (reverse ds) ≡ None
none_back test [] h = refl
none_back test (d ∷ ds) h =
    ap (find test) (reverse-append (d ∷ []) ds) ∙ find-append test (reverse ds) (d ∷ []) ∙ rw (none_back test ds h.1, h.0) refl

drop_fails : (test : Dev → Bool) (live : List Dev) (n : ℕ) → ((i : ℕ) (d : Dev) → i < length live → n ≤ i → test (get_or live i d) ≡ false) → AllByRecursion (λ d. test d ≡ false) (drop n live)
drop_fails test [] zero h = tt
drop_fails test [] (suc n) h = tt
drop_fails test (x ∷ xs) zero h = (h 0 x (omega arith) (omega arith), drop_fails test xs zero (λ i d lt le. h (suc i) d (omega arith) (omega arith)))
drop_fails test (x ∷ xs) (suc n) h = drop_fails test xs n (λ i d lt le. h (suc i) d (omega arith) (omega arith))

take_fails : (test : Dev → Bool) (live : List Dev) (n : ℕ) → ((i : ℕ) (d : Dev) → i < length live → i < n → test (get_or live i d) ≡ false) → AllByRecursion (λ d. test d ≡ false) (take n live)
take_fails test [] zero h = tt
take_fails test [] (suc n) h = tt
take_fails test (x ∷ xs) zero h = tt
take_fails test (x ∷ xs) (suc n) h = (h 0 x (omega arith) (omega arith), take_fails test xs n (λ i d lt le. h (suc i) d (omega arith) (omega arith)))

halves : (n : ℕ) (live : List Dev) → take n live ++ drop n live ≡ live
halves zero live = refl
halves (suc n) [] = refl
halves (suc n) (x ∷ xs) = ap (λ ys. x ∷ ys) (halves n xs)

pub found_front : (test : Dev → Bool) (live : List Dev) (n : ℕ) (r : Resting) → ((d : Dev) → d.asleep ≡ true → test d ≡ false) → r.asleep_from ≤ n ⊎ length live ≤ n → AreResting live r
    → find test (reverse live) ≡ find test (reverse (take n live))
found_front test live n r fails near h =
    let behind : AllByRecursion (λ d. test d ≡ false) (drop n live) = drop_fails test live n (λ i d lt le. fails (get_or live i d) (h.asleep i d lt (elim near [ inl from ↦ omega arith | inr past ↦ omega arith ]))) in
    ap (λ xs. find test (reverse xs)) (sym (halves n live)) ∙ ap (find test) (reverse-append (take n live) (drop n live))
    ∙ find-append test (reverse (drop n live)) (reverse (take n live)) ∙ rw (none_back test (drop n live) behind) refl

pub found_back : (test : Dev → Bool) (live : List Dev) (n : ℕ) (r : Resting) → ((d : Dev) → d.asleep ≡ false → test d ≡ false) → n ≤ r.awake_before → AreResting live r
    → find test live ≡ find test (drop n live)
found_back test live n r fails near h =
    let before : AllByRecursion (λ d. test d ≡ false) (take n live) = take_fails test live n (λ i d lt low. fails (get_or live i d) (h.awake i d lt (omega arith))) in
    ap (find test) (sym (halves n live)) ∙ find-append test (take n live) (drop n live) ∙ rw (none_found test (take n live) before) refl

pub condemner_rest : (live : List Dev) (k s : ℕ) (d : Dev) → (with_condemner live k s d).asleep ≡ d.asleep
condemner_rest live k s d = cases (is_under live s d.serial)
  where
    cases : (b : Bool) → (if b then record d { condemned = Some k } else d).asleep ≡ d.asleep
    cases true = refl
    cases false = refl
