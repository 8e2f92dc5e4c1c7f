-- What is freed next lives and has no children, in a world whose devices and condemnings are sound.
use Rattle.std.proofs.Common.{◌≡◌, ℕ, ◌<◌, Bool, true, false, ◌||◌, ◌==◌, cond, Some, None, Option, List, [], ◌∷◌, ◌++◌, find, refl, ap, sym, ◌∙◌, eq-eqb, arith}
use Rattle.std.specs.Prelude.{IsTrue, filter, reverse}
use Rattle.std.specs.Option.{option_or}
use Rattle.std.specs.List.{AllByRecursion}
use Rattle.std.proofs.lemmas.Bool.{eqb-true}
use Rattle.std.proofs.lemmas.List.{reverse-append}
use Rattle.std.proofs.lemmas.List.Folds.{find-append}
use Rattle.cf_types.proofs.TestLemmas.{clash}
use Rattle.run_rules.proofs.Marked.{number_is, is_numbered}
use Rattle.run_rules.specs.declared.world.Dev.{Dev}
use Rattle.run_rules.specs.World.{World, is_number, is_live, children, serial_of}
use Rattle.run_rules.specs.Next.{next_free}
use Rattle.run_rules.specs.Sound.{EachLater, IsApart, IsPlaced, HasSoundDevices, IsSoundlyCondemned}
use Rattle.run_rules.proofs.Devices.{all_snoc, all_both, all_imp, found_in}
use Rattle.run_rules.proofs.Free.{find_true}

-- ---- the last that passes

back : (d : Dev) (ds : List Dev) → reverse (d ∷ ds) ≡ reverse ds ++ d ∷ []
back d ds = reverse-append (d ∷ []) ds

all_back : (P : Dev → Type 0) (ds : List Dev) → AllByRecursion P ds → AllByRecursion P (reverse ds)
all_back P [] h = tt
all_back P (d ∷ ds) h = rw (back d ds) (all_snoc P (reverse ds) d (all_back P ds h.1) h.0)

last_is : (p : Dev → Bool) (d : Dev) (ds : List Dev) → find p (reverse (d ∷ ds)) ≡ option_or (find p (reverse ds)) (cond (p d) (Some d) None)
last_is p d ds = ap (find p) (back d ds) ∙ find-append p (reverse ds) (d ∷ [])

none_last : (p : Dev → Bool) (ds : List Dev) → find p (reverse ds) ≡ None → AllByRecursion (λ d. p d ≡ false) ds
none_last p [] e = tt
none_last p (d ∷ ds) e = cases (λ k. none_last p ds k) (find p (reverse ds)) refl (sym (last_is p d ds) ∙ e)
  where
    one : (b : Bool) → p d ≡ b → cond b (Some d) None ≡ None → p d ≡ false
    one true h k = absurd cc
    one false h k = h

    cases : (find p (reverse ds) ≡ None → AllByRecursion (λ x. p x ≡ false) ds) → (o : Option Dev) → find p (reverse ds) ≡ o → option_or o (cond (p d) (Some d) None) ≡ None
        → AllByRecursion (λ x. p x ≡ false) (d ∷ ds)
    cases more (Some y) h k = absurd cc
    cases more None h k = (one (p d) refl k, more h)

some_is : {a b : Dev} → Some a ≡ Some b → a ≡ b
some_is e = cc

-- what came later than the last that passes does not pass
later_fails : (p : Dev → Bool) (ds : List Dev) (x : Dev) → EachLater (λ d e. d.serial < e.serial) ds → find p (reverse ds) ≡ Some x → AllByRecursion (λ e. x.serial < e.serial → p e ≡ false) ds
later_fails p [] x h e = tt
later_fails p (d ∷ ds) x h e = cases (λ k. later_fails p ds x h.1 k) (find p (reverse ds)) refl (sym (last_is p d ds) ∙ e)
  where
    one : (b : Bool) → cond b (Some d) None ≡ Some x → d ≡ x
    one true k = some_is k
    one false k = absurd cc

    cases : (find p (reverse ds) ≡ Some x → AllByRecursion (λ e. x.serial < e.serial → p e ≡ false) ds) → (o : Option Dev) → find p (reverse ds) ≡ o
        → option_or o (cond (p d) (Some d) None) ≡ Some x → AllByRecursion (λ e. x.serial < e.serial → p e ≡ false) (d ∷ ds)
    cases more (Some y) g k =
        let found : find p (reverse ds) ≡ Some x = g ∙ k in
        let low : d.serial < x.serial = found_in (λ e. d.serial < e.serial) p (reverse ds) x (all_back (λ e. d.serial < e.serial) ds h.0) found in
        (λ lt. absurd (omega arith), more found)
    cases more None g k =
        let same : d.serial ≡ x.serial = ap (λ (e : Dev). e.serial) (one (p d) k) in
        (λ lt. absurd (omega arith), all_imp (λ e. p e ≡ false) (λ e. x.serial < e.serial → p e ≡ false) (λ e q lt. q) ds (none_last p ds g))

-- ---- what is freed next

abbrev AreSoundlyCondemned : World → Type 0
AreSoundlyCondemned w = AllByRecursion (λ d. (k : ℕ) → d.condemned ≡ Some k → IsSoundlyCondemned w d k) w.live

later_all : (w : World) → EachLater (IsApart w.setup) w.live → EachLater (λ d e. d.serial < e.serial) w.live
later_all w h = each w.live h
  where
    each : (ds : List Dev) → EachLater (IsApart w.setup) ds → EachLater (λ d e. d.serial < e.serial) ds
    each [] k = tt
    each (d ∷ ds) k = (all_imp (IsApart w.setup d) (λ e. d.serial < e.serial) (λ e a. a.later) ds k.0, each ds k.1)

nothing_left : (test : Dev → Bool) (ds : List Dev) → AllByRecursion (λ d. test d ≡ false) ds → filter test ds ≡ []
nothing_left test [] h = refl
nothing_left test (d ∷ ds) h = rw h.0 (nothing_left test ds h.1)

live_back : (s : ℕ) (ds : List Dev) (p : Dev → Bool) (x : Dev) → find p (reverse ds) ≡ Some x → x.serial ≡ s → is_live ds s ≡ true
live_back s [] p x e is = absurd cc
live_back s (d ∷ ds) p x e is = cases (λ k. live_back s ds p x k is) (find p (reverse ds)) refl (sym (last_is p d ds) ∙ e)
  where
    one : (b : Bool) → cond b (Some d) None ≡ Some x → d ≡ x
    one true k = some_is k
    one false k = absurd cc

    or_true : (b c : Bool) → c ≡ true → (b || c) ≡ true
    or_true true c k = refl
    or_true false c k = k

    cases : (find p (reverse ds) ≡ Some x → is_live ds s ≡ true) → (o : Option Dev) → find p (reverse ds) ≡ o → option_or o (cond (p d) (Some d) None) ≡ Some x
        → (d.serial == s || is_live ds s) ≡ true
    cases more (Some y) g k = or_true (d.serial == s) (is_live ds s) (more (g ∙ k))
    cases more None g k = rw (eq-eqb d.serial s (ap (λ (e : Dev). e.serial) (one (p d) k) ∙ is)) refl

alone : (w : World) (k s : ℕ) (x : Dev) → HasSoundDevices w.setup w.live w.next → AreSoundlyCondemned w → find (λ d. is_number d.condemned k) (reverse w.live) ≡ Some x → x.serial ≡ s
    → children w.live s ≡ []
alone w k s x sound condemned found is =
    let by : x.condemned ≡ Some k = number_is x.condemned k (find_true (λ (d : Dev). is_number d.condemned k) (reverse w.live) x found) in
    let down : IsSoundlyCondemned w x k = found_in (λ d. (k : ℕ) → d.condemned ≡ Some k → IsSoundlyCondemned w d k) (λ (d : Dev). is_number d.condemned k) (reverse w.live) x (all_back (λ d. (k : ℕ) → d.condemned ≡ Some k → IsSoundlyCondemned w d k) w.live condemned) found k by in
    let fails = later_fails (λ (d : Dev). is_number d.condemned k) w.live x (later_all w sound.apart) found in
    nothing_left (λ d. d.parent == s) w.live
    (all_both (IsPlaced w.live w.next) (λ e. (e.parent ≡ x.serial → e.condemned ≡ Some k) × (x.serial < e.serial → is_number e.condemned k ≡ false)) (λ e. (e.parent == s) ≡ false)
    (λ e place both. other e place both (e.parent == s) refl) w.live sound.placed
    (all_both (λ e. e.parent ≡ x.serial → e.condemned ≡ Some k) (λ e. x.serial < e.serial → is_number e.condemned k ≡ false) _ (λ e a b. (a, b)) w.live down.children fails))
  where
    other : (e : Dev) → IsPlaced w.live w.next e → (e.parent ≡ x.serial → e.condemned ≡ Some k) × (x.serial < e.serial → is_number e.condemned k ≡ false) → (b : Bool) → (e.parent == s) ≡ b → (e.parent == s) ≡ false
    other e place both false h = h
    other e place both true h =
        let below : e.parent ≡ x.serial = eqb-true e.parent s h ∙ sym is in
        let after : e.parent < e.serial = place.after_parent in
        absurd (clash (is_number e.condemned k) (is_numbered e.condemned k (both.0 below)) (both.1 (omega arith)))

pub next_free_alone : (w : World) (k s : ℕ) → HasSoundDevices w.setup w.live w.next → AreSoundlyCondemned w → next_free w.live k ≡ Some s → children w.live s ≡ []
unfolding next_free
next_free_alone w k s sound condemned e = cases (find (λ d. is_number d.condemned k) (reverse w.live)) refl e
  where
    cases : (o : Option Dev) → find (λ d. is_number d.condemned k) (reverse w.live) ≡ o → serial_of o ≡ Some s → children w.live s ≡ []
    cases None h is = absurd cc
    cases (Some x) h is = alone w k s x sound condemned h (let n : x.serial ≡ s = cc in n)

pub next_free_live : (live : List Dev) (k s : ℕ) → next_free live k ≡ Some s → IsTrue (is_live live s)
unfolding next_free
next_free_live live k s e = cases (find (λ d. is_number d.condemned k) (reverse live)) refl e
  where
    cases : (o : Option Dev) → find (λ d. is_number d.condemned k) (reverse live) ≡ o → serial_of o ≡ Some s → is_live live s ≡ true
    cases None h is = absurd cc
    cases (Some x) h is = live_back s live (λ (d : Dev). is_number d.condemned k) x h (let n : x.serial ≡ s = cc in n)
