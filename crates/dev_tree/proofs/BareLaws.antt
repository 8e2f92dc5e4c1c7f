-- Which devices have no children, with one device more, with one less, and with other marks; and what is below such a device.
use Rattle.std.proofs.Common.{◌≡◌, ◌≢◌, ℕ, zero, suc, ◌+◌, ◌<◌, Bool, true, false, ◌||◌, ◌==◌, cond, Some, List, [], ◌∷◌, ◌++◌, length, get_or, map, refl, ap, sym, ◌∙◌, subst, eq-eqb, inl, inr, arith}
use Rattle.std.specs.Prelude.{IsTrue, remove, slice_set}
use Rattle.std.specs.List.{AllByRecursion}
use Rattle.std.specs.Option.{option_map_or}
use Rattle.std.proofs.lemmas.Bool.{cases_lt, eqb-true, eqb-false, ne_eqb}
use Rattle.std.proofs.lemmas.List.{get_or-set_same, get_or-set_other, length-append}
use Rattle.std.proofs.lemmas.List.Edits.{get_or-remove_below, get_or-remove_above}
use Rattle.run_rules.proofs.Chains.{chain_found, chain_more, chain_nothing}
use Rattle.run_rules.proofs.Devices.{all_snoc, all_imp}
use Rattle.run_rules.specs.declared.world.Dev.{Dev}
use Rattle.run_rules.specs.Sound.{EachLater, IsPlaced}
use Rattle.run_rules.specs.World.{children, device_at, has, is_live, is_under, lineage, parent_of}
use Rattle.dev_tree.specs.Bare.{AreBare, AreUnmarked, IsBare}
use Rattle.dev_tree.proofs.Alike.{Alike, SamePlain, all_alike, length_alike}
use Rattle.dev_tree.proofs.BranchLaws.{apart_at, not_there}
use Rattle.run_rules.proofs.Order.{all_at}
use Rattle.dev_tree.proofs.RestLaws.{removed_short, snoc_at, snoc_end}

-- ---- no device, one more, one less

pub bare_start : AreBare [] []
bare_start = record { count = refl; each = λ i d lt on. absurd (omega (arith, lt)) }

-- nobody is below a device that comes
none_below : (live : List Dev) (next : ℕ) → AllByRecursion (IsPlaced live next) live → IsBare live next
none_below live next h = all_imp (IsPlaced live next) (λ d. d.parent ≢ next) (λ d p e. let low = p.below_next in let after = p.after_parent in absurd (omega (arith, low, after, e))) live h

pub bare_more : (live : List Dev) (next : ℕ) (e : Dev) (old unmarked : List Bool) → AllByRecursion (IsPlaced live next) live → e.serial ≡ next → e.parent < next
    → length unmarked ≡ length old → AreUnmarked live e.parent old unmarked → AreBare live old → AreBare (live ++ e ∷ []) (unmarked ++ true ∷ [])
bare_more live next e old unmarked placed serial low same marks h =
    let long : length (live ++ e ∷ []) ≡ length live + 1 = length-append live (e ∷ []) in
    let many : length (unmarked ++ true ∷ []) ≡ length unmarked + 1 = length-append unmarked (true ∷ []) in
    record {
      count = omega (arith, long, many, same, h.count);
      each = λ i d lt on. elim (cases_lt i (length live)) [
        | inl less ↦ before i d less (sym (snoc_at unmarked true i false (omega (arith, less, same, h.count))) ∙ on)
        | inr more ↦ last i d (omega (arith, lt, long, more))
      ];
    }
  where
    before : (i : ℕ) (d : Dev) → i < length live → get_or unmarked i false ≡ true → IsBare (live ++ e ∷ []) (get_or (live ++ e ∷ []) i d).serial
    before i d less on =
        let both = marks i d less on in
        subst (λ (x : Dev). IsBare (live ++ e ∷ []) x.serial) (sym (snoc_at live e i d less))
        (all_snoc (λ x. x.parent ≢ (get_or live i d).serial) live e (h.each i d less both.0) (λ is. both.1 (sym is)))

    last : (i : ℕ) (d : Dev) → i ≡ length live → IsBare (live ++ e ∷ []) (get_or (live ++ e ∷ []) i d).serial
    last i d end =
        let is : (get_or (live ++ e ∷ []) i d).serial ≡ next = ap (λ (x : Dev). x.serial) (snoc_end live e i d end) ∙ serial in
        subst (IsBare (live ++ e ∷ [])) (sym is) (all_snoc (λ x. x.parent ≢ next) live e (none_below live next placed) (λ same. absurd (omega (arith, low, same))))

all_removed : (P : Dev → Type 0) (ds : List Dev) (k : ℕ) → AllByRecursion P ds → AllByRecursion P (remove ds k)
all_removed P [] zero h = tt
all_removed P [] (suc k) h = tt
all_removed P (d ∷ ds) zero h = h.1
all_removed P (d ∷ ds) (suc k) h = (h.0, all_removed P ds k h.1)

pub bare_less : (live : List Dev) (k : ℕ) (old : List Bool) → k < length live → AreBare live old → AreBare (remove live k) (remove old k)
bare_less live k old here h =
    let beside : k < length old = omega (arith, here, h.count) in
    let short : length (remove live k) + 1 ≡ length live = removed_short live k here in
    let few : length (remove old k) + 1 ≡ length old = removed_short old k beside in
    record {
      count = omega (arith, short, few, h.count);
      each = λ i d lt on. elim (cases_lt i k) [
        | inl below ↦ at i i d (get_or-remove_below live k d i below here) (omega (arith, lt, short)) (sym (get_or-remove_below old k false i below beside) ∙ on)
        | inr above ↦ at i (i + 1) d (get_or-remove_above live k d i above here) (omega (arith, lt, short)) (sym (get_or-remove_above old k false i above beside) ∙ on)
      ];
    }
  where
    at : (i j : ℕ) (d : Dev) → get_or (remove live k) i d ≡ get_or live j d → j < length live → get_or old j false ≡ true → IsBare (remove live k) (get_or (remove live k) i d).serial
    at i j d is lt on =
        subst (λ (x : Dev). IsBare (remove live k) x.serial) (sym is) (all_removed (λ x. x.parent ≢ (get_or live j d).serial) live k (h.each j d lt on))

-- the mark of one device is taken away
pub unmarked_at : (live : List Dev) (bare : List Bool) (place s : ℕ) → EachLater (λ d e. d.serial < e.serial) live → length bare ≡ length live → place < length live → ((d : Dev) → (get_or live place d).serial ≡ s)
    → AreUnmarked live s bare (slice_set bare place false)
unmarked_at live bare place s later same here at i d lt on = cases (i == place) refl
  where
    beside : place < length bare
    beside = omega (arith, here, same)

    cases : (b : Bool) → (i == place) ≡ b → (get_or bare i false ≡ true) × ((get_or live i d).serial ≢ s)
    cases true e =
        let off : get_or (slice_set bare place false) i false ≡ false = ap (λ k. get_or (slice_set bare place false) k false) (eqb-true i place e) ∙ get_or-set_same bare place false false beside in
        absurd (let no : true ≡ false = sym on ∙ off in cc)
    cases false e =
        let ne : i ≢ place = eqb-false i place e in
        (sym (get_or-set_other bare place i false false ne) ∙ on, λ is. apart_at live i place d later lt here ne (is ∙ sym (at d)))

pub unmarked_none : (live : List Dev) (bare : List Bool) (s : ℕ) → is_live live s ≡ false → AreUnmarked live s bare bare
unmarked_none live bare s gone i d lt on = (on, not_there live s i d gone lt)

-- ---- other marks

at_alike : (xs ys : List Dev) (i : ℕ) (d : Dev) → Alike SamePlain xs ys → i < length xs → (get_or xs i d).serial ≡ (get_or ys i d).serial
at_alike [] [] i d s lt = absurd (omega (arith, lt))
at_alike (x ∷ xs) (y ∷ ys) zero d s lt = ap (λ (k : Dev). k.serial) s.0
at_alike (x ∷ xs) (y ∷ ys) (suc i) d s lt = at_alike xs ys i d s.1 (omega (arith, lt))
at_alike [] (y ∷ ys) i d s lt = absurd s
at_alike (x ∷ xs) [] i d s lt = absurd s

pub bare_alike : (live marked : List Dev) (bare : List Bool) → Alike SamePlain live marked → AreBare live bare → AreBare marked bare
bare_alike live marked bare same h =
    let long : length live ≡ length marked = length_alike live marked same in
    record {
      count = h.count ∙ long;
      each = λ i d lt on.
          let less : i < length live = omega (arith, lt, long) in
          subst (IsBare marked) (at_alike live marked i d same less)
          (all_alike SamePlain (λ x. x.parent ≢ (get_or live i d).serial) (λ x. x.parent ≢ (get_or live i d).serial) live marked same
          (λ x y e ne is. ne (ap (λ (k : Dev). k.parent) e ∙ is)) (h.each i d less on));
    }

-- ---- what is below

pub bare_children : (live : List Dev) (s : ℕ) → IsBare live s → children live s ≡ []
bare_children [] s h = refl
bare_children (d ∷ ds) s h = rw (ne_eqb d.parent s h.0) (bare_children ds s h.1)

pub children_bare : (live : List Dev) (s : ℕ) → children live s ≡ [] → IsBare live s
children_bare [] s h = tt
children_bare (d ∷ ds) s h = cases (d.parent == s) refl h (λ k. children_bare ds s k)
  where
    cases : (b : Bool) → (d.parent == s) ≡ b → cond b (d ∷ children ds s) (children ds s) ≡ [] → (children ds s ≡ [] → IsBare ds s) → (d.parent ≢ s) × IsBare ds s
    cases true e k more = absurd cc
    cases false e k more = (eqb-false d.parent s e, more k)

no_parent : (live : List Dev) (t x : ℕ) → IsBare live t → 0 ≢ t → parent_of live x ≢ t
no_parent [] t x h ne = ne
no_parent (d ∷ ds) t x h ne = cases (d.serial == x) (no_parent ds t x h.1 ne)
  where
    cases : (b : Bool) → parent_of ds x ≢ t → option_map_or (λ (e : Dev). e.parent) (cond b (Some d) (device_at ds x)) 0 ≢ t
    cases true more = h.0
    cases false more = more

never_there : (live : List Dev) (n x t : ℕ) → IsBare live t → 0 ≢ t → x ≢ t → has (lineage n live x) t ≡ false
never_there live zero x t h low ne = chain_nothing live 0 x t refl
never_there live (suc n) x t h low ne = chain_more live n x t ne ∙ never_there live n (parent_of live x) t h low (no_parent live t x h low)

-- below a device without children is itself alone
pub alone_under : (live : List Dev) (t x : ℕ) → IsBare live t → 0 < t → 0 < length live → is_under live t x ≡ (x == t)
unfolding is_under
alone_under live t x h low some = cases (x == t) refl
  where
    cases : (b : Bool) → (x == t) ≡ b → has (lineage (length live) live x) t ≡ b
    cases true e = chain_found live (length live) x t some (eqb-true x t e)
    cases false e = never_there live (length live) x t h (λ is. absurd (omega (arith, low, is))) (eqb-false x t e)

pub some_live : (live : List Dev) (s : ℕ) → IsTrue (is_live live s) → 0 < length live
some_live [] s h = absurd cc
some_live (d ∷ ds) s h = omega arith

pub live_at : (live : List Dev) (i s : ℕ) (x : Dev) → i < length live → (get_or live i x).serial ≡ s → IsTrue (is_live live s)
live_at [] i s x lt is = absurd (omega (arith, lt))
live_at (d ∷ ds) zero s x lt is = rw (eq-eqb d.serial s is) refl
live_at (d ∷ ds) (suc i) s x lt is = or_true (d.serial == s) (is_live ds s) (live_at ds i s x (omega (arith, lt)) is)
  where
    or_true : (a b : Bool) → IsTrue b → IsTrue (a || b)
    or_true true b h = refl
    or_true false b h = h

pub above_root : (live : List Dev) (s : ℕ) → AllByRecursion (λ d. 0 < d.serial) live → IsTrue (is_live live s) → 0 < s
above_root [] s h on = absurd cc
above_root (d ∷ ds) s h on = cases (d.serial == s) refl on (λ k. above_root ds s h.1 k)
  where
    cases : (b : Bool) → (d.serial == s) ≡ b → IsTrue (b || is_live ds s) → (IsTrue (is_live ds s) → 0 < s) → 0 < s
    cases true e k more = let low : 0 < d.serial = h.0 in omega (arith, low, eqb-true d.serial s e)
    cases false e k more = more k

-- below a live device without children is itself alone
pub under_alone : (live : List Dev) (t x : ℕ) → AllByRecursion (λ d. 0 < d.serial) live → IsTrue (is_live live t) → children live t ≡ [] → is_under live t x ≡ (x == t)
under_alone live t x above there bare = alone_under live t x (children_bare live t bare) (above_root live t above there) (some_live live t there)

-- ---- one device changes

later_kept : (f : Dev → Dev) (s : ℕ) (ds : List Dev) → ((d : Dev) → d.serial ≢ s → f d ≡ d) → AllByRecursion (λ e. s < e.serial) ds → ds ≡ map f ds
later_kept f s [] keeps h = refl
later_kept f s (d ∷ ds) keeps h =
    let low : s < d.serial = h.0 in
    rw (keeps d (λ e. absurd (omega (arith, low, e)))) (ap (λ es. d ∷ es) (later_kept f s ds keeps h.1))

pub one_changed : (f : Dev → Dev) (ds : List Dev) (i s : ℕ) (x : Dev) → ((d : Dev) → d.serial ≢ s → f d ≡ d) → EachLater (λ d e. d.serial < e.serial) ds → i < length ds → (get_or ds i x).serial ≡ s
    → slice_set ds i (f (get_or ds i x)) ≡ map f ds
one_changed f [] i s x keeps h lt is = absurd (omega (arith, lt))
one_changed f (d ∷ ds) zero s x keeps h lt is = ap (λ es. f d ∷ es) (later_kept f s ds keeps (subst (λ n. AllByRecursion (λ (e : Dev). n < e.serial) ds) is h.0))
one_changed f (d ∷ ds) (suc i) s x keeps h lt is =
    let low : d.serial < (get_or ds i x).serial = all_at (λ e. d.serial < e.serial) ds i x h.0 (omega (arith, lt)) in
    rw (keeps d (λ e. absurd (omega (arith, low, is, e)))) (ap (λ es. d ∷ es) (one_changed f ds i s x keeps h.1 (omega (arith, lt)) is))
