-- Which devices are doomed, up the chain of parents.
use Rattle.std.proofs.Common.{◌≡◌, ◌<◌, ℕ, zero, suc, Bool, true, false, ◌&&◌, ◌||◌, ◌==◌, cond, List, [], ◌∷◌, length, map, drop, take, get_or, Option, Some, None, refl, sym, ap, ◌∙◌, arith, eqb-true}
use Rattle.std.specs.Prelude.{filter, find}
use Rattle.std.specs.Option.{option_map_or}
use Rattle.run_rules.specs.declared.world.Dev.{Dev}
use Rattle.run_rules.specs.World.{device_at, lineage, policy_of}
use Rattle.run_rules.proofs.Devices.{found_in}
use Rattle.run_rules.proofs.Free.{find_true}
use Rattle.live_rules.specs.Laws.{IsSound}
use Rattle.live_rules.specs.Live.{LiveWorld, LiveSite, doomed, hinders, is_doomed, is_in}
use Rattle.live_rules.proofs.Doomed.{after_parents, doomed_step}
use Rattle.live_tables.specs.Going.{dooms}
use Rattle.live_tables.specs.Running.{Running}

no_chain : (t : LiveSite) (live : List Dev) (g : ℕ) → is_doomed t live g 0 ≡ false
unfolding is_doomed lineage
no_chain t live g = refl

pub doomed_up : (t : LiveSite) (w : LiveWorld) (g s : ℕ) (d : Dev) → IsSound t w → device_at w.live s ≡ Some d → is_doomed t w.live g s ≡ (is_in t g d.row || is_doomed t w.live g d.parent)
doomed_up t w g s d h at =
    let parents = after_parents t.setup w.live w.next h.devices in
    let less : d.parent < d.serial = found_in (λ (e : Dev). e.parent < e.serial) (λ (e : Dev). e.serial == s) w.live d parents at in
    let same : d.serial ≡ s = eqb-true d.serial s (find_true (λ (e : Dev). e.serial == s) w.live d at) in
    doomed_step t w.live g s parents (omega (arith, less, same))
    ∙ ap (λ (o : Option Dev). option_map_or (λ e. is_in t g e.row) o false || is_doomed t w.live g (option_map_or (λ e. e.parent) o 0)) at

pub parent_below : (t : LiveSite) (w : LiveWorld) (s : ℕ) (d : Dev) → IsSound t w → device_at w.live s ≡ Some d → d.parent < s
parent_below t w s d h at =
    let less : d.parent < d.serial = found_in (λ (e : Dev). e.parent < e.serial) (λ (e : Dev). e.serial == s) w.live d (after_parents t.setup w.live w.next h.devices) at in
    let same : d.serial ≡ s = eqb-true d.serial s (find_true (λ (e : Dev). e.serial == s) w.live d at) in
    omega (arith, less, same)

pub doomed_none : (t : LiveSite) (w : LiveWorld) (g s : ℕ) → IsSound t w → device_at w.live s ≡ None → is_doomed t w.live g s ≡ false
doomed_none t w g zero h at = no_chain t w.live g
doomed_none t w g (suc s) h at =
    doomed_step t w.live g (suc s) (after_parents t.setup w.live w.next h.devices) (omega arith)
    ∙ ap (λ (o : Option Dev). option_map_or (λ e. is_in t g e.row) o false || is_doomed t w.live g (option_map_or (λ e. e.parent) o 0)) at ∙ no_chain t w.live g

-- ---- the marks of devices

-- of the first so many devices
abbrev pub dooms_to : Running → ℕ → ℕ → List Bool
dooms_to r g n = map (λ d. is_doomed r.site r.world.live g d.serial) (take n r.world.live)

pub mark_of : {A : Type 0} (test : A → Bool) (xs : List A) (i : ℕ) (d : A) (b : Bool) → i < length xs → get_or (map test xs) i b ≡ test (get_or xs i d)
mark_of test [] i d b lt = absurd (omega (arith, lt))
mark_of test (x ∷ xs) zero d b lt = refl
mark_of test (x ∷ xs) (suc i) d b lt = mark_of test xs i d b (omega (arith, lt))

-- ---- from one place on

pub filter_hit : {A : Type 0} (test : A → Bool) (xs : List A) (i : ℕ) (d : A) → i < length xs → test (get_or xs i d) ≡ true → filter test (drop i xs) ≡ get_or xs i d ∷ filter test (drop (suc i) xs)
filter_hit test [] i d lt e = absurd (omega (arith, lt))
filter_hit test (x ∷ xs) zero d lt e = rw e refl
filter_hit test (x ∷ xs) (suc i) d lt e = filter_hit test xs i d (omega (arith, lt)) e

pub filter_miss : {A : Type 0} (test : A → Bool) (xs : List A) (i : ℕ) (d : A) → i < length xs → test (get_or xs i d) ≡ false → filter test (drop i xs) ≡ filter test (drop (suc i) xs)
filter_miss test [] i d lt e = absurd (omega (arith, lt))
filter_miss test (x ∷ xs) zero d lt e = rw e refl
filter_miss test (x ∷ xs) (suc i) d lt e = filter_miss test xs i d (omega (arith, lt)) e

-- the first doomed one that may not go
find_both : (p q : Dev → Bool) (xs : List Dev) → find q (filter p xs) ≡ find (λ d. p d && q d) xs
find_both p q [] = refl
find_both p q (x ∷ xs) = cases (find_both p q xs) (p x)
  where
    cases : find q (filter p xs) ≡ find (λ d. p d && q d) xs → (b : Bool) → find q (cond b (x ∷ filter p xs) (filter p xs)) ≡ cond (b && q x) (Some x) (find (λ d. p d && q d) xs)
    cases more true = ap (λ (o : Option Dev). cond (q x) (Some x) o) more
    cases more false = more

pub hinders_is : (t : LiveSite) (w : LiveWorld) (g : ℕ) → find (λ d. is_doomed t w.live g d.serial && (policy_of t.setup d.row).nodetach) w.live ≡ hinders t w g
unfolding hinders doomed
hinders_is t w g = sym (find_both (λ (d : Dev). is_doomed t w.live g d.serial) (λ (d : Dev). (policy_of t.setup d.row).nodetach) w.live)

-- ---- the first of those from one place on

pub find_hit : {A : Type 0} (test : A → Bool) (xs : List A) (i : ℕ) (d : A) → i < length xs → test (get_or xs i d) ≡ true → find test (drop i xs) ≡ Some (get_or xs i d)
find_hit test [] i d lt e = absurd (omega (arith, lt))
find_hit test (x ∷ xs) zero d lt e = rw e refl
find_hit test (x ∷ xs) (suc i) d lt e = find_hit test xs i d (omega (arith, lt)) e

pub find_miss : {A : Type 0} (test : A → Bool) (xs : List A) (i : ℕ) (d : A) → i < length xs → test (get_or xs i d) ≡ false → find test (drop i xs) ≡ find test (drop (suc i) xs)
find_miss test [] i d lt e = absurd (omega (arith, lt))
find_miss test (x ∷ xs) zero d lt e = rw e refl
find_miss test (x ∷ xs) (suc i) d lt e = find_miss test xs i d (omega (arith, lt)) e

-- a device that hinders the removal of the group
abbrev pub is_hindering : Running → ℕ → Dev → Bool
is_hindering r g d = is_doomed r.site r.world.live g d.serial && (policy_of r.site.setup d.row).nodetach

pub hindering_is : (r : Running) (g : ℕ) (marks : List Bool) (devices : List Dev) (i : ℕ) (d : Dev) (b : Bool) → marks ≡ dooms r g → devices ≡ r.world.live → i < length devices
    → b ≡ (get_or marks i false && (policy_of r.site.setup (get_or devices i d).row).nodetach) → is_hindering r g (get_or r.world.live i d) ≡ b
hindering_is r g marks devices i d b marked are lt is =
    sym (is ∙ ap (λ (ms : List Bool). get_or ms i false && (policy_of r.site.setup (get_or devices i d).row).nodetach) marked
    ∙ ap (λ (ds : List Dev). get_or (dooms r g) i false && (policy_of r.site.setup (get_or ds i d).row).nodetach) are
    ∙ ap (λ (c : Bool). c && (policy_of r.site.setup (get_or r.world.live i d).row).nodetach)
    (mark_of (λ (e : Dev). is_doomed r.site r.world.live g e.serial) r.world.live i d false (omega (arith, lt, ap length are))))
