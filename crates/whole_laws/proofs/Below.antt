-- Chains of parents.
use Rattle.std.proofs.Common.{◌≡◌, ◌⊎◌, ℕ, zero, suc, ◌<◌, Bool, true, false, cond, List, [], ◌∷◌, ◌++◌, Option, Some, None, refl, sym, ap, ◌∙◌, subst, inl, inr, arith}
use Rattle.std.specs.List.{Contains}
use Rattle.std.proofs.lemmas.Option.{same_Some}
use Rattle.run_rules.specs.declared.event.Event.{Event}
use Rattle.run_rules.specs.declared.world.Dev.{Dev}
use Rattle.run_rules.specs.Laws.{attached_below, attached_name, freed_name, is_name, lives, parent_in}
use Rattle.run_rules.specs.declared.event.Act.{Act}
use Rattle.run_rules.specs.declared.event.Act.TheVariants as act
use Rattle.run_rules.specs.Run.{Step, event_of, printed}
use Rattle.run_rules.specs.Sound.{IsPlaced}
use Rattle.run_rules.specs.World.{World, device_at, device_named, name_of, parent_name, root_name}
use Rattle.run_sound.proofs.Callers.{clash}
use Rattle.run_sound.proofs.Members.{of_each}
use Rattle.history_laws.specs.Always.{OfEveryEvent, OfEveryRun}
use Rattle.history_laws.proofs.Events.{Lived, freed_lived}
use Rattle.history_laws.proofs.Grown.{lives_on, parent_on}
use Rattle.history_laws.proofs.LawsHold.{named, sleeping_below}
use Rattle.history_laws.proofs.Names.{HasNames, at_serial, at_there, named_is, named_so, named_there, parent_named, parent_root, same_bytes, world_names}
use Rattle.history_laws.proofs.Stands.{Stands, stands_on}
use Rattle.whole_laws.specs.Below.{ChainsLive, FreesBare, LeadsUp, ReachesRoot, SleepsThroughout}
use Rattle.history_laws.proofs.Carried.{IsCarried, at_event, in_run}

-- the root has no parent
abbrev pub Rootless : List Event → World → Type 0
Rootless h w = parent_in h root_name ≡ None

root_unnamed : (h : List Event) (w : World) → Stands h w → lives h root_name ≡ true → ⊥
root_unnamed h w at alive =
    let one = named h w root_name at alive in
    (world_names w at.may at.kept).unlike_root one.0 (named_there w.setup w.live root_name one.0 one.1) (named_so w.setup w.live root_name one.0 one.1)

pub rootless : IsCarried Rootless
unfolding parent_in
rootless = record { opens = λ s may. refl; goes = λ h w e v at none step. parent_on h e root_name ∙ cases h e v (stands_on h w e.caller e v at step) none (is_name (attached_name e.act) root_name) refl }
  where
    cases : (h : List Event) (e : Event) (v : World) → Stands (h ++ e ∷ []) v → parent_in h root_name ≡ None → (b : Bool) → is_name (attached_name e.act) root_name ≡ b
        → cond b (Some (attached_below e.act)) (parent_in h root_name) ≡ None
    cases h e v at none true is = absurd (root_unnamed (h ++ e ∷ []) v at (lives_on h e root_name ∙ rw is refl))
    cases h e v at none false is = none

-- a parent is the root or lives
parent_lives : (h : List Event) (w : World) → Stands h w → (x y : List ℕ) → lives h y ≡ true → parent_in h y ≡ Some x → (x ≡ root_name) ⊎ (lives h x ≡ true)
parent_lives h w at x y alive up =
    let one = named h w y at alive in
    let is : parent_name w.setup w.live one.0.parent ≡ x = same_Some _ x (sym ((at.counted.names y).parent one.0 one.1) ∙ up) in
    cases one.0.parent is (device_at w.live one.0.parent) refl
  where
    names : HasNames w.setup w.live w.next
    names = world_names w at.may at.kept

    cases : (p : ℕ) → parent_name w.setup w.live p ≡ x → (o : Option Dev) → device_at w.live p ≡ o → (x ≡ root_name) ⊎ (lives h x ≡ true)
    cases p is None e = inl (sym is ∙ parent_root w.setup w.live p e)
    cases p is (Some d) e =
        let found : device_named w.setup w.live x ≡ Some d = named_is w.setup w.live x d names.own (at_there w.live p d e) (sym (parent_named w.setup w.live p d e) ∙ is) in
        inr ((at.counted.names x).lives ∙ rw found refl)

up_live : (h : List Event) (w : World) → Stands h w → Rootless h w → (x y : List ℕ) (chain : List (List ℕ)) → lives h y ≡ true → LeadsUp h y chain x → (x ≡ root_name) ⊎ (lives h x ≡ true)
up_live h w at none x y [] alive up = parent_lives h w at x y alive up
up_live h w at none x y (z ∷ zs) alive up = elim (parent_lives h w at z y alive up.0) [
  | inl root ↦ absurd (from_root zs (subst (λ (n : List ℕ). LeadsUp h n zs x) root up.1))
  | inr more ↦ up_live h w at none x z zs more up.1
]
  where
    some : (n : List ℕ) → parent_in h root_name ≡ Some n → ⊥
    some n is = let bad : None ≡ Some n = sym none ∙ is in absurd cc

    from_root : (zs : List (List ℕ)) → LeadsUp h root_name zs x → ⊥
    from_root [] up = some x up
    from_root (n ∷ ns) up = some n up.0

pub always_chains_live : OfEveryRun (λ h v. ChainsLive h)
always_chains_live = in_run Rootless (λ h v. ChainsLive h) rootless up_live

-- ---- what is freed

-- a line that frees a device attaches none
goes_alone : (a : Act) (x : List ℕ) → freed_name a ≡ Some x → is_name (attached_name a) x ≡ false
goes_alone (act.Free device) x h = refl
goes_alone _ x h = absurd cc

line : (w : World) (e : Event) (v : World) (step : Step w e.caller e v) → e.act ≡ printed w e.caller step.deed
unfolding event_of
line w e v step = ap (λ (f : Event). f.act) step.event

freed_dead : (h : List Event) (w : World) (e : Event) (v : World) → Stands h w → Step w e.caller e v → (x : List ℕ) → freed_name e.act ≡ Some x → Lived w x × (lives (h ++ e ∷ []) x ≡ false)
freed_dead h w e v at step x is =
    let named : is_name (freed_name e.act) x ≡ true = rw is (same_bytes x x refl) in
    (freed_lived w e.caller step.deed x at.may at.kept step.chosen (rw (line w e v step) at is), lives_on h e x ∙ rw (goes_alone e.act x is, named) refl)

bare : (h : List Event) (w : World) (e : Event) (v : World) → Stands h w → Rootless h w → Step w e.caller e v → FreesBare h e
bare h w e v at none step x y chain is alive up =
    let after_it : Stands (h ++ e ∷ []) v = stands_on h w e.caller e v at step in
    let gone : Lived w x × (lives (h ++ e ∷ []) x ≡ false) = freed_dead h w e v at step x is in
    elim (up_live (h ++ e ∷ []) v after_it (rootless.goes h w e v at none step) x y chain alive up) [
      | inl root ↦ absurd (gone.0.name root)
      | inr more ↦ clash (lives (h ++ e ∷ []) x) more gone.1
    ]

pub always_bare : OfEveryEvent FreesBare
always_bare = at_event Rootless FreesBare rootless bare

-- ---- what sleeps

throughout : (h : List Event) (w : World) → Stands h w → Rootless h w → SleepsThroughout h
throughout h w at none x y [] sleeps alive up = sleeping_below h w at x y sleeps alive up
throughout h w at none x y (z ∷ zs) sleeps alive up = elim (parent_lives h w at z y alive up.0) [
  | inl root ↦ absurd (from_root zs (subst (λ (n : List ℕ). LeadsUp h n zs x) root up.1))
  | inr more ↦ sleeping_below h w at z y (throughout h w at none x z zs sleeps more up.1) alive up.0
]
  where
    some : (n : List ℕ) → parent_in h root_name ≡ Some n → ⊥
    some n is = let bad : None ≡ Some n = sym none ∙ is in absurd cc

    from_root : (zs : List (List ℕ)) → LeadsUp h root_name zs x → ⊥
    from_root [] up = some x up
    from_root (n ∷ ns) up = some n up.0

pub always_throughout : OfEveryRun (λ h v. SleepsThroughout h)
always_throughout = in_run Rootless (λ h v. SleepsThroughout h) rootless throughout

-- ---- up to the root

-- each parent has a lower serial
reaches : (h : List Event) (w : World) → Stands h w → (n : ℕ) (d : Dev) → Contains w.live d → d.serial < n → (chain : List (List ℕ)) × LeadsUp h (name_of w.setup d) chain root_name
reaches h w at zero d here low = absurd (omega (arith, low))
reaches h w at (suc n) d here low = cases (reaches h w at n) (device_at w.live d.parent) refl
  where
    names : HasNames w.setup w.live w.next
    names = world_names w at.may at.kept

    found : device_named w.setup w.live (name_of w.setup d) ≡ Some d
    found = named_is w.setup w.live (name_of w.setup d) d names.own here refl

    up : parent_in h (name_of w.setup d) ≡ Some (parent_name w.setup w.live d.parent)
    up = (at.counted.names (name_of w.setup d)).parent d found

    placed : IsPlaced w.live w.next d
    placed = of_each (IsPlaced w.live w.next) w.live d names.placed here

    cases : ((p : Dev) → Contains w.live p → p.serial < n → (chain : List (List ℕ)) × LeadsUp h (name_of w.setup p) chain root_name) → (o : Option Dev) → device_at w.live d.parent ≡ o
        → (chain : List (List ℕ)) × LeadsUp h (name_of w.setup d) chain root_name
    cases onward None e = ([], up ∙ ap Some (parent_root w.setup w.live d.parent e))
    cases onward (Some p) e =
        let less : p.serial < n = omega (arith, low, placed.after_parent, at_serial w.live d.parent p e) in
        let more = onward p (at_there w.live d.parent p e) less in
        (name_of w.setup p ∷ more.0, (up ∙ ap Some (parent_named w.setup w.live d.parent p e), more.1))

reaches_root : (h : List Event) (w : World) → Stands h w → Rootless h w → ReachesRoot h
reaches_root h w at none y alive =
    let one = named h w y at alive in
    subst (λ (n : List ℕ). (chain : List (List ℕ)) × LeadsUp h n chain root_name) (named_so w.setup w.live y one.0 one.1)
    (reaches h w at (suc one.0.serial) one.0 (named_there w.setup w.live y one.0 one.1) (omega arith))

pub always_root : OfEveryRun (λ h v. ReachesRoot h)
always_root = in_run Rootless (λ h v. ReachesRoot h) rootless reaches_root
