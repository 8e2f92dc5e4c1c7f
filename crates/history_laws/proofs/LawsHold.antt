-- A run's history is lawful.
use Rattle.std.proofs.Common.{◌≡◌, ◌≢◌, ◌⊎◌, ◌≤◌, ℕ, ◌+◌, true, false, List, [], ◌∷◌, ◌++◌, Option, Some, None, is_some, refl, sym, ap, ◌∙◌, subst, inl, inr, arith}
use Rattle.std.specs.Prelude.{pos, ◌-ℤ◌, IsTrue}
use Rattle.std.proofs.lemmas.Int.{ints}
use Rattle.std.proofs.lemmas.Bool.{and_parts, ne_eqb}
use Rattle.std.proofs.lemmas.Option.{same_Some}
use Rattle.run_rules.specs.declared.event.Event.{Event}
use Rattle.run_rules.specs.declared.world.Dev.{Dev}
use Rattle.run_rules.specs.declared.world.Ref.{Ref}
use Rattle.run_rules.specs.declared.world.Setup.{Setup}
use Rattle.run_rules.specs.World.{World, device_at, device_named, has, holds_in, opening, parent_name, root_name}
use Rattle.run_rules.specs.declared.deed.Deed.{Deed}
use Rattle.run_rules.specs.declared.event.Act.{Act}
use Rattle.run_rules.specs.declared.event.Act.TheVariants as act
use Rattle.run_rules.specs.Laws.{IsCount, IsLawfulNext, Lawful, LawfulFrom, LivesAwake, attached_below, attached_name, freed_name, holds, is_asleep_in, is_name, lives, parent_in, sole_in, transfers}
use Rattle.run_rules.specs.After.{after}
use Rattle.run_rules.specs.Run.{Run, Step, event_of, printed}
use Rattle.run_rules.proofs.Setups.{after_setup}
use Rattle.run_rules.specs.References.{AreCounted, count_in, refs_to}
use Rattle.run_rules.specs.Sound.{IsSoundlyAsleep}
use Rattle.run_rules.proofs.References.{held_counts, some_of_all}
use Rattle.run_sound.specs.Kept.{MayRun}
use Rattle.run_sound.proofs.Members.{of_each}
use Rattle.history_laws.specs.Counted.{granted, held_of, is_sole_of, returned}
use Rattle.history_laws.proofs.Events.{HoldsInUse, Lived, comes_free, freed_lived, holds_in_use}
use Rattle.history_laws.proofs.Grown.{lives_on}
use Rattle.history_laws.proofs.Names.{HasNames, at_serial, at_there, first_is, named_so, named_there, parent_named, parent_root, same_bytes, world_names}
use Rattle.history_laws.proofs.Names as names
use Rattle.history_laws.proofs.Referring.{two_of_all}
use Rattle.history_laws.proofs.Stands.{Stands, stands_on, stands_open}

-- ---- who lives

pub named : (g : List Event) (w : World) (x : List ℕ) → Stands g w → lives g x ≡ true → (d : Dev) × (device_named w.setup w.live x ≡ Some d)
named g w x at alive = cases (device_named w.setup w.live x) refl (sym ((at.counted.names x).lives) ∙ alive)
  where
    cases : (o : Option Dev) → device_named w.setup w.live x ≡ o → is_some o ≡ true → (d : Dev) × (device_named w.setup w.live x ≡ Some d)
    cases None e h = absurd cc
    cases (Some d) e h = (d, e)

pub unnamed : (g : List Event) (w : World) (x : List ℕ) → Stands g w → lives g x ≡ false → device_named w.setup w.live x ≡ None
unnamed g w x at dead = cases (device_named w.setup w.live x) refl (sym ((at.counted.names x).lives) ∙ dead)
  where
    cases : (o : Option Dev) → device_named w.setup w.live x ≡ o → is_some o ≡ false → o ≡ None
    cases None e h = refl
    cases (Some d) e h = absurd cc

-- the device of a parent's name is the parent
pub parent_is : (w : World) (x : List ℕ) (d e : Dev) → HasNames w.setup w.live w.next → device_named w.setup w.live x ≡ Some d → parent_name w.setup w.live e.parent ≡ x → e.parent ≡ d.serial
parent_is w x d e names is same = cases (device_at w.live e.parent) refl
  where
    cases : (o : Option Dev) → device_at w.live e.parent ≡ o → e.parent ≡ d.serial
    cases None at = absurd (names.unlike_root d (named_there w.setup w.live x d is) (named_so w.setup w.live x d is ∙ sym same ∙ parent_root w.setup w.live e.parent at))
    cases (Some c) at =
        let one : c ≡ d = first_is w.setup w.live x d c names.own is (at_there w.live e.parent c at) (sym (parent_named w.setup w.live e.parent c at) ∙ same) in
        sym (at_serial w.live e.parent c at) ∙ ap (λ (b : Dev). b.serial) one

-- ---- what sleeps

asleep_lives : (g : List Event) (x : List ℕ) → is_asleep_in g x ≡ true → lives g x ≡ true
unfolding is_asleep_in
asleep_lives g x h = (and_parts (lives g x) _ h).0

pub sleeping_below : (g : List Event) (w : World) → Stands g w → (x y : List ℕ) → is_asleep_in g x ≡ true → lives g y ≡ true → parent_in g y ≡ Some x → is_asleep_in g y ≡ true
sleeping_below g w at x y sleeps alive below =
    let up = named g w x at (asleep_lives g x sleeps) in
    let down = named g w y at alive in
    let d : Dev = up.0 in
    let e : Dev = down.0 in
    let names : HasNames w.setup w.live w.next = world_names w at.may at.kept in
    let name : parent_name w.setup w.live e.parent ≡ x = same_Some _ x (sym ((at.counted.names y).parent e down.1) ∙ below) in
    let parent : e.parent ≡ d.serial = parent_is w x d e names up.1 name in
    let asleep : IsTrue d.asleep = sym ((at.counted.names x).asleep d up.1) ∙ sleeps in
    let soundly : IsSoundlyAsleep w d = of_each (λ c. IsTrue c.asleep → IsSoundlyAsleep w c) w.live d at.kept.sound.asleep (named_there w.setup w.live x d up.1) asleep in
    (at.counted.names y).asleep e down.1 ∙ of_each (λ c. c.parent ≡ d.serial → IsTrue c.asleep) w.live e soundly.children (named_there w.setup w.live y e down.1) parent

-- ---- what is held

pub less_back : (n b : ℕ) → (pos (n + b) -ℤ pos b) ≡ pos n
less_back n b = omega (arith, ints)

pub holds_is : (g : List Event) (w : World) (k : ℕ) (x : List ℕ) → Stands g w → holds g k x ≡ pos (held_of w.refs k (device_named w.setup w.live x))
unfolding holds granted returned
holds_is g w k x at =
    ap (λ (n : ℕ). pos n -ℤ pos (returned g k x)) ((at.counted.names x).held k) ∙ less_back (held_of w.refs k (device_named w.setup w.live x)) (returned g k x)

pub held_few : (g : List Event) (w : World) → Stands g w → (k : ℕ) (x : List ℕ) → IsCount 0 (holds g k x)
held_few g w at k x = record { count = held_of w.refs k (device_named w.setup w.live x); many = omega arith; few = cases (device_named w.setup w.live x); is = holds_is g w k x at }
  where
    cases : (o : Option Dev) → held_of w.refs k o ≤ 15
    cases None = omega arith
    cases (Some d) = at.kept.sound.refs.counted.few k d.serial

pub dead_unheld : (g : List Event) (w : World) → Stands g w → (k : ℕ) (x : List ℕ) → lives g x ≡ false → holds g k x ≡ pos 0
dead_unheld g w at k x dead = holds_is g w k x at ∙ ap (λ (o : Option Dev). pos (held_of w.refs k o)) (unnamed g w x at dead)

-- one reference is one caller's
alone_is : (refs : List Ref) (k s : ℕ) → holds_in refs k s ≡ true → refs_to refs s ≡ 1 → count_in refs k s ≡ 1
alone_is refs k s held one = omega (arith, held_counts refs k s held, some_of_all refs k s, one)

others_none : (refs : List Ref) (k j s : ℕ) → holds_in refs k s ≡ true → refs_to refs s ≡ 1 → j ≢ k → count_in refs j s ≡ 0
others_none refs k j s held one other = omega (arith, held_counts refs k s held, two_of_all refs k j s (ne_eqb k j (λ same. other (sym same))), one)

pub sole_alone : (g : List Event) (w : World) → Stands g w → (k : ℕ) (x : List ℕ) → sole_in g k x ≡ true → (holds g k x ≡ pos 1) × ((j : ℕ) → j ≢ k → holds g j x ≡ pos 0)
sole_alone g w at k x sole = cases (device_named w.setup w.live x) refl (sym ((at.counted.names x).solely k) ∙ sole)
  where
    cases : (o : Option Dev) → device_named w.setup w.live x ≡ o → is_sole_of w.refs w.sole k o ≡ true → (holds g k x ≡ pos 1) × ((j : ℕ) → j ≢ k → holds g j x ≡ pos 0)
    cases None e h = absurd cc
    cases (Some d) e h =
        let both = and_parts (has w.sole d.serial) (holds_in w.refs k d.serial) h in
        let one : refs_to w.refs d.serial ≡ 1 = at.kept.sound.refs.counted.alone d.serial both.0 in
        let count : (j : ℕ) → holds g j x ≡ pos (count_in w.refs j d.serial) = λ j. holds_is g w j x at ∙ ap (λ (o : Option Dev). pos (held_of w.refs j o)) e in
        (count k ∙ ap pos (alone_is w.refs k d.serial both.1 one), λ j other. count j ∙ ap pos (others_none w.refs k j d.serial both.1 one other))

-- ---- what holds where an event stands

-- a line that frees a device attaches none
goes_alone : (a : Act) (x : List ℕ) → freed_name a ≡ Some x → is_name (attached_name a) x ≡ false
goes_alone (act.Free device) x h = refl
goes_alone _ x h = absurd cc

-- what a caller transfers from it holds
held_so : (g : List Event) (v w : World) (k : ℕ) (d : Deed) (x : List ℕ) → Stands g v → v ≡ after w k d → AreCounted w.refs w.sole → HoldsInUse w k d x → IsCount 1 (holds g k x)
held_so g v w k d x at is counted held =
    let found : device_named v.setup v.live x ≡ Some held.dev =
    subst (λ (u : World). device_named u.setup u.live x ≡ Some held.dev) (sym is) (rw (after_setup w k d, held.live) held.found) in
    let refs : v.refs ≡ w.refs = ap (λ (u : World). u.refs) is ∙ held.refs in
    record {
      count = count_in w.refs k held.dev.serial;
      many = held_counts w.refs k held.dev.serial held.held;
      few = counted.few k held.dev.serial;
      is = holds_is g v k x at ∙ rw (found, refs) refl;
    }

module _ (g : List Event) (w v : World) (e : Event) (at : Stands g w) (step : Step w e.caller e v) where
  abbrev d : Deed
  d = step.deed

  after_it : Stands (g ++ e ∷ []) v
  after_it = stands_on g w e.caller e v at step

  line : e.act ≡ printed w e.caller d
  unfolding event_of
  line = ap (λ (f : Event). f.act) step.event

  freed_dead : (x : List ℕ) → freed_name e.act ≡ Some x → Lived w x × (lives (g ++ e ∷ []) x ≡ false)
  freed_dead x is =
      let named : is_name (freed_name e.act) x ≡ true = rw is (same_bytes x x refl) in
      (freed_lived w e.caller d x at.may at.kept step.chosen (rw line at is), lives_on g e x ∙ rw (goes_alone e.act x is, named) refl)

  pub frees_living : (x : List ℕ) → freed_name e.act ≡ Some x → lives g x ≡ true
  frees_living x is = (at.counted.names x).lives ∙ ap (λ (o : Option Dev). is_some o) (freed_dead x is).0.found

  no_child : (x y : List ℕ) → freed_name e.act ≡ Some x → lives (g ++ e ∷ []) y ≡ true → parent_in (g ++ e ∷ []) y ≢ Some x
  no_child x y is alive below =
      let gone = freed_dead x is in
      let child = named (g ++ e ∷ []) v y after_it alive in
      let name : parent_name v.setup v.live child.0.parent ≡ x = same_Some _ x (sym ((after_it.counted.names y).parent child.0 child.1) ∙ below) in
      none x child.0 name gone.0.name (unnamed (g ++ e ∷ []) v x after_it gone.1)
    where
      none : (x : List ℕ) (c : Dev) → parent_name v.setup v.live c.parent ≡ x → x ≢ root_name → device_named v.setup v.live x ≡ None → ⊥
      none x c name unlike dead = cases (device_at v.live c.parent) refl
        where
          cases : (o : Option Dev) → device_at v.live c.parent ≡ o → ⊥
          cases None e = unlike (sym name ∙ parent_root v.setup v.live c.parent e)
          cases (Some p) e = names.unnamed v.setup v.live x p dead (at_there v.live c.parent p e) (sym (parent_named v.setup v.live c.parent p e) ∙ name)

  in_use : (x : List ℕ) → transfers e.act x ≡ true → IsCount 1 (holds (g ++ e ∷ []) e.caller x)
  in_use x is =
      held_so (g ++ e ∷ []) v w e.caller d x after_it step.world at.kept.sound.refs.counted (holds_in_use w e.caller d x at.may at.kept step.chosen (rw line at is))

  pub lawful_next : IsLawfulNext g e
  lawful_next = record {
    unreferred = λ x is k. dead_unheld (g ++ e ∷ []) v after_it k x (freed_dead x is).1;
    childless = no_child;
    sleeping = sleeping_below (g ++ e ∷ []) v after_it;
    held = held_few (g ++ e ∷ []) v after_it;
    held_live = dead_unheld (g ++ e ∷ []) v after_it;
    held_in_use = in_use;
    sole = sole_alone (g ++ e ∷ []) v after_it;
    fresh = λ x is. (at.counted.names x).lives ∙ ap (λ (o : Option Dev). is_some o) (comes_free w e.caller d x at.may at.kept step.chosen (rw line at is)).fresh;
    below_awake = λ x is. awake (attached_below e.act) (rw line (comes_free w e.caller d x at.may at.kept step.chosen (rw line at is)).parent);
  }
    where
      awake : (below : List ℕ) → (below ≡ root_name) ⊎ ((c : Dev) × (device_named w.setup w.live below ≡ Some c) × (c.asleep ≡ false)) → (below ≡ root_name) ⊎ LivesAwake g below
      awake below (inl root) = inl root
      awake below (inr some) = inr ((at.counted.names below).lives ∙ ap (λ (o : Option Dev). is_some o) some.1, (at.counted.names below).asleep some.0 some.1 ∙ some.2)

-- ---- a whole run

lawful_from : (g : List Event) (w : World) (es : List Event) (v : World) → Stands g w → Run w es v → LawfulFrom g es
lawful_from g w [] v at run = tt
lawful_from g w (e ∷ es) v at run = (lawful_next g w run.0 e at run.1, lawful_from (g ++ e ∷ []) run.0 es v (stands_on g w e.caller e run.0 at run.1) run.2)

pub always_lawful : (s : Setup) (h : List Event) (v : World) → MayRun s → Run (opening s) h v → Lawful h
always_lawful s h v may run = lawful_from [] (opening s) h v (stands_open s may) run
