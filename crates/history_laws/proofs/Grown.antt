-- What one event more changes in what is counted of a name.
use Rattle.std.proofs.Common.{◌≡◌, ℕ, ◌+◌, ◌==◌, Bool, true, false, ◌||◌, ◌&&◌, cond, List, [], ◌∷◌, ◌++◌, Option, Some, refl, sym, ap, ◌∙◌, arith, option_map}
use Rattle.std.specs.Option.{option_map_or}
use Rattle.std.proofs.lemmas.List.{reverse-append}
use Rattle.run_rules.specs.declared.event.Event.{Event}
use Rattle.run_rules.specs.declared.event.Act.{Act}
use Rattle.run_rules.specs.Laws.{attached_below, attached_name, freed_name, is_asleep_in, is_name, last_that, lives, opens, opens_sole, parent_in, returns, slept_name, sole_in, woken_name}
use Rattle.run_rules.proofs.CountsOn.{count_on}
use Rattle.history_laws.specs.Counted.{granted, returned}

last_on : (p : Event → Bool) (h : List Event) (e : Event) → last_that p (h ++ e ∷ []) ≡ cond (p e) (Some e) (last_that p h)
last_on p h e = rw (reverse-append h (e ∷ [])) refl

-- what is asked of the last event that passes
asked_on : {A : Type 0} (f : Event → A) (p : Event → Bool) (d : A) (h : List Event) (e : Event)
    → option_map_or f (last_that p (h ++ e ∷ [])) d ≡ cond (p e) (f e) (option_map_or f (last_that p h) d)
asked_on {A} f p d h e = ap (λ (o : Option Event). option_map_or f o d) (last_on p h e) ∙ cases (p e)
  where
    cases : (b : Bool) → option_map_or f (cond b (Some e) (last_that p h)) d ≡ cond b (f e) (option_map_or f (last_that p h) d)
    cases true = refl
    cases false = refl

pub lives_on : (h : List Event) (e : Event) (x : List ℕ)
    → lives (h ++ e ∷ []) x ≡ cond (is_name (attached_name e.act) x || is_name (freed_name e.act) x) (is_name (attached_name e.act) x) (lives h x)
unfolding lives
lives_on h e x = asked_on (λ f. is_name (attached_name f.act) x) (λ f. is_name (attached_name f.act) x || is_name (freed_name f.act) x) false h e

abbrev parent_of_last : Option Event → Option (List ℕ)
parent_of_last o = option_map (λ e. attached_below e.act) o

pub parent_on : (h : List Event) (e : Event) (x : List ℕ) → parent_in (h ++ e ∷ []) x ≡ cond (is_name (attached_name e.act) x) (Some (attached_below e.act)) (parent_in h x)
unfolding parent_in
parent_on h e x = ap parent_of_last (last_on (λ f. is_name (attached_name f.act) x) h e) ∙ cases (is_name (attached_name e.act) x)
  where
    cases : (b : Bool) → parent_of_last (cond b (Some e) (last_that (λ f. is_name (attached_name f.act) x) h)) ≡ cond b (Some (attached_below e.act)) (parent_of_last (last_that (λ f. is_name (attached_name f.act) x) h))
    cases true = refl
    cases false = refl

-- of the events that attach a name, put it to sleep or wake it, whether the last one puts it to sleep
abbrev pub sleeps : List Event → List ℕ → Bool
sleeps h x =
    option_map_or (λ e. is_name (slept_name e.act) x)
    (last_that (λ e. is_name (attached_name e.act) x || is_name (slept_name e.act) x || is_name (woken_name e.act) x) h) false

pub asleep_is : (h : List Event) (x : List ℕ) → is_asleep_in h x ≡ (lives h x && sleeps h x)
unfolding is_asleep_in
asleep_is h x = refl

pub sleeps_on : (h : List Event) (e : Event) (x : List ℕ)
    → sleeps (h ++ e ∷ []) x ≡ cond (is_name (attached_name e.act) x || is_name (slept_name e.act) x || is_name (woken_name e.act) x) (is_name (slept_name e.act) x) (sleeps h x)
sleeps_on h e x =
    asked_on (λ f. is_name (slept_name f.act) x) (λ f. is_name (attached_name f.act) x || is_name (slept_name f.act) x || is_name (woken_name f.act) x) false h e

pub sole_on : (h : List Event) (e : Event) (k : ℕ) (x : List ℕ)
    → sole_in (h ++ e ∷ []) k x ≡ cond (e.caller == k && (opens_sole e.act x || returns e.act x)) (opens_sole e.act x) (sole_in h k x)
unfolding sole_in
sole_on h e k x = asked_on (λ f. opens_sole f.act x) (λ f. f.caller == k && (opens_sole f.act x || returns f.act x)) false h e

pub granted_on : (h : List Event) (e : Event) (k : ℕ) (x : List ℕ) → granted (h ++ e ∷ []) k x ≡ granted h k x + cond (e.caller == k && opens e.act x) 1 0
unfolding granted
granted_on h e k x = count_on (λ e. e.caller == k && opens e.act x) h e

pub returned_on : (h : List Event) (e : Event) (k : ℕ) (x : List ℕ) → returned (h ++ e ∷ []) k x ≡ returned h k x + cond (e.caller == k && returns e.act x) 1 0
unfolding returned
returned_on h e k x = count_on (λ e. e.caller == k && returns e.act x) h e

-- ---- an event that leaves the name where it is

pub record LeavesTree (a : Act) (x : List ℕ) : Type 0 where
  pub attached : is_name (attached_name a) x ≡ false
  pub freed : is_name (freed_name a) x ≡ false

pub record LeavesSleep (a : Act) (x : List ℕ) : Type 0 where
  pub slept : is_name (slept_name a) x ≡ false
  pub woken : is_name (woken_name a) x ≡ false

pub record LeavesRefs (a : Act) (x : List ℕ) : Type 0 where
  pub opens : opens a x ≡ false
  pub sole : opens_sole a x ≡ false
  pub returns : returns a x ≡ false

pub lives_left : (h : List Event) (e : Event) (x : List ℕ) → LeavesTree e.act x → lives (h ++ e ∷ []) x ≡ lives h x
lives_left h e x q = lives_on h e x ∙ rw (q.attached, q.freed) refl

pub parent_left : (h : List Event) (e : Event) (x : List ℕ) → LeavesTree e.act x → parent_in (h ++ e ∷ []) x ≡ parent_in h x
parent_left h e x q = parent_on h e x ∙ rw q.attached refl

pub asleep_left : (h : List Event) (e : Event) (x : List ℕ) → LeavesTree e.act x → LeavesSleep e.act x → is_asleep_in (h ++ e ∷ []) x ≡ is_asleep_in h x
asleep_left h e x q r =
    let raw : sleeps (h ++ e ∷ []) x ≡ sleeps h x = sleeps_on h e x ∙ rw (q.attached, r.slept, r.woken) refl in
    asleep_is (h ++ e ∷ []) x ∙ ap (λ (b : Bool). b && sleeps (h ++ e ∷ []) x) (lives_left h e x q) ∙ ap (λ (b : Bool). lives h x && b) raw ∙ sym (asleep_is h x)

and_false : (a b : Bool) → b ≡ false → (a && b) ≡ false
and_false true b e = e
and_false false b e = refl

abbrev one_if : Bool → ℕ
one_if b = cond b 1 0

pub granted_left : (h : List Event) (e : Event) (k : ℕ) (x : List ℕ) → (e.caller == k && opens e.act x) ≡ false → granted (h ++ e ∷ []) k x ≡ granted h k x
granted_left h e k x off = omega (arith, granted_on h e k x, ap one_if off)

pub returned_left : (h : List Event) (e : Event) (k : ℕ) (x : List ℕ) → (e.caller == k && returns e.act x) ≡ false → returned (h ++ e ∷ []) k x ≡ returned h k x
returned_left h e k x off = omega (arith, returned_on h e k x, ap one_if off)

pub sole_left : (h : List Event) (e : Event) (k : ℕ) (x : List ℕ) → (e.caller == k && (opens_sole e.act x || returns e.act x)) ≡ false → sole_in (h ++ e ∷ []) k x ≡ sole_in h k x
sole_left h e k x off = sole_on h e k x ∙ rw off refl

-- the references of a name that the event leaves
pub record RefsLeft (h : List Event) (e : Event) (x : List ℕ) : Type 0 where
  pub granted : (k : ℕ) → granted (h ++ e ∷ []) k x ≡ granted h k x
  pub returned : (k : ℕ) → returned (h ++ e ∷ []) k x ≡ returned h k x
  pub solely : (k : ℕ) → sole_in (h ++ e ∷ []) k x ≡ sole_in h k x

pub refs_left : (h : List Event) (e : Event) (x : List ℕ) → LeavesRefs e.act x → RefsLeft h e x
refs_left h e x q = record {
  granted = λ k. granted_left h e k x (and_false (e.caller == k) (opens e.act x) q.opens);
  returned = λ k. returned_left h e k x (and_false (e.caller == k) (returns e.act x) q.returns);
  solely = λ k. sole_left h e k x (and_false (e.caller == k) (opens_sole e.act x || returns e.act x) (rw (q.sole, q.returns) refl));
}
