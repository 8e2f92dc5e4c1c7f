-- What the lines tell of a name stays what the world has of it where a reference is granted or comes back.
use Rattle.std.proofs.Common.{◌≡◌, ℕ, ◌+◌, ◌≤◌, ◌==◌, Bool, true, false, not, ◌&&◌, ◌||◌, cond, List, [], ◌∷◌, ◌++◌, bytes_eq, Option, Some, None, refl, sym, ap, ◌∙◌, subst, eqb-true, eq-eqb, arith}
use Rattle.std.specs.List.{Contains}
use Rattle.std.proofs.lemmas.Bool.{ne_eqb, and_parts}
use Rattle.std.proofs.lemmas.List.Folds.{list_any-append}
use Rattle.std.proofs.lemmas.List.Sums.{sum_by-cons}
use Rattle.std.proofs.lemmas.Map.Views.{any-filter_same}
use Rattle.run_rules.specs.declared.event.Event.{Event}
use Rattle.run_rules.specs.declared.event.Act.{Act}
use Rattle.run_rules.specs.declared.world.Dev.{Dev}
use Rattle.run_rules.specs.declared.world.Ref.{Ref}
use Rattle.run_rules.specs.declared.world.Setup.{Setup}
use Rattle.run_rules.specs.World.{device_named, has, holds_in, name_of}
use Rattle.run_rules.specs.Laws.{opens, opens_sole, returns, sole_in}
use Rattle.run_rules.specs.References.{AreCounted, MayHold, count_in, given_back, is_of, refs_to, shared_again, sole_with}
use Rattle.run_rules.specs.Sound.{EachLater, IsApart}
use Rattle.run_rules.proofs.References.{any_left, count_granted, count_other, count_returned, held_counts}
use Rattle.run_sound.proofs.Callers.{clash}
use Rattle.run_sound.proofs.Holding.{unreferred}
use Rattle.run_sound.proofs.Members.{one_serial}
use Rattle.history_laws.specs.Counted.{IsTold, granted, held_of, is_sole_of, returned}
use Rattle.history_laws.proofs.Grown.{LeavesSleep, LeavesTree, asleep_left, granted_left, granted_on, lives_left, parent_left, returned_left, returned_on, sole_left, sole_on}
use Rattle.history_laws.proofs.Names.{bytes_same, named_so, named_there, same_bytes}

-- two callers' references are among all references
pub two_of_all : (refs : List Ref) (k j s : ℕ) → (k == j) ≡ false → count_in refs k s + count_in refs j s ≤ refs_to refs s
two_of_all [] k j s apart = omega arith
two_of_all (r ∷ refs) k j s apart =
    omega (arith, sum_by-cons (λ (q : Ref). one_if (is_of k s q)) r refs, sum_by-cons (λ (q : Ref). one_if (is_of j s q)) r refs, sum_by-cons (λ (q : Ref). one_if (q.serial == s)) r refs, one (r.serial == s) (r.caller == k) refl (r.caller == j) refl, two_of_all refs k j s apart)
  where
    one_if : Bool → ℕ
    one_if b = cond b 1 0

    one : (a b : Bool) → (r.caller == k) ≡ b → (c : Bool) → (r.caller == j) ≡ c → one_if (a && b) + one_if (a && c) ≤ one_if a
    one false b e c f = omega arith
    one true true e true f = clash (k == j) (eq-eqb k j (sym (eqb-true r.caller k e) ∙ eqb-true r.caller j f)) apart
    one true true e false f = omega arith
    one true false e true f = omega arith
    one true false e false f = omega arith

-- ---- the device of a name, and another one

-- the reference is to the device of this name
pub record IsOf (s : Setup) (live : List Dev) (n : Dev) : Type 0 where
  pub apart : EachLater (IsApart s) live
  pub there : Contains live n

-- a device of another name has another serial
other_serial : (s : Setup) (live : List Dev) (n d : Dev) (x : List ℕ) → IsOf s live n → bytes_eq (name_of s n) x ≡ false → device_named s live x ≡ Some d → (n.serial == d.serial) ≡ false
other_serial s live n d x of other e =
    ne_eqb n.serial d.serial (λ same.
    let one : n ≡ d = one_serial s live n d of.apart of.there (named_there s live x d e) same in
    clash (bytes_eq (name_of s n) x) (same_bytes (name_of s n) x (ap (name_of s) one ∙ named_so s live x d e)) other)

-- what holds of each other device, and of none, holds of whatever has the name
of_other : (P : Option Dev → Type 0) (s : Setup) (live : List Dev) (n : Dev) (x : List ℕ) → IsOf s live n → bytes_eq (name_of s n) x ≡ false
    → P None → ((d : Dev) → (n.serial == d.serial) ≡ false → P (Some d)) → P (device_named s live x)
of_other P s live n x of other none some = cases (device_named s live x) refl
  where
    cases : (o : Option Dev) → device_named s live x ≡ o → P o
    cases None e = none
    cases (Some d) e = some d (other_serial s live n d x of other e)

abbrev one_if : Bool → ℕ
one_if b = cond b 1 0

-- ---- one is granted

abbrev pub with_one : List Ref → ℕ → ℕ → List Ref
with_one refs k s = refs ++ record { serial = s; caller = k } ∷ []

-- a line that grants a reference, maybe the only one, to a device of this name
pub record IsGrant (a : Act) (name : List ℕ) (alone : Bool) : Type 0 where
  pub tree : (x : List ℕ) → LeavesTree a x
  pub sleep : (x : List ℕ) → LeavesSleep a x
  pub opens : (x : List ℕ) → opens a x ≡ bytes_eq name x
  pub sole : (x : List ℕ) → opens_sole a x ≡ (alone && bytes_eq name x)
  pub returns : (x : List ℕ) → returns a x ≡ false

held_more : (refs : List Ref) (k s j t : ℕ) → holds_in (with_one refs k s) j t ≡ (holds_in refs j t || (s == t && k == j))
held_more refs k s j t = list_any-append (λ r. r.serial == t && r.caller == j) refs (record { serial = s; caller = k } ∷ []) ∙ ap (λ (b : Bool). holds_in refs j t || b) (or_off (s == t && k == j))
  where
    or_off : (b : Bool) → (b || false) ≡ b
    or_off true = refl
    or_off false = refl

sole_more : (sole : List ℕ) (s t : ℕ) → has (sole ++ s ∷ []) t ≡ (has sole t || (s == t))
sole_more sole s t = list_any-append (λ x. x == t) sole (s ∷ []) ∙ ap (λ (b : Bool). has sole t || b) (or_off (s == t))
  where
    or_off : (b : Bool) → (b || false) ≡ b
    or_off true = refl
    or_off false = refl

or_none : (a b : Bool) → b ≡ false → (a || b) ≡ a
or_none true b e = refl
or_none false b e = e

both_off : (a b : Bool) → a ≡ false → (a && b) ≡ false
both_off true b e = absurd cc
both_off false b e = refl

later_off : (a b : Bool) → b ≡ false → (a && b) ≡ false
later_off true b e = e
later_off false b e = refl

-- another device is held as before
other_held : (refs : List Ref) (k s j t : ℕ) → (s == t) ≡ false → count_in (with_one refs k s) j t ≡ count_in refs j t
other_held refs k s j t other = omega (arith, count_granted refs (record { serial = s; caller = k }) j t, ap one_if (both_off (s == t) (k == j) other))

other_sole : (sole : List ℕ) (alone : Bool) (s t : ℕ) → (s == t) ≡ false → has (sole_with sole s alone) t ≡ has sole t
other_sole sole true s t other = sole_more sole s t ∙ or_none (has sole t) (s == t) other
other_sole sole false s t other = refl

told_apart : (h : List Event) (e : Event) (s : Setup) (live : List Dev) (refs : List Ref) (sole : List ℕ) (n : Dev) (alone : Bool) (x : List ℕ) → IsGrant e.act (name_of s n) alone → IsOf s live n
    → bytes_eq (name_of s n) x ≡ false → IsTold h s live refs sole x (device_named s live x)
    → IsTold (h ++ e ∷ []) s live (with_one refs e.caller n.serial) (sole_with sole n.serial alone) x (device_named s live x)
told_apart h e s live refs sole n alone x line of other t = record {
  lives = lives_left h e x (line.tree x) ∙ t.lives;
  parent = λ d is. parent_left h e x (line.tree x) ∙ t.parent d is;
  asleep = λ d is. asleep_left h e x (line.tree x) (line.sleep x) ∙ t.asleep d is;
  held = λ k.
      let same : held_of (with_one refs e.caller n.serial) k (device_named s live x) ≡ held_of refs k (device_named s live x) =
      of_other (λ o. held_of (with_one refs e.caller n.serial) k o ≡ held_of refs k o) s live n x of other refl (λ d off. other_held refs e.caller n.serial k d.serial off) in
      omega (arith, granted_left h e k x (later_off (e.caller == k) (opens e.act x) (line.opens x ∙ other)), returned_left h e k x (later_off (e.caller == k) (returns e.act x) (line.returns x)), t.held k, same);
  solely = λ k.
      sole_left h e k x (later_off (e.caller == k) (opens_sole e.act x || returns e.act x) (rw (line.sole x, line.returns x, other) (off alone)))
      ∙ t.solely k
      ∙ of_other (λ o. is_sole_of refs sole k o ≡ is_sole_of (with_one refs e.caller n.serial) (sole_with sole n.serial alone) k o) s live n x of other refl
      (λ d off. rw (other_sole sole alone n.serial d.serial off, held_more refs e.caller n.serial k d.serial, both_off (n.serial == d.serial) (e.caller == k) off) (ap (λ (b : Bool). has sole d.serial && b) (sym (or_none (holds_in refs k d.serial) false refl))));
}
  where
    off : (b : Bool) → ((b && false) || false) ≡ false
    off true = refl
    off false = refl

-- the device itself
held_itself : (refs : List Ref) (k s j : ℕ) → count_in (with_one refs k s) j s ≡ count_in refs j s + one_if (k == j)
held_itself refs k s j = count_granted refs (record { serial = s; caller = k }) j s ∙ ap (λ (b : Bool). count_in refs j s + one_if (b && k == j)) (eq-eqb s s refl)

-- granted to one is granted once more
granted_here : (h : List Event) (e : Event) (name : List ℕ) (alone : Bool) (j : ℕ) → IsGrant e.act name alone → granted (h ++ e ∷ []) j name ≡ granted h j name + one_if (e.caller == j)
granted_here h e name alone j line = granted_on h e j name ∙ ap (λ (b : Bool). granted h j name + one_if b) (rw (line.opens name, same_bytes name name refl) (on (e.caller == j)))
  where
    on : (b : Bool) → (b && true) ≡ b
    on true = refl
    on false = refl

-- whoever is granted a reference to a device has it solely where it asks so; nobody else has
solely_here : (h : List Event) (e : Event) (name : List ℕ) (refs : List Ref) (sole : List ℕ) (s j : ℕ) (alone : Bool) → IsGrant e.act name alone → MayHold refs sole e.caller s alone
    → sole_in h j name ≡ (has sole s && holds_in refs j s) → sole_in (h ++ e ∷ []) j name ≡ (has (sole_with sole s alone) s && holds_in (with_one refs e.caller s) j s)
solely_here h e name refs sole s j true line may before =
    let asks : opens_sole e.act name ≡ true = rw (line.sole name, same_bytes name name refl) refl in
    sole_on h e j name
    ∙ rw (asks, before, sole_more sole s s, held_more refs e.caller s j s, unreferred refs j s may, eq-eqb s s refl) (cases (e.caller == j) (has sole s))
  where
    cases : (b c : Bool) → cond (b && true) true (c && false) ≡ ((c || true) && (false || (true && b)))
    cases true true = refl
    cases true false = refl
    cases false true = refl
    cases false false = refl
solely_here h e name refs sole s j false line may before =
    sole_left h e j name (later_off (e.caller == j) (opens_sole e.act name || returns e.act name) (rw (line.sole name, line.returns name) refl)) ∙ before ∙ rw may.0 refl

told_here : (h : List Event) (e : Event) (s : Setup) (live : List Dev) (refs : List Ref) (sole : List ℕ) (n : Dev) (alone : Bool) (name : List ℕ) → IsGrant e.act name alone → MayHold refs sole e.caller n.serial alone
    → device_named s live name ≡ Some n → IsTold h s live refs sole name (Some n) → IsTold (h ++ e ∷ []) s live (with_one refs e.caller n.serial) (sole_with sole n.serial alone) name (Some n)
told_here h e s live refs sole n alone name line may is t = record {
  lives = lives_left h e name (line.tree name) ∙ t.lives;
  parent = λ d same. parent_left h e name (line.tree name) ∙ t.parent d same;
  asleep = λ d same. asleep_left h e name (line.tree name) (line.sleep name) ∙ t.asleep d same;
  held = λ k. omega (arith, granted_here h e name alone k line, returned_left h e k name (later_off (e.caller == k) (returns e.act name) (line.returns name)), t.held k, held_itself refs e.caller n.serial k);
  solely = λ k. solely_here h e name refs sole n.serial k alone line may (t.solely k);
}

pub told_granted : (h : List Event) (e : Event) (s : Setup) (live : List Dev) (refs : List Ref) (sole : List ℕ) (n : Dev) (alone : Bool) (x : List ℕ) → IsGrant e.act (name_of s n) alone
    → MayHold refs sole e.caller n.serial alone → IsOf s live n → device_named s live (name_of s n) ≡ Some n → IsTold h s live refs sole x (device_named s live x)
    → IsTold (h ++ e ∷ []) s live (with_one refs e.caller n.serial) (sole_with sole n.serial alone) x (device_named s live x)
told_granted h e s live refs sole n alone x line may of is t = cases (bytes_eq (name_of s n) x) refl
  where
    cases : (b : Bool) → bytes_eq (name_of s n) x ≡ b → IsTold (h ++ e ∷ []) s live (with_one refs e.caller n.serial) (sole_with sole n.serial alone) x (device_named s live x)
    cases true same =
        let name : name_of s n ≡ x = bytes_same (name_of s n) x same in
        let found : device_named s live x ≡ Some n = subst (λ (y : List ℕ). device_named s live y ≡ Some n) name is in
        let grant : IsGrant e.act x alone = subst (λ (y : List ℕ). IsGrant e.act y alone) name line in
        rw found (told_here h e s live refs sole n alone x grant may found (rw found at t))
    cases false other = told_apart h e s live refs sole n alone x line of other t

-- ---- one comes back

-- a line that gives a reference to a device of this name back
pub record IsReturn (a : Act) (name : List ℕ) : Type 0 where
  pub tree : (x : List ℕ) → LeavesTree a x
  pub sleep : (x : List ℕ) → LeavesSleep a x
  pub opens : (x : List ℕ) → opens a x ≡ false
  pub sole : (x : List ℕ) → opens_sole a x ≡ false
  pub returns : (x : List ℕ) → returns a x ≡ bytes_eq name x

-- a caller's reference to a device is none to another one
serial_apart : (k s j t : ℕ) → (s == t) ≡ false → (r : Ref) → is_of k s r ≡ true → is_of j t r ≡ false
serial_apart k s j t other r own = both_off (r.serial == t) (r.caller == j) (rw (eqb-true r.serial s (and_parts (r.serial == s) (r.caller == k) own).0) other)

-- and none of another caller
caller_apart : (k s j : ℕ) → (k == j) ≡ false → (r : Ref) → is_of k s r ≡ true → is_of j s r ≡ false
caller_apart k s j other r own = later_off (r.serial == s) (r.caller == j) (rw (eqb-true r.caller k (and_parts (r.serial == s) (r.caller == k) own).1) other)

-- what is held solely is so still, but for the device itself
sole_less : (sole : List ℕ) (s t : ℕ) → (s == t) ≡ false → has (shared_again sole s) t ≡ has sole t
sole_less sole s t other = any-filter_same (λ x. x == t) (λ x. not (x == s)) true (λ x on. rw (ne_eqb x s (λ same. clash (s == t) (eq-eqb s t (sym same ∙ eqb-true x t on)) other)) refl) sole

sole_gone : (sole : List ℕ) (s : ℕ) → has (shared_again sole s) s ≡ false
sole_gone sole s = any-filter_same (λ x. x == s) (λ x. not (x == s)) false (λ x on. rw on refl) sole

back_apart : (h : List Event) (e : Event) (s : Setup) (live : List Dev) (refs : List Ref) (sole : List ℕ) (n : Dev) (x : List ℕ) → IsReturn e.act (name_of s n) → IsOf s live n
    → bytes_eq (name_of s n) x ≡ false → IsTold h s live refs sole x (device_named s live x)
    → IsTold (h ++ e ∷ []) s live (given_back refs e.caller n.serial) (shared_again sole n.serial) x (device_named s live x)
back_apart h e s live refs sole n x line of other t = record {
  lives = lives_left h e x (line.tree x) ∙ t.lives;
  parent = λ d is. parent_left h e x (line.tree x) ∙ t.parent d is;
  asleep = λ d is. asleep_left h e x (line.tree x) (line.sleep x) ∙ t.asleep d is;
  held = λ k.
      let same : held_of (given_back refs e.caller n.serial) k (device_named s live x) ≡ held_of refs k (device_named s live x) =
      of_other (λ o. held_of (given_back refs e.caller n.serial) k o ≡ held_of refs k o) s live n x of other refl
      (λ d off. count_other refs e.caller n.serial k d.serial (serial_apart e.caller n.serial k d.serial off)) in
      omega (arith, granted_left h e k x (later_off (e.caller == k) (opens e.act x) (line.opens x)), returned_left h e k x (later_off (e.caller == k) (returns e.act x) (line.returns x ∙ other)), t.held k, same);
  solely = λ k.
      sole_left h e k x (later_off (e.caller == k) (opens_sole e.act x || returns e.act x) (rw (line.sole x, line.returns x, other) refl))
      ∙ t.solely k
      ∙ of_other (λ o. is_sole_of refs sole k o ≡ is_sole_of (given_back refs e.caller n.serial) (shared_again sole n.serial) k o) s live n x of other refl
      (λ d off. rw (sole_less sole n.serial d.serial off, any_left (is_of e.caller n.serial) (is_of k d.serial) refs (serial_apart e.caller n.serial k d.serial off)) refl);
}

-- the device itself
returned_here : (h : List Event) (e : Event) (name : List ℕ) (j : ℕ) → IsReturn e.act name → returned (h ++ e ∷ []) j name ≡ returned h j name + one_if (e.caller == j)
returned_here h e name j line = returned_on h e j name ∙ ap (λ (b : Bool). returned h j name + one_if b) (rw (line.returns name, same_bytes name name refl) (on (e.caller == j)))
  where
    on : (b : Bool) → (b && true) ≡ b
    on true = refl
    on false = refl

-- one less for the caller alone
held_less : (refs : List Ref) (k s j : ℕ) → holds_in refs k s ≡ true → count_in (given_back refs k s) j s + one_if (k == j) ≡ count_in refs j s
held_less refs k s j held = cases (k == j) refl
  where
    cases : (b : Bool) → (k == j) ≡ b → count_in (given_back refs k s) j s + one_if b ≡ count_in refs j s
    cases true own = subst (λ (i : ℕ). count_in (given_back refs k s) i s + 1 ≡ count_in refs i s) (eqb-true k j own) (count_returned refs k s held)
    cases false other = omega (arith, count_other refs k s j s (caller_apart k s j other))

-- who holds what another caller holds has it not solely
shared : (refs : List Ref) (sole : List ℕ) (k s j : ℕ) → AreCounted refs sole → holds_in refs k s ≡ true → (k == j) ≡ false → (has sole s && holds_in refs j s) ≡ false
shared refs sole k s j counted held other = cases (has sole s) refl (holds_in refs j s) refl
  where
    cases : (a : Bool) → has sole s ≡ a → (b : Bool) → holds_in refs j s ≡ b → (a && b) ≡ false
    cases false off b is = refl
    cases true on false off = refl
    cases true on true also = absurd (omega (arith, held_counts refs k s held, held_counts refs j s also, two_of_all refs k j s other, counted.alone s on))

solely_less : (h : List Event) (e : Event) (name : List ℕ) (refs : List Ref) (sole : List ℕ) (s j : ℕ) → IsReturn e.act name → AreCounted refs sole → holds_in refs e.caller s ≡ true
    → sole_in h j name ≡ (has sole s && holds_in refs j s) → sole_in (h ++ e ∷ []) j name ≡ (has (shared_again sole s) s && holds_in (given_back refs e.caller s) j s)
solely_less h e name refs sole s j line counted held before =
    sole_on h e j name ∙ rw (line.sole name, line.returns name, same_bytes name name refl, before, sole_gone sole s) (cases (e.caller == j) refl)
  where
    cases : (b : Bool) → (e.caller == j) ≡ b → cond (b && true) false (has sole s && holds_in refs j s) ≡ false
    cases true own = refl
    cases false other = shared refs sole e.caller s j counted held other

back_here : (h : List Event) (e : Event) (s : Setup) (live : List Dev) (refs : List Ref) (sole : List ℕ) (n : Dev) (name : List ℕ) → IsReturn e.act name → AreCounted refs sole → holds_in refs e.caller n.serial ≡ true
    → IsTold h s live refs sole name (Some n) → IsTold (h ++ e ∷ []) s live (given_back refs e.caller n.serial) (shared_again sole n.serial) name (Some n)
back_here h e s live refs sole n name line counted held t = record {
  lives = lives_left h e name (line.tree name) ∙ t.lives;
  parent = λ d same. parent_left h e name (line.tree name) ∙ t.parent d same;
  asleep = λ d same. asleep_left h e name (line.tree name) (line.sleep name) ∙ t.asleep d same;
  held = λ k. omega (arith, granted_left h e k name (later_off (e.caller == k) (opens e.act name) (line.opens name)), returned_here h e name k line, t.held k, held_less refs e.caller n.serial k held);
  solely = λ k. solely_less h e name refs sole n.serial k line counted held (t.solely k);
}

pub told_returned : (h : List Event) (e : Event) (s : Setup) (live : List Dev) (refs : List Ref) (sole : List ℕ) (n : Dev) (x : List ℕ) → IsReturn e.act (name_of s n)
    → AreCounted refs sole → holds_in refs e.caller n.serial ≡ true → IsOf s live n → device_named s live (name_of s n) ≡ Some n → IsTold h s live refs sole x (device_named s live x)
    → IsTold (h ++ e ∷ []) s live (given_back refs e.caller n.serial) (shared_again sole n.serial) x (device_named s live x)
told_returned h e s live refs sole n x line counted held of is t = cases (bytes_eq (name_of s n) x) refl
  where
    cases : (b : Bool) → bytes_eq (name_of s n) x ≡ b → IsTold (h ++ e ∷ []) s live (given_back refs e.caller n.serial) (shared_again sole n.serial) x (device_named s live x)
    cases true same =
        let name : name_of s n ≡ x = bytes_same (name_of s n) x same in
        let found : device_named s live x ≡ Some n = subst (λ (y : List ℕ). device_named s live y ≡ Some n) name is in
        let back : IsReturn e.act x = subst (λ (y : List ℕ). IsReturn e.act y) name line in
        rw found (back_here h e s live refs sole n x back counted held (rw found at t))
    cases false other = back_apart h e s live refs sole n x line of other t
