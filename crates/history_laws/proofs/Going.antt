-- What the lines tell of a name stays what the world has of it where a device goes.
use Rattle.std.proofs.Common.{◌≡◌, ◌≢◌, ℕ, ◌==◌, Bool, true, false, not, ◌&&◌, List, [], ◌∷◌, ◌++◌, bytes_eq, Some, None, refl, sym, ap, ◌∙◌, subst, eqb-true, eq-eqb, arith}
use Rattle.std.specs.Prelude.{filter}
use Rattle.std.specs.List.{AllByRecursion, Contains}
use Rattle.std.proofs.lemmas.Bool.{ne_eqb}
use Rattle.run_rules.specs.declared.event.Event.{Event}
use Rattle.run_rules.specs.declared.event.Act.{Act}
use Rattle.run_rules.specs.declared.world.Dev.{Dev}
use Rattle.run_rules.specs.declared.world.Ref.{Ref}
use Rattle.run_rules.specs.declared.world.Setup.{Setup}
use Rattle.run_rules.specs.World.{device_named, has, holds_in, name_of, parent_name}
use Rattle.run_rules.specs.Laws.{attached_name, freed_name, is_name}
use Rattle.run_rules.specs.Sound.{EachLater, HaveOwnNames, IsApart}
use Rattle.run_rules.proofs.References.{not_held_counts}
use Rattle.run_sound.proofs.Members.{each_of, of_each, one_serial}
use Rattle.history_laws.specs.Counted.{IsTold}
use Rattle.history_laws.proofs.Found.{found_gone, found_left}
use Rattle.history_laws.proofs.Grown.{LeavesRefs, LeavesSleep, LeavesTree, RefsLeft, lives_on, refs_left}
use Rattle.history_laws.proofs.Names.{bytes_same, first_is, named_is, named_there, parent_alike, same_bytes}
use Rattle.history_laws.proofs.Told.{told_quiet}

-- a line that frees a device of this name
pub record IsDeparture (a : Act) (name : List ℕ) : Type 0 where
  pub freed : freed_name a ≡ Some name
  pub attached : attached_name a ≡ None
  pub sleep : (x : List ℕ) → LeavesSleep a x
  pub refs : (x : List ℕ) → LeavesRefs a x

-- the device that goes has no children and no references
pub record IsGoing (s : Setup) (live : List Dev) (refs : List Ref) (n : Dev) : Type 0 where
  pub own : HaveOwnNames s live
  pub apart : EachLater (IsApart s) live
  pub there : Contains live n
  pub childless : AllByRecursion (λ d. d.parent ≢ n.serial) live
  pub unreferred : (k : ℕ) → holds_in refs k n.serial ≡ false

abbrev pub without : List Dev → ℕ → List Dev
without live n = filter (λ d. not (d.serial == n)) live

stays : (a b : ℕ) → a ≢ b → not (a == b) ≡ true
stays a b other = rw (ne_eqb a b other) refl

named_without : (s : Setup) (live : List Dev) (refs : List Ref) (n : Dev) (x : List ℕ) → IsGoing s live refs n → bytes_eq (name_of s n) x ≡ false → device_named s (without live n.serial) x ≡ device_named s live x
named_without s live refs n x going other =
    found_left (λ d. bytes_eq (name_of s d) x) (λ d. not (d.serial == n.serial)) live
    (each_of (λ d. bytes_eq (name_of s d) x ≡ true → not (d.serial == n.serial) ≡ true) live (λ d here named.
    stays d.serial n.serial (λ same. never (bytes_eq (name_of s n) x) (same_bytes (name_of s n) x (ap (name_of s) (sym (one_serial s live d n going.apart here going.there same)) ∙ bytes_same (name_of s d) x named)) other)))
  where
    never : (b : Bool) → b ≡ true → b ≡ false → ⊥
    never b is isnt = absurd cc

pub named_gone : (s : Setup) (live : List Dev) (refs : List Ref) (n : Dev) → IsGoing s live refs n → device_named s (without live n.serial) (name_of s n) ≡ None
named_gone s live refs n going =
    let x : List ℕ = name_of s n in
    found_gone (λ d. bytes_eq (name_of s d) x) (λ d. not (d.serial == n.serial)) live
    (each_of (λ d. bytes_eq (name_of s d) x ≡ true → not (d.serial == n.serial) ≡ false) live (λ d here named.
    let same : d ≡ n = first_is s live x n d going.own (named_is s live x n going.own going.there refl) here (bytes_same (name_of s d) x named) in
    rw (eq-eqb d.serial n.serial (ap (λ (c : Dev). c.serial) same)) refl))

parent_without : (s : Setup) (live : List Dev) (n p : ℕ) → p ≢ n → parent_name s (without live n) p ≡ parent_name s live p
parent_without s live n p other =
    parent_alike s live (without live n) p
    (found_left (λ d. d.serial == p) (λ d. not (d.serial == n)) live
    (each_of (λ d. (d.serial == p) ≡ true → not (d.serial == n) ≡ true) live (λ d here on. stays d.serial n (λ same. other (sym (eqb-true d.serial p on) ∙ same)))))

pub told_freed : (h : List Event) (e : Event) (s : Setup) (live : List Dev) (refs : List Ref) (sole : List ℕ) (n : Dev) (x : List ℕ) → IsDeparture e.act (name_of s n) → IsGoing s live refs n
    → IsTold h s live refs sole x (device_named s live x) → IsTold (h ++ e ∷ []) s (without live n.serial) refs sole x (device_named s (without live n.serial) x)
told_freed h e s live refs sole n x line going t = cases (bytes_eq (name_of s n) x) refl
  where
    gone : IsTold h s live refs sole (name_of s n) (device_named s live (name_of s n)) → IsTold (h ++ e ∷ []) s (without live n.serial) refs sole (name_of s n) (device_named s (without live n.serial) (name_of s n))
    gone t =
        let y : List ℕ = name_of s n in
        let old : IsTold h s live refs sole y (Some n) = rw (named_is s live y n going.own going.there refl) at t in
        let left : RefsLeft h e y = refs_left h e y (line.refs y) in
        let here : is_name (freed_name e.act) y ≡ true = rw line.freed (same_bytes y y refl) in
        let none : is_name (attached_name e.act) y ≡ false = rw line.attached refl in
        rw (named_gone s live refs n going) (record {
          lives = lives_on h e y ∙ rw (none, here) refl;
          parent = λ d is. absurd cc;
          asleep = λ d is. absurd cc;
          held = λ k. omega (arith, left.granted k, left.returned k, old.held k, not_held_counts refs k n.serial (going.unreferred k));
          solely = λ k. left.solely k ∙ old.solely k ∙ and_false (has sole n.serial) (holds_in refs k n.serial) (going.unreferred k);
        })
      where
        and_false : (a b : Bool) → b ≡ false → (a && b) ≡ false
        and_false true b e = e
        and_false false b e = refl

    cases : (b : Bool) → bytes_eq (name_of s n) x ≡ b → IsTold (h ++ e ∷ []) s (without live n.serial) refs sole x (device_named s (without live n.serial) x)
    cases true same =
        subst (λ (y : List ℕ). IsTold h s live refs sole y (device_named s live y) → IsTold (h ++ e ∷ []) s (without live n.serial) refs sole y (device_named s (without live n.serial) y))
        (bytes_same (name_of s n) x same) gone t
    cases false other =
        let q : LeavesTree e.act x = record { attached = rw line.attached refl; freed = rw line.freed other } in
        let more : IsTold (h ++ e ∷ []) s live refs sole x (device_named s live x) = told_quiet h e s live refs sole x (device_named s live x) q (line.sleep x) (line.refs x) t in
        rw (named_without s live refs n x going other) (record {
          lives = more.lives;
          parent = λ d is. more.parent d is ∙ ap Some (sym (parent_without s live n.serial d.parent (of_each (λ c. c.parent ≢ n.serial) live d going.childless (named_there s live x d is))));
          asleep = more.asleep;
          held = more.held;
          solely = more.solely;
        })
