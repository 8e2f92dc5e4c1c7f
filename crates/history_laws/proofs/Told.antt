-- What the lines tell of a name stays what the world has of it, whatever kind of event comes.
use Rattle.std.proofs.Common.{◌≡◌, ℕ, suc, ◌<◌, ◌==◌, Bool, true, false, ◌&&◌, List, [], ◌∷◌, ◌++◌, find, map, bytes_eq, Option, Some, None, option_map, refl, sym, ap, ◌∙◌, subst, arith}
use Rattle.std.specs.List.{AllByRecursion, Contains}
use Rattle.std.specs.Option.{option_map_or, option_or}
use Rattle.std.proofs.lemmas.Bool.{ne_eqb}
use Rattle.std.proofs.lemmas.List.Folds.{find-append}
use Rattle.std.proofs.lemmas.Option.{same_Some}
use Rattle.run_rules.specs.declared.event.Event.{Event}
use Rattle.run_rules.specs.declared.event.Act.{Act}
use Rattle.run_rules.specs.declared.world.Dev.{Dev}
use Rattle.run_rules.specs.declared.world.Ref.{Ref}
use Rattle.run_rules.specs.declared.world.Setup.{Setup}
use Rattle.run_rules.specs.World.{device_at, device_named, has, holds_in, name_of, parent_name, root_name, unit_name}
use Rattle.run_rules.specs.Laws.{attached_below, attached_name, freed_name, is_asleep_in, is_name, lives}
use Rattle.run_rules.specs.Sound.{HaveOwnNames}
use Rattle.run_rules.proofs.References.{not_held_counts}
use Rattle.run_sound.proofs.Marks.{KeepsTree}
use Rattle.run_sound.proofs.Members.{of_each}
use Rattle.history_laws.specs.Counted.{IsTold}
use Rattle.history_laws.proofs.Found.{found_mapped}
use Rattle.history_laws.proofs.Grown.{LeavesRefs, LeavesSleep, LeavesTree, RefsLeft, asleep_is, asleep_left, lives_left, lives_on, parent_left, parent_on, refs_left, sleeps_on}
use Rattle.history_laws.proofs.Names.{bytes_same, named_is, named_there, parent_alike, same_bytes}

-- ---- nothing comes of it

pub told_quiet : (h : List Event) (e : Event) (s : Setup) (live : List Dev) (refs : List Ref) (sole x : List ℕ) (o : Option Dev)
    → LeavesTree e.act x → LeavesSleep e.act x → LeavesRefs e.act x → IsTold h s live refs sole x o → IsTold (h ++ e ∷ []) s live refs sole x o
told_quiet h e s live refs sole x o q r p t =
    let left : RefsLeft h e x = refs_left h e x p in
    record {
      lives = lives_left h e x q ∙ t.lives;
      parent = λ d is. parent_left h e x q ∙ t.parent d is;
      asleep = λ d is. asleep_left h e x q r ∙ t.asleep d is;
      held = λ k. omega (arith, left.granted k, left.returned k, t.held k);
      solely = λ k. left.solely k ∙ t.solely k;
    }

-- ---- the devices' marks change

-- names are of rows and units
name_kept : (s : Setup) (f : Dev → Dev) (d : Dev) → KeepsTree f → name_of s (f d) ≡ name_of s d
name_kept s f d keeps = ap (λ (r : ℕ). unit_name s r (f d).unit) (keeps.place.row d) ∙ ap (unit_name s d.row) (keeps.place.unit d)

pub named_mapped : (s : Setup) (f : Dev → Dev) (live : List Dev) (x : List ℕ) → KeepsTree f → device_named s (map f live) x ≡ option_map f (device_named s live x)
named_mapped s f live x keeps = found_mapped (λ d. bytes_eq (name_of s d) x) f live (λ d. ap (λ (n : List ℕ). bytes_eq n x) (name_kept s f d keeps))

pub parent_mapped : (s : Setup) (f : Dev → Dev) (live : List Dev) (p : ℕ) → KeepsTree f → parent_name s (map f live) p ≡ parent_name s live p
unfolding parent_name
parent_mapped s f live p keeps =
    ap (λ (o : Option Dev). option_map_or (name_of s) o root_name) (found_mapped (λ d. d.serial == p) f live (λ d. ap (λ (n : ℕ). n == p) (keeps.serial d)))
    ∙ cases (device_at live p)
  where
    cases : (o : Option Dev) → option_map_or (name_of s) (option_map f o) root_name ≡ option_map_or (name_of s) o root_name
    cases None = refl
    cases (Some d) = name_kept s f d keeps

pub told_marked : (h : List Event) (e : Event) (s : Setup) (live : List Dev) (refs : List Ref) (sole x : List ℕ) (f : Dev → Dev) → KeepsTree f
    → LeavesTree e.act x → LeavesRefs e.act x → ((d : Dev) → device_named s live x ≡ Some d → is_asleep_in (h ++ e ∷ []) x ≡ (f d).asleep)
    → IsTold h s live refs sole x (device_named s live x) → IsTold (h ++ e ∷ []) s (map f live) refs sole x (device_named s (map f live) x)
told_marked h e s live refs sole x f keeps q p sleep t = rw (named_mapped s f live x keeps) (cases (device_named s live x) sleep t)
  where
    left : RefsLeft h e x
    left = refs_left h e x p

    cases : (o : Option Dev) → ((d : Dev) → o ≡ Some d → is_asleep_in (h ++ e ∷ []) x ≡ (f d).asleep) → IsTold h s live refs sole x o → IsTold (h ++ e ∷ []) s (map f live) refs sole x (option_map f o)
    cases None sleep t = record {
      lives = lives_left h e x q ∙ t.lives;
      parent = λ d is. absurd cc;
      asleep = λ d is. absurd cc;
      held = λ k. omega (arith, left.granted k, left.returned k, t.held k);
      solely = λ k. left.solely k ∙ t.solely k;
    }
    cases (Some d) sleep t = record {
      lives = lives_left h e x q ∙ t.lives;
      parent = λ c is.
          let same : f d ≡ c = same_Some (f d) c is in
          rw (← same) (parent_left h e x q ∙ t.parent d refl ∙ ap Some (sym (ap (parent_name s (map f live)) (keeps.parent d) ∙ parent_mapped s f live d.parent keeps)));
      asleep = λ c is. let same : f d ≡ c = same_Some (f d) c is in rw (← same) (sleep d refl);
      held = λ k. rw (keeps.serial d) (omega (arith, left.granted k, left.returned k, t.held k));
      solely = λ k. rw (keeps.serial d) (left.solely k ∙ t.solely k);
    }

-- ---- a device comes

-- a line that attaches a device of this name below this parent
pub record IsArrival (a : Act) (name parent : List ℕ) : Type 0 where
  pub attached : attached_name a ≡ Some name
  pub below : attached_below a ≡ parent
  pub freed : freed_name a ≡ None
  pub sleep : (x : List ℕ) → LeavesSleep a x
  pub refs : (x : List ℕ) → LeavesRefs a x

-- the device that comes: its serial is new, it has no references, and it is awake
pub record IsNewcomer (s : Setup) (live : List Dev) (refs : List Ref) (n : Dev) : Type 0 where
  pub own : HaveOwnNames s (live ++ n ∷ [])
  pub serials : AllByRecursion (λ d. d.serial < n.serial) live
  pub parents : AllByRecursion (λ d. d.parent < n.serial) live
  pub parent : n.parent < n.serial
  pub unreferred : (k : ℕ) → holds_in refs k n.serial ≡ false
  pub awake : n.asleep ≡ false

newcomer_there : (live : List Dev) (n : Dev) → Contains (live ++ n ∷ []) n
newcomer_there [] n = (0, omega arith, refl)
newcomer_there (d ∷ ds) n = let rest = newcomer_there ds n in (suc rest.0, omega (arith, rest.1), rest.2)

named_newcomer : (s : Setup) (live : List Dev) (refs : List Ref) (n : Dev) → IsNewcomer s live refs n → device_named s (live ++ n ∷ []) (name_of s n) ≡ Some n
named_newcomer s live refs n new = named_is s (live ++ n ∷ []) (name_of s n) n new.own (newcomer_there live n) refl

-- its name was free
pub name_fresh : (s : Setup) (live : List Dev) (refs : List Ref) (n : Dev) → IsNewcomer s live refs n → device_named s live (name_of s n) ≡ None
name_fresh s live refs n new = cases (device_named s live (name_of s n)) refl
  where
    cases : (o : Option Dev) → device_named s live (name_of s n) ≡ o → o ≡ None
    cases None e = refl
    cases (Some d) e =
        let old : find (λ d. bytes_eq (name_of s d) (name_of s n)) (live ++ n ∷ []) ≡ Some d = rw (find-append (λ d. bytes_eq (name_of s d) (name_of s n)) live (n ∷ []), e) refl in
        let same : d ≡ n = same_Some d n (sym old ∙ named_newcomer s live refs n new) in
        absurd (omega (arith, ap (λ (c : Dev). c.serial) same, of_each (λ c. c.serial < n.serial) live d new.serials (named_there s live (name_of s n) d e)))

-- the other names are as they were
named_other : (s : Setup) (live : List Dev) (n : Dev) (x : List ℕ) → bytes_eq (name_of s n) x ≡ false → device_named s (live ++ n ∷ []) x ≡ device_named s live x
named_other s live n x other = find-append (λ d. bytes_eq (name_of s d) x) live (n ∷ []) ∙ rw other (cases (device_named s live x))
  where
    cases : (o : Option Dev) → option_or o None ≡ o
    cases None = refl
    cases (Some d) = refl

parent_before : (s : Setup) (live : List Dev) (n : Dev) (p : ℕ) → p < n.serial → parent_name s (live ++ n ∷ []) p ≡ parent_name s live p
parent_before s live n p low =
    parent_alike s live (live ++ n ∷ []) p (find-append (λ d. d.serial == p) live (n ∷ []) ∙ rw (ne_eqb n.serial p (λ same. absurd (omega (arith, same, low)))) (cases (device_at live p)))
  where
    cases : (o : Option Dev) → option_or o None ≡ o
    cases None = refl
    cases (Some d) = refl

told_other : (h : List Event) (e : Event) (s : Setup) (live : List Dev) (refs : List Ref) (sole : List ℕ) (n : Dev) (x : List ℕ) → IsArrival e.act (name_of s n) (parent_name s live n.parent) → IsNewcomer s live refs n
    → bytes_eq (name_of s n) x ≡ false → IsTold h s live refs sole x (device_named s live x) → IsTold (h ++ e ∷ []) s (live ++ n ∷ []) refs sole x (device_named s (live ++ n ∷ []) x)
told_other h e s live refs sole n x line new other t =
    let q : LeavesTree e.act x = record { attached = rw line.attached other; freed = rw line.freed refl } in
    let more : IsTold (h ++ e ∷ []) s live refs sole x (device_named s live x) = told_quiet h e s live refs sole x (device_named s live x) q (line.sleep x) (line.refs x) t in
    rw (named_other s live n x other) (record {
      lives = more.lives;
      parent = λ d is. more.parent d is ∙ ap Some (sym (parent_before s live n d.parent (of_each (λ c. c.parent < n.serial) live d new.parents (named_there s live x d is))));
      asleep = more.asleep;
      held = more.held;
      solely = more.solely;
    })

told_new : (h : List Event) (e : Event) (s : Setup) (live : List Dev) (refs : List Ref) (sole : List ℕ) (n : Dev) → IsArrival e.act (name_of s n) (parent_name s live n.parent) → IsNewcomer s live refs n
    → IsTold h s live refs sole (name_of s n) (device_named s live (name_of s n)) → IsTold (h ++ e ∷ []) s (live ++ n ∷ []) refs sole (name_of s n) (device_named s (live ++ n ∷ []) (name_of s n))
told_new h e s live refs sole n line new t =
    let x : List ℕ = name_of s n in
    let old : IsTold h s live refs sole x None = rw (name_fresh s live refs n new) at t in
    let here : is_name (attached_name e.act) x ≡ true = rw line.attached (same_bytes x x refl) in
    let left : RefsLeft h e x = refs_left h e x (line.refs x) in
    let alive : lives (h ++ e ∷ []) x ≡ true = lives_on h e x ∙ rw here refl in
    rw (named_newcomer s live refs n new) (record {
      lives = alive;
      parent = λ d is.
          let same : n ≡ d = same_Some n d is in
          rw (← same) (parent_on h e x ∙ rw here (ap Some (line.below ∙ sym (parent_before s live n n.parent new.parent))));
      asleep = λ d is.
          let same : n ≡ d = same_Some n d is in
          rw (← same) (asleep_is (h ++ e ∷ []) x ∙ rw (alive, sleeps_on h e x, here, (line.sleep x).slept) (sym new.awake));
      held = λ k. omega (arith, left.granted k, left.returned k, old.held k, not_held_counts refs k n.serial (new.unreferred k));
      solely = λ k. left.solely k ∙ old.solely k ∙ and_false (has sole n.serial) (holds_in refs k n.serial) (new.unreferred k);
    })
  where
    and_false : (a b : Bool) → b ≡ false → false ≡ (a && b)
    and_false true b e = sym e
    and_false false b e = refl

pub told_attached : (h : List Event) (e : Event) (s : Setup) (live : List Dev) (refs : List Ref) (sole : List ℕ) (n : Dev) (x : List ℕ) → IsArrival e.act (name_of s n) (parent_name s live n.parent)
    → IsNewcomer s live refs n → IsTold h s live refs sole x (device_named s live x) → IsTold (h ++ e ∷ []) s (live ++ n ∷ []) refs sole x (device_named s (live ++ n ∷ []) x)
told_attached h e s live refs sole n x line new t = cases (bytes_eq (name_of s n) x) refl
  where
    cases : (b : Bool) → bytes_eq (name_of s n) x ≡ b → IsTold (h ++ e ∷ []) s (live ++ n ∷ []) refs sole x (device_named s (live ++ n ∷ []) x)
    cases true same =
        subst (λ (y : List ℕ). IsTold h s live refs sole y (device_named s live y) → IsTold (h ++ e ∷ []) s (live ++ n ∷ []) refs sole y (device_named s (live ++ n ∷ []) y))
        (bytes_same (name_of s n) x same) (told_new h e s live refs sole n line new) t
    cases false other = told_other h e s live refs sole n x line new other t
