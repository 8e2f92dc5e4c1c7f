-- What the lines tell of a name stays what the world has of it where a device sleeps or wakes.
use Rattle.std.proofs.Common.{◌≡◌, ◌≢◌, ℕ, ◌==◌, Bool, true, false, not, ◌&&◌, ◌||◌, cond, List, [], ◌∷◌, ◌++◌, map, bytes_eq, Option, Some, is_some, refl, sym, ap, ◌∙◌, eq-eqb}
use Rattle.std.specs.Prelude.{if◌then◌else◌}
use Rattle.std.specs.List.{Contains}
use Rattle.std.proofs.lemmas.Bool.{ne_eqb}
use Rattle.run_rules.specs.declared.event.Event.{Event}
use Rattle.run_rules.specs.declared.event.Act.{Act}
use Rattle.run_rules.specs.declared.world.Dev.{Dev}
use Rattle.run_rules.specs.declared.world.Ref.{Ref}
use Rattle.run_rules.specs.declared.world.Setup.{Setup}
use Rattle.run_rules.specs.World.{device_named, name_of}
use Rattle.run_rules.specs.After.{with_sleep}
use Rattle.run_rules.specs.Laws.{is_asleep_in, is_name, lives, slept_name, woken_name}
use Rattle.run_rules.specs.Sound.{EachLater, HaveOwnNames, IsApart}
use Rattle.run_sound.proofs.Callers.{clash}
use Rattle.run_sound.proofs.Marks.{sleep_keeps_tree}
use Rattle.run_sound.proofs.Members.{one_serial}
use Rattle.history_laws.specs.Counted.{IsTold}
use Rattle.history_laws.proofs.Grown.{LeavesRefs, LeavesSleep, LeavesTree, asleep_is, asleep_left, lives_left, sleeps, sleeps_on}
use Rattle.history_laws.proofs.Names.{bytes_same, first_is, named_so, named_there, same_bytes}
use Rattle.history_laws.proofs.Told.{told_marked}

-- a line by which a device of this name sleeps or wakes
pub record IsSleepLine (a : Act) (name : List ℕ) (down : Bool) : Type 0 where
  pub tree : (x : List ℕ) → LeavesTree a x
  pub refs : (x : List ℕ) → LeavesRefs a x
  pub slept : (x : List ℕ) → is_name (slept_name a) x ≡ (down && bytes_eq name x)
  pub woken : (x : List ℕ) → is_name (woken_name a) x ≡ (not down && bytes_eq name x)

-- the device that is marked
pub record IsMarked (s : Setup) (live : List Dev) (n : Dev) : Type 0 where
  pub own : HaveOwnNames s live
  pub apart : EachLater (IsApart s) live
  pub there : Contains live n

marked_here : (n : ℕ) (down : Bool) (d : Dev) → (d.serial == n) ≡ true → (with_sleep n down d).asleep ≡ down
marked_here n down d on = ap (λ (b : Bool). (if b then record d { asleep = down } else d).asleep) on

marked_there : (n : ℕ) (down : Bool) (d : Dev) → (d.serial == n) ≡ false → (with_sleep n down d).asleep ≡ d.asleep
marked_there n down d off = ap (λ (b : Bool). (if b then record d { asleep = down } else d).asleep) off

asleep_here : (h : List Event) (e : Event) (name : List ℕ) (down : Bool) → IsSleepLine e.act name down → lives h name ≡ true → is_asleep_in (h ++ e ∷ []) name ≡ down
asleep_here h e name down line alive =
    asleep_is (h ++ e ∷ []) name
    ∙ rw (lives_left h e name (line.tree name), alive, sleeps_on h e name, (line.tree name).attached, line.slept name, line.woken name, same_bytes name name refl) (cases down)
  where
    cases : (b : Bool) → cond ((b && true) || (not b && true)) (b && true) (sleeps h name) ≡ b
    cases true = refl
    cases false = refl

pub told_slept : (h : List Event) (e : Event) (s : Setup) (live : List Dev) (refs : List Ref) (sole : List ℕ) (n : Dev) (down : Bool) (x : List ℕ) → IsSleepLine e.act (name_of s n) down → IsMarked s live n
    → IsTold h s live refs sole x (device_named s live x)
    → IsTold (h ++ e ∷ []) s (map (with_sleep n.serial down) live) refs sole x (device_named s (map (with_sleep n.serial down) live) x)
told_slept h e s live refs sole n down x line mark t =
    told_marked h e s live refs sole x (with_sleep n.serial down) (sleep_keeps_tree n.serial down) (line.tree x) (line.refs x) (λ d is. cases d is (bytes_eq (name_of s n) x) refl) t
  where
    both_off : (b : Bool) → (b && false) ≡ false
    both_off true = refl
    both_off false = refl

    cases : (d : Dev) → device_named s live x ≡ Some d → (b : Bool) → bytes_eq (name_of s n) x ≡ b → is_asleep_in (h ++ e ∷ []) x ≡ (with_sleep n.serial down d).asleep
    cases d is true same =
        let name : name_of s n ≡ x = bytes_same (name_of s n) x same in
        let one : n ≡ d = first_is s live x d n mark.own is mark.there name in
        let alive : lives h x ≡ true = t.lives ∙ ap (λ (o : Option Dev). is_some o) is in
        ap (λ (y : List ℕ). is_asleep_in (h ++ e ∷ []) y) (sym name) ∙ asleep_here h e (name_of s n) down line (ap (lives h) name ∙ alive)
        ∙ sym (marked_here n.serial down d (eq-eqb d.serial n.serial (ap (λ (c : Dev). c.serial) (sym one))))
    cases d is false other =
        let apart : d.serial ≢ n.serial = λ same.
        let one : d ≡ n = one_serial s live d n mark.apart (named_there s live x d is) mark.there same in
        clash (bytes_eq (name_of s n) x) (same_bytes (name_of s n) x (ap (name_of s) (sym one) ∙ named_so s live x d is)) other in
        let still : LeavesSleep e.act x = record { slept = rw (line.slept x, other) (both_off down); woken = rw (line.woken x, other) (both_off (not down)) } in
        asleep_left h e x (line.tree x) still ∙ t.asleep d is ∙ sym (marked_there n.serial down d (ne_eqb d.serial n.serial apart))
