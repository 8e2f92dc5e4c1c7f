-- Names and rows of the devices that live, in the order in which they came.
use Rattle.std.proofs.Common.{◌≡◌, ℕ, ◌==◌, not, Bool, true, false, cond, List, [], ◌∷◌, ◌++◌, map, bytes_eq, Option, Some, None, refl, sym, ap, ◌∙◌, subst, inl, inr, eqb-true, arith}
use Rattle.std.specs.Prelude.{filter, option_and_then, option_map}
use Rattle.std.specs.List.{AllByRecursion, Contains}
use Rattle.std.proofs.lemmas.Bool.{eqb-false, false_from_ne_true, ne_eqb, or_cases}
use Rattle.std.proofs.lemmas.List.{reverse-append}
use Rattle.run_rules.specs.declared.event.Event.{Event}
use Rattle.run_rules.specs.declared.event.Act.{Act}
use Rattle.run_rules.specs.declared.event.Act.TheVariants as act
use Rattle.run_rules.specs.declared.event.Got.{Got}
use Rattle.run_rules.specs.declared.world.Dev.{Dev}
use Rattle.run_rules.specs.declared.world.Setup.{Setup}
use Rattle.run_rules.specs.declared.deed.Deed.{Deed}
use Rattle.run_rules.specs.Laws.{attached_name, freed_name, is_name, last_that}
use Rattle.run_rules.specs.World.{World, device_at, device_named, is_live, name_of, opening, parent_name, root_name, unit_name}
use Rattle.run_rules.specs.After.{after, new_device}
use Rattle.run_rules.specs.Run.{printed, spot_name}
use Rattle.run_rules.specs.Sound.{IsPlaced}
use Rattle.run_rules.proofs.Devices.{all_snoc}
use Rattle.run_rules.proofs.Setups.{after_setup}
use Rattle.run_sound.specs.Kept.{Kept, MayRun}
use Rattle.run_sound.proofs.Callers.{all_filter}
use Rattle.run_sound.proofs.Marks.{KeepsTree}
use Rattle.run_sound.proofs.Members.{each_mapped, each_of, live_contained, of_each, one_serial}
use Rattle.history_laws.proofs.Going.{without}
use Rattle.history_laws.proofs.Kept.{names_after, newcomer}
use Rattle.history_laws.proofs.Names.{HasNames, at_is, at_serial, at_there, bytes_same, first_is, named_is, parent_named, parent_root, same_bytes, unnamed, world_names}
use Rattle.history_laws.proofs.Told.{name_fresh}
use Rattle.whole_laws.specs.Tree.{come_to, gone_from, got_in, living, living_from, row_in, row_of, spot_in, spot_of, told_last}
use Rattle.history_laws.proofs.Carried.{IsCarried}
use Rattle.whole_laws.proofs.Changes.{Change, Comes, change_of}
use Rattle.whole_laws.proofs.Commands.{event_act}

-- ---- names

-- two live devices have one name exactly where they have one serial
pub same_test : (w : World) (c d : Dev) → HasNames w.setup w.live w.next → Contains w.live c → Contains w.live d → bytes_eq (name_of w.setup c) (name_of w.setup d) ≡ (c.serial == d.serial)
same_test w c d names here there = cases (c.serial == d.serial) refl
  where
    cases : (b : Bool) → (c.serial == d.serial) ≡ b → bytes_eq (name_of w.setup c) (name_of w.setup d) ≡ b
    cases true is = same_bytes _ _ (ap (name_of w.setup) (sym (one_serial w.setup w.live d c names.apart there here (sym (eqb-true c.serial d.serial is)))))
    cases false is = false_from_ne_true (bytes_eq (name_of w.setup c) (name_of w.setup d)) (λ on.
        let found : device_named w.setup w.live (name_of w.setup d) ≡ Some d = named_is w.setup w.live (name_of w.setup d) d names.own there refl in
        let one : c ≡ d = first_is w.setup w.live (name_of w.setup d) d c names.own found here (bytes_same _ _ on) in
        eqb-false c.serial d.serial is (ap (λ (x : Dev). x.serial) one))

-- the name of a device's parent is that of a live device exactly where that one is the parent
pub parent_test : (w : World) (c d : Dev) → HasNames w.setup w.live w.next → Contains w.live c → Contains w.live d → bytes_eq (parent_name w.setup w.live c.parent) (name_of w.setup d) ≡ (c.parent == d.serial)
parent_test w c d names here there = cases (device_at w.live c.parent) refl
  where
    placed : (x : Dev) → Contains w.live x → IsPlaced w.live w.next x
    placed x at = of_each (IsPlaced w.live w.next) w.live x names.placed at

    cases : (o : Option Dev) → device_at w.live c.parent ≡ o → bytes_eq (parent_name w.setup w.live c.parent) (name_of w.setup d) ≡ (c.parent == d.serial)
    cases None e =
        false_from_ne_true (bytes_eq (parent_name w.setup w.live c.parent) (name_of w.setup d)) (λ on. names.unlike_root d there (sym (sym (parent_root w.setup w.live c.parent e) ∙ bytes_same _ _ on)))
        ∙ sym (ne_eqb c.parent d.serial (λ same. missing (ap (device_at w.live) same)))
      where
        missing : device_at w.live c.parent ≡ device_at w.live d.serial → ⊥
        missing same = let bad : None ≡ Some d = sym e ∙ same ∙ at_is w.setup w.live d names.apart there in absurd cc
    cases (Some p) e =
        ap (λ (n : List ℕ). bytes_eq n (name_of w.setup d)) (parent_named w.setup w.live c.parent p e) ∙ same_test w p d names (at_there w.live c.parent p e) there
        ∙ ap (λ (n : ℕ). n == d.serial) (at_serial w.live c.parent p e)

-- and that of the root exactly where it hangs below the root
pub root_test : (w : World) (c : Dev) → HasNames w.setup w.live w.next → Contains w.live c → bytes_eq (parent_name w.setup w.live c.parent) root_name ≡ (c.parent == 0)
root_test w c names here = cases (device_at w.live c.parent) refl
  where
    placed : (x : Dev) → Contains w.live x → IsPlaced w.live w.next x
    placed x at = of_each (IsPlaced w.live w.next) w.live x names.placed at

    cases : (o : Option Dev) → device_at w.live c.parent ≡ o → bytes_eq (parent_name w.setup w.live c.parent) root_name ≡ (c.parent == 0)
    cases None e =
        same_bytes _ _ (parent_root w.setup w.live c.parent e)
        ∙ sym (elim (or_cases (c.parent == 0) (is_live w.live c.parent) (placed c here).parent_live) [
          | inl root ↦ root
          | inr lives ↦
              let one = live_contained w.live c.parent lives in
              let found : device_at w.live c.parent ≡ Some one.0 = subst (λ (n : ℕ). device_at w.live n ≡ Some one.0) one.2 (at_is w.setup w.live one.0 names.apart one.1) in
              let bad : None ≡ Some one.0 = sym e ∙ found in
              absurd cc
        ])
    cases (Some p) e =
        let some : IsPlaced w.live w.next p = placed p (at_there w.live c.parent p e) in
        false_from_ne_true (bytes_eq (parent_name w.setup w.live c.parent) root_name) (λ on. names.unlike_root p (at_there w.live c.parent p e) (sym (parent_named w.setup w.live c.parent p e) ∙ bytes_same _ _ on))
        ∙ sym (ne_eqb c.parent 0 (λ none. absurd (omega (arith, none, at_serial w.live c.parent p e, some.after_parent))))

-- a name is of rows and units, which marks leave
pub marked_name : (s : Setup) (f : Dev → Dev) (d : Dev) → KeepsTree f → name_of s (f d) ≡ name_of s d
marked_name s f d keeps = ap (λ (r : ℕ). unit_name s r (f d).unit) (keeps.place.row d) ∙ ap (unit_name s d.row) (keeps.place.unit d)

-- what a line attaches
pub attached_got : (a : Act) → attached_name a ≡ option_map (λ (g : Got). g.name) (got_in a)
attached_got (act.Found parent spot got) = refl
attached_got (act.Final device shown) = refl
attached_got _ = refl

pub still_attached : (a : Act) → got_in a ≡ None → attached_name a ≡ None
still_attached a e = attached_got a ∙ ap (λ (o : Option Got). option_map (λ (g : Got). g.name) o) e

-- a device that comes has a name of its own
pub new_name : (w : World) (k : ℕ) (d : Deed) → Kept w → MayRun w.setup → HasNames w.setup (after w k d).live (after w k d).next → (come : Comes w k d) → (c : Dev) → Contains w.live c
    → bytes_eq (name_of w.setup (new_device w come.came)) (name_of w.setup c) ≡ false
new_name w k d kept may later come c here =
    let n : Dev = new_device w come.came in
    let fresh : device_named w.setup w.live (name_of w.setup n) ≡ None =
    name_fresh w.setup w.live w.refs n (newcomer w come.came (after w k d).next kept (world_names w may kept) (rw come.live at later)) in
    false_from_ne_true (bytes_eq (name_of w.setup n) (name_of w.setup c)) (λ on. unnamed w.setup w.live (name_of w.setup n) c fresh here (sym (bytes_same (name_of w.setup n) (name_of w.setup c) on)))

-- ---- what is told of a device where it comes: its row, and its spot

-- it is told of each device that comes, and marks leave it
record IsBrought {A : Type 0} (f : Act → Option A) (g : Setup → Dev → A) : Type 0 where
  comes : (w : World) (k : ℕ) (d : Deed) (c : Comes w k d) → f (printed w k d) ≡ Some (g w.setup (new_device w c.came))
  keeps : (s : Setup) (mark : Dev → Dev) (d : Dev) → KeepsTree mark → g s (mark d) ≡ g s d

module _ {A : Type 0} (f : Act → Option A) (g : Setup → Dev → A) (brought : IsBrought f g) where
  abbrev of_last : Option Event → Option A
  of_last o = option_and_then (λ e. f e.act) o

  told_on : (h : List Event) (e : Event) (x : List ℕ) → told_last f (h ++ e ∷ []) x ≡ cond (is_name (attached_name e.act) x) (f e.act) (told_last f h x)
  told_on h e x = ap of_last (last_on (λ i. is_name (attached_name i.act) x)) ∙ cases (is_name (attached_name e.act) x)
    where
      last_on : (p : Event → Bool) → last_that p (h ++ e ∷ []) ≡ cond (p e) (Some e) (last_that p h)
      last_on p = rw (reverse-append h (e ∷ [])) refl

      cases : (b : Bool) → of_last (cond b (Some e) (last_that (λ i. is_name (attached_name i.act) x) h)) ≡ cond b (f e.act) (of_last (last_that (λ i. is_name (attached_name i.act) x) h))
      cases true = refl
      cases false = refl

  abbrev HasIt : List Event → Setup → Dev → Type 0
  HasIt h s d = told_last f h (name_of s d) ≡ Some (g s d)

  abbrev AllTold : List Event → World → Type 0
  AllTold h w = AllByRecursion (HasIt h w.setup) w.live

  told_left : (h : List Event) (e : Event) (x : List ℕ) → is_name (attached_name e.act) x ≡ false → told_last f (h ++ e ∷ []) x ≡ told_last f h x
  told_left h e x off = told_on h e x ∙ rw off refl

  told_still : (h : List Event) (e : Event) (x : List ℕ) → got_in e.act ≡ None → told_last f (h ++ e ∷ []) x ≡ told_last f h x
  told_still h e x none = told_left h e x (rw (still_attached e.act none) refl)

  -- of a list of devices, by the list
  all_list : (h : List Event) (w : World) (k : ℕ) (d : Deed) (e : Event) → e.act ≡ printed w k d → MayRun w.setup → Kept w → HasNames w.setup (after w k d).live (after w k d).next → Change w k d
      → AllByRecursion (HasIt h w.setup) w.live → AllByRecursion (HasIt (h ++ e ∷ []) w.setup) (after w k d).live
  all_list h w k d e line may kept later change at = elim change [
    | inl same ↦ rw same.live (old (rw line same.still.comes))
    | inr others ↦ elim others [
      | inl marks ↦ rw marks.live (each_mapped (HasIt (h ++ e ∷ []) w.setup) marks.mark w.live (each_of (λ c. HasIt (h ++ e ∷ []) w.setup (marks.mark c)) w.live (λ c here.
          told_still h e (name_of w.setup (marks.mark c)) (rw line marks.still.comes) ∙ ap (told_last f h) (marked_name w.setup marks.mark c marks.keeps)
          ∙ of_each (HasIt h w.setup) w.live c at here ∙ ap Some (sym (brought.keeps w.setup marks.mark c marks.keeps)))))
      | inr more ↦ elim more [
        | inl come ↦ rw come.live (all_snoc (HasIt (h ++ e ∷ []) w.setup) w.live (new_device w come.came) (olds come) (new come))
        | inr go ↦ rw go.live (all_filter (HasIt (h ++ e ∷ []) w.setup) (λ c. not (c.serial == go.dev.serial)) w.live (old (rw line go.comes)))
      ]
    ]
  ]
    where
      old : got_in e.act ≡ None → AllByRecursion (HasIt (h ++ e ∷ []) w.setup) w.live
      old none = each_of (HasIt (h ++ e ∷ []) w.setup) w.live (λ c here. told_still h e (name_of w.setup c) none ∙ of_each (HasIt h w.setup) w.live c at here)

      named : (come : Comes w k d) → attached_name e.act ≡ Some (name_of w.setup (new_device w come.came))
      named come = attached_got e.act ∙ ap (λ (o : Option Got). option_map (λ (g : Got). g.name) o) (ap got_in line ∙ come.got)

      new : (come : Comes w k d) → HasIt (h ++ e ∷ []) w.setup (new_device w come.came)
      new come =
          let n : Dev = new_device w come.came in
          let on : is_name (attached_name e.act) (name_of w.setup n) ≡ true = rw (named come) (same_bytes (name_of w.setup n) (name_of w.setup n) refl) in
          told_on h e (name_of w.setup n) ∙ rw on (ap f line ∙ brought.comes w k d come)

      olds : (come : Comes w k d) → AllByRecursion (HasIt (h ++ e ∷ []) w.setup) w.live
      olds come = each_of (HasIt (h ++ e ∷ []) w.setup) w.live (λ c here.
          told_left h e (name_of w.setup c) (rw (named come) (new_name w k d kept may later come c here)) ∙ of_each (HasIt h w.setup) w.live c at here)

  all_told : IsCarried AllTold
  unfolding opening
  all_told = record {
    opens = λ s may. tt;
    goes = λ h w e v at has step.
        let line : e.act ≡ printed w e.caller step.deed = ap (λ (i : Event). i.act) step.event ∙ event_act w e.caller step.deed in
        let names = names_after w e.caller step.deed at.may at.kept step.chosen in
        let next : AllByRecursion (HasIt (h ++ e ∷ []) w.setup) (after w e.caller step.deed).live =
        all_list h w e.caller step.deed e line at.may at.kept names (change_of w e.caller step.deed at.may at.kept step.chosen) has in
        subst (AllTold (h ++ e ∷ [])) (sym step.world) (subst (λ (s : Setup). AllByRecursion (HasIt (h ++ e ∷ []) s) (after w e.caller step.deed).live) (sym (after_setup w e.caller step.deed)) next);
  }

abbrev pub RowsTold : List Event → World → Type 0
RowsTold h w = AllByRecursion (λ d. row_in h (name_of w.setup d) ≡ Some d.row) w.live

pub rows : IsCarried RowsTold
unfolding row_in
rows = all_told row_of (λ s d. d.row) (record {
  comes = λ w k d c. ap (λ (o : Option Got). option_map (λ (g : Got). g.row) o) c.got;
  keeps = λ s mark d keeps. keeps.place.row d;
})

abbrev pub SpotsTold : List Event → World → Type 0
SpotsTold h w = AllByRecursion (λ d. spot_in h (name_of w.setup d) ≡ Some (spot_name w.setup d.spot)) w.live

pub spots : IsCarried SpotsTold
unfolding spot_in
spots = all_told spot_of (λ s d. spot_name s d.spot) (record { comes = λ w k d c. c.spot; keeps = λ s mark d keeps. ap (spot_name s) (keeps.place.spot d) })

-- ---- who lives, in order

abbrev pub LivingTold : List Event → World → Type 0
LivingTold h w = map (name_of w.setup) w.live ≡ living h

living_from_on : (xs : List (List ℕ)) (h : List Event) (e : Event) → living_from xs (h ++ e ∷ []) ≡ come_to (attached_name e.act) (gone_from (freed_name e.act) (living_from xs h))
living_from_on xs [] e = refl
living_from_on xs (f ∷ h) e = living_from_on (come_to (attached_name f.act) (gone_from (freed_name f.act) xs)) h e

living_on : (h : List Event) (e : Event) → living (h ++ e ∷ []) ≡ come_to (attached_name e.act) (gone_from (freed_name e.act) (living h))
unfolding living
living_on h e = living_from_on [] h e

map_marked : (s : Setup) (f : Dev → Dev) (live : List Dev) → KeepsTree f → map (name_of s) (map f live) ≡ map (name_of s) live
map_marked s f [] keeps = refl
map_marked s f (d ∷ ds) keeps = rw (marked_name s f d keeps, map_marked s f ds keeps) refl

map_longer : (s : Setup) (live : List Dev) (n : Dev) → map (name_of s) (live ++ n ∷ []) ≡ map (name_of s) live ++ name_of s n ∷ []
map_longer s [] n = refl
map_longer s (d ∷ ds) n = ap (λ (xs : List (List ℕ)). name_of s d ∷ xs) (map_longer s ds n)

-- names pass where their devices do
pub map_passed : (s : Setup) (p : List ℕ → Bool) (q : Dev → Bool) (ds : List Dev) → AllByRecursion (λ d. p (name_of s d) ≡ q d) ds → filter p (map (name_of s) ds) ≡ map (name_of s) (filter q ds)
map_passed s p q [] h = refl
map_passed s p q (d ∷ ds) h = rw h.0 (cases (q d) (map_passed s p q ds h.1))
  where
    cases : (b : Bool) → filter p (map (name_of s) ds) ≡ map (name_of s) (filter q ds)
        → cond b (name_of s d ∷ filter p (map (name_of s) ds)) (filter p (map (name_of s) ds)) ≡ map (name_of s) (cond b (d ∷ filter q ds) (filter q ds))
    cases true rest = ap (λ (xs : List (List ℕ)). name_of s d ∷ xs) rest
    cases false rest = rest

names_list : (h : List Event) (w : World) (k : ℕ) (d : Deed) (f : Event) → f.act ≡ printed w k d → MayRun w.setup → Kept w → Change w k d
    → map (name_of w.setup) w.live ≡ living h → map (name_of w.setup) (after w k d).live ≡ living (h ++ f ∷ [])
names_list h w k d f line may kept change at = elim change [
  | inl same ↦ ap (map (name_of w.setup)) same.live ∙ at ∙ sym (next None None (still_attached f.act (ap got_in line ∙ same.still.comes)) (ap freed_name line ∙ same.still.goes))
  | inr others ↦ elim others [
    | inl marks ↦ ap (map (name_of w.setup)) marks.live ∙ map_marked w.setup marks.mark w.live marks.keeps ∙ at
        ∙ sym (next None None (still_attached f.act (ap got_in line ∙ marks.still.comes)) (ap freed_name line ∙ marks.still.goes))
    | inr more ↦ elim more [
      | inl come ↦
          let named : attached_name f.act ≡ Some (name_of w.setup (new_device w come.came)) = attached_got f.act ∙ ap (λ (o : Option Got). option_map (λ (g : Got). g.name) o) (ap got_in line ∙ come.got) in
          ap (map (name_of w.setup)) come.live ∙ map_longer w.setup w.live (new_device w come.came) ∙ ap (λ (xs : List (List ℕ)). xs ++ name_of w.setup (new_device w come.came) ∷ []) at
          ∙ sym (next (Some (name_of w.setup (new_device w come.came))) None named (ap freed_name line ∙ come.goes))
      | inr go ↦
          let names : HasNames w.setup w.live w.next = world_names w may kept in
          let x : List ℕ = name_of w.setup go.dev in
          let passed : filter (λ y. not (bytes_eq y x)) (map (name_of w.setup) w.live) ≡ map (name_of w.setup) (without w.live go.dev.serial) =
          map_passed w.setup (λ y. not (bytes_eq y x)) (λ c. not (c.serial == go.dev.serial)) w.live (each_of _ w.live (λ c here. ap not (same_test w c go.dev names here go.there))) in
          ap (map (name_of w.setup)) go.live ∙ sym passed ∙ ap (filter (λ y. not (bytes_eq y x))) at
          ∙ sym (next None (Some x) (still_attached f.act (ap got_in line ∙ go.comes)) (ap freed_name line ∙ go.freed))
    ]
  ]
]
  where
    next : (come go : Option (List ℕ)) → attached_name f.act ≡ come → freed_name f.act ≡ go → living (h ++ f ∷ []) ≡ come_to come (gone_from go (living h))
    next come go a b = living_on h f ∙ ap (λ (o : Option (List ℕ)). come_to o (gone_from (freed_name f.act) (living h))) a ∙ ap (λ (o : Option (List ℕ)). come_to come (gone_from o (living h))) b

pub names_told : IsCarried LivingTold
unfolding opening living
names_told = record {
  opens = λ s may. refl;
  goes = λ h w e v at has step.
      let line : e.act ≡ printed w e.caller step.deed = ap (λ (f : Event). f.act) step.event ∙ event_act w e.caller step.deed in
      let next : map (name_of w.setup) (after w e.caller step.deed).live ≡ living (h ++ e ∷ []) =
      names_list h w e.caller step.deed e line at.may at.kept (change_of w e.caller step.deed at.may at.kept step.chosen) has in
      subst (LivingTold (h ++ e ∷ [])) (sym step.world) (subst (λ (s : Setup). map (name_of s) (after w e.caller step.deed).live ≡ living (h ++ e ∷ [])) (sym (after_setup w e.caller step.deed)) next);
}
