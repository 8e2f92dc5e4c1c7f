-- What the lines tell of those that are condemned is what the world has; and so the whole tree is told.
use Rattle.std.proofs.Common.{◌≡◌, ℕ, ◌==◌, not, ◌||◌, Bool, true, false, List, [], ◌∷◌, ◌++◌, length, bytes_eq, Option, Some, None, refl, sym, ap, ◌∙◌, subst, inl, inr, append_assoc, eqb-true, eq-eqb}
use Rattle.std.specs.Prelude.{if◌then◌else◌, option_map}
use Rattle.std.specs.List.{AllByRecursion, Contains}
use Rattle.std.proofs.lemmas.Bool.{false_from_ne_true, not-true}
use Rattle.std.proofs.lemmas.List.{append-nil}
use Rattle.cf_types.specs.declared.tree.DevLine.{DevLine}
use Rattle.run_rules.specs.declared.event.Event.{Event}
use Rattle.run_rules.specs.declared.event.Act.{Act}
use Rattle.run_rules.specs.declared.event.Got.{Got}
use Rattle.run_rules.specs.declared.world.Dev.{Dev}
use Rattle.run_rules.specs.declared.world.Setup.{Setup}
use Rattle.run_rules.specs.declared.deed.Deed.{Deed}
use Rattle.run_rules.specs.declared.deed.Choice.TheVariants.{Does}
use Rattle.run_rules.specs.After.{after, new_device}
use Rattle.run_rules.specs.Laws.{attached_name, freed_name, is_name}
use Rattle.run_rules.specs.Next.{next}
use Rattle.run_rules.specs.Run.{printed}
use Rattle.run_rules.specs.Tree.{dev_line, tree_below, tree_lines}
use Rattle.run_rules.specs.World.{World, is_condemned, name_of, opening}
use Rattle.run_rules.proofs.Devices.{all_snoc}
use Rattle.run_rules.proofs.Setups.{after_setup}
use Rattle.run_sound.proofs.Callers.{clash}
use Rattle.run_sound.proofs.Members.{all_map, each_mapped, each_of, each_passed, of_each}
use Rattle.history_laws.specs.Always.{OfEveryRun}
use Rattle.history_laws.proofs.Kept.{names_after}
use Rattle.history_laws.proofs.Names.{HasNames, same_bytes, world_names}
use Rattle.history_laws.proofs.Stands.{Stands}
use Rattle.history_laws.proofs.TreeTold.{tells_tree}
use Rattle.whole_laws.specs.Tree.{TellsWholeTree, condemned_from, condemned_on, got_in, is_condemned_in, takes}
use Rattle.whole_laws.proofs.Below.{Rootless, rootless}
use Rattle.history_laws.proofs.Carried.{IsCarried, in_run}
use Rattle.whole_laws.proofs.Changes.{Change, Comes, Goes, change_of, taken_by}
use Rattle.whole_laws.proofs.Commands.{event_act}
use Rattle.whole_laws.proofs.Living.{LivingTold, RowsTold, SpotsTold, attached_got, marked_name, names_told, new_name, rows, same_test, spots, still_attached}
use Rattle.whole_laws.proofs.Takes.{takes_is}
use Rattle.whole_laws.proofs.TreeOrder.{in_order, members}

-- ---- one event more

from_on : (g : List Event) (b : Bool) (h : List Event) (e : Event) (x : List ℕ) → condemned_from g b (h ++ e ∷ []) x ≡ condemned_on (g ++ h) e.act x (condemned_from g b h x)
from_on g b [] e x = ap (λ (i : List Event). condemned_on i e.act x b) (sym (append-nil g))
from_on g b (f ∷ h) e x =
    from_on (g ++ f ∷ []) (condemned_on g f.act x b) h e x
    ∙ ap (λ (i : List Event). condemned_on i e.act x (condemned_from (g ++ f ∷ []) (condemned_on g f.act x b) h x)) (append_assoc g (f ∷ []) h)

condemned_more : (h : List Event) (e : Event) (x : List ℕ) → is_condemned_in (h ++ e ∷ []) x ≡ condemned_on h e.act x (is_condemned_in h x)
unfolding is_condemned_in
condemned_more h e x = from_on [] false h e x

on_left : (h : List Event) (a : Act) (x : List ℕ) (b : Bool) → is_name (attached_name a) x ≡ false → is_name (freed_name a) x ≡ false → condemned_on h a x b ≡ (b || takes h a x)
on_left h a x b come go = ap (λ (c : Bool). if c then false else (b || takes h a x)) (ap (λ (c : Bool). c || is_name (freed_name a) x) come ∙ go)

on_come : (h : List Event) (a : Act) (x : List ℕ) (b : Bool) → is_name (attached_name a) x ≡ true → condemned_on h a x b ≡ false
on_come h a x b come = ap (λ (c : Bool). if c then false else (b || takes h a x)) (ap (λ (c : Bool). c || is_name (freed_name a) x) come)

abbrev IsMarked : List Event → Setup → Dev → Type 0
IsMarked h s d = is_condemned_in h (name_of s d) ≡ is_condemned d

abbrev CondemnedTold : List Event → World → Type 0
CondemnedTold h w = AllByRecursion (IsMarked h w.setup) w.live

-- what the history tells of names, rows and spots
record IsTold (h : List Event) (w : World) : Type 0 where
  rootless : Rootless h w
  living : LivingTold h w
  rows : RowsTold h w
  spots : SpotsTold h w

told : IsCarried IsTold
told = record {
  opens = λ s may. record { rootless = rootless.opens s may; living = names_told.opens s may; rows = rows.opens s may; spots = spots.opens s may };
  goes = λ h w e v at has step. record {
    rootless = rootless.goes h w e v at has.rootless step;
    living = names_told.goes h w e v at has.living step;
    rows = rows.goes h w e v at has.rows step;
    spots = spots.goes h w e v at has.spots step;
  };
}

or_nothing : (b c : Bool) → c ≡ false → (b || c) ≡ b
or_nothing true c e = refl
or_nothing false c e = e

module _ (h : List Event) (w : World) (k : ℕ) (d : Deed) (f : Event) (line : f.act ≡ printed w k d) (stands : Stands h w) (has : IsTold h w) (e : next w k ≡ Does d) (at : CondemnedTold h w) where
  -- one that neither comes nor goes
  left : (c : Dev) → Contains w.live c → is_name (attached_name f.act) (name_of w.setup c) ≡ false → is_name (freed_name f.act) (name_of w.setup c) ≡ false
      → is_condemned_in (h ++ f ∷ []) (name_of w.setup c) ≡ (is_condemned c || taken_by w d c)
  left c here come go =
      condemned_more h f (name_of w.setup c) ∙ on_left h f.act (name_of w.setup c) (is_condemned_in h (name_of w.setup c)) come go
      ∙ ap (λ (b : Bool). b || takes h f.act (name_of w.setup c)) (of_each (IsMarked h w.setup) w.live c at here)
      ∙ ap (λ (b : Bool). is_condemned c || b) (ap (λ (a : Act). takes h a (name_of w.setup c)) line ∙ takes_is h w stands has.rootless has.living has.spots k d e c here)

  quiet : (c : Dev) → Contains w.live c → got_in (printed w k d) ≡ None → freed_name (printed w k d) ≡ None → is_condemned_in (h ++ f ∷ []) (name_of w.setup c) ≡ (is_condemned c || taken_by w d c)
  quiet c here come go =
      left c here (ap (λ (o : Option (List ℕ)). is_name o (name_of w.setup c)) (still_attached f.act (ap got_in line ∙ come))) (ap (λ (o : Option (List ℕ)). is_name o (name_of w.setup c)) (ap freed_name line ∙ go))

  named : (come : Comes w k d) → attached_name f.act ≡ Some (name_of w.setup (new_device w come.came))
  named come = attached_got f.act ∙ ap (λ (o : Option Got). option_map (λ (g : Got). g.name) o) (ap got_in line ∙ come.got)

  names : HasNames w.setup w.live w.next
  names = world_names w stands.may stands.kept

  marked_list : Change w k d → AllByRecursion (IsMarked (h ++ f ∷ []) w.setup) (after w k d).live
  marked_list change = elim change [
    | inl same ↦ subst (AllByRecursion (IsMarked (h ++ f ∷ []) w.setup)) (sym same.live) (each_of (IsMarked (h ++ f ∷ []) w.setup) w.live (λ c here.
        quiet c here same.still.comes same.still.goes ∙ or_nothing (is_condemned c) (taken_by w d c) (same.spared c)))
    | inr others ↦ elim others [
      | inl marks ↦ subst (AllByRecursion (IsMarked (h ++ f ∷ []) w.setup)) (sym marks.live) (each_mapped (IsMarked (h ++ f ∷ []) w.setup) marks.mark w.live
          (each_of (λ c. IsMarked (h ++ f ∷ []) w.setup (marks.mark c)) w.live (λ c here.
          ap (is_condemned_in (h ++ f ∷ [])) (marked_name w.setup marks.mark c marks.keeps) ∙ quiet c here marks.still.comes marks.still.goes ∙ sym (marks.condemns c))))
      | inr more ↦ elim more [
        | inl come ↦ subst (AllByRecursion (IsMarked (h ++ f ∷ []) w.setup)) (sym come.live)
            (all_snoc (IsMarked (h ++ f ∷ []) w.setup) w.live (new_device w come.came)
            (each_of (IsMarked (h ++ f ∷ []) w.setup) w.live (λ c here.
            left c here
            (ap (λ (o : Option (List ℕ)). is_name o (name_of w.setup c)) (named come)
            ∙ new_name w k d stands.kept stands.may (names_after w k d stands.may stands.kept e) come c here)
            (ap (λ (o : Option (List ℕ)). is_name o (name_of w.setup c)) (ap freed_name line ∙ come.goes))
            ∙ or_nothing (is_condemned c) (taken_by w d c) (come.spared c)))
            (new come))
        | inr go ↦ subst (AllByRecursion (IsMarked (h ++ f ∷ []) w.setup)) (sym go.live)
            (each_passed (IsMarked (h ++ f ∷ []) w.setup) (λ c. not (c.serial == go.dev.serial)) w.live
            (each_of (λ c. not (c.serial == go.dev.serial) ≡ true → IsMarked (h ++ f ∷ []) w.setup c) w.live (λ c here passes.
            left c here (ap (λ (o : Option (List ℕ)). is_name o (name_of w.setup c)) (still_attached f.act (ap got_in line ∙ go.comes)))
            (ap (λ (o : Option (List ℕ)). is_name o (name_of w.setup c)) (ap freed_name line ∙ go.freed) ∙ other go c here (not-true (c.serial == go.dev.serial) passes))
            ∙ or_nothing (is_condemned c) (taken_by w d c) (go.spared c))))
      ]
    ]
  ]
    where
      new : (come : Comes w k d) → IsMarked (h ++ f ∷ []) w.setup (new_device w come.came)
      new come =
          let x : List ℕ = name_of w.setup (new_device w come.came) in
          condemned_more h f x ∙ on_come h f.act x (is_condemned_in h x) (ap (λ (o : Option (List ℕ)). is_name o x) (named come) ∙ same_bytes x x refl)

      other : (go : Goes w k d) (c : Dev) → Contains w.live c → (c.serial == go.dev.serial) ≡ false → bytes_eq (name_of w.setup go.dev) (name_of w.setup c) ≡ false
      other go c here apart =
          same_test w go.dev c names go.there here ∙ false_from_ne_true (go.dev.serial == c.serial) (λ on. differ (eqb-true go.dev.serial c.serial on))
        where
          differ : go.dev.serial ≡ c.serial → ⊥
          differ same = clash (c.serial == go.dev.serial) (eq-eqb c.serial go.dev.serial (sym same)) apart

abbrev Whole : List Event → World → Type 0
Whole h w = IsTold h w × CondemnedTold h w

whole : IsCarried Whole
unfolding opening
whole = record {
  opens = λ s may. (told.opens s may, tt);
  goes = λ h w e v at has step.
      let line : e.act ≡ printed w e.caller step.deed = ap (λ (i : Event). i.act) step.event ∙ event_act w e.caller step.deed in
      let next : AllByRecursion (IsMarked (h ++ e ∷ []) w.setup) (after w e.caller step.deed).live =
      marked_list h w e.caller step.deed e line at has.0 step.chosen has.1 (change_of w e.caller step.deed at.may at.kept step.chosen) in (
        told.goes h w e v at has.0 step,
        subst (CondemnedTold (h ++ e ∷ [])) (sym step.world) (subst (λ (s : Setup). AllByRecursion (IsMarked (h ++ e ∷ []) s) (after w e.caller step.deed).live) (sym (after_setup w e.caller step.deed)) next),
      );
}

-- ---- the whole tree

tells_whole : (h : List Event) (w : World) → Stands h w → Whole h w → TellsWholeTree h (tree_lines w)
unfolding tree_lines
tells_whole h w at has = record {
  devices = tells_tree h w at;
  placed = in_order h w at has.0.living has.0.rows;
  condemned = all_map (λ (l : DevLine). is_condemned_in h l.name ≡ l.condemned) (λ (e : ℕ × Dev). Contains w.live e.1) (dev_line w) (tree_below (length w.live) w.live 0 0)
      (λ e here. of_each (IsMarked h w.setup) w.live e.1 has.1 here) (members w.live (length w.live) 0 0);
}

pub always_whole_tree : OfEveryRun (λ h v. TellsWholeTree h (tree_lines v))
always_whole_tree = in_run Whole (λ h v. TellsWholeTree h (tree_lines v)) whole tells_whole
