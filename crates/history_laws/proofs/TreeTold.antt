-- The tree tells of each device that lives what the history tells of it.
use Rattle.std.proofs.Common.{◌≡◌, ◌≢◌, ◌⊎◌, ◌<◌, ℕ, zero, suc, ◌+◌, ◌-◌, ◌==◌, Bool, true, false, ◌&&◌, nat_lt, List, [], ◌∷◌, length, map, bytes_eq, Option, Some, None, is_some, refl, sym, ap, ◌∙◌, subst, inl, inr, eqb-true, arith}
use Rattle.std.specs.Prelude.{filter, sum_by, pos}
use Rattle.std.specs.List.{AllByRecursion, Contains}
use Rattle.std.proofs.lemmas.Bool.{and_parts, false_from_ne_true, or_cases}
use Rattle.std.proofs.lemmas.Bool.Decides.{nat_tests}
use Rattle.std.proofs.lemmas.List.Elements.{All-contains_itself, recursion_from_All}
use Rattle.std.proofs.lemmas.List.Sums.{sum_by-cons}
use Rattle.cf_types.specs.declared.tree.DevLine.{DevLine}
use Rattle.run_rules.specs.declared.event.Event.{Event}
use Rattle.run_rules.specs.declared.world.Dev.{Dev}
use Rattle.run_rules.specs.declared.world.Ref.{Ref}
use Rattle.run_rules.specs.declared.world.Setup.{Setup}
use Rattle.run_rules.specs.World.{World, device_named, has, holds_in, name_of, opening}
use Rattle.run_rules.specs.Laws.{holds, sole_in}
use Rattle.run_rules.specs.References.{count_in, hold_of, holds_on, possible_holders}
use Rattle.run_rules.specs.Run.{Run}
use Rattle.run_rules.specs.Tree.{dev_line, tree_below, tree_lines}
use Rattle.run_rules.proofs.References.{held_is_counted, not_held_counts}
use Rattle.run_sound.specs.Kept.{MayRun}
use Rattle.run_sound.specs.Scripts.{IsOfScript}
use Rattle.run_sound.proofs.Callers.{all_filter, all_passing}
use Rattle.run_sound.proofs.Members.{all_flat_of, all_map, each_of, of_each}
use Rattle.history_laws.specs.Counted.{IsTold, granted, held_of, returned}
use Rattle.history_laws.specs.Tells.{TellsDevice, TellsTree, hold_in, holders_in}
use Rattle.history_laws.proofs.LawsHold.{holds_is}
use Rattle.history_laws.proofs.Names.{HasNames, bytes_same, first_is, named_is, named_so, named_there, same_bytes, unnamed, world_names}
use Rattle.history_laws.proofs.Stands.{Stands, stands_always}
use Rattle.history_laws.proofs.Sums.{sum_zero}
use Rattle.history_laws.proofs.TreeCounts.{count_tree, one_alone, one_if}

-- ---- lists

sum_mapped : {A B : Type 0} (g : B → ℕ) (f : A → B) (xs : List A) → sum_by g (map f xs) ≡ sum_by (λ x. g (f x)) xs
sum_mapped g f [] = refl
sum_mapped g f (x ∷ xs) = omega (arith, sum_by-cons g (f x) (map f xs), sum_by-cons (λ x. g (f x)) x xs, sum_mapped g f xs)

filter_same : {A : Type 0} (p q : A → Bool) (xs : List A) → ((x : A) → p x ≡ q x) → filter p xs ≡ filter q xs
filter_same p q [] h = refl
filter_same p q (x ∷ xs) h = rw (h x, filter_same p q xs h) refl

map_same : {A B : Type 0} (f g : A → B) (xs : List A) → AllByRecursion (λ x. f x ≡ g x) xs → map f xs ≡ map g xs
map_same f g [] h = refl
map_same f g (x ∷ xs) h = rw (h.0, map_same f g xs h.1) refl

-- ---- who holds a device

holds_counts : (n c b : ℕ) → c ≡ n + b → nat_lt 0 n ≡ nat_lt b c
holds_counts n c b e = grind (arith, nat_tests, e)

told_holders : (h : List Event) (s : Setup) (live : List Dev) (refs : List Ref) (sole x : List ℕ) (d : Dev) → IsTold h s live refs sole x (Some d) → holds_on refs sole d.serial ≡ holders_in h x
unfolding holds_on holders_in
told_holders h s live refs sole x d t =
    map_same (hold_of refs sole d.serial) (hold_in h x) (filter (λ k. holds_in refs k d.serial) possible_holders)
    (each_of (λ k. hold_of refs sole d.serial k ≡ hold_in h x k) (filter (λ k. holds_in refs k d.serial) possible_holders) (λ k here.
    one k (of_each (λ k. holds_in refs k d.serial ≡ true) (filter (λ k. holds_in refs k d.serial) possible_holders) k (all_passing (λ k. holds_in refs k d.serial) possible_holders) here)))
    ∙ ap (map (hold_in h x)) (filter_same (λ k. holds_in refs k d.serial) (λ k. nat_lt (returned h k x) (granted h k x)) possible_holders
    (λ k. held_is_counted refs k d.serial ∙ holds_counts (count_in refs k d.serial) (granted h k x) (returned h k x) (t.held k)))
  where
    one : (k : ℕ) → holds_in refs k d.serial ≡ true → hold_of refs sole d.serial k ≡ hold_in h x k
    one k held =
        let count : granted h k x - returned h k x ≡ count_in refs k d.serial = omega (arith, t.held k) in
        let alone : sole_in h k x ≡ has sole d.serial = t.solely k ∙ rw held (both (has sole d.serial)) in
        rw (count, alone) refl
      where
        both : (b : Bool) → (b && true) ≡ b
        both true = refl
        both false = refl

-- ---- the lines

members : (live : List Dev) (n depth p : ℕ) → AllByRecursion (λ (e : ℕ × Dev). Contains live e.1) (tree_below n live depth p)
unfolding tree_below
members live zero depth p = tt
members live (suc n) depth p =
    all_flat_of (λ (e : ℕ × Dev). Contains live e.1) (Contains live) (λ d. (depth, d) ∷ tree_below n live (depth + 1) d.serial) (filter (λ d. d.parent == p) live)
    (λ d here. (here, members live n (depth + 1) d.serial)) (all_filter (Contains live) (λ d. d.parent == p) live (recursion_from_All (Contains live) live (All-contains_itself live)))

tells_device : (h : List Event) (w : World) (e : ℕ × Dev) → Stands h w → Contains w.live e.1 → TellsDevice h (dev_line w e)
tells_device h w e at here =
    let names : HasNames w.setup w.live w.next = world_names w at.may at.kept in
    let x : List ℕ = name_of w.setup e.1 in
    let found : device_named w.setup w.live x ≡ Some e.1 = named_is w.setup w.live x e.1 names.own here refl in
    let t : IsTold h w.setup w.live w.refs w.sole x (Some e.1) = rw found at (at.counted.names x) in
    record { lives = t.lives; parent = t.parent e.1 refl; asleep = t.asleep e.1 refl; holders = told_holders h w.setup w.live w.refs w.sole x e.1 t }

-- how many live devices have the name
count_named : (s : Setup) (live : List Dev) (low : ℕ) (x : List ℕ) → HasNames s live low → sum_by (λ d. one_if (bytes_eq (name_of s d) x)) live ≡ one_if (is_some (device_named s live x))
count_named s live low x names = cases (device_named s live x) refl
  where
    off : (c : Dev) → name_of s c ≢ x → one_if (bytes_eq (name_of s c) x) ≡ 0
    off c other = ap one_if (false_from_ne_true (bytes_eq (name_of s c) x) (λ on. other (bytes_same (name_of s c) x on)))

    cases : (o : Option Dev) → device_named s live x ≡ o → sum_by (λ d. one_if (bytes_eq (name_of s d) x)) live ≡ one_if (is_some o)
    cases None e = sum_zero (λ d. one_if (bytes_eq (name_of s d) x)) live (each_of (λ d. one_if (bytes_eq (name_of s d) x) ≡ 0) live (λ d here. off d (unnamed s live x d e here)))
    cases (Some d) e =
        one_alone s (λ c. one_if (bytes_eq (name_of s c) x)) live d names.apart (named_there s live x d e)
        (λ c here other. off c (λ is. other (ap (λ (a : Dev). a.serial) (first_is s live x d c names.own e here is))))
        ∙ ap one_if (same_bytes (name_of s d) x (named_so s live x d e))

-- only callers of scripts hold anything
held_by_script : (of : Setup) (refs : List Ref) (k s : ℕ) → AllByRecursion (λ r. IsOfScript of r.caller) refs → holds_in refs k s ≡ true → IsOfScript of k
held_by_script of [] k s all h = absurd cc
held_by_script of (r ∷ rs) k s all h = elim (or_cases (r.serial == s && r.caller == k) (holds_in rs k s) h) [
  | inl here ↦ subst (IsOfScript of) (eqb-true r.caller k (and_parts (r.serial == s) (r.caller == k) here).1) all.0
  | inr more ↦ held_by_script of rs k s all.1 more
]

nobody_else : (h : List Event) (w : World) (k : ℕ) (x : List ℕ) → Stands h w → (k ≡ 0) ⊎ (16 < k) → holds h k x ≡ pos 0
nobody_else h w k x at other = holds_is h w k x at ∙ ap pos (cases (device_named w.setup w.live x))
  where
    outside : IsOfScript w.setup k → ⊥
    outside of = elim other [ inl none ↦ absurd (omega (arith, of.0, none)) | inr great ↦ absurd (omega (arith, of.1, at.may.few_scripts, great)) ]

    cases : (o : Option Dev) → held_of w.refs k o ≡ 0
    cases None = refl
    cases (Some d) = not_held_counts w.refs k d.serial (false_from_ne_true (holds_in w.refs k d.serial) (λ on. outside (held_by_script w.setup w.refs k d.serial at.kept.ranges.callers.holders on)))

pub tells_tree : (h : List Event) (w : World) → Stands h w → TellsTree h (tree_lines w)
unfolding tree_lines
tells_tree h w at =
    let names : HasNames w.setup w.live w.next = world_names w at.may at.kept in
    let shown : List (ℕ × Dev) = tree_below (length w.live) w.live 0 0 in
    record {
      each = all_map (TellsDevice h) (λ (e : ℕ × Dev). Contains w.live e.1) (dev_line w) shown (λ e here. tells_device h w e at here) (members w.live (length w.live) 0 0);
      once = λ x. sum_mapped (λ (l : DevLine). one_if (bytes_eq l.name x)) (dev_line w) shown
          ∙ count_tree w.setup w.live w.next names.apart names.placed (λ d. bytes_eq (name_of w.setup d) x)
          ∙ count_named w.setup w.live w.next x names ∙ ap one_if (sym (at.counted.names x).lives);
      nobody_else = λ k x other. nobody_else h w k x at other;
    }

pub tree_always : (s : Setup) (h : List Event) (v : World) → MayRun s → Run (opening s) h v → TellsTree h (tree_lines v)
tree_always s h v may run = tells_tree h v (stands_always s h v may run)
