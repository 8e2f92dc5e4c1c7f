-- What a walk down the tree tells, child by child.
use Rattle.std.proofs.Common.{◌≡◌, ℕ, zero, suc, ◌+◌, ◌-◌, ◌<◌, ◌≤◌, ◌==◌, List, [], ◌∷◌, ◌++◌, map, flat_map, length, take, get_or, add-one, refl, sym, ap, subst, arith}
use Rattle.std.specs.List.{AllByRecursion}
use Rattle.std.proofs.Math.Seq.{take-suc}
use Rattle.std.proofs.lemmas.List.{append-nil, map-append, take_all}
use Rattle.std.proofs.lemmas.Grind.{flat_map-append}
use Rattle.run_rules.specs.declared.world.Dev.{Dev}
use Rattle.run_rules.specs.World.{children}
use Rattle.run_rules.specs.Tree.{tree_below}
use Rattle.run_rules.proofs.Each.{all_filter}

-- what some devices tell, each with what stands below it
abbrev pub told_among : {A : Type 0} → (ℕ × Dev → A) → List Dev → ℕ → ℕ → List Dev → List A
told_among f live n depth kids = map f (flat_map (λ d. (depth, d) ∷ tree_below (n - 1) live (depth + 1) d.serial) kids)

snoc_told : {A : Type 0} (f : ℕ × Dev → A) (live : List Dev) (n depth : ℕ) (kids : List Dev) (d : Dev)
    → told_among f live n depth (kids ++ d ∷ []) ≡ told_among f live n depth kids ++ f (depth, d) ∷ map f (tree_below (n - 1) live (depth + 1) d.serial)
snoc_told f live n depth kids d =
    let h : Dev → List (ℕ × Dev) = λ x. (depth, x) ∷ tree_below (n - 1) live (depth + 1) x.serial in
    rw (flat_map-append h kids (d ∷ []), append-nil (h d), map-append f (flat_map h kids) (h d)) refl

pub among_more : {A : Type 0} (f : ℕ × Dev → A) (live : List Dev) (n depth : ℕ) (kids : List Dev) (i : ℕ) (d : Dev) → i < length kids
    → told_among f live n depth (take (i + 1) kids)
    ≡ told_among f live n depth (take i kids) ++ f (depth, get_or kids i d) ∷ map f (tree_below (n - 1) live (depth + 1) (get_or kids i d).serial)
among_more f live n depth kids i d lt =
    let e : take (i + 1) kids ≡ take i kids ++ get_or kids i d ∷ [] = rw add-one (take-suc kids i d lt) in
    rw e (snoc_told f live n depth (take i kids) (get_or kids i d))

one_level : (n : ℕ) (live : List Dev) (depth p : ℕ) → 0 < n → flat_map (λ d. (depth, d) ∷ tree_below (n - 1) live (depth + 1) d.serial) (children live p) ≡ tree_below n live depth p
unfolding tree_below
one_level zero live depth p low = absurd (omega arith)
one_level (suc n) live depth p low = let e : suc n - 1 ≡ n = omega arith in rw e refl

pub among_whole : {A : Type 0} (f : ℕ × Dev → A) (live : List Dev) (n depth p i : ℕ) (kids : List Dev) → (n ≡ 0 → ⊥) → kids ≡ children live p → length kids ≤ i
    → told_among f live n depth (take i kids) ≡ map f (tree_below n live depth p)
among_whole f live n depth p i kids some is all =
    rw (take_all i kids all, is) (ap (map f) (one_level n live depth p (omega arith)))

at_each : (P : Dev → Type 0) (ds : List Dev) (i : ℕ) (x : Dev) → AllByRecursion P ds → i < length ds → P (get_or ds i x)
at_each P [] i x h lt = absurd (omega arith)
at_each P (d ∷ ds) zero x h lt = h.0
at_each P (d ∷ ds) (suc i) x h lt = at_each P ds i x h.1 (omega arith)

-- what each device has each child has
pub child_has : (P : Dev → Type 0) (live kids : List Dev) (p i : ℕ) (x : Dev) → AllByRecursion P live → kids ≡ children live p → i < length kids → P (get_or kids i x)
child_has P live kids p i x h is lt = at_each P kids i x (subst (AllByRecursion P) (sym is) (all_filter P (λ d. d.parent == p) live h)) lt
