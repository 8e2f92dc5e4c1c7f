-- What is told of the devices below a parent, device by device.
use Rattle.std.proofs.Common.{◌≡◌, ℕ, zero, suc, ◌+◌, ◌-◌, ◌<◌, true, false, ◌==◌, List, [], ◌∷◌, ◌++◌, map, flat_map, length, refl, sym, ap, append_assoc, arith}
use Rattle.std.proofs.Common.{take, get_or, add-one, eq-eqb}
use Rattle.std.proofs.Math.Seq.{take-suc}
use Rattle.std.proofs.lemmas.Bool.{eqb-true, false_from_ne_true}
use Rattle.std.proofs.lemmas.List.{append-nil, map-append, take_all}
use Rattle.std.proofs.lemmas.List.Elements.{filter-append}
use Rattle.std.proofs.lemmas.Grind.{flat_map-append}
use Rattle.run_rules.specs.declared.world.Dev.{Dev}
use Rattle.run_rules.specs.World.{children}
use Rattle.run_rules.specs.Tree.{tree_below}

-- no level, no line
pub no_level : {A : Type 0} (f : ℕ × Dev → A) (live : List Dev) (n depth p : ℕ) (before : List A) → n ≡ 0 → before ≡ before ++ map f (tree_below n live depth p)
unfolding tree_below
no_level f live n depth p before e = rw e (sym (append-nil before))

-- a level is the children, each with what stands below it
one_level : (n : ℕ) (live : List Dev) (depth p : ℕ) → 0 < n → flat_map (λ d. (depth, d) ∷ tree_below (n - 1) live (depth + 1) d.serial) (children live p) ≡ tree_below n live depth p
unfolding tree_below
one_level zero live depth p low = absurd (omega arith)
one_level (suc n) live depth p low = let e : suc n - 1 ≡ n = omega arith in rw e refl

-- what the devices before place i tell of the children of p
abbrev pub told_of : {A : Type 0} → (ℕ × Dev → A) → List Dev → ℕ → ℕ → ℕ → ℕ → List A
told_of f live n depth p i = map f (flat_map (λ d. (depth, d) ∷ tree_below (n - 1) live (depth + 1) d.serial) (children (take i live) p))

children_more : (xs : List Dev) (d : Dev) (p : ℕ) → d.parent ≡ p → children (xs ++ d ∷ []) p ≡ children xs p ++ d ∷ []
children_more xs d p e = let here : (d.parent == p) ≡ true = eq-eqb d.parent p e in rw (filter-append (λ x. x.parent == p) xs (d ∷ []), here) refl

children_other : (xs : List Dev) (d : Dev) (p : ℕ) → (d.parent ≡ p → ⊥) → children (xs ++ d ∷ []) p ≡ children xs p
children_other xs d p e =
    let other : (d.parent == p) ≡ false = false_from_ne_true (d.parent == p) (λ is. e (eqb-true d.parent p is)) in
    rw (filter-append (λ x. x.parent == p) xs (d ∷ []), other, append-nil (children xs p)) refl

next_of : (live : List Dev) (i : ℕ) (d : Dev) → i < length live → take (i + 1) live ≡ take i live ++ get_or live i d ∷ []
next_of live i d lt = rw add-one (take-suc live i d lt)

told_snoc : {A : Type 0} (f : ℕ × Dev → A) (h : Dev → List (ℕ × Dev)) (xs : List Dev) (d : Dev) → map f (flat_map h (xs ++ d ∷ [])) ≡ map f (flat_map h xs) ++ map f (h d)
told_snoc f h xs d = rw (flat_map-append h xs (d ∷ []), append-nil (h d), map-append f (flat_map h xs) (h d)) refl

pub told_child : {A : Type 0} (f : ℕ × Dev → A) (live : List Dev) (n depth p i : ℕ) (d : Dev) → i < length live → (get_or live i d).parent ≡ p
    → told_of f live n depth p (i + 1)
    ≡ told_of f live n depth p i ++ f (depth, get_or live i d) ∷ map f (tree_below (n - 1) live (depth + 1) (get_or live i d).serial)
told_child f live n depth p i d lt e =
    rw (next_of live i d lt, children_more (take i live) (get_or live i d) p e) (told_snoc f (λ x. (depth, x) ∷ tree_below (n - 1) live (depth + 1) x.serial) (children (take i live) p) (get_or live i d))

pub told_other : {A : Type 0} (f : ℕ × Dev → A) (live : List Dev) (n depth p i : ℕ) (d : Dev) → i < length live → ((get_or live i d).parent ≡ p → ⊥)
    → told_of f live n depth p (i + 1) ≡ told_of f live n depth p i
told_other f live n depth p i d lt e = rw (next_of live i d lt, children_other (take i live) (get_or live i d) p e) refl

pub lines_on : {A : Type 0} (before before' pushed all : List A) (x : A) (more told : List A)
    → all ≡ pushed ++ more → pushed ≡ before' ++ x ∷ [] → before' ≡ before ++ told → all ≡ before ++ (told ++ x ∷ more)
lines_on before before' pushed all x more told a b c = rw (a, b, c, append_assoc before told (x ∷ []), append_assoc before (told ++ x ∷ []) more, append_assoc told (x ∷ []) more) refl

pub told_whole : {A : Type 0} (f : ℕ × Dev → A) (live : List Dev) (n depth p i : ℕ) → (n ≡ 0 → ⊥) → i ≡ length live → told_of f live n depth p i ≡ map f (tree_below n live depth p)
told_whole f live n depth p i some e = rw (e, take_all (length live) live (omega arith)) (ap (map f) (one_level n live depth p (omega arith)))
