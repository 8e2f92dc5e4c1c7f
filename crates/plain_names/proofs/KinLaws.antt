-- Live devices by their parents: one device more; and what is below a parent, child by child.
use Rattle.std.proofs.Common.{◌≡◌, ℕ, zero, suc, ◌+◌, ◌-◌, ◌<◌, ◌%◌, Bool, true, false, ◌==◌, List, [], ◌∷◌, ◌++◌, length, flat_map, take, get_or, slice_set, refl, sym, ◌∙◌, ap, append_assoc, arith, add-one, eq-eqb}
use Rattle.std.specs.Global.{Global}
use Rattle.std.specs.List.{slice_index_or}
use Rattle.std.specs.Prelude.{Vec}
use Rattle.std.proofs.Math.Seq.{take-suc}
use Rattle.std.proofs.lemmas.Bool.{eqb-true, false≢true, false_from_ne_true}
use Rattle.std.proofs.lemmas.Grind.{flat_map-append}
use Rattle.std.proofs.lemmas.List.{append-nil, get_or-set_other, get_or-set_same, length-append, length-map, length-set, map-append, take_all}
use Rattle.std.proofs.lemmas.List.Elements.{filter-append}
use Rattle.run_rules.specs.declared.world.Dev.{Dev}
use Rattle.run_rules.specs.Tree.{tree_below}
use Rattle.run_rules.specs.World.{children}
use Rattle.plain_names.specs.Kin.{AreEmpty, HasDevice, HaveChildren, list_for, lists_of}

-- ---- lists without devices

more_empty : (lists : List (List Dev)) (k : ℕ) → ◌≡◌ {A = List Dev} (slice_index_or (lists ++ [] ∷ []) k []) (slice_index_or lists k [])
more_empty [] zero = refl
more_empty [] (suc k) = refl
more_empty (l ∷ lists) zero = refl
more_empty (l ∷ lists) (suc k) = more_empty lists k

pub empty_more : (n : ℕ) (lists new : List (Vec Dev Global)) (list : Vec Dev Global) → new ≡ lists ++ list ∷ [] → list.items ≡ [] → AreEmpty n lists → AreEmpty (n + 1) new
empty_more n lists new list more e empty = record {
  count = omega (arith, ap length more, length-append lists (list ∷ []), empty.count);
  none = λ k.
      ap (λ ls. slice_index_or (lists_of ls) k []) more ∙ ap (λ ls. slice_index_or ls k []) (map-append (λ (v : Vec Dev Global). v.items) lists (list ∷ []))
      ∙ ap (λ (xs : List Dev). slice_index_or (lists_of lists ++ xs ∷ []) k []) e ∙ more_empty (lists_of lists) k ∙ empty.none k;
}

-- ---- one device more

lists_set : (lists : List (Vec Dev Global)) (i : ℕ) (list : Vec Dev Global) → lists_of (slice_set lists i list) ≡ slice_set (lists_of lists) i list.items
lists_set [] i list = refl
lists_set (l ∷ lists) zero list = refl
lists_set (l ∷ lists) (suc i) list = ap (λ ls. l.items ∷ ls) (lists_set lists i list)

other_child : (d : Dev) (p : ℕ) → (d.parent ≡ p → ⊥) → children (d ∷ []) p ≡ []
other_child d p other = let no : (d.parent == p) ≡ false = false_from_ne_true (d.parent == p) (λ is. other (eqb-true d.parent p is)) in rw no refl

pub device_more : (old : List (Vec Dev Global)) (k : ℕ) (d : Dev) (list : Vec Dev Global) → k < length old → k ≡ d.parent % length old
    → list.items ≡ get_or (lists_of old) k [] ++ d ∷ [] → HasDevice old (slice_set old k list) d
device_more old k d list lt place more = record { count = size; all = λ p. by p (k == (p % length old)) refl }
  where
    new : List (Vec Dev Global)
    new = slice_set old k list

    size : length new ≡ length old
    size = length-set old k list

    is : (p : ℕ) → list_for new p ≡ get_or (slice_set (lists_of old) k list.items) (p % length old) []
    is p = ap (λ n. get_or (lists_of new) (p % n) []) size ∙ ap (λ ls. get_or ls (p % length old) []) (lists_set old k list)

    same : (p : ℕ) → k ≡ p % length old → list_for new p ≡ list_for old p ++ d ∷ []
    same p e =
        is p ∙ ap (λ i. get_or (slice_set (lists_of old) k list.items) i []) (sym e)
        ∙ get_or-set_same (lists_of old) k list.items [] (omega (arith, length-map old (λ (v : Vec Dev Global). v.items), lt))
        ∙ more ∙ ap (λ i. get_or (lists_of old) i [] ++ d ∷ []) e

    by : (p : ℕ) (b : Bool) → (k == (p % length old)) ≡ b → children (list_for new p) p ≡ children (list_for old p) p ++ children (d ∷ []) p
    by p true e = ap (λ xs. children xs p) (same p (eqb-true k (p % length old) e)) ∙ filter-append (λ x. x.parent == p) (list_for old p) (d ∷ [])
    by p false e =
        let apart : k ≡ p % length old → ⊥ = λ q. false≢true (sym e ∙ eq-eqb k (p % length old) q) in
        ap (λ xs. children xs p) (is p ∙ get_or-set_other (lists_of old) k (p % length old) list.items [] (λ q. apart (sym q)))
        ∙ sym (append-nil (children (list_for old p) p))
        ∙ ap (λ xs. children (list_for old p) p ++ xs) (sym (other_child d p (λ q. apart (place ∙ ap (λ i. i % length old) q))))

pub none_yet : (n : ℕ) (lists : List (Vec Dev Global)) → AreEmpty (n + 1) lists → HaveChildren [] lists
none_yet n lists empty = record { some = omega (arith, empty.count); all = λ p. ap (λ xs. children xs p) (empty.none (p % length lists)) }

next_of : (xs : List Dev) (i : ℕ) (d : Dev) → i < length xs → take (i + 1) xs ≡ take i xs ++ get_or xs i d ∷ []
next_of xs i d lt = rw add-one (take-suc xs i d lt)

pub one_more : (live : List Dev) (i : ℕ) (d : Dev) (old new : List (Vec Dev Global)) → i < length live → HaveChildren (take i live) old → HasDevice old new (get_or live i d)
    → HaveChildren (take (i + 1) live) new
one_more live i d old new lt have more = record {
  some = omega (arith, have.some, more.count);
  all = λ p.
      more.all p ∙ ap (λ xs. xs ++ children (get_or live i d ∷ []) p) (have.all p) ∙ sym (filter-append (λ x. x.parent == p) (take i live) (get_or live i d ∷ []))
      ∙ ap (λ xs. children xs p) (sym (next_of live i d lt));
}

-- ---- what is below a parent

pub no_level : (live : List Dev) (n depth p : ℕ) (before : List (ℕ × Dev)) → n ≡ 0 → before ≡ before ++ tree_below n live depth p
unfolding tree_below
no_level live n depth p before e = rw e (sym (append-nil before))

one_level : (n : ℕ) (live : List Dev) (depth p : ℕ) → 0 < n → flat_map (λ d. (depth, d) ∷ tree_below (n - 1) live (depth + 1) d.serial) (children live p) ≡ tree_below n live depth p
unfolding tree_below
one_level zero live depth p low = absurd (omega arith)
one_level (suc n) live depth p low = let e : suc n - 1 ≡ n = omega arith in rw e refl

-- the children of p among the first i of some devices, each with what is below it
abbrev pub told_of : List Dev → List Dev → ℕ → ℕ → ℕ → ℕ → List (ℕ × Dev)
told_of near live n depth p i = flat_map (λ d. (depth, d) ∷ tree_below (n - 1) live (depth + 1) d.serial) (children (take i near) p)

child : (xs : List Dev) (d : Dev) (p : ℕ) → d.parent ≡ p → children (xs ++ d ∷ []) p ≡ children xs p ++ d ∷ []
child xs d p e = let here : (d.parent == p) ≡ true = eq-eqb d.parent p e in rw (filter-append (λ x. x.parent == p) xs (d ∷ []), here) refl

other : (xs : List Dev) (d : Dev) (p : ℕ) → (d.parent ≡ p → ⊥) → children (xs ++ d ∷ []) p ≡ children xs p
other xs d p e = rw (filter-append (λ x. x.parent == p) xs (d ∷ []), other_child d p e) (append-nil (children xs p))

told_snoc : (h : Dev → List (ℕ × Dev)) (xs : List Dev) (d : Dev) → flat_map h (xs ++ d ∷ []) ≡ flat_map h xs ++ h d
told_snoc h xs d = rw (flat_map-append h xs (d ∷ []), append-nil (h d)) refl

pub told_child : (near live : List Dev) (n depth p i : ℕ) (d : Dev) → i < length near → (get_or near i d).parent ≡ p
    → told_of near live n depth p (i + 1)
    ≡ told_of near live n depth p i ++ (depth, get_or near i d) ∷ tree_below (n - 1) live (depth + 1) (get_or near i d).serial
told_child near live n depth p i d lt e =
    rw (next_of near i d lt, child (take i near) (get_or near i d) p e) (told_snoc (λ x. (depth, x) ∷ tree_below (n - 1) live (depth + 1) x.serial) (children (take i near) p) (get_or near i d))

pub told_other : (near live : List Dev) (n depth p i : ℕ) (d : Dev) → i < length near → ((get_or near i d).parent ≡ p → ⊥)
    → told_of near live n depth p (i + 1) ≡ told_of near live n depth p i
told_other near live n depth p i d lt e = rw (next_of near i d lt, other (take i near) (get_or near i d) p e) refl

pub lines_on : (before before' pushed all : List (ℕ × Dev)) (x : ℕ × Dev) (more told : List (ℕ × Dev))
    → all ≡ pushed ++ more → pushed ≡ before' ++ x ∷ [] → before' ≡ before ++ told → all ≡ before ++ (told ++ x ∷ more)
lines_on before before' pushed all x more told a b c = rw (a, b, c, append_assoc before told (x ∷ []), append_assoc before (told ++ x ∷ []) more, append_assoc told (x ∷ []) more) refl

pub told_whole : (near live : List Dev) (n depth p i : ℕ) → (n ≡ 0 → ⊥) → i ≡ length near → children near p ≡ children live p → told_of near live n depth p i ≡ tree_below n live depth p
told_whole near live n depth p i some e same =
    rw (e, take_all (length near) near (omega arith), same) (one_level n live depth p (omega arith))
