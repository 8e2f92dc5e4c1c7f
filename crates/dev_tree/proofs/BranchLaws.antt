-- Children in lists, one device after the other.
use Rattle.std.proofs.Common.{◌≡◌, ◌≢◌, ℕ, zero, suc, ◌+◌, ◌<◌, Bool, true, false, ◌||◌, ◌==◌, List, [], ◌∷◌, ◌++◌, length, get_or, take, refl, ap, sym, ◌∙◌, eq-eqb, add-one, arith}
use Rattle.std.specs.Prelude.{IsTrue, slice_set}
use Rattle.std.specs.List.{AllByRecursion}
use Rattle.std.proofs.Math.Seq.{take-suc}
use Rattle.std.proofs.lemmas.Bool.{eqb-true, eqb-false, ne_eqb}
use Rattle.std.proofs.lemmas.List.{append-nil, get_or-set_same, get_or-set_other, length-set}
use Rattle.std.proofs.lemmas.List.Elements.{filter-append}
use Rattle.run_rules.specs.declared.world.Dev.{Dev}
use Rattle.run_rules.specs.World.{children, is_live}
use Rattle.run_rules.specs.Sound.{EachLater, IsPlaced}
use Rattle.dev_tree.specs.Branching.{Branching, AreBranchesIn}
use Rattle.run_rules.proofs.Order.{all_at}

-- ---- one child more

pub child_more : (xs : List Dev) (d : Dev) (p : ℕ) → d.parent ≡ p → children (xs ++ d ∷ []) p ≡ children xs p ++ d ∷ []
child_more xs d p e = let here : (d.parent == p) ≡ true = eq-eqb d.parent p e in rw (filter-append (λ x. x.parent == p) xs (d ∷ []), here) refl

pub child_other : (xs : List Dev) (d : Dev) (p : ℕ) → d.parent ≢ p → children (xs ++ d ∷ []) p ≡ children xs p
child_other xs d p ne =
    let other : (d.parent == p) ≡ false = ne_eqb d.parent p ne in
    rw (filter-append (λ x. x.parent == p) xs (d ∷ []), other, append-nil (children xs p)) refl

pub next_of : (live : List Dev) (i : ℕ) (d : Dev) → i < length live → take (i + 1) live ≡ take i live ++ get_or live i d ∷ []
next_of live i d lt = rw add-one (take-suc live i d lt)

-- ---- who lives

-- no place has the serial of a device that does not live
pub not_there : (ds : List Dev) (s i : ℕ) (x : Dev) → is_live ds s ≡ false → i < length ds → (get_or ds i x).serial ≢ s
not_there [] s i x h lt = absurd (omega arith)
not_there (d ∷ ds) s i x h lt = cases (d.serial == s) refl h i lt (λ k gone less. not_there ds s k x gone less)
  where
    cases : (b : Bool) → (d.serial == s) ≡ b → (b || is_live ds s) ≡ false → (k : ℕ) → k < length (d ∷ ds)
        → ((k : ℕ) → is_live ds s ≡ false → k < length ds → (get_or ds k x).serial ≢ s) → (get_or (d ∷ ds) k x).serial ≢ s
    cases true e gone k less more = absurd cc
    cases false e gone zero less more = eqb-false d.serial s e
    cases false e gone (suc k) less more = more k gone (omega arith)

-- two places have two serials
pub apart_at : (ds : List Dev) (i j : ℕ) (x : Dev) → EachLater (λ d e. d.serial < e.serial) ds → i < length ds → j < length ds → i ≢ j → (get_or ds i x).serial ≢ (get_or ds j x).serial
apart_at [] i j x h lt end ne = absurd (omega arith)
apart_at (d ∷ ds) zero zero x h lt end ne = absurd (ne refl)
apart_at (d ∷ ds) zero (suc j) x h lt end ne =
    let low : d.serial < (get_or ds j x).serial = all_at (λ e. d.serial < e.serial) ds j x h.0 (omega arith) in
    λ e. absurd (omega arith)
apart_at (d ∷ ds) (suc i) zero x h lt end ne =
    let low : d.serial < (get_or ds i x).serial = all_at (λ e. d.serial < e.serial) ds i x h.0 (omega arith) in
    λ e. absurd (omega arith)
apart_at (d ∷ ds) (suc i) (suc j) x h lt end ne = apart_at ds i j x h.1 (omega arith) (omega arith) (λ e. ne (ap (λ n. suc n) e))

-- what does not live has no children
pub no_children : (live ds : List Dev) (next s : ℕ) → s ≢ 0 → is_live live s ≡ false → AllByRecursion (IsPlaced live next) ds → children ds s ≡ []
no_children live [] next s some gone h = refl
no_children live (d ∷ ds) next s some gone h =
    let other : (d.parent == s) ≡ false = ne_eqb d.parent s (λ e. stays e (d.parent == 0) refl (h.0.parent_live)) in
    rw other (no_children live ds next s some gone h.1)
  where
    stays : d.parent ≡ s → (b : Bool) → (d.parent == 0) ≡ b → IsTrue (b || is_live live d.parent) → ⊥
    stays e true k t = some (sym e ∙ eqb-true d.parent 0 k)
    stays e false k t = let lives : is_live live d.parent ≡ false = ap (is_live live) e ∙ gone in let no : false ≡ true = rw lives at t in absurd cc

-- ---- the lists

pub listed_root : (live listed : List Dev) (old : Branching) (d : Dev) → EachLater (λ d e. d.serial < e.serial) live → AllByRecursion (λ d. 0 < d.serial) live
    → d.parent ≡ 0 → AreBranchesIn live listed old → AreBranchesIn live (listed ++ d ∷ []) (record { top = old.top ++ d ∷ []; lists = old.lists })
listed_root live listed old d later above e h = record {
  count = h.count;
  root = ap (λ xs. xs ++ d ∷ []) h.root ∙ sym (child_more listed d 0 e);
  each = λ i x lt.
      let low : 0 < (get_or live i x).serial = all_at (λ e. 0 < e.serial) live i x above lt in
      h.each i x lt ∙ sym (child_other listed d (get_or live i x).serial (λ is. absurd (omega arith)));
}

pub listed_at : (live listed : List Dev) (old : Branching) (d : Dev) (place : ℕ) (list : List Dev) → EachLater (λ d e. d.serial < e.serial) live
    → d.parent ≢ 0 → place < length live → ((x : Dev) → (get_or live place x).serial ≡ d.parent) → list ≡ get_or old.lists place [] ++ d ∷ []
    → AreBranchesIn live listed old → AreBranchesIn live (listed ++ d ∷ []) (record { top = old.top; lists = slice_set old.lists place list })
listed_at live listed old d place list later ne lt at more h =
    let within : place < length old.lists = omega (arith, h.count) in
    record {
      count = length-set old.lists place list ∙ h.count;
      root = h.root ∙ sym (child_other listed d 0 ne);
      each = λ i x end. cases i x end (i == place) refl;
    }
  where
    cases : (i : ℕ) (x : Dev) → i < length live → (b : Bool) → (i == place) ≡ b → get_or (slice_set old.lists place list) i [] ≡ children (listed ++ d ∷ []) (get_or live i x).serial
    cases i x end true e =
        let is : i ≡ place = eqb-true i place e in
        let same : (get_or live i x).serial ≡ d.parent = ap (λ k. (get_or live k x).serial) is ∙ at x in
        ap (λ k. get_or (slice_set old.lists place list) k []) is ∙ get_or-set_same old.lists place list [] (omega (arith, h.count))
        ∙ more ∙ ap (λ xs. xs ++ d ∷ []) (h.each place x lt ∙ ap (children listed) (ap (λ k. (get_or live k x).serial) (sym is)))
        ∙ sym (child_more listed d (get_or live i x).serial (sym same))
    cases i x end false e =
        let ne_place : i ≢ place = eqb-false i place e in
        get_or-set_other old.lists place i list [] ne_place ∙ h.each i x end
        ∙ sym (child_other listed d (get_or live i x).serial (λ is. apart_at live i place x later end lt ne_place (sym (at x ∙ is))))

pub listed_nowhere : (live listed : List Dev) (old : Branching) (d : Dev) → d.parent ≢ 0 → is_live live d.parent ≡ false
    → AreBranchesIn live listed old → AreBranchesIn live (listed ++ d ∷ []) old
listed_nowhere live listed old d ne gone h = record {
  count = h.count;
  root = h.root ∙ sym (child_other listed d 0 ne);
  each = λ i x lt. h.each i x lt ∙ sym (child_other listed d (get_or live i x).serial (λ is. not_there live d.parent i x gone lt (sym is)));
}
