-- The tree below the root has each live device once.
use Rattle.std.proofs.Common.{◌≡◌, ◌≢◌, ◌⊎◌, ℕ, zero, suc, ◌+◌, ◌<◌, ◌≤◌, ◌==◌, Bool, true, false, ◌&&◌, ◌||◌, cond, List, [], ◌∷◌, length, nat_le, refl, sym, ap, ◌∙◌, subst, inl, inr, eqb-true, eq-eqb, arith}
use Rattle.std.specs.Prelude.{filter, sum_by}
use Rattle.std.specs.List.{AllByRecursion, Contains}
use Rattle.std.proofs.lemmas.Bool.{eqb-false, false_from_ne_true, le-leb, ne_eqb, or_cases, or_right}
use Rattle.std.proofs.lemmas.List.Sums.{sum_by-cons}
use Rattle.run_rules.specs.declared.world.Dev.{Dev}
use Rattle.run_rules.specs.declared.world.Setup.{Setup}
use Rattle.run_rules.specs.World.{has, is_live, lineage, parent_of}
use Rattle.run_rules.specs.Sound.{EachLater, IsApart, IsPlaced}
use Rattle.run_rules.specs.Tree.{tree_below}
use Rattle.run_rules.proofs.Devices.{all_imp}
use Rattle.run_sound.proofs.Members.{each_of, live_contained, of_each}
use Rattle.run_sound.proofs.Trees.{AreRising, chain_low, child_rises, fewer_pass, parent_is, parent_low, rank, rank_low, rank_parent}
use Rattle.history_laws.proofs.Sums.{sum_both, sum_lists, sum_part, sum_same, sum_swap, sum_zero, zeros}

abbrev pub one_if : Bool → ℕ
one_if b = cond b 1 0

-- where only the device itself counts, the sum is what it counts
pub one_alone : (s : Setup) (f : Dev → ℕ) (live : List Dev) (d : Dev) → EachLater (IsApart s) live → Contains live d → ((c : Dev) → Contains live c → c.serial ≢ d.serial → f c ≡ 0) → sum_by f live ≡ f d
one_alone s f [] d apart (i, within, at) none = absurd (omega arith)
one_alone s f (c ∷ cs) d apart (zero, within, at) none =
    let rest : sum_by f cs ≡ 0 = sum_zero f cs (each_of (λ e. f e ≡ 0) cs (λ e here.
    none e (suc here.0, omega (arith, here.1), here.2) (λ same. absurd (omega (arith, same, ap (λ (x : Dev). x.serial) at, (of_each (IsApart s c) cs e apart.0 here).later))))) in
    omega (arith, sum_by-cons f c cs, rest, ap f at)
one_alone s f (c ∷ cs) d apart (suc i, within, at) none =
    let here : Contains cs d = (i, omega arith, at) in
    let first : f c ≡ 0 = none c (0, omega arith, refl) (λ same. absurd (omega (arith, same, (of_each (IsApart s c) cs d apart.0 here).later))) in
    omega (arith, sum_by-cons f c cs, first, one_alone s f cs d apart.1 here (λ e there. none e (suc there.0, omega (arith, there.1), there.2)))

module _ (s : Setup) (live : List Dev) (low : ℕ) (apart : EachLater (IsApart s) live) (placed : AllByRecursion (IsPlaced live low) live) where
  up : AreRising live
  up = all_imp (IsPlaced live low) (λ d. d.parent < d.serial) (λ d p. p.after_parent) live placed

  -- 0, or of a live device
  abbrev Known : ℕ → Type 0
  Known x = (x ≡ 0) ⊎ (is_live live x ≡ true)

  parent_known : (d : Dev) → Contains live d → Known d.parent
  parent_known d here = elim (or_cases (d.parent == 0) (is_live live d.parent) (of_each (IsPlaced live low) live d placed here).parent_live) [ inl root ↦ inl (eqb-true d.parent 0 root) | inr lives ↦ inr lives ]

  -- ---- the root is reached

  reached : (n x : ℕ) → Known x → rank live x ≤ n → has (lineage (suc n) live x) 0 ≡ true
  unfolding lineage
  reached n x (inl root) most = ap (λ (b : Bool). b || has (lineage n live (parent_of live x)) 0) (eq-eqb x 0 root)
  reached zero x (inr lives) most =
      let one = live_contained live x lives in
      let some : length (filter (λ d. false) live) < rank live x =
      fewer_pass (λ d. false) (λ d. nat_le d.serial x) live one.1.0 one.0 (λ d k. absurd cc) refl (le-leb one.0.serial x (omega (arith, one.2))) one.1.1 one.1.2 in
      absurd (omega (arith, some, most))
  reached (suc n) x (inr lives) most =
      let one = live_contained live x lives in
      let parent : parent_of live x ≡ one.0.parent = ap (parent_of live) (sym one.2) ∙ parent_is s live one.0 apart one.1 in
      or_right (x == 0) (has (lineage (suc n) live (parent_of live x)) 0)
      (reached n (parent_of live x) (subst Known (sym parent) (parent_known one.0 one.1)) (rank_parent live x n up most))

  -- from each device in as many steps as there are devices
  above_all : (d : Dev) → Contains live d → has (lineage (length live) live d.parent) 0 ≡ true
  above_all d here = steps (length live) refl
    where
      steps : (n : ℕ) → length live ≡ n → has (lineage n live d.parent) 0 ≡ true
      steps zero e = absurd (omega (arith, e, here.1))
      steps (suc n) e =
          let fewer : rank live (parent_of live d.serial) ≤ n = rank_parent live d.serial n up (omega (arith, e, rank_low live d.serial)) in
          reached n d.parent (parent_known d here) (rw (parent_is s live d apart here) at fewer)

  -- ---- how often a chain of parents leads through a child of p

  module _ (p : ℕ) where
    abbrev child_in : ℕ → ℕ → Dev → ℕ
    child_in n x c = cond (c.parent == p) (one_if (has (lineage n live x) c.serial)) 0

    abbrev through : ℕ → ℕ → ℕ
    through n x = sum_by (child_in n x) live

    -- none where the chain stays below all such children
    none_through : (n x : ℕ) → ((c : Dev) → Contains live c → c.parent ≡ p → has (lineage n live x) c.serial ≡ false) → through n x ≡ 0
    none_through n x off = sum_zero (child_in n x) live (each_of (λ c. child_in n x c ≡ 0) live (λ c here. cases c here (c.parent == p) refl))
      where
        cases : (c : Dev) → Contains live c → (b : Bool) → (c.parent == p) ≡ b → cond b (one_if (has (lineage n live x) c.serial)) 0 ≡ 0
        cases c here true same = ap one_if (off c here (eqb-true c.parent p same))
        cases c here false other = refl

    -- a chain from p or from the root
    low_through : (n x : ℕ) → x ≤ p → through n x ≡ 0
    low_through n x low = none_through n x (λ c here same. false_from_ne_true (has (lineage n live x) c.serial) (λ on. absurd (omega (arith, chain_low live c.serial n x up on, child_rises live c up here, same, low))))

    -- one step of a chain
    one_through : (n x : ℕ) → is_live live x ≡ true → through (suc n) x ≡ one_if (parent_of live x == p) + through n (parent_of live x)
    unfolding lineage
    one_through n x lives =
        let one = live_contained live x lives in
        let d : Dev = one.0 in
        let parent : parent_of live x ≡ d.parent = ap (parent_of live) (sym one.2) ∙ parent_is s live d apart one.1 in
        sum_same (child_in (suc n) x) (λ c. own c + child_in n (parent_of live x) c) live (each_of (λ c. child_in (suc n) x c ≡ own c + child_in n (parent_of live x) c) live (λ c here. apart_steps c here (x == c.serial) refl))
        ∙ sum_both own (child_in n (parent_of live x)) live
        ∙ ap (λ (m : ℕ). m + through n (parent_of live x))
        (one_alone s own live d apart one.1 (λ c here other. ap (λ (b : Bool). cond (c.parent == p) (one_if b) 0) (ne_eqb x c.serial (λ same. other (sym same ∙ sym one.2))) ∙ zero_either (c.parent == p))
        ∙ ap (λ (b : Bool). cond (d.parent == p) (one_if b) 0) (eq-eqb x d.serial (sym one.2)) ∙ ap (λ (m : ℕ). one_if (m == p)) (sym parent))
      where
        own : Dev → ℕ
        own c = cond (c.parent == p) (one_if (x == c.serial)) 0

        zero_either : (b : Bool) → cond b zero zero ≡ zero
        zero_either true = refl
        zero_either false = refl

        -- the first step and a later one are not to the same device
        apart_steps : (c : Dev) → Contains live c → (b : Bool) → (x == c.serial) ≡ b
            → cond (c.parent == p) (one_if (b || has (lineage n live (parent_of live x)) c.serial)) 0 ≡ cond (c.parent == p) (one_if b) 0 + child_in n (parent_of live x) c
        apart_steps c here true same =
            let below : has (lineage n live (parent_of live x)) c.serial ≡ false =
            false_from_ne_true (has (lineage n live (parent_of live x)) c.serial) (λ on.
            let is : x ≡ c.serial = eqb-true x c.serial same in
            absurd (omega (arith, chain_low live c.serial n (parent_of live x) up on, ap (parent_of live) is, parent_is s live c apart here, child_rises live c up here))) in
            rw below (sum_is (c.parent == p))
          where
            sum_is : (b : Bool) → one_if b ≡ one_if b + cond b 0 0
            sum_is true = refl
            sum_is false = refl
        apart_steps c here false other = sum_is (c.parent == p) (one_if (has (lineage n live (parent_of live x)) c.serial))
          where
            sum_is : (b : Bool) (m : ℕ) → cond b m zero ≡ cond b zero zero + cond b m zero
            sum_is true m = omega arith
            sum_is false m = refl

    begins : (n x : ℕ) → ((x == p) ≡ false → through n x ≡ one_if (has (lineage n live (parent_of live x)) p)) → (b : Bool) → (x == p) ≡ b
        → one_if b + through n x ≡ one_if (b || has (lineage n live (parent_of live x)) p)
    begins n x onward true same = omega (arith, low_through n x (omega (arith, eqb-true x p same)))
    begins n x onward false other = omega (arith, onward other)

    -- so a chain leads to p where it begins there, or through one child of it
    leads : (n x : ℕ) → Known x → one_if (x == p) + through n x ≡ one_if (has (lineage (suc n) live x) p)
    unfolding lineage
    leads zero x known = begins zero x (λ other. none_through zero x (λ c here same. refl)) (x == p) refl
    leads (suc m) x (inl root) = begins (suc m) x (λ other.
        let past : has (lineage (suc m) live (parent_of live x)) p ≡ false =
        false_from_ne_true (has (lineage (suc m) live (parent_of live x)) p) (λ on. eqb-false x p other (omega (arith, chain_low live p (suc m) (parent_of live x) up on, parent_low live x up, root))) in
        low_through (suc m) x (omega (arith, root)) ∙ ap one_if (sym past)) (x == p) refl
    leads (suc m) x (inr lives) =
        let one = live_contained live x lives in
        let parent : parent_of live x ≡ one.0.parent = ap (parent_of live) (sym one.2) ∙ parent_is s live one.0 apart one.1 in
        let more : one_if (parent_of live x == p) + through m (parent_of live x) ≡ one_if (has (lineage (suc m) live (parent_of live x)) p) =
        leads m (parent_of live x) (subst Known (sym parent) (parent_known one.0 one.1)) in
        begins (suc m) x (λ other. one_through m x lives ∙ more) (x == p) refl

  -- ---- the tree

  -- what is below p: each device from which a chain of parents leads there
  count_below : (q : Dev → Bool) (n depth p : ℕ) → sum_by (λ (e : ℕ × Dev). one_if (q e.1)) (tree_below n live depth p) ≡ sum_by (λ d. one_if (q d && has (lineage n live d.parent) p)) live
  unfolding tree_below lineage
  count_below q zero depth p = sym (sum_zero (λ d. one_if (q d && false)) live (each_of (λ d. one_if (q d && false) ≡ 0) live (λ d here. off (q d))))
    where
      off : (b : Bool) → one_if (b && false) ≡ 0
      off true = refl
      off false = refl
  count_below q (suc n) depth p =
      sum_lists F below_one (filter (λ d. d.parent == p) live)
      ∙ sum_part (λ c. sum_by F (below_one c)) (λ d. d.parent == p) live
      ∙ sum_same (λ c. cond (c.parent == p) (sum_by F (below_one c)) 0) (λ c. itself c + sum_by (within c) live) live
      (each_of (λ c. cond (c.parent == p) (sum_by F (below_one c)) 0 ≡ itself c + sum_by (within c) live) live (λ c here. split c (count_below q n (depth + 1) c.serial) (c.parent == p)))
      ∙ sum_both itself (λ c. sum_by (within c) live) live
      ∙ ap (λ (m : ℕ). sum_by itself live + m) (sum_swap within live live)
      ∙ sym (sum_both itself (λ d. sum_by (λ c. within c d) live) live)
      ∙ sum_same (λ d. itself d + sum_by (λ c. within c d) live) (λ d. one_if (q d && has (lineage (suc n) live d.parent) p)) live
      (each_of (λ d. itself d + sum_by (λ c. within c d) live ≡ one_if (q d && has (lineage (suc n) live d.parent) p)) live (λ d here. joined d here (q d)))
    where
      F : ℕ × Dev → ℕ
      F e = one_if (q e.1)

      below_one : Dev → List (ℕ × Dev)
      below_one c = (depth, c) ∷ tree_below n live (depth + 1) c.serial

      -- a child, and a device that hangs below it
      itself : Dev → ℕ
      itself c = cond (c.parent == p) (one_if (q c)) 0

      within : Dev → Dev → ℕ
      within c d = cond (c.parent == p) (one_if (q d && has (lineage n live d.parent) c.serial)) 0

      split : (c : Dev) → sum_by F (tree_below n live (depth + 1) c.serial) ≡ sum_by (λ d. one_if (q d && has (lineage n live d.parent) c.serial)) live → (b : Bool)
          → cond b (sum_by F (below_one c)) 0 ≡ cond b (one_if (q c)) 0 + sum_by (λ d. cond b (one_if (q d && has (lineage n live d.parent) c.serial)) 0) live
      split c rest true = sum_by-cons F (depth, c) (tree_below n live (depth + 1) c.serial) ∙ ap (λ (m : ℕ). one_if (q c) + m) rest
      split c rest false = omega (arith, zeros live)

      joined : (d : Dev) → Contains live d → (b : Bool)
          → cond (d.parent == p) (one_if b) 0 + sum_by (λ c. cond (c.parent == p) (one_if (b && has (lineage n live d.parent) c.serial)) 0) live ≡ one_if (b && has (lineage (suc n) live d.parent) p)
      joined d here true = leads p n d.parent (parent_known d here)
      joined d here false = omega (arith, none (d.parent == p), sum_zero (λ c. cond (c.parent == p) 0 0) live (each_of (λ c. cond (c.parent == p) 0 0 ≡ 0) live (λ c at. none (c.parent == p))))
        where
          none : (b : Bool) → cond b zero zero ≡ zero
          none true = refl
          none false = refl

  -- each live device stands in the tree once
  pub count_tree : (q : Dev → Bool) → sum_by (λ (e : ℕ × Dev). one_if (q e.1)) (tree_below (length live) live 0 0) ≡ sum_by (λ d. one_if (q d)) live
  count_tree q =
      count_below q (length live) 0 0
      ∙ sum_same (λ d. one_if (q d && has (lineage (length live) live d.parent) 0)) (λ d. one_if (q d)) live
      (each_of (λ d. one_if (q d && has (lineage (length live) live d.parent) 0) ≡ one_if (q d)) live (λ d here. rw (above_all d here) (both (q d))))
    where
      both : (b : Bool) → one_if (b && true) ≡ one_if b
      both true = refl
      both false = refl
