-- One more statement of the warnings.
use Rattle.std.proofs.Common.{◌≡◌, ◌≢◌, ℕ, zero, suc, ◌+◌, ◌<◌, ◌≤◌, Bool, true, false, cond, ◌||◌, List, [], ◌∷◌, ◌++◌, length, get_or, take, drop, map, refl, ap, sym, ◌∙◌, subst, arith, append-nil, append_assoc, length-append}
use Rattle.std.specs.Prelude.{◌==◌, AllPairs, replicate}
use Rattle.std.specs.List.{prefix_len, list_any}
use Rattle.std.proofs.lemmas.Bool.{eq-eqb, eqb-true}
use Rattle.std.proofs.lemmas.List.{drop_more, map_more, map-append, get_or-map, length-map, length-take-le}
use Rattle.std.proofs.lemmas.List.Kept.{AllPairs-cons}
use Rattle.cf_types.specs.declared.instance.Instance.{Instance}
use Rattle.cf_types.specs.declared.stmt.Placed.{Placed}
use Rattle.cf_types.specs.declared.stmt.Stmt.{Stmt}
use Rattle.cf_types.specs.declared.tables.WarnKind.{WarnKind}
use Rattle.cf_types.specs.declared.tables.WarnKind.TheVariants.{Nothing, Orphan}
use Rattle.cf_types.specs.declared.tables.Warning.{Warning}
use Rattle.config_rules.specs.Fault.{stmts_of}
use Rattle.config_rules.specs.Meaning.{is_idle, idle_names as named_idle, idle, orphan, warning, warnings}
use Rattle.cf_rows.specs.Idle.{is_of_items, idle_negations, idle_names, places_of, AreInOrder, ArePlacesOfOrphans}
use Rattle.cf_rows.proofs.GroupLemmas.{differ}

-- ---- places at the front

run_at : (m n : ℕ) (rest : List ℕ) → prefix_len (λ p. p == n) rest ≡ 0 → prefix_len (λ p. p == n) (replicate m n ++ rest) ≡ m
run_at zero n rest h = h
run_at (suc m) n rest h = ap (λ b. cond b (1 + prefix_len (λ p. p == n) (replicate m n ++ rest)) 0) (eq-eqb n n refl) ∙ omega (arith, run_at m n rest h)

behind_run : (m n : ℕ) (rest : List ℕ) → drop m (replicate m n ++ rest) ≡ rest
behind_run zero n rest = refl
behind_run (suc m) n rest = behind_run m n rest

first_other : (m k n : ℕ) (rest : List ℕ) → n < k → prefix_len (λ p. p == n) rest ≡ 0 → prefix_len (λ p. p == n) (replicate m k ++ rest) ≡ 0
first_other zero k n rest h e = e
first_other (suc m) k n rest h e = ap (λ b. cond b (1 + prefix_len (λ p. p == n) (replicate m k ++ rest)) 0) (differ k n (λ same. absurd (omega arith)))

-- an earlier place isn't among those of later statements
none_at : (count : List Stmt → Stmt → ℕ) (n : ℕ) (before later : List Stmt) → n < length before → prefix_len (λ p. p == n) (places_of count before later) ≡ 0
unfolding places_of
none_at count n before [] h = refl
none_at count n before (s ∷ later) h =
    first_other (count before s) (length before) n _ h (none_at count n (before ++ s ∷ []) later (omega (arith, length-append before (s ∷ []))))

-- how often the place of a statement stands at the front, and what is behind
places_step : (count : List Stmt → Stmt → ℕ) (n : ℕ) (before later : List Stmt) (s : Stmt) (places : List ℕ) → length before ≡ n → places ≡ places_of count before (s ∷ later)
    → (prefix_len (λ p. p == n) places ≡ count before s) × (drop (prefix_len (λ p. p == n) places) places ≡ places_of count (before ++ s ∷ []) later)
unfolding places_of
places_step count n before later s places size e =
    let m = count before s in
    let rest = places_of count (before ++ s ∷ []) later in
    let here : places ≡ replicate m n ++ rest = e ∙ ap (λ k. replicate m k ++ rest) size in
    let often : prefix_len (λ p. p == n) places ≡ m = ap (prefix_len (λ p. p == n)) here ∙ run_at m n rest (none_at count n (before ++ s ∷ []) later (omega (arith, length-append before (s ∷ [])))) in
    (often, ap (λ k. drop k places) often ∙ ap (drop m) here ∙ behind_run m n rest)

-- ---- orphans at the front

-- the places of the orphans that are left from a place on
pub record AreLeft (all : List Instance) (left : List ℕ) (n : ℕ) : Type 0 where
  pub ascending : AllPairs (λ p q. p < q) left
  pub behind : (k d : ℕ) → k < length left → n ≤ get_or left k d
  pub same : (k : ℕ) → n ≤ k → list_any (λ p. p == k) left ≡ list_any (λ i. i.stmt == k) all

none_of : (n : ℕ) (left : List ℕ) → ((k d : ℕ) → k < length left → n < get_or left k d) → (list_any (λ p. p == n) left ≡ false) × (prefix_len (λ p. p == n) left ≡ 0)
none_of n [] h = (refl, refl)
none_of n (x ∷ left) h =
    let here : n < x = h 0 x (omega arith) in
    let other : (x == n) ≡ false = differ x n (λ same. absurd (omega arith)) in (
      ap (λ b. b || list_any (λ p. p == n) left) other ∙ (none_of n left (λ k d p. h (suc k) d (omega arith))).0,
      ap (λ b. cond b (1 + prefix_len (λ p. p == n) left) 0) other,
    )

later_ones : (x : ℕ) (left : List ℕ) → AllPairs (λ p q. p < q) (x ∷ left) → (k d : ℕ) → k < length left → x < get_or left k d
later_ones x left h k d p = h 0 (suc k) d (omega arith) (omega arith)

tail_ordered : (x : ℕ) (left : List ℕ) → AllPairs (λ p q. p < q) (x ∷ left) → AllPairs (λ p q. p < q) left
tail_ordered x left h i j d p q = h (suc i) (suc j) d (omega arith) (omega arith)

-- what is left where the first is not of this place
orphans_at : (all : List Instance) (left : List ℕ) (x n : ℕ) (b : Bool) → (x == n) ≡ b → AreLeft all (x ∷ left) n
    → (replicate (prefix_len (λ p. p == n) (x ∷ left)) Orphan ≡ orphan all n) × AreLeft all (drop (prefix_len (λ p. p == n) (x ∷ left)) (x ∷ left)) (n + 1)
orphans_at all left x n true e kept =
    let same : x ≡ n = eqb-true x n e in
    let above : (k d : ℕ) → k < length left → n < get_or left k d = λ k d p. let lt = later_ones x left kept.ascending k d p in omega arith in
    let none = none_of n left above in
    let once : prefix_len (λ p. p == n) (x ∷ left) ≡ 1 = ap (λ c. cond c (1 + prefix_len (λ p. p == n) left) 0) e ∙ ap (λ k. 1 + k) none.1 in
    let there : list_any (λ i. i.stmt == n) all ≡ true = sym (kept.same n (omega arith)) ∙ ap (λ c. c || list_any (λ p. p == n) left) e in
    let rest : AreLeft all left (n + 1) = record {
      ascending = tail_ordered x left kept.ascending;
      behind = λ k d p. let lt = above k d p in omega arith;
      same = λ k p. ap (λ c. c || list_any (λ q. q == k) left) (sym (differ x k (λ is. absurd (omega arith)))) ∙ kept.same k (omega arith);
    } in (
      ap (λ k. replicate k Orphan) once ∙ ap (λ c. cond c (Orphan ∷ []) []) (sym there),
      subst (λ (k : ℕ). AreLeft all (drop k (x ∷ left)) (n + 1)) (sym once) rest,
    )
orphans_at all left x n false e kept =
    let first : n ≤ x = kept.behind 0 x (omega arith) in
    let apart : x ≢ n = λ is. let t = eq-eqb x n is in absurd (cc) in
    let above : (k d : ℕ) → k < length (x ∷ left) → n < get_or (x ∷ left) k d = λ k d p. above_all x left n first apart kept.ascending k d p in
    let none = none_of n (x ∷ left) above in
    let rest : AreLeft all (x ∷ left) (n + 1) = record {
      ascending = kept.ascending;
      behind = λ k d p. let lt = above k d p in omega arith;
      same = λ k p. kept.same k (omega arith);
    } in (
      ap (λ k. replicate k Orphan) none.1 ∙ ap (λ c. cond c (Orphan ∷ []) []) (sym none.0 ∙ kept.same n (omega arith)),
      subst (λ (k : ℕ). AreLeft all (drop k (x ∷ left)) (n + 1)) (sym none.1) rest,
    )
  where
    above_all : (x : ℕ) (left : List ℕ) (n : ℕ) → n ≤ x → x ≢ n → AllPairs (λ p q. p < q) (x ∷ left) → (k d : ℕ) → k < length (x ∷ left) → n < get_or (x ∷ left) k d
    above_all x left n first apart h zero d p = omega arith
    above_all x left n first apart h (suc k) d p = let lt = later_ones x left h k d (omega arith) in omega arith

orphans_step : (all : List Instance) (left : List ℕ) (n : ℕ) → AreLeft all left n → (replicate (prefix_len (λ p. p == n) left) Orphan ≡ orphan all n) × AreLeft all (drop (prefix_len (λ p. p == n) left) left) (n + 1)
orphans_step all [] n kept = (
  ap (λ c. cond c (Orphan ∷ []) []) (kept.same n (omega arith)),
  record { ascending = kept.ascending; behind = λ k d p. absurd (omega arith); same = λ k p. kept.same k (omega arith) },
)
orphans_step all (x ∷ left) n kept = orphans_at all left x n (x == n) refl kept

ascending_places : (insts : List Instance) → AreInOrder insts → AllPairs (λ p q. p < q) (map (λ i. i.stmt) insts)
ascending_places [] h = λ i j d p q. absurd (omega arith)
ascending_places (x ∷ insts) h = AllPairs-cons (λ p q. p < q) x.stmt (map (λ i. i.stmt) insts)
    (λ k d p. later_stmt x insts h k d p) (ascending_places insts (λ i j d p q. h (suc i) (suc j) d (omega arith) (omega arith)))
  where
    later_stmt : (x : Instance) (insts : List Instance) → AreInOrder (x ∷ insts) → (k d : ℕ) → k < length (map (λ (i : Instance). i.stmt) insts) → x.stmt < get_or (map (λ i. i.stmt) insts) k d
    later_stmt x insts h k d p =
        let here : k < length insts = omega (arith, length-map insts (λ (i : Instance). i.stmt)) in
        subst (λ (n : ℕ). x.stmt < n) (sym (get_or-map (λ (i : Instance). i.stmt) insts k x d here)) (h 0 (suc k) x (omega arith) (omega arith))

places_any : (k : ℕ) (insts : List Instance) → list_any (λ p. p == k) (map (λ i. i.stmt) insts) ≡ list_any (λ i. i.stmt == k) insts
places_any k [] = refl
places_any k (i ∷ insts) = ap (λ b. (i.stmt == k) || b) (places_any k insts)

-- all are left
all_left : (places : List ℕ) (all : List Instance) → ArePlacesOfOrphans places all → AreLeft all places 0
all_left places all are = record {
  ascending = subst (λ (ps : List ℕ). AllPairs (λ p q. p < q) ps) (sym are.each) (ascending_places all are.in_order);
  behind = λ k d p. omega arith;
  same = λ k p. ap (list_any (λ q. q == k)) are.each ∙ places_any k all;
}

-- ---- the warnings of one statement

all_nothing : (names : List (List ℕ)) → map (λ n. Nothing) names ≡ replicate (length (map {B = WarnKind} (λ n. Nothing) names)) Nothing
all_nothing [] = refl
all_nothing (n ∷ names) = ap (λ (ks : List WarnKind). Nothing ∷ ks) (all_nothing names)

one_or_none : (b : Bool) (rest : List WarnKind) → rest ≡ replicate (length rest) Nothing → cond b (Nothing ∷ []) [] ++ rest ≡ replicate (length (cond b (Nothing ∷ []) [] ++ rest)) Nothing
one_or_none true rest e = ap (λ (ks : List WarnKind). Nothing ∷ ks) e
one_or_none false rest e = e

idle_nothing : (before : List Stmt) (s : Stmt) → idle before s ≡ replicate (length (idle before s)) Nothing
idle_nothing before s = one_or_none (is_idle before s) (map (λ name. Nothing) (named_idle before s)) (all_nothing (named_idle before s))

either_part : (b : Bool) (n : ℕ) → replicate n Nothing ≡ replicate (cond b 0 n) Nothing ++ replicate (cond b n 0) Nothing
either_part true n = refl
either_part false n = sym (append-nil (replicate n Nothing))

idle_parts : (before : List Stmt) (s : Stmt) → idle before s ≡ replicate (idle_negations before s) Nothing ++ replicate (idle_names before s) Nothing
idle_parts before s = idle_nothing before s ∙ either_part (is_of_items s) (length (idle before s))

map-replicate : {X Y : Type 0} (f : X → Y) (n : ℕ) (x : X) → map f (replicate n x) ≡ replicate n (f x)
map-replicate f zero x = refl
map-replicate f (suc n) x = ap (λ ys. f x ∷ ys) (map-replicate f n x)

-- the warnings of one statement, in three parts
parts_of : (files : List (List ℕ)) (all : List Instance) (before : List Stmt) (p : Placed) (c : ℕ) → replicate c Orphan ≡ orphan all (length before)
    → map (warning files p) (idle before p.stmt ++ orphan all (length before))
    ≡ (replicate (idle_negations before p.stmt) (warning files p Nothing) ++ replicate (idle_names before p.stmt) (warning files p Nothing)) ++ replicate c (warning files p Orphan)
parts_of files all before p c e =
    let f = warning files p in
    let a = idle_negations before p.stmt in
    let b = idle_names before p.stmt in
    ap (λ (ks : List WarnKind). map f (ks ++ orphan all (length before))) (idle_parts before p.stmt)
    ∙ ap (λ (ks : List WarnKind). map f ((replicate a Nothing ++ replicate b Nothing) ++ ks)) (sym e)
    ∙ map-append f (replicate a Nothing ++ replicate b Nothing) (replicate c Orphan)
    ∙ ap (λ (ws : List Warning). ws ++ map f (replicate c Orphan)) (map-append f (replicate a Nothing) (replicate b Nothing))
    ∙ ap (λ (ws : List Warning). (ws ++ map f (replicate b Nothing)) ++ map f (replicate c Orphan)) (map-replicate f a Nothing)
    ∙ ap (λ (ws : List Warning). (replicate a (f Nothing) ++ ws) ++ map f (replicate c Orphan)) (map-replicate f b Nothing)
    ∙ ap (λ (ws : List Warning). (replicate a (f Nothing) ++ replicate b (f Nothing)) ++ ws) (map-replicate f c Orphan)

regrouped : (made x y z rest : List Warning) → (((made ++ x) ++ y) ++ z) ++ rest ≡ made ++ (((x ++ y) ++ z) ++ rest)
regrouped made x y z rest = simp append_assoc

-- ---- one more statement

-- the warnings so far, and what is left of the three lists at a place
pub record IsMerged (files : List (List ℕ)) (all : List Instance) (placed : List Placed) (place : ℕ) (made : List Warning) (negations names left : List ℕ) : Type 0 where
  pub negations_left : negations ≡ places_of idle_negations (stmts_of (take place placed)) (stmts_of (drop place placed))
  pub names_left : names ≡ places_of idle_names (stmts_of (take place placed)) (stmts_of (drop place placed))
  pub orphans_left : AreLeft all left place
  pub total : made ++ warnings files all (stmts_of (take place placed)) (drop place placed) ≡ warnings files all [] placed

pub merged_first : (files : List (List ℕ)) (all : List Instance) (placed : List Placed) (made : List Warning) (negations names left : List ℕ) → made ≡ [] → negations ≡ places_of idle_negations [] (stmts_of placed) → names ≡ places_of idle_names [] (stmts_of placed) → ArePlacesOfOrphans left all
    → IsMerged files all placed 0 made negations names left
merged_first files all placed made negations names left e is are ordered = record {
  negations_left = is;
  names_left = are;
  orphans_left = all_left left all ordered;
  total = ap (λ (ws : List Warning). ws ++ warnings files all [] placed) e;
}

pub merged_last : (files : List (List ℕ)) (all : List Instance) (placed : List Placed) (place : ℕ) (made : List Warning) (negations names left : List ℕ) → IsMerged files all placed place made negations names left → drop place placed ≡ [] → made ≡ warnings files all [] placed
unfolding warnings
merged_last files all placed place made negations names left kept e =
    sym (append-nil made) ∙ ap (λ (ps : List Placed). made ++ warnings files all (stmts_of (take place placed)) ps) (sym e) ∙ kept.total

pub merged_step : (files : List (List ℕ)) (all : List Instance) (placed : List Placed) (place : ℕ) (p : Placed) (made made1 made2 made3 : List Warning) (negations names left : List ℕ) (a b c : ℕ)
    → IsMerged files all placed place made negations names left → place < length placed → p ≡ get_or placed place p
    → a ≡ prefix_len (λ x. x == place) negations → b ≡ prefix_len (λ x. x == place) names → c ≡ prefix_len (λ x. x == place) left
    → made1 ≡ made ++ replicate a (warning files p Nothing) → made2 ≡ made1 ++ replicate b (warning files p Nothing) → made3 ≡ made2 ++ replicate c (warning files p Orphan)
    → IsMerged files all placed (place + 1) made3 (drop a negations) (drop b names) (drop c left)
unfolding warnings
merged_step files all placed place p made made1 made2 made3 negations names left a b c kept lt is ea eb ec e1 e2 e3 =
    let before = stmts_of (take place placed) in
    let later = drop (place + 1) placed in
    let size : length before ≡ place = length-map (take place placed) (λ (x : Placed). x.stmt) ∙ length-take-le place placed (omega arith) in
    let here : drop place placed ≡ p ∷ later = drop_more placed place p lt ∙ ap (λ (x : Placed). x ∷ later) (sym is) in
    let front : stmts_of (take (place + 1) placed) ≡ before ++ p.stmt ∷ [] =
    map_more (λ (x : Placed). x.stmt) placed place p lt ∙ ap (λ (x : Placed). before ++ x.stmt ∷ []) (sym is) in
    let n1 = places_step idle_negations place before (stmts_of later) p.stmt negations size (kept.negations_left ∙ ap (λ (ps : List Placed). places_of idle_negations before (stmts_of ps)) here) in
    let n2 = places_step idle_names place before (stmts_of later) p.stmt names size (kept.names_left ∙ ap (λ (ps : List Placed). places_of idle_names before (stmts_of ps)) here) in
    let o = orphans_step all left place kept.orphans_left in
    let w = warning files p in
    let rest = warnings files all (before ++ p.stmt ∷ []) later in
    let orphans : replicate c Orphan ≡ orphan all (length before) = ap (λ k. replicate k Orphan) ec ∙ o.0 ∙ ap (orphan all) (sym size) in
    let made_is : made3 ≡ ((made ++ replicate (idle_negations before p.stmt) (w Nothing)) ++ replicate (idle_names before p.stmt) (w Nothing)) ++ replicate c (w Orphan) =
    e3 ∙ ap (λ (ws : List Warning). ws ++ replicate c (w Orphan)) (e2 ∙ ap (λ (ws : List Warning). ws ++ replicate b (w Nothing)) e1)
    ∙ ap (λ k. ((made ++ replicate k (w Nothing)) ++ replicate b (w Nothing)) ++ replicate c (w Orphan)) (ea ∙ n1.0)
    ∙ ap (λ k. ((made ++ replicate (idle_negations before p.stmt) (w Nothing)) ++ replicate k (w Nothing)) ++ replicate c (w Orphan)) (eb ∙ n2.0) in
    record {
      negations_left = ap (λ k. drop k negations) ea ∙ n1.1 ∙ ap (λ (ss : List Stmt). places_of idle_negations ss (stmts_of later)) (sym front);
      names_left = ap (λ k. drop k names) eb ∙ n2.1 ∙ ap (λ (ss : List Stmt). places_of idle_names ss (stmts_of later)) (sym front);
      orphans_left = subst (λ (k : ℕ). AreLeft all (drop k left) (place + 1)) (sym ec) o.1;
      total = ap (λ (ss : List Stmt). made3 ++ warnings files all ss later) front
          ∙ ap (λ (ws : List Warning). ws ++ rest) made_is
          ∙ regrouped made _ _ _ rest
          ∙ ap (λ (ws : List Warning). made ++ (ws ++ rest)) (sym (parts_of files all before p c orphans))
          ∙ ap (λ (ps : List Placed). made ++ warnings files all before ps) (sym here)
          ∙ kept.total;
    }

-- where no place is left, no statement gets a warning
none_left : (files : List (List ℕ)) (all : List Instance) (before : List Stmt) (placed : List Placed) → [] ≡ places_of idle_negations before (stmts_of placed) → [] ≡ places_of idle_names before (stmts_of placed) → AreLeft all [] (length before)
    → warnings files all before placed ≡ []
unfolding warnings
none_left files all before [] negations names left = refl
none_left files all before (p ∷ placed) negations names left =
    let w = warning files p in
    let n1 = places_step idle_negations (length before) before (stmts_of placed) p.stmt [] refl negations in
    let n2 = places_step idle_names (length before) before (stmts_of placed) p.stmt [] refl names in
    let o = orphans_step all [] (length before) left in
    let further : AreLeft all [] (length (before ++ p.stmt ∷ [])) = subst (λ (n : ℕ). AreLeft all [] n) (sym (length-append before (p.stmt ∷ []))) o.1 in
    let here : map w (idle before p.stmt ++ orphan all (length before)) ≡ [] =
    parts_of files all before p 0 o.0
    ∙ ap (λ k. (replicate k (w Nothing) ++ replicate (idle_names before p.stmt) (w Nothing)) ++ []) (sym n1.0)
    ∙ ap (λ k. replicate k (w Nothing) ++ []) (sym n2.0) in
    ap (λ (ws : List Warning). ws ++ warnings files all (before ++ p.stmt ∷ []) placed) here ∙ none_left files all (before ++ p.stmt ∷ []) placed n1.1 n2.1 further

pub none_warned : (files : List (List ℕ)) (all : List Instance) (placed : List Placed) (negations names left : List ℕ) → negations ≡ [] → names ≡ [] → left ≡ []
    → negations ≡ places_of idle_negations [] (stmts_of placed) → names ≡ places_of idle_names [] (stmts_of placed) → ArePlacesOfOrphans left all → warnings files all [] placed ≡ []
none_warned files all placed negations names left a b c is are ordered =
    none_left files all [] placed (sym a ∙ is) (sym b ∙ are) (subst (λ (places : List ℕ). AreLeft all places 0) c (all_left left all ordered))
