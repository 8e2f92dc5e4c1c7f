-- Conditions as trees and as they are read, symbol by symbol.
use Rattle.std.proofs.Common.{◌≡◌, ℕ, ◌+◌, ◌<◌, ◌≤◌, arith, max, Bool, true, false, not, ◌&&◌, ◌||◌, cond, Option, Some, None, List, [], ◌∷◌, ◌++◌, drop, length, get_or, refl, ap, sym, subst, ◌∙◌, append_assoc, append-nil, add-zero}
use Rattle.std.specs.Prelude.{◌==◌, nat_lt, option_map, option_and_then, IfOk, Result, Ok, Err}
use Rattle.std.proofs.lemmas.Bool.Decides.{nat_tests}
use Rattle.std.proofs.lemmas.List.{drop_more, drop_all}
use Rattle.cf_types.specs.declared.stmt.Piece.{Piece}
use Rattle.config_rules.specs.Form.{each}
use Rattle.file_rules.specs.Condition.{Symbol, Word, Not, And, Or, Open, Close, Disjunction, one_of, either, Conjunction, all_of, both, Term, named, negated, grouped, Cond, symbol_of, spelled, spelled_conjunction, spelled_term, is_true, is_true_conjunction, is_true_term, nesting, nesting_conjunction, nesting_term}
use Rattle.file_rules.specs.Sources.{IsCondition}
use Rattle.file_select.specs.Findings.{Judges, JudgesOptional}
use Rattle.file_select.specs.Steps.{State, valued, deeper, fresh, value_of, with_term, with_not, step, start, run, answer_of}
use Rattle.file_select.specs.declared.condition.Level.{Level}
use Rattle.file_select.specs.declared.condition.ConditionAnswer.{ConditionAnswer}
use Rattle.file_select.specs.declared.condition.ConditionAnswer.TheVariants.{NoForm, TooDeep, Value}
use Rattle.file_select.specs.declared.symbol.Symbol.{Symbol as Read}

-- ---- numbers and tests

deeper_by : (d n : ℕ) → nat_lt 64 (deeper d + n) ≡ nat_lt 64 (d + (n + 1))
deeper_by d n = by_test (nat_lt 64 d) refl
  where
    by_test : (b : Bool) → nat_lt 64 d ≡ b → nat_lt 64 (cond b d (d + 1) + n) ≡ nat_lt 64 (d + (n + 1))
    by_test true e = grind (arith, nat_tests)
    by_test false e = ap (nat_lt 64) (omega arith)

deepest_of : (n a b : ℕ) → (nat_lt 64 (n + a) || nat_lt 64 (n + b)) ≡ nat_lt 64 (n + max a b)
deepest_of n a b = grind (arith, nat_tests)

or_grouped : (a b c : Bool) → ((a || b) || c) ≡ (a || (b || c))
or_grouped true b c = refl
or_grouped false b c = refl

and_grouped : (a b c : Bool) → ((a && b) && c) ≡ (a && (b && c))
and_grouped true b c = refl
and_grouped false b c = refl

turned : (n v : Bool) → cond (not n) (not v) v ≡ cond n (not (not v)) (not v)
turned true true = refl
turned true false = refl
turned false true = refl
turned false false = refl

-- ---- a tree is read to its end

abbrev at : List Level → Level → Bool → Bool → State
at outer level wants deep = record { outer = outer; level = level; wants = wants; deep = deep }

-- a level between terms
abbrev clean : Bool → Bool → ℕ → Level
clean any all n = record { any = any; all = all; negated = false; around = n; depth = n }

module _ (test : List ℕ → Bool) where
  abbrev pub steps : List Symbol → State → Option State
  steps [] s = Some s
  steps (x ∷ xs) s = option_and_then (steps xs) (step (valued test x) s)

  -- the level at the end of a disjunction
  abbrev ended : Bool → Disjunction → ℕ → Level
  ended any (one_of c) n = clean any (is_true_conjunction test c) n
  ended any (either c d) n = ended (any || is_true_conjunction test c) d n

  value-ended : (any : Bool) (d : Disjunction) (n : ℕ) → value_of (ended any d n) ≡ (any || is_true test d)
  value-ended any (one_of c) n = refl
  value-ended any (either c d) n = value-ended (any || is_true_conjunction test c) d n ∙ or_grouped any (is_true_conjunction test c) (is_true test d)

  mutual
    run_disjunction : (d : Disjunction) (any deep : Bool) (n : ℕ) (outer : List Level) (rest : List Symbol) → steps (spelled d ++ rest) (at outer (clean any true n) true deep) ≡ steps rest (at outer (ended any d n) false (deep || nat_lt 64 (n + nesting d)))
    run_disjunction (one_of c) any deep n outer rest = run_conjunction c any true deep n outer rest
    run_disjunction (either c d) any deep n outer rest =
        ap (λ xs. steps xs (at outer (clean any true n) true deep)) (append_assoc (spelled_conjunction c) (Or ∷ spelled d) rest)
        ∙ run_conjunction c any true deep n outer (Or ∷ (spelled d ++ rest))
        ∙ run_disjunction d (any || is_true_conjunction test c) (deep || nat_lt 64 (n + nesting_conjunction c)) n outer rest
        ∙ ap (λ b. steps rest (at outer (ended (any || is_true_conjunction test c) d n) false b))
        (or_grouped deep (nat_lt 64 (n + nesting_conjunction c)) (nat_lt 64 (n + nesting d)) ∙ ap (λ b. deep || b) (deepest_of n (nesting_conjunction c) (nesting d)))

    run_conjunction : (c : Conjunction) (any all deep : Bool) (n : ℕ) (outer : List Level) (rest : List Symbol) → steps (spelled_conjunction c ++ rest) (at outer (clean any all n) true deep) ≡ steps rest (at outer (clean any (all && is_true_conjunction test c) n) false (deep || nat_lt 64 (n + nesting_conjunction c)))
    run_conjunction (all_of t) any all deep n outer rest = run_term t (clean any all n) deep outer rest
    run_conjunction (both t c) any all deep n outer rest =
        ap (λ xs. steps xs (at outer (clean any all n) true deep)) (append_assoc (spelled_term t) (And ∷ spelled_conjunction c) rest)
        ∙ run_term t (clean any all n) deep outer (And ∷ (spelled_conjunction c ++ rest))
        ∙ run_conjunction c any (all && is_true_term test t) (deep || nat_lt 64 (n + nesting_term t)) n outer rest
        ∙ ap (λ b. steps rest (at outer (clean any ((all && is_true_term test t) && is_true_conjunction test c) n) false b))
        (or_grouped deep (nat_lt 64 (n + nesting_term t)) (nat_lt 64 (n + nesting_conjunction c)) ∙ ap (λ b. deep || b) (deepest_of n (nesting_term t) (nesting_conjunction c)))
        ∙ ap (λ b. steps rest (at outer (clean any b n) false (deep || nat_lt 64 (n + nesting_conjunction (both t c))))) (and_grouped all (is_true_term test t) (is_true_conjunction test c))

    run_term : (t : Term) (l : Level) (deep : Bool) (outer : List Level) (rest : List Symbol) → steps (spelled_term t ++ rest) (at outer l true deep) ≡ steps rest (at outer (with_term (is_true_term test t) l) false (deep || nat_lt 64 (l.depth + nesting_term t)))
    run_term (named n) l deep outer rest =
        ap (λ k. steps rest (at outer (with_term (test n) l) false (deep || nat_lt 64 k))) (sym (add-zero l.depth))
    run_term (negated t) l deep outer rest =
        run_term t (with_not l) deep outer rest
        ∙ ap (λ b. steps rest (at outer (with_term (is_true_term test t) (with_not l)) false (deep || b))) (deeper_by l.depth (nesting_term t))
        ∙ ap (λ b. steps rest (at outer (record { any = l.any; all = l.all && b; negated = false; around = l.around; depth = l.around }) false (deep || nat_lt 64 (l.depth + (nesting_term t + 1))))) (turned l.negated (is_true_term test t))
    run_term (grouped d) l deep outer rest =
        ap (λ xs. steps xs (at (l ∷ outer) (fresh (deeper l.depth)) true deep)) (append_assoc (spelled d) (Close ∷ []) rest)
        ∙ run_disjunction d false deep (deeper l.depth) (l ∷ outer) (Close ∷ rest)
        ∙ ap (λ b. steps rest (at outer (with_term b l) false (deep || nat_lt 64 (deeper l.depth + nesting d)))) (value-ended false d (deeper l.depth))
        ∙ ap (λ b. steps rest (at outer (with_term (is_true test d) l) false (deep || b))) (deeper_by l.depth (nesting d))

  -- a condition is read to its end
  read_whole : (d : Disjunction) → steps (spelled d) start ≡ Some (at [] (ended false d 0) false (nat_lt 64 (nesting d)))
  read_whole d =
      let e : 0 + nesting d ≡ nesting d = omega arith in
      ap (λ xs. steps xs start) (sym (append-nil (spelled d))) ∙ run_disjunction d false false 0 [] [] ∙ ap (λ k. Some (at [] (ended false d 0) false (nat_lt 64 k))) e

  -- ---- what is read is a tree

  -- a term, or nothing, makes a disjunction of these symbols
  abbrev Now : Bool → List Symbol → Type 0
  Now true front = (t : Term) → (d : Disjunction) × (spelled d ≡ front ++ spelled_term t)
  Now false front = (d : Disjunction) × (spelled d ≡ front)

  -- the same behind each parenthesis that is open
  abbrev IsRead : List Level → Bool → List Symbol → Type 0
  IsRead [] wants front = Now wants front
  IsRead (l ∷ outer) wants front = (around : List Symbol) × (inner : List Symbol) × (front ≡ around ++ Open ∷ inner) × IsRead outer true around × Now wants inner

  on_innermost : (outer : List Level) (w v : Bool) (front ys : List Symbol) → ((inner : List Symbol) → Now w inner → Now v (inner ++ ys)) → IsRead outer w front → IsRead outer v (front ++ ys)
  on_innermost [] w v front ys f r = f front r
  on_innermost (l ∷ outer) w v front ys f (around, inner, e, o, now) =
      (around, inner ++ ys, ap (λ xs. xs ++ ys) e ∙ append_assoc around (Open ∷ inner) ys, o, f inner now)

  and_conjunction : Conjunction → Term → Conjunction
  and_conjunction (all_of u) t = both u (all_of t)
  and_conjunction (both u c) t = both u (and_conjunction c t)

  and_more : Disjunction → Term → Disjunction
  and_more (one_of c) t = one_of (and_conjunction c t)
  and_more (either c d) t = either c (and_more d t)

  or_more : Disjunction → Term → Disjunction
  or_more (one_of c) t = either c (one_of (all_of t))
  or_more (either c d) t = either c (or_more d t)

  spelled-and_conjunction : (c : Conjunction) (t : Term) → spelled_conjunction (and_conjunction c t) ≡ spelled_conjunction c ++ And ∷ spelled_term t
  unfolding and_conjunction
  spelled-and_conjunction (all_of u) t = refl
  spelled-and_conjunction (both u c) t =
      ap (λ xs. spelled_term u ++ And ∷ xs) (spelled-and_conjunction c t) ∙ sym (append_assoc (spelled_term u) (And ∷ spelled_conjunction c) (And ∷ spelled_term t))

  spelled-and_more : (d : Disjunction) (t : Term) → spelled (and_more d t) ≡ spelled d ++ And ∷ spelled_term t
  unfolding and_more
  spelled-and_more (one_of c) t = spelled-and_conjunction c t
  spelled-and_more (either c d) t =
      ap (λ xs. spelled_conjunction c ++ Or ∷ xs) (spelled-and_more d t) ∙ sym (append_assoc (spelled_conjunction c) (Or ∷ spelled d) (And ∷ spelled_term t))

  spelled-or_more : (d : Disjunction) (t : Term) → spelled (or_more d t) ≡ spelled d ++ Or ∷ spelled_term t
  unfolding or_more
  spelled-or_more (one_of c) t = refl
  spelled-or_more (either c d) t =
      ap (λ xs. spelled_conjunction c ++ Or ∷ xs) (spelled-or_more d t) ∙ sym (append_assoc (spelled_conjunction c) (Or ∷ spelled d) (Or ∷ spelled_term t))

  now_named : (n : List ℕ) (inner : List Symbol) → Now true inner → Now false (inner ++ Word n ∷ [])
  now_named n inner f = f (named n)

  now_negated : (inner : List Symbol) → Now true inner → Now true (inner ++ Not ∷ [])
  now_negated inner f = λ t. let r = f (negated t) in (r.0, r.1 ∙ sym (append_assoc inner (Not ∷ []) (spelled_term t)))

  now_and : (inner : List Symbol) → Now false inner → Now true (inner ++ And ∷ [])
  now_and inner r = λ t. (and_more r.0 t, spelled-and_more r.0 t ∙ ap (λ xs. xs ++ And ∷ spelled_term t) r.1 ∙ sym (append_assoc inner (And ∷ []) (spelled_term t)))

  now_or : (inner : List Symbol) → Now false inner → Now true (inner ++ Or ∷ [])
  now_or inner r = λ t. (or_more r.0 t, spelled-or_more r.0 t ∙ ap (λ xs. xs ++ Or ∷ spelled_term t) r.1 ∙ sym (append_assoc inner (Or ∷ []) (spelled_term t)))

  carried : (s t : State) (front : List Symbol) → Some s ≡ Some t → IsRead s.outer s.wants front → IsRead t.outer t.wants front
  carried s t front e r = let same : s ≡ t = cc in subst (λ (u : State). IsRead u.outer u.wants front) same r

  closed_is_read : (outer : List Level) (level : Level) (deep : Bool) (t : State) (front : List Symbol) → step (valued test Close) (at outer level false deep) ≡ Some t → IsRead outer false front → IsRead t.outer t.wants (front ++ Close ∷ [])
  closed_is_read [] level deep t front e r = absurd (cc)
  closed_is_read (o ∷ outer) level deep t front e (around, inner, parts, out, (d, is)) =
      carried (at outer (with_term (value_of level) o) false deep) t (front ++ Close ∷ []) e
      (subst (λ (xs : List Symbol). IsRead outer false xs)
      (ap (λ xs. around ++ Open ∷ (xs ++ Close ∷ [])) is ∙ sym (append_assoc around (Open ∷ inner) (Close ∷ [])) ∙ ap (λ xs. xs ++ Close ∷ []) (sym parts))
      (on_innermost outer true false around (spelled_term (grouped d)) (λ i f. f (grouped d)) out))

  stepped : (x : Symbol) (outer : List Level) (level : Level) (wants deep : Bool) (t : State) (front : List Symbol) → step (valued test x) (at outer level wants deep) ≡ Some t → IsRead outer wants front → IsRead t.outer t.wants (front ++ x ∷ [])
  stepped (Word n) outer level true deep t front e r = carried _ t (front ++ Word n ∷ []) e (on_innermost outer true false front (Word n ∷ []) (now_named n) r)
  stepped (Word n) outer level false deep t front e r = absurd (cc)
  stepped Not outer level true deep t front e r = carried _ t (front ++ Not ∷ []) e (on_innermost outer true true front (Not ∷ []) now_negated r)
  stepped Not outer level false deep t front e r = absurd (cc)
  stepped And outer level true deep t front e r = absurd (cc)
  stepped And outer level false deep t front e r = carried _ t (front ++ And ∷ []) e (on_innermost outer false true front (And ∷ []) now_and r)
  stepped Or outer level true deep t front e r = absurd (cc)
  stepped Or outer level false deep t front e r = carried _ t (front ++ Or ∷ []) e (on_innermost outer false true front (Or ∷ []) now_or r)
  stepped Open outer level true deep t front e r = carried _ t (front ++ Open ∷ []) e (front, [], refl, r, λ u. (one_of (all_of u), refl))
  stepped Open outer level false deep t front e r = absurd (cc)
  stepped Close outer level true deep t front e r = absurd (cc)
  stepped Close outer level false deep t front e r = closed_is_read outer level deep t front e r

  parsed : (xs : List Symbol) (s t : State) (front : List Symbol) → steps xs s ≡ Some t → IsRead s.outer s.wants front → IsRead t.outer t.wants (front ++ xs)
  parsed [] s t front e r = subst (λ (ys : List Symbol). IsRead t.outer t.wants ys) (sym (append-nil front)) (carried s t front e r)
  parsed (x ∷ xs) s t front e r = behind (step (valued test x) s) refl e (λ u end. parsed xs u t (front ++ x ∷ []) end)
    where
      behind : (o : Option State) → step (valued test x) s ≡ o → option_and_then (steps xs) o ≡ Some t
          → ((u : State) → steps xs u ≡ Some t → IsRead u.outer u.wants (front ++ x ∷ []) → IsRead t.outer t.wants ((front ++ x ∷ []) ++ xs)) → IsRead t.outer t.wants (front ++ x ∷ xs)
      behind None is end next = absurd (cc)
      behind (Some u) is end next =
          subst (λ (ys : List Symbol). IsRead t.outer t.wants ys) (append_assoc front (x ∷ []) xs)
          (next u end (stepped x s.outer s.level s.wants s.deep u front is r))

  -- ---- pieces

  none_behind : (o : Option State) (next : State → Option State) → ((s : State) → next s ≡ None) → option_and_then next o ≡ None
  none_behind None next h = refl
  none_behind (Some s) next h = h s

  same_behind : (o : Option State) (next other : State → Option State) → ((s : State) → next s ≡ other s) → option_and_then next o ≡ option_and_then other o
  same_behind None next other h = refl
  same_behind (Some s) next other h = h s

  one_piece : (x : Option Symbol) (xs : Option (List Symbol)) (next : State → Option State) (s : State) → ((t : State) → next t ≡ option_and_then (λ ys. steps ys t) xs)
      → option_and_then (λ y. option_and_then next (step y s)) (option_map (valued test) x) ≡ option_and_then (λ ys. steps ys s) (option_and_then (λ y. option_map (λ ys. y ∷ ys) xs) x)
  one_piece None xs next s h = refl
  one_piece (Some x) None next s h = none_behind (step (valued test x) s) next h
  one_piece (Some x) (Some xs) next s h = same_behind (step (valued test x) s) next (steps xs) h

  run_symbols : (ps : List Piece) (s : State) → run test ps s ≡ option_and_then (λ xs. steps xs s) (each symbol_of ps)
  unfolding run
  run_symbols [] s = refl
  run_symbols (p ∷ ps) s = one_piece (symbol_of p) (each symbol_of ps) (run test ps) s (run_symbols ps)

  pub run_of : (ps : List Piece) (d : Disjunction) → Cond ps d → run test ps start ≡ Some (at [] (ended false d 0) false (nat_lt 64 (nesting d)))
  run_of ps d h = run_symbols ps start ∙ ap (λ o. option_and_then (λ xs. steps xs start) o) h ∙ read_whole d

  tree_of_symbols : (o : Option (List Symbol)) (t : State) → option_and_then (λ xs. steps xs start) o ≡ Some t → t.outer ≡ [] → t.wants ≡ false → (d : Disjunction) × (o ≡ Some (spelled d))
  tree_of_symbols None t e o w = absurd (cc)
  tree_of_symbols (Some xs) t e o w =
      let r : IsRead t.outer t.wants xs = parsed xs start t [] e (λ u. (one_of (all_of u), refl)) in
      let q : IsRead [] false xs = subst (λ (b : Bool). IsRead [] b xs) w (subst (λ (ls : List Level). IsRead ls t.wants xs) o r) in
      (q.0, ap Some (sym q.1))

  tree_of : (ps : List Piece) (t : State) → run test ps start ≡ Some t → t.outer ≡ [] → t.wants ≡ false → (d : Disjunction) × Cond ps d
  tree_of ps t e o w = tree_of_symbols (each symbol_of ps) t (sym (run_symbols ps start) ∙ e) o w

  -- ---- what a condition is found to be

  -- where no symbol may not stand where it stands, no condition was read
  pub judged_none : (ps : List Piece) → None ≡ run test ps start → Judges test ps NoForm
  judged_none ps e = λ d h. let k = run_of ps d h in absurd (cc)

  unread : (ps : List Piece) (t : State) → run test ps start ≡ Some t → ((t.outer ≡ [] → t.wants ≡ false → ⊥)) → Judges test ps NoForm
  unread ps t e h = λ d c.
      let k : t ≡ at [] (ended false d 0) false (nat_lt 64 (nesting d)) = cc (e, run_of ps d c) in
      h (ap (λ (s : State). s.outer) k) (ap (λ (s : State). s.wants) k)

  by_depth : (ps : List Piece) (t : State) (b : Bool) → t.deep ≡ b → run test ps start ≡ Some t → t.outer ≡ [] → t.wants ≡ false → Judges test ps (cond b TooDeep (Value (value_of t.level)))
  by_depth ps t b is e o w = found b is (tree_of ps t e o w)
    where
      found : (b : Bool) → t.deep ≡ b → (d : Disjunction) × Cond ps d → Judges test ps (cond b TooDeep (Value (value_of t.level)))
      found true is (d, c) =
          let k : t ≡ at [] (ended false d 0) false (nat_lt 64 (nesting d)) = cc (e, run_of ps d c) in
          let deep : nat_lt 64 (nesting d) ≡ true = sym (ap (λ (s : State). s.deep) k) ∙ is in
          (d, c, grind (arith, nat_tests, deep))
      found false is (d, c) =
          let k : t ≡ at [] (ended false d 0) false (nat_lt 64 (nesting d)) = cc (e, run_of ps d c) in
          let deep : nat_lt 64 (nesting d) ≡ false = sym (ap (λ (s : State). s.deep) k) ∙ is in
          (d, c, grind (arith, nat_tests, deep), ap (λ (s : State). value_of s.level) k ∙ value-ended false d 0)

  by_end : (ps : List Piece) (outer : List Level) (level : Level) (wants deep : Bool) → run test ps start ≡ Some (at outer level wants deep) → Judges test ps (answer_of (at outer level wants deep))
  by_end ps outer level true deep e = unread ps (at outer level true deep) e (λ o w. absurd (cc))
  by_end ps (o ∷ outer) level false deep e = unread ps (at (o ∷ outer) level false deep) e (λ o w. absurd (cc))
  by_end ps [] level false deep e = by_depth ps (at [] level false deep) deep refl e refl refl

  pub judged : (ps : List Piece) (t : State) → Some t ≡ run test ps start → Judges test ps (answer_of t)
  judged ps t e = by_end ps t.outer t.level t.wants t.deep (sym e)

  -- one piece more
  pub run_more : (ps : List Piece) (i : ℕ) (p : Piece) (x : Read) (s t : State) → i < length ps → p ≡ get_or ps i p → Some x ≡ option_map (valued test) (symbol_of p) → Some t ≡ step x s → run test (drop (i + 1) ps) t ≡ run test (drop i ps) s
  unfolding run
  run_more ps i p x s t h is sym_is next =
      ap (λ o. option_and_then (run test (drop (i + 1) ps)) o) next
      ∙ ap (λ o. option_and_then (λ y. option_and_then (run test (drop (i + 1) ps)) (step y s)) o) sym_is
      ∙ ap (λ q. run test (q ∷ drop (i + 1) ps) s) is ∙ sym (ap (λ qs. run test qs s) (drop_more ps i p h))

  pub run_stops : (ps : List Piece) (i : ℕ) (p : Piece) (s : State) → i < length ps → p ≡ get_or ps i p → None ≡ option_map (valued test) (symbol_of p) → None ≡ run test (drop i ps) s
  unfolding run
  run_stops ps i p s h is none =
      ap (λ o. option_and_then (λ y. option_and_then (run test (drop (i + 1) ps)) (step y s)) o) none
      ∙ ap (λ q. run test (q ∷ drop (i + 1) ps) s) is ∙ sym (ap (λ qs. run test qs s) (drop_more ps i p h))

  pub run_refused : (ps : List Piece) (i : ℕ) (p : Piece) (x : Read) (s : State) → i < length ps → p ≡ get_or ps i p → Some x ≡ option_map (valued test) (symbol_of p) → None ≡ step x s → None ≡ run test (drop i ps) s
  unfolding run
  run_refused ps i p x s h is sym_is none =
      ap (λ o. option_and_then (run test (drop (i + 1) ps)) o) none
      ∙ ap (λ o. option_and_then (λ y. option_and_then (run test (drop (i + 1) ps)) (step y s)) o) sym_is
      ∙ ap (λ q. run test (q ∷ drop (i + 1) ps) s) is ∙ sym (ap (λ qs. run test qs s) (drop_more ps i p h))

  pub run_all : (ps : List Piece) (i : ℕ) (s : State) → length ps ≤ i → run test (drop i ps) s ≡ Some s
  unfolding run
  run_all ps i s h = ap (λ qs. run test qs s) (drop_all i ps h)

  -- ---- a condition that may be missing

  pub optional_missing : (ps : List Piece) → ps ≡ [] → JudgesOptional test ps (Value true)
  optional_missing ps e = (None, e, omega arith, refl)

  not_missing : (ps : List Piece) → ¬ (ps ≡ []) → Judges test ps NoForm → (c : Option Disjunction) → ¬ IsCondition ps c
  not_missing ps some h None = some
  not_missing ps some h (Some d) = h d

  pub optional_judged : (ps : List Piece) (v : ConditionAnswer) → ¬ (ps ≡ []) → Judges test ps v → JudgesOptional test ps v
  optional_judged ps NoForm some h = not_missing ps some h
  optional_judged ps TooDeep some (d, c, deep) = (Some d, c, deep)
  optional_judged ps (Value value) some (d, c, depth, is) = (Some d, c, depth, is)

  not_nil : (ps : List Piece) → false ≡ (length ps == 0) → ¬ (ps ≡ [])
  not_nil ps h e = let k : (length ps == 0) ≡ true = ap (λ qs. length qs == 0) e in absurd (cc)

  pub optional_ok : {E : Type 0} (ps : List Piece) (r : Result ConditionAnswer E) → false ≡ (length ps == 0) → IfOk r (Judges test ps) → IfOk r (JudgesOptional test ps)
  optional_ok ps (Ok v) some h = optional_judged ps v (not_nil ps some) h
  optional_ok ps (Err e) some h = tt
