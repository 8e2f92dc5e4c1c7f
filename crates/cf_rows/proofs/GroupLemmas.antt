-- One more instance among groups of instances of one unit each.
use Rattle.std.proofs.Common.{◌≡◌, ◌≢◌, ℕ, zero, suc, ◌+◌, ◌<◌, ◌≤◌, Bool, true, false, cond, ◌||◌, Option, Some, None, List, [], ◌∷◌, ◌++◌, length, get_or, set, refl, ap, sym, ◌∙◌, inl, inr, ◌⊎◌, arith, append-nil, subst, length-append, length-set, get_or-set_same, get_or-set_other}
use Rattle.std.specs.Prelude.{◌==◌, flat_map, not}
use Rattle.std.specs.List.{All, filter_map, cons_option}
use Rattle.std.specs.Borrow.{Bor}
use Rattle.std.proofs.lemmas.Bool.{eq-eqb, or_right, or_from, or_parts}
use Rattle.std.proofs.lemmas.Bool.Decides.{nat_tests}
use Rattle.std.proofs.lemmas.List.Elements.{All-append, All-cons, All-nil, filter-append, filter_map-append}
use Rattle.std.proofs.lemmas.Grind.{flat_map-append}
use Rattle.cf_types.specs.declared.instance.Instance.{Instance}
use Rattle.cf_types.specs.declared.stmt.UnitMark.{UnitMark}
use Rattle.cf_types.specs.declared.stmt.UnitMark.TheVariants.{Fixed, Star}
use Rattle.cf_types.specs.Gather.{is_in}
use Rattle.cf_types.specs.Offers.{firsts}
use Rattle.cf_types.proofs.OfferLemmas.{gathered_is, is_in-firsts}
use Rattle.config_rules.specs.Select.{same_mark}
use Rattle.config_rules.specs.Meaning.{own_unit}
use Rattle.cf_rows.specs.Rows.{seen, fixed, of_unit, units_of, AreGroups, AreAscending}

-- ---- places in a list of numbers

pub differ : (x u : ℕ) → x ≢ u → (x == u) ≡ false
differ x u h = grind (arith, nat_tests)

in_at : (k : ℕ) (xs : List ℕ) → k < length xs → is_in (get_or xs k 0) xs ≡ true
in_at k [] h = absurd (omega arith)
in_at zero (x ∷ xs) h = ap (λ b. b || is_in x xs) (eq-eqb x x refl)
in_at (suc k) (x ∷ xs) h = or_right (x == get_or xs k 0) _ (in_at k xs (omega arith))

not_in : (u : ℕ) (xs : List ℕ) → ((k : ℕ) → k < length xs → get_or xs k 0 ≢ u) → is_in u xs ≡ false
not_in u [] h = refl
not_in u (x ∷ xs) h = or_from (x == u) (is_in u xs) (differ x u (h 0 (omega arith))) (not_in u xs (λ k p e. h (suc k) (omega arith) e))

front_at : {X : Type 0} (xs ys : List X) (k : ℕ) (d : X) → k < length xs → get_or (xs ++ ys) k d ≡ get_or xs k d
front_at [] ys k d h = absurd (omega arith)
front_at (x ∷ xs) ys zero d h = refl
front_at (x ∷ xs) ys (suc k) d h = front_at xs ys k d (omega arith)

last_at : {X : Type 0} (xs : List X) (y : X) (k : ℕ) (d : X) → k ≡ length xs → get_or (xs ++ y ∷ []) k d ≡ y
last_at [] y zero d h = refl
last_at [] y (suc k) d h = absurd (omega arith)
last_at (x ∷ xs) y zero d h = absurd (omega arith)
last_at (x ∷ xs) y (suc k) d h = last_at xs y k d (omega arith)

-- ---- the units of one more instance

test_fixed : (i : Instance) (m : UnitMark) (v u : ℕ) → i.mark ≡ m → own_unit i ≡ Some v → same_mark m (Fixed u) ≡ (v == u)
test_fixed i (Fixed w) v u e h =
    let k : Some w ≡ Some v = rw e at h in
    let same : w ≡ v = cc in
    ap (λ n. n == u) same
test_fixed i Star v u e h =
    let k = rw e at h in
    absurd (cc)

test_star : (i : Instance) (m : UnitMark) (u : ℕ) → i.mark ≡ m → own_unit i ≡ None → same_mark m (Fixed u) ≡ false
test_star i (Fixed w) u e h =
    let k = rw e at h in
    absurd (cc)
test_star i Star u e h = refl

of_unit-append : (insts : List Instance) (i : Instance) (u : ℕ) → of_unit (insts ++ i ∷ []) u ≡ of_unit insts u ++ cond (same_mark i.mark (Fixed u)) (i ∷ []) []
of_unit-append insts i u = filter-append (λ (j : Instance). same_mark j.mark (Fixed u)) insts (i ∷ [])

-- those of another unit stay the same
of_unit_kept : (insts : List Instance) (i : Instance) (u : ℕ) → same_mark i.mark (Fixed u) ≡ false → of_unit (insts ++ i ∷ []) u ≡ of_unit insts u
of_unit_kept insts i u h = of_unit-append insts i u ∙ ap (λ b. of_unit insts u ++ cond b (i ∷ []) []) h ∙ append-nil (of_unit insts u)

of_unit_more : (insts : List Instance) (i : Instance) (u : ℕ) → own_unit i ≡ Some u → of_unit (insts ++ i ∷ []) u ≡ of_unit insts u ++ i ∷ []
of_unit_more insts i u h =
    of_unit-append insts i u ∙ ap (λ b. of_unit insts u ++ cond b (i ∷ []) []) (test_fixed i i.mark u u refl h ∙ eq-eqb u u refl)

units-append : (insts : List Instance) (i : Instance) (o : Option ℕ) → own_unit i ≡ o → filter_map own_unit (insts ++ i ∷ []) ≡ filter_map own_unit insts ++ cons_option o []
units-append insts i o h = filter_map-append own_unit insts (i ∷ []) ∙ ap (λ o. filter_map own_unit insts ++ cons_option o []) h

units_starred : (insts : List Instance) (i : Instance) → own_unit i ≡ None → units_of (insts ++ i ∷ []) ≡ units_of insts
units_starred insts i h = ap firsts (units-append insts i None h ∙ append-nil (filter_map own_unit insts))

units_fixed : (insts : List Instance) (i : Instance) (u : ℕ) (b : Bool) → own_unit i ≡ Some u → is_in u (units_of insts) ≡ b → units_of (insts ++ i ∷ []) ≡ cond b (units_of insts) (units_of insts ++ u ∷ [])
units_fixed insts i u b h is =
    ap firsts (units-append insts i (Some u) h) ∙ sym (gathered_is (filter_map own_unit insts) (u ∷ [])) ∙ ap (λ c. cond c (units_of insts) (units_of insts ++ u ∷ [])) is

none_there : (b : Bool) (x : Instance) (xs : List Instance) (u : ℕ) → same_mark x.mark (Fixed u) ≡ b → b ≡ false → of_unit xs u ≡ [] → of_unit (x ∷ xs) u ≡ []
none_there b x xs u is e h = ap (λ c. cond c (x ∷ of_unit xs u) (of_unit xs u)) (is ∙ e) ∙ h

no_unit_at : (o : Option ℕ) (x : Instance) (xs : List Instance) (u : ℕ) → own_unit x ≡ o → is_in u (cons_option o (filter_map own_unit xs)) ≡ false → (is_in u (filter_map own_unit xs) ≡ false → of_unit xs u ≡ []) → of_unit (x ∷ xs) u ≡ []
no_unit_at None x xs u is h ih = none_there false x xs u (test_star x x.mark u refl is) refl (ih h)
no_unit_at (Some v) x xs u is h ih =
    let both = or_parts (v == u) (is_in u (filter_map own_unit xs)) h in
    none_there (v == u) x xs u (test_fixed x x.mark v u refl is) both.0 (ih both.1)

-- a unit that isn't there has no instances
no_unit : (insts : List Instance) (u : ℕ) → is_in u (filter_map own_unit insts) ≡ false → of_unit insts u ≡ []
no_unit [] u h = refl
no_unit (x ∷ xs) u h = no_unit_at (own_unit x) x xs u refl h (λ k. no_unit xs u k)

-- ---- one more instance

pub no_groups : (place : ℕ → Option ℕ) → ((u : ℕ) → place u ≡ None) → AreGroups [] [] place
unfolding firsts
no_groups place h = record {
  as_many = refl;
  found = λ u p e. absurd (let none = h u in cc);
  there = λ p k. absurd (omega arith);
  own = λ p k. absurd (omega arith);
}

pub add_starred : (insts : List Instance) (i : Instance) (groups : List (List (Bor Instance))) (place : ℕ → Option ℕ) → AreGroups insts groups place → own_unit i ≡ None → AreGroups (insts ++ i ∷ []) groups place
add_starred insts i groups place kept h =
    let same = units_starred insts i h in
    record {
      as_many = kept.as_many ∙ ap length (sym same);
      found = λ u p e. ((kept.found u p e).0, ap (λ xs. get_or xs p 0) same ∙ (kept.found u p e).1);
      there = λ p k. ap (λ xs. place (get_or xs p 0)) same ∙ kept.there p k;
      own = λ p k. kept.own p k ∙ sym (of_unit_kept insts i (get_or (units_of insts) p 0) (test_star i i.mark _ refl h)) ∙ ap (λ xs. of_unit (insts ++ i ∷ []) (get_or xs p 0)) (sym same);
    }

same_or_not : (p q : ℕ) → (p ≡ q) ⊎ (p ≢ q)
same_or_not p q = grind arith

own_known : (insts : List Instance) (i : Instance) (groups : List (List (Bor Instance))) (place : ℕ → Option ℕ) (u p : ℕ) (group : List (Bor Instance)) → AreGroups insts groups place → own_unit i ≡ Some u → place u ≡ Some p
    → seen group ≡ seen (get_or groups p []) ++ i ∷ [] → (q : ℕ) → q < length groups → (q ≡ p) ⊎ (q ≢ p) → seen (get_or (set groups p group) q []) ≡ of_unit (insts ++ i ∷ []) (get_or (units_of insts) q 0)
own_known insts i groups place u p group kept h at new q k (inl same) =
    let f = kept.found u p at in
    ap (λ n. seen (get_or (set groups p group) n [])) same
    ∙ ap seen (get_or-set_same groups p group [] f.0)
    ∙ new
    ∙ ap (λ is. is ++ i ∷ []) (kept.own p f.0 ∙ ap (of_unit insts) f.1)
    ∙ sym (of_unit_more insts i u h)
    ∙ ap (of_unit (insts ++ i ∷ [])) (sym f.1 ∙ ap (λ n. get_or (units_of insts) n 0) (sym same))
own_known insts i groups place u p group kept h at new q k (inr other) =
    let there = kept.there q k in
    let apart : u ≢ get_or (units_of insts) q 0 = λ e. other (let w : place u ≡ Some q = ap place e ∙ there in cc) in
    ap seen (get_or-set_other groups p q group [] other)
    ∙ kept.own q k
    ∙ sym (of_unit_kept insts i (get_or (units_of insts) q 0) (test_fixed i i.mark u _ refl h ∙ differ u _ apart))

-- an instance of a unit that has a group
pub add_known : (insts : List Instance) (i : Instance) (groups : List (List (Bor Instance))) (place : ℕ → Option ℕ) (u p : ℕ) (group : List (Bor Instance)) → AreGroups insts groups place → own_unit i ≡ Some u → place u ≡ Some p
    → seen group ≡ seen (get_or groups p []) ++ i ∷ [] → AreGroups (insts ++ i ∷ []) (set groups p group) place
add_known insts i groups place u p group kept h at new =
    let f = kept.found u p at in
    let there : is_in u (units_of insts) ≡ true = ap (λ n. is_in n (units_of insts)) (sym f.1) ∙ in_at p (units_of insts) (omega (arith, f.0, kept.as_many)) in
    let same : units_of (insts ++ i ∷ []) ≡ units_of insts = units_fixed insts i u true h there in
    let size : length (set groups p group) ≡ length groups = length-set groups p group in
    record {
      as_many = size ∙ kept.as_many ∙ ap length (sym same);
      found = λ v q e. (omega (arith, (kept.found v q e).0), ap (λ xs. get_or xs q 0) same ∙ (kept.found v q e).1);
      there = λ q k. ap (λ xs. place (get_or xs q 0)) same ∙ kept.there q (omega arith);
      own = λ q k. own_known insts i groups place u p group kept h at new q (omega arith) (same_or_not q p) ∙ ap (λ xs. of_unit (insts ++ i ∷ []) (get_or xs q 0)) (sym same);
    }

below_or_last : (q n : ℕ) → q < n + 1 → (q < n) ⊎ (q ≡ n)
below_or_last q n h = grind arith

found_new : (insts : List Instance) (groups : List (List (Bor Instance))) (place place' : ℕ → Option ℕ) (u : ℕ) → AreGroups insts groups place → place' u ≡ Some (length groups) → ((v : ℕ) → v ≢ u → place' v ≡ place v)
    → (v q : ℕ) → place' v ≡ Some q → (v ≡ u) ⊎ (v ≢ u) → (q < length groups + 1) × (get_or (units_of insts ++ u ∷ []) q 0 ≡ v)
found_new insts groups place place' u kept at others v q e (inl same) =
    let w : place' u ≡ Some q = ap place' (sym same) ∙ e in
    let z : length groups ≡ q = cc in
    (omega arith, last_at (units_of insts) u q 0 (omega (arith, kept.as_many)) ∙ sym same)
found_new insts groups place place' u kept at others v q e (inr other) =
    let f = kept.found v q (sym (others v other) ∙ e) in
    (omega (arith, f.0), front_at (units_of insts) (u ∷ []) q 0 (omega (arith, f.0, kept.as_many)) ∙ f.1)

apart_from : (insts : List Instance) (groups : List (List (Bor Instance))) (place : ℕ → Option ℕ) (u q : ℕ) → AreGroups insts groups place → place u ≡ None → q < length groups → get_or (units_of insts) q 0 ≢ u
apart_from insts groups place u q kept none k e =
    let there : place u ≡ Some q = ap place (sym e) ∙ kept.there q k in
    absurd (cc)

there_new : (insts : List Instance) (groups : List (List (Bor Instance))) (place place' : ℕ → Option ℕ) (u : ℕ) → AreGroups insts groups place → place u ≡ None → place' u ≡ Some (length groups) → ((v : ℕ) → v ≢ u → place' v ≡ place v)
    → (q : ℕ) → (q < length groups) ⊎ (q ≡ length groups) → place' (get_or (units_of insts ++ u ∷ []) q 0) ≡ Some q
there_new insts groups place place' u kept none at others q (inl k) =
    ap place' (front_at (units_of insts) (u ∷ []) q 0 (omega (arith, kept.as_many)))
    ∙ others (get_or (units_of insts) q 0) (apart_from insts groups place u q kept none k)
    ∙ kept.there q k
there_new insts groups place place' u kept none at others q (inr same) =
    ap place' (last_at (units_of insts) u q 0 (omega (arith, kept.as_many))) ∙ at ∙ ap (λ n. Some n) (sym same)

own_new : (insts : List Instance) (i : Instance) (groups : List (List (Bor Instance))) (place : ℕ → Option ℕ) (u : ℕ) (group : List (Bor Instance)) → AreGroups insts groups place → own_unit i ≡ Some u → place u ≡ None
    → seen group ≡ i ∷ [] → is_in u (units_of insts) ≡ false → (q : ℕ) → (q < length groups) ⊎ (q ≡ length groups) → seen (get_or (groups ++ group ∷ []) q []) ≡ of_unit (insts ++ i ∷ []) (get_or (units_of insts ++ u ∷ []) q 0)
own_new insts i groups place u group kept h none new free q (inl k) =
    let apart : u ≢ get_or (units_of insts) q 0 = λ e. apart_from insts groups place u q kept none k (sym e) in
    ap seen (front_at groups (group ∷ []) q [] k)
    ∙ kept.own q k
    ∙ sym (of_unit_kept insts i (get_or (units_of insts) q 0) (test_fixed i i.mark u _ refl h ∙ differ u _ apart))
    ∙ ap (of_unit (insts ++ i ∷ [])) (sym (front_at (units_of insts) (u ∷ []) q 0 (omega (arith, kept.as_many))))
own_new insts i groups place u group kept h none new free q (inr same) =
    ap seen (last_at groups group q [] same)
    ∙ new
    ∙ ap (λ is. is ++ i ∷ []) (sym (no_unit insts u (sym (is_in-firsts u (filter_map own_unit insts)) ∙ free)))
    ∙ sym (of_unit_more insts i u h)
    ∙ ap (of_unit (insts ++ i ∷ [])) (sym (last_at (units_of insts) u q 0 (omega (arith, kept.as_many))))

-- an instance of a unit that has none yet
pub add_new : (insts : List Instance) (i : Instance) (groups : List (List (Bor Instance))) (place place' : ℕ → Option ℕ) (u : ℕ) (group : List (Bor Instance)) → AreGroups insts groups place → own_unit i ≡ Some u → place u ≡ None
    → place' u ≡ Some (length groups) → ((v : ℕ) → v ≢ u → place' v ≡ place v) → seen group ≡ i ∷ [] → AreGroups (insts ++ i ∷ []) (groups ++ group ∷ []) place'
add_new insts i groups place place' u group kept h none at others new =
    let free : is_in u (units_of insts) ≡ false = not_in u (units_of insts) (λ k p. apart_from insts groups place u k kept none (omega (arith, kept.as_many))) in
    let same : units_of (insts ++ i ∷ []) ≡ units_of insts ++ u ∷ [] = units_fixed insts i u false h free in
    let size : length (groups ++ group ∷ []) ≡ length groups + 1 = omega (arith, length-append groups (group ∷ [])) in
    record {
      as_many = omega (arith, kept.as_many, length-append (units_of insts) (u ∷ []), ap length same);
      found = λ v q e. let f = found_new insts groups place place' u kept at others v q e (same_or_not v u) in (omega (arith, f.0), ap (λ xs. get_or xs q 0) same ∙ f.1);
      there = λ q k. ap (λ xs. place' (get_or xs q 0)) same ∙ there_new insts groups place place' u kept none at others q (below_or_last q (length groups) (omega arith));
      own = λ q k. own_new insts i groups place u group kept h none new free q (below_or_last q (length groups) (omega arith)) ∙ ap (λ xs. of_unit (insts ++ i ∷ []) (get_or xs q 0)) (sym same);
    }

-- ---- the groups one after the other

pieces_at : {X Y Z : Type 0} (f : X → List Z) (g : Y → List Z) (xs : List X) (ys : List Y) (c : X) (d : Y) → length xs ≡ length ys → ((k : ℕ) → k < length xs → f (get_or xs k c) ≡ g (get_or ys k d)) → flat_map f xs ≡ flat_map g ys
pieces_at f g [] [] c d e h = refl
pieces_at f g [] (y ∷ ys) c d e h = absurd (omega arith)
pieces_at f g (x ∷ xs) [] c d e h = absurd (omega arith)
pieces_at f g (x ∷ xs) (y ∷ ys) c d e h =
    ap (λ zs. zs ++ flat_map f xs) (h 0 (omega arith)) ∙ ap (λ zs. g y ++ zs) (pieces_at f g xs ys c d (omega arith) (λ k p. h (suc k) (omega arith)))

pub flat_groups : (insts : List Instance) (groups : List (List (Bor Instance))) (place : ℕ → Option ℕ) → AreGroups insts groups place → flat_map seen groups ≡ flat_map (of_unit insts) (units_of insts)
flat_groups insts groups place kept = pieces_at seen (of_unit insts) groups (units_of insts) [] 0 kept.as_many kept.own

-- ---- units that ascend

pub none_ascend : AreAscending [] 0
unfolding firsts
none_ascend = record {
  same = refl;
  below = All-nil (λ unit. unit < 0);
}

-- the units are the same for two functions that agree on them
flat_agree : (f g : ℕ → List Instance) (us : List ℕ) (n : ℕ) → All (λ u. u < n) us → ((u : ℕ) → u < n → f u ≡ g u) → flat_map f us ≡ flat_map g us
flat_agree f g [] n h same = refl
flat_agree f g (u ∷ us) n h same =
    ap (λ xs. xs ++ flat_map f us) (same u (h 0 0 (omega arith)))
    ∙ ap (λ xs. g u ++ xs) (flat_agree f g us n (λ k e m. h (suc k) e (omega (arith, m))) same)

fixed_push : (insts : List Instance) (i : Instance) (b : Bool) → same_mark i.mark Star ≡ b → fixed (insts ++ i ∷ []) ≡ fixed insts ++ cond (not b) (i ∷ []) []
fixed_push insts i b e = filter-append (λ (j : Instance). not (same_mark j.mark Star)) insts (i ∷ []) ∙ ap (λ c. fixed insts ++ cond (not c) (i ∷ []) []) e

fixed_mark : (i : Instance) (m : UnitMark) (u : ℕ) → i.mark ≡ m → own_unit i ≡ Some u → same_mark m Star ≡ false
fixed_mark i (Fixed w) u e h = refl
fixed_mark i Star u e h =
    let k = rw e at h in
    absurd (cc)

star_mark : (i : Instance) (m : UnitMark) → i.mark ≡ m → own_unit i ≡ None → same_mark m Star ≡ true
star_mark i (Fixed w) e h =
    let k = rw e at h in
    absurd (cc)
star_mark i Star e h = refl

-- a star behind them
pub ascending_star : (insts : List Instance) (i : Instance) (least : ℕ) → AreAscending insts least → own_unit i ≡ None → AreAscending (insts ++ i ∷ []) least
ascending_star insts i least kept h =
    let same = units_starred insts i h in
    let flat : flat_map (of_unit (insts ++ i ∷ [])) (units_of insts) ≡ flat_map (of_unit insts) (units_of insts) =
    flat_agree (of_unit (insts ++ i ∷ [])) (of_unit insts) (units_of insts) least kept.below (λ u m. of_unit_kept insts i u (test_star i i.mark u refl h)) in
    record {
      same =
          ap (flat_map (of_unit (insts ++ i ∷ []))) same ∙ flat ∙ kept.same ∙ sym (append-nil (fixed insts))
          ∙ sym (fixed_push insts i true (star_mark i i.mark refl h));
      below = subst (λ us. All (λ u. u < least) us) (sym same) kept.below;
    }

-- a unit that is not below the least one behind them
pub ascending_unit : (insts : List Instance) (i : Instance) (least u : ℕ) → AreAscending insts least → own_unit i ≡ Some u → least ≤ u → AreAscending (insts ++ i ∷ []) (u + 1)
ascending_unit insts i least u kept h le =
    let free : is_in u (units_of insts) ≡ false = not_in u (units_of insts) (λ k m e. let lt = kept.below k 0 m in omega (arith, lt, e, le)) in
    let more : units_of (insts ++ i ∷ []) ≡ units_of insts ++ u ∷ [] = units_fixed insts i u false h free in
    let all = insts ++ i ∷ [] in
    let old : flat_map (of_unit all) (units_of insts) ≡ flat_map (of_unit insts) (units_of insts) =
    flat_agree (of_unit all) (of_unit insts) (units_of insts) least kept.below
    (λ v m. of_unit_kept insts i v (test_fixed i i.mark u v refl h ∙ differ u v (λ e. omega (arith, e, m, le)))) in
    let own : of_unit all u ≡ i ∷ [] = of_unit_more insts i u h ∙ ap (λ is. is ++ i ∷ []) (no_unit insts u (sym (is_in-firsts u (filter_map own_unit insts)) ∙ free)) in
    record {
      same =
          ap (flat_map (of_unit all)) more
          ∙ flat_map-append (of_unit all) (units_of insts) (u ∷ [])
          ∙ ap (λ xs. xs ++ flat_map (of_unit all) (u ∷ [])) (old ∙ kept.same)
          ∙ ap (λ xs. fixed insts ++ xs) (append-nil (of_unit all u) ∙ own)
          ∙ sym (fixed_push insts i false (fixed_mark i i.mark u refl h));
      below = subst (λ us. All (λ v. v < u + 1) us) (sym more)
          (All-append (λ v. v < u + 1) (units_of insts) (u ∷ []) (λ k e m. let lt = kept.below k e m in omega (arith, lt, le)) (All-cons (λ v. v < u + 1) u [] (omega arith) (All-nil (λ v. v < u + 1))));
    }
