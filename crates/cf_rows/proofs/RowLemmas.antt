-- Instances behind references, and one more of them.
use Rattle.std.proofs.Common.{◌≡◌, ℕ, zero, suc, ◌+◌, ◌<◌, ◌≤◌, max, Bool, true, false, cond, Option, Some, None, List, [], ◌∷◌, ◌++◌, length, get_or, take, map, refl, ap, sym, ◌∙◌, subst, arith, All, append-nil, append_assoc, add-one}
use Rattle.std.specs.Prelude.{◌==◌, filter, flat_map, IfSome, is_none, is_some, not}
use Rattle.std.specs.List.{filter_map, cons_option}
use Rattle.std.proofs.lemmas.List.{take_more, map-append, length-map, get_or_default}
use Rattle.std.proofs.lemmas.List.Elements.{filter-append, filter_map-append, All-filter}
use Rattle.std.proofs.lemmas.List.Sums.{fold-append}
use Rattle.std.proofs.lemmas.Grind.{flat_map-append}
use Rattle.std.specs.Borrow.{Bor}
use Rattle.cf_types.proofs.ListLemmas.{flat_map_step}
use Rattle.cf_types.specs.declared.instance.Instance.{Instance}
use Rattle.cf_types.specs.declared.tables.Row.{Row}
use Rattle.cf_types.specs.declared.stmt.UnitMark.TheVariants.{Fixed, Star}
use Rattle.cf_types.specs.declared.stmt.UnitMark.{UnitMark}
use Rattle.config_rules.specs.Select.{same_mark}
use Rattle.config_rules.specs.Meaning.{own_unit, first_unit, device_rows, in_order, row}
use Rattle.cf_types.specs.Numbers.{below}
use Rattle.cf_rows.specs.Rows.{seen, UnitFits, AreGroups}

-- one more place with nothing
pub none_more : {X : Type 0} (xs : List (Option X)) (d : ℕ) → ((k : ℕ) → get_or xs k None ≡ None) → get_or (xs ++ None ∷ []) d None ≡ None
none_more [] zero h = refl
none_more [] (suc d) h = refl
none_more (x ∷ xs) zero h = h 0
none_more (x ∷ xs) (suc d) h = none_more xs d (λ k. h (suc k))

-- one more instance
pub seen_more : (refs : List (Bor Instance)) (i : ℕ) (r : Bor Instance) → i < length refs → r ≡ get_or refs i r → seen (take (i + 1) refs) ≡ seen (take i refs) ++ r.now ∷ []
seen_more refs i r p is =
    ap seen (take_more refs i r p) ∙ map-append (λ (x : Bor Instance). x.now) (take i refs) (get_or refs i r ∷ []) ∙ ap (λ (x : Bor Instance). seen (take i refs) ++ x.now ∷ []) (sym is)

-- one more of those that are grouped
pub more_groups : (own : List (Bor Instance)) (i : ℕ) (r : Bor Instance) (groups : List (List (Bor Instance))) (place : ℕ → Option ℕ) → i < length own → r ≡ get_or own i r → AreGroups (seen (take i own) ++ r.now ∷ []) groups place → AreGroups (seen (take (i + 1) own)) groups place
more_groups own i r groups place p is h = subst (λ (insts : List Instance). AreGroups insts groups place) (sym (seen_more own i r p is)) h

-- one more that may pass a test
passing_more : (t : Instance → Bool) (own : List (Bor Instance)) (i : ℕ) (r : Bor Instance) (b : Bool) → i < length own → r ≡ get_or own i r → t r.now ≡ b → filter t (seen (take (i + 1) own)) ≡ filter t (seen (take i own)) ++ cond b (r.now ∷ []) []
passing_more t own i r b p is e =
    ap (filter t) (seen_more own i r p is) ∙ filter-append t (seen (take i own)) (r.now ∷ []) ∙ ap (λ c. filter t (seen (take i own)) ++ cond c (r.now ∷ []) []) e

star_by : (i : Instance) (m : UnitMark) → i.mark ≡ m → same_mark m Star ≡ is_none (own_unit i)
star_by i (Fixed u) e = rw e refl
star_by i Star e = rw e refl

-- an instance is starred where it has no unit
pub star_test : (i : Instance) → same_mark i.mark Star ≡ is_none (own_unit i)
star_test i = star_by i i.mark refl

fixed_by : (i : Instance) (m : UnitMark) → i.mark ≡ m → not (same_mark m Star) ≡ is_some (own_unit i)
fixed_by i (Fixed u) e = rw e refl
fixed_by i Star e = rw e refl

-- an instance is not starred where it has a unit
pub fixed_test : (i : Instance) → not (same_mark i.mark Star) ≡ is_some (own_unit i)
fixed_test i = fixed_by i i.mark refl

seen-append : (refs : List (Bor Instance)) (r : Bor Instance) → seen (refs ++ r ∷ []) ≡ seen refs ++ r.now ∷ []
seen-append refs r = map-append (λ (x : Bor Instance). x.now) refs (r ∷ [])

-- one more is put where it passes the test, and only there
pub push_passing : (t : Instance → Bool) (own ordered ordered' : List (Bor Instance)) (first : List Instance) (i : ℕ) (r : Bor Instance) → i < length own → r ≡ get_or own i r → t r.now ≡ true → seen ordered ≡ first ++ filter t (seen (take i own)) → ordered' ≡ ordered ++ r ∷ []
    → seen ordered' ≡ first ++ filter t (seen (take (i + 1) own))
push_passing t own ordered ordered' first i r p is passes so_far new =
    ap seen new ∙ seen-append ordered r ∙ ap (λ (xs : List Instance). xs ++ r.now ∷ []) so_far ∙ append_assoc first (filter t (seen (take i own))) (r.now ∷ [])
    ∙ ap (λ (xs : List Instance). first ++ xs) (sym (passing_more t own i r true p is passes))

pub leave_other : (t : Instance → Bool) (own ordered : List (Bor Instance)) (first : List Instance) (i : ℕ) (r : Bor Instance) → i < length own → r ≡ get_or own i r → t r.now ≡ false → seen ordered ≡ first ++ filter t (seen (take i own))
    → seen ordered ≡ first ++ filter t (seen (take (i + 1) own))
leave_other t own ordered first i r p is passes so_far =
    so_far ∙ ap (λ (xs : List Instance). first ++ xs) (sym (append-nil (filter t (seen (take i own)))) ∙ sym (passing_more t own i r false p is passes))

-- ---- the first unit

first_at : (insts : List Instance) (i : Instance) (o : Option ℕ) → own_unit i ≡ o → first_unit (filter_map own_unit (insts ++ i ∷ [])) ≡ first_unit (filter_map own_unit insts ++ cons_option o [])
first_at insts i o e = ap first_unit (filter_map-append own_unit insts (i ∷ [])) ∙ ap (λ p. first_unit (filter_map own_unit insts ++ cons_option p [])) e

pub first_some : (own : List (Bor Instance)) (i : ℕ) (r : Bor Instance) (u first : ℕ) → i < length own → r ≡ get_or own i r → own_unit r.now ≡ Some u → first ≡ first_unit (filter_map own_unit (seen (take i own))) → max first (u + 1) ≡ first_unit (filter_map own_unit (seen (take (i + 1) own)))
first_some own i r u first p is e so_far =
    ap (λ n. max n (u + 1)) so_far
    ∙ sym (fold-append (λ n unit. max n (unit + 1)) 0 (filter_map own_unit (seen (take i own))) (u ∷ []))
    ∙ sym (first_at (seen (take i own)) r.now (Some u) e)
    ∙ ap (λ (insts : List Instance). first_unit (filter_map own_unit insts)) (sym (seen_more own i r p is))

pub first_none : (own : List (Bor Instance)) (i : ℕ) (r : Bor Instance) (first : ℕ) → i < length own → r ≡ get_or own i r → own_unit r.now ≡ None → first ≡ first_unit (filter_map own_unit (seen (take i own))) → first ≡ first_unit (filter_map own_unit (seen (take (i + 1) own)))
first_none own i r first p is e so_far =
    so_far ∙ ap first_unit (sym (append-nil (filter_map own_unit (seen (take i own))))) ∙ sym (first_at (seen (take i own)) r.now None e)
    ∙ ap (λ (insts : List Instance). first_unit (filter_map own_unit insts)) (sym (seen_more own i r p is))

seen_at : (own : List (Bor Instance)) (i : ℕ) (r : Bor Instance) → get_or (seen own) i r.now ≡ (get_or own i r).now
seen_at [] i r = refl
seen_at (x ∷ own) zero r = refl
seen_at (x ∷ own) (suc i) r = seen_at own i r

-- the unit of each is small
pub small_unit : (own : List (Bor Instance)) (i : ℕ) (r : Bor Instance) (u : ℕ) → All UnitFits (seen own) → i < length own → r ≡ get_or own i r → own_unit r.now ≡ Some u → u ≤ 65535
small_unit own i r u h p is e =
    let here : UnitFits (get_or (seen own) i r.now) = h i r.now (omega (arith, length-map own (λ (x : Bor Instance). x.now))) in
    let same : get_or (seen own) i r.now ≡ r.now = seen_at own i r ∙ ap (λ (x : Bor Instance). x.now) (sym is) in
    let now : UnitFits r.now = subst (λ (j : Instance). UnitFits j) same here in
    subst (λ (o : Option ℕ). IfSome o (λ unit. unit ≤ 65535)) e now

-- ---- devices

-- the instances of a device have small units
pub own_units : (insts : List Instance) (own : List (Bor Instance)) (device : ℕ) → All UnitFits insts → seen own ≡ filter (λ i. i.joined.device == device) insts → All UnitFits (seen own)
own_units insts own device h is = subst (λ (js : List Instance). All UnitFits js) (sym is) (All-filter (λ (i : Instance). i.joined.device == device) UnitFits insts h)

-- the rows of one more device
pub rows_more : (insts : List Instance) (device : ℕ) (own : List (Bor Instance)) (rows rows' : List Row) → rows ≡ flat_map (device_rows insts) (below device) → seen own ≡ filter (λ i. i.joined.device == device) insts
    → rows' ≡ rows ++ map (row (first_unit (filter_map own_unit (seen own)))) (in_order (seen own)) → rows' ≡ flat_map (device_rows insts) (below (device + 1))
rows_more insts device own rows rows' so_far is new =
    new
    ∙ ap (λ (js : List Instance). rows ++ map (row (first_unit (filter_map own_unit js))) (in_order js)) is
    ∙ ap (λ (rs : List Row). rs ++ device_rows insts device) so_far
    ∙ ap (λ (rs : List Row). flat_map (device_rows insts) (below device) ++ rs) (sym (append-nil (device_rows insts device)))
    ∙ sym (flat_map-append (device_rows insts) (below device) (device ∷ []))
    ∙ ap (λ n. flat_map (device_rows insts) (below n)) (sym (add-one device))

-- one more group
pub seen_groups : (groups : List (List (Bor Instance))) (i : ℕ) (ordered ordered' group : List (Bor Instance)) → i < length groups → group ≡ get_or groups i group → seen ordered ≡ flat_map seen (take i groups) → ordered' ≡ ordered ++ group
    → seen ordered' ≡ flat_map seen (take (i + 1) groups)
seen_groups groups i ordered ordered' group p is so_far new =
    ap seen new ∙ map-append (λ (x : Bor Instance). x.now) ordered group
    ∙ flat_map_step seen groups i [] [] (seen ordered) (seen ordered ++ seen group) p so_far
    (ap (λ (g : List (Bor Instance)). seen ordered ++ seen g) (is ∙ get_or_default groups i group [] p))

-- the row of one more instance
pub row_step : (f : Instance → Row) (ordered : List (Bor Instance)) (i : ℕ) (r : Bor Instance) (first rows rows' : List Row) → i < length ordered → r ≡ get_or ordered i r → rows ≡ first ++ map f (seen (take i ordered)) → rows' ≡ rows ++ f r.now ∷ []
    → rows' ≡ first ++ map f (seen (take (i + 1) ordered))
row_step f ordered i r first rows rows' p is so_far new =
    new
    ∙ ap (λ (rs : List Row). rs ++ f r.now ∷ []) so_far
    ∙ append_assoc first (map f (seen (take i ordered))) (f r.now ∷ [])
    ∙ ap (λ (rs : List Row). first ++ rs) (sym (map-append f (seen (take i ordered)) (r.now ∷ [])) ∙ ap (map f) (sym (seen_more ordered i r p is)))
