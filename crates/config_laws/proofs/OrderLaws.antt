-- The instances of a device in the order of their rows are its instances, each once.
use Rattle.std.proofs.Common.{◌≡◌, ℕ, ◌+◌, ◌≤◌, suc, zero, Bool, true, false, cond, ◌||◌, List, [], ◌∷◌, length, get_or, refl, ap, sym, ◌∙◌, length-append, arith}
use Rattle.std.specs.Prelude.{IfSome, filter, flat_map, filter_map, not, ◌==◌, if◌then◌else◌}
use Rattle.std.specs.List.{All}
use Rattle.std.proofs.lemmas.Bool.{eqb-true, eqb-false, eq-eqb, ne_eqb}
use Rattle.std.proofs.lemmas.List.{length-map}
use Rattle.std.proofs.lemmas.List.Elements.{All-append, All-cons, All-filter, All-nil, All-weaker, filter-append}
use Rattle.cf_types.specs.Gather.{is_in}
use Rattle.cf_types.specs.Numbers.{below}
use Rattle.cf_types.specs.Offers.{firsts}
use Rattle.cf_types.specs.declared.instance.Instance.{Instance}
use Rattle.cf_types.specs.declared.stmt.UnitMark.{UnitMark}
use Rattle.cf_types.specs.declared.stmt.UnitMark.TheVariants.{Fixed, Star}
use Rattle.cf_types.proofs.OfferLemmas.{is_in-firsts}
use Rattle.config_rules.specs.Meaning.{device_rows, first_unit, in_order, row, rows_of, own_unit}
use Rattle.config_rules.specs.Select.{same_mark}
use Rattle.cf_declare.proofs.ListFacts.{all_pieces}
use Rattle.config_laws.proofs.ListLaws.{all_givers, all_parts, all_passing, all_piece, both_few, none_of_both, number_in, pieces_few, pieces_shorter}

-- the instances of a unit
abbrev of_unit : List Instance → ℕ → List Instance
of_unit insts unit = filter (λ i. same_mark i.mark (Fixed unit)) insts

abbrev units : List Instance → List ℕ
units insts = filter_map own_unit insts

-- ---- the same instances

-- what holds of all instances holds of them in this order
pub order_kept : (P : Instance → Type 0) (insts : List Instance) → All P insts → All P (in_order insts)
order_kept P insts h =
    All-append P (flat_map (of_unit insts) (firsts (units insts))) (filter (λ i. same_mark i.mark Star) insts)
    (all_pieces P (of_unit insts) (firsts (units insts)) (λ k d lt. All-filter (λ (i : Instance). same_mark i.mark (Fixed (get_or (firsts (units insts)) k d))) P insts h))
    (All-filter (λ (i : Instance). same_mark i.mark Star) P insts h)

in_itself : (us : List ℕ) → All (λ u. is_in u us ≡ true) us
in_itself [] = All-nil (λ u. is_in u [] ≡ true)
in_itself (v ∷ us) =
    All-cons (λ u. is_in u (v ∷ us) ≡ true) v us (ap (λ b. b || is_in v us) (eq-eqb v v refl))
    (All-weaker (λ u. is_in u us ≡ true) (λ u. is_in u (v ∷ us) ≡ true) (λ u h. or_true (v == u) (is_in u us) h) us (in_itself us))
  where
    or_true : (a b : Bool) → b ≡ true → (a || b) ≡ true
    or_true true b h = refl
    or_true false b h = h

-- one instance is among those of its unit, or starred
one_found : (P : Instance → Type 0) (us : List ℕ) (x : Instance) (mark : UnitMark) → x.mark ≡ mark → IfSome (own_unit x) (λ u. is_in u us ≡ true)
    → ((u : ℕ) → is_in u us ≡ true → same_mark x.mark (Fixed u) ≡ true → P x) → (same_mark x.mark Star ≡ true → P x) → P x
one_found P us x (Fixed u) e there unit star =
    let found : is_in u us ≡ true = rw e at there in
    unit u found (rw e (eq-eqb u u refl))
one_found P us x Star e there unit star = star (rw e refl)

-- and the other way round: each instance has its place in the order
pub order_complete : (P : Instance → Type 0) (insts : List Instance) → All P (in_order insts) → All P insts
order_complete P insts h =
    let us = firsts (units insts) in
    let parts = all_parts P (flat_map (of_unit insts) us) (filter (λ i. same_mark i.mark Star) insts) h in
    let pieces : All (λ u. All P (of_unit insts u)) us = all_piece P (of_unit insts) us parts.0 in
    let stars = all_passing P (λ i. same_mark i.mark Star) insts parts.1 in
    let there : All (λ i. IfSome (own_unit i) (λ u. is_in u us ≡ true)) insts =
    all_givers (λ u. is_in u us ≡ true) own_unit insts
    (All-weaker (λ u. is_in u (units insts) ≡ true) (λ u. is_in u us ≡ true) (λ u e. is_in-firsts u (units insts) ∙ e) (units insts) (in_itself (units insts))) in
    λ k d lt.
    one_found P us (get_or insts k d) (get_or insts k d).mark refl (there k d lt)
    (λ u found. all_passing P (λ i. same_mark i.mark (Fixed u)) insts (number_in (λ v. All P (of_unit insts v)) u us found pieces) k d lt) (stars k d lt)

-- ---- how many

-- each number is once among the first appearances
firsts_once : (v : ℕ) (us : List ℕ) → length (filter (λ u. v == u) (firsts us)) ≤ 1
unfolding firsts
firsts_once v [] = omega arith
firsts_once v (x ∷ us) = one (v == x) refl (firsts_once v us)
  where
    other : (u : ℕ) (b : Bool) → (u == x) ≡ b → not b ≡ true → v ≡ x → (v == u) ≡ false
    other u true e apart same = absurd (cc)
    other u false e apart same = ne_eqb v u (λ k. eqb-false u x e (sym k ∙ same))

    one : (b : Bool) → (v == x) ≡ b → length (filter (λ u. v == u) (firsts us)) ≤ 1
        → length (cond b (x ∷ filter (λ u. v == u) (filter (λ y. not (y == x)) (firsts us))) (filter (λ u. v == u) (filter (λ y. not (y == x)) (firsts us)))) ≤ 1
    one true e h =
        let same : v ≡ x = eqb-true v x e in
        let none : filter (λ u. v == u) (filter (λ y. not (y == x)) (firsts us)) ≡ [] =
        none_of_both (λ u. v == u) (λ y. not (y == x)) (λ u apart. other u (u == x) refl apart same) (firsts us) in
        omega (arith, ap length none)
    one false e h = omega (arith, both_few (λ u. v == u) (λ y. not (y == x)) (firsts us))

-- and once among the numbers below a bound
none_below : (v n : ℕ) → n ≤ v → length (filter (λ k. v == k) (below n)) ≡ 0
none_below v zero h = refl
none_below v (suc n) h =
    let last : filter (λ k. v == k) (n ∷ []) ≡ [] = ap (λ b. cond b (n ∷ []) []) (ne_eqb v n (λ e. omega arith)) in
    omega (arith, ap length (filter-append (λ k. v == k) (below n) (n ∷ [])), length-append (filter (λ k. v == k) (below n)) (filter (λ k. v == k) (n ∷ [])), none_below v n (omega arith), ap length last)

below_once : (v n : ℕ) → length (filter (λ k. v == k) (below n)) ≤ 1
below_once v zero = omega arith
below_once v (suc n) =
    let parts : length (filter (λ k. v == k) (below (suc n))) ≡ length (filter (λ k. v == k) (below n)) + length (filter (λ k. v == k) (n ∷ [])) =
    ap length (filter-append (λ k. v == k) (below n) (n ∷ [])) ∙ length-append (filter (λ k. v == k) (below n)) (filter (λ k. v == k) (n ∷ [])) in
    one (v == n) refl (below_once v n) parts
  where
    one : (b : Bool) → (v == n) ≡ b → length (filter (λ k. v == k) (below n)) ≤ 1
        → length (filter (λ k. v == k) (below (suc n))) ≡ length (filter (λ k. v == k) (below n)) + length (cond b (n ∷ []) [])
        → length (filter (λ k. v == k) (below (suc n))) ≤ 1
    one true e h parts = omega (arith, none_below v n (let same : v ≡ n = eqb-true v n e in omega arith))
    one false e h parts = omega arith

unit_once : (us : List ℕ) (mark : UnitMark) → ((v : ℕ) → length (filter (λ u. v == u) us) ≤ 1) → length (filter (λ u. same_mark mark (Fixed u)) us) + (if same_mark mark Star then 1 else 0) ≤ 1
unit_once us (Fixed v) h = omega (arith, h v)
unit_once us Star h = omega (arith, none_starred us)
  where
    none_starred : (vs : List ℕ) → length (filter (λ u. same_mark Star (Fixed u)) vs) ≡ 0
    none_starred [] = refl
    none_starred (v ∷ vs) = none_starred vs

-- the order has no more instances
pub order_few : (insts : List Instance) → length (in_order insts) ≤ length insts
order_few insts =
    let us = firsts (units insts) in
    omega (
      arith,
      length-append (flat_map (of_unit insts) us) (filter (λ i. same_mark i.mark Star) insts),
      pieces_few (λ u i. same_mark i.mark (Fixed u)) (λ (i : Instance). same_mark i.mark Star) us (λ i. unit_once us i.mark (λ v. firsts_once v (units insts))) insts,
    )

-- no more rows than instances
pub rows_few : (n : ℕ) (insts : List Instance) → length (rows_of n insts) ≤ length insts
unfolding rows_of
rows_few n insts =
    let own : ℕ → List Instance = λ device. filter (λ i. i.joined.device == device) insts in
    let shorter = pieces_shorter (device_rows insts) own (λ device. omega (arith, length-map (in_order (own device)) (row (first_unit (units (own device)))), order_few (own device))) (below n) in
    omega (arith, shorter, pieces_few (λ k i. i.joined.device == k) (λ (i : Instance). false) (below n) (λ i. omega (arith, below_once i.joined.device n)) insts)
