-- What instances wait for, with one more instance, and that those whom an instance carries wait for what it serves.
use Rattle.std.proofs.Common.{◌≡◌, ℕ, ◌+◌, ◌<◌, ◌&&◌, ◌||◌, ◌==◌, Bool, true, false, zero, suc, List, [], ◌∷◌, ◌++◌, length, map, take, get_or, refl, ap, sym, ◌∙◌, arith}
use Rattle.std.specs.Prelude.{Option, Some, None, slice_get}
use Rattle.std.specs.List.{list_any, slice_index_or}
use Rattle.std.proofs.lemmas.Option.{slice_get-map}
use Rattle.std.proofs.lemmas.Grind.{flat_map-append}
use Rattle.std.proofs.lemmas.List.Folds.{list_any-append}
use Rattle.std.specs.Option.{option_map, option_map_or}
use Rattle.std.proofs.lemmas.Bool.Decides.{nat_tests}
use Rattle.std.proofs.lemmas.List.{take_more, map-append, length-map, length-take-le}
use Rattle.std.proofs.Math.Bool.{or-false, and-false}
use Rattle.cf_types.proofs.TestLemmas.{equal_turned}
use Rattle.config_rules.specs.Select as select
use Rattle.cf_types.specs.declared.instance.Instance.{Instance}
use Rattle.cf_select.specs.declared.want.Want.{Want}
use Rattle.cf_types.specs.declared.stmt.UnitMark.{UnitMark}
use Rattle.cf_types.specs.declared.stmt.UnitMark.TheVariants.{Fixed, Star}
use Rattle.cf_types.specs.declared.tables.ParentSpec.{ParentSpec}
use Rattle.cf_types.specs.declared.tables.Place.{Place}
use Rattle.cf_types.specs.declared.tables.Place.TheVariants.{Root, At}
use Rattle.cf_types.specs.Gather.{is_in}
use Rattle.cf_types.specs.Offers.{interfaces_of}
use Rattle.config_rules.specs.Select.{carries, carries_at, is_parent, offers_place, same_mark}
use Rattle.attr_graph.specs.Reach.{Shape}
use Rattle.cf_select.specs.declared.want.Carrier.{Carrier}
use Rattle.cf_select.specs.declared.want.Carrier.TheVariants as carrier
use Rattle.cf_select.specs.Carried.{offered_in}
use Rattle.config_rules.specs.Meaning.{inst_of}
use Rattle.cf_select.specs.Wanted.{asks, carriers_of, is_at, own_of, wants, wants_at, wants_of}

and_true : (a : Bool) → (a && true) ≡ a
and_true true = refl
and_true false = refl

eq_past : (x : ℕ) → (0 == suc x) ≡ false
eq_past x = grind (arith, nat_tests)

eq_front : (n : ℕ) → (suc n == 0) ≡ false
eq_front n = grind (arith, nat_tests)

eq_next : (n x : ℕ) → (suc n == suc x) ≡ (n == x)
eq_next n x = grind (arith, nat_tests)

-- one more at the end
pub at_append : {X : Type 0} (t : X → Bool) (xs : List X) (y : X) (x : ℕ) → option_map_or t (slice_get (xs ++ y ∷ []) x) false ≡ (option_map_or t (slice_get xs x) false || (t y && (length xs == x)))
at_append t [] y zero = sym (and_true (t y))
at_append t [] y (suc x) = sym (ap (λ b. t y && b) (eq_past x) ∙ and-false (t y))
at_append t (z ∷ xs) y zero = sym (ap (λ b. t z || (t y && b)) (eq_front (length xs)) ∙ ap (λ b. t z || b) (and-false (t y)) ∙ or-false (t z))
at_append t (z ∷ xs) y (suc x) = at_append t xs y x ∙ sym (ap (λ b. option_map_or t (slice_get xs x) false || (t y && b)) (eq_next (length xs) x))

pub wants_more : (insts : List Instance) (i : ℕ) (here : Instance) (q : Want) (x : ℕ) (now next : Bool) → i < length insts → here ≡ get_or insts i here → now ≡ wants_at (map inst_of (take i insts)) q x
    → next ≡ (now || (wants (inst_of here) q && (i == x))) → next ≡ wants_at (map inst_of (take (i + 1) insts)) q x
wants_more insts i here q x now next h is so_far new =
    let front = map inst_of (take i insts) in
    let size : length front ≡ i = length-map (take i insts) inst_of ∙ length-take-le i insts (omega arith) in
    let more : wants_at (map inst_of (take (i + 1) insts)) q x ≡ (wants_at front q x || (wants (inst_of here) q && (i == x))) =
    ap (λ xs. wants_at xs q x) (ap (map inst_of) (take_more insts i here h) ∙ map-append inst_of (take i insts) (get_or insts i here ∷ []) ∙ ap (λ (one : Instance). map inst_of (take i insts) ++ inst_of one ∷ []) (sym is))
    ∙ at_append (λ j. wants j q) front (inst_of here) x
    ∙ ap (λ n. wants_at front q x || (wants (inst_of here) q && (n == x))) size in
    new ∙ ap (λ b. b || (wants (inst_of here) q && (i == x))) so_far ∙ sym more

-- one more instance, with its attribute noted
pub noted_more : (insts : List Instance) (i : ℕ) (here : Instance) (q : Want) (x : ℕ) (old new : List Bool) → i < length insts → here ≡ get_or insts i here
    → (wants_at (map inst_of (take i insts)) q x ≡ true → slice_index_or old q.attr false ≡ true)
    → (wants (inst_of here) q ≡ true → slice_index_or new q.attr false ≡ true) → (slice_index_or old q.attr false ≡ true → slice_index_or new q.attr false ≡ true)
    → wants_at (map inst_of (take (i + 1) insts)) q x ≡ true → slice_index_or new q.attr false ≡ true
noted_more insts i here q x old new h is so_far own kept now =
    either (wants_at (map inst_of (take i insts)) q x) (wants (inst_of here) q) (i == x) (λ e. kept (so_far e)) own (wants_more insts i here q x _ _ h is refl refl ∙ now)
  where
    either : (a b c : Bool) → {A : Type 0} → (a ≡ true → A) → (b ≡ true → A) → (a || (b && c)) ≡ true → A
    either true b c f g e = f refl
    either false true c f g e = g refl
    either false false c f g e = absurd (cc)

-- ---- what an instance serves

pub three_wants : (i : select.Inst) (a : ℕ) (own : Carrier) → carriers_of i ≡ carrier.Any ∷ carrier.Of i.device ∷ own ∷ []
    → wants_of i (a ∷ []) ≡ (record { attr = a; carrier = carrier.Any } ∷ record { attr = a; carrier = carrier.Of i.device } ∷ []) ++ record { attr = a; carrier = own } ∷ []
three_wants i a own is = ap (λ (cs : List Carrier). map (λ c. record { attr = a; carrier = c }) cs ++ []) is

pub wants_of_more : (i : select.Inst) (attrs : List ℕ) (n : ℕ) → n < length attrs → wants_of i (take (n + 1) attrs) ≡ wants_of i (take n attrs) ++ wants_of i (get_or attrs n 0 ∷ [])
wants_of_more i attrs n h = ap (wants_of i) (take_more attrs n 0 h) ∙ flat_map-append (λ a. map (λ c. record { attr = a; carrier = c }) (carriers_of i)) (take n attrs) (get_or attrs n 0 ∷ [])

abbrev fits : Option ParentSpec → select.Inst → Bool
fits parent j = option_map_or (λ p. is_parent p j) parent true

-- who asks for one of the carriers that an instance is has it as a parent
asked : (p : Bool) (a b c : Bool) → a ≡ b → ((p && a) || ((p && c) || false)) ≡ (p && (a || c))
asked true true b c e = refl
asked true false b c e = or-false c
asked false a b c e = refl

asks_unit : (e : ℕ) (u : Option ℕ) (d : ℕ) (m : UnitMark) → list_any (asks (Some (record { device = e; unit = u }))) (carrier.Any ∷ carrier.Of d ∷ own_of d m ∷ [])
    ≡ ((e == d) && option_map_or (λ unit. same_mark m Star || same_mark m (Fixed unit)) u true)
asks_unit e None d Star = asked (e == d) true true false refl
asks_unit e None d (Fixed v) = asked (e == d) true true false refl
asks_unit e (Some u) d Star = asked (e == d) false false true refl
asks_unit e (Some u) d (Fixed v) = asked (e == d) false false (u == v) refl ∙ ap (λ b. (e == d) && b) (equal_turned u v)

asks_one_of : (parent : Option ParentSpec) (j : select.Inst) → list_any (asks parent) (carriers_of j) ≡ fits parent j
asks_one_of None j = refl
asks_one_of (Some p) j = asks_unit p.device p.unit j.device j.mark

wants_here : (y : select.Inst) (a : ℕ) (cs : List Carrier) → list_any (wants y) (map (λ c. record { attr = a; carrier = c }) cs) ≡ (is_at a y.place && list_any (asks y.parent) cs)
wants_here y a [] = sym (and-false (is_at a y.place))
wants_here y a (c ∷ cs) = ap (λ b. wants y (record { attr = a; carrier = c }) || b) (wants_here y a cs) ∙ both (is_at a y.place) (asks y.parent c) (list_any (asks y.parent) cs)
  where
    both : (p a b : Bool) → ((p && a) || (p && b)) ≡ (p && (a || b))
    both true a b = refl
    both false a b = refl

abbrev offered : Place → List ℕ → Bool
offered Root attrs = false
offered (At a) attrs = is_in a attrs

offered_first : (a : ℕ) (attrs : List ℕ) (pl : Place) (b : Bool) → ((is_at a pl && b) || (offered pl attrs && b)) ≡ (offered pl (a ∷ attrs) && b)
offered_first a attrs Root b = refl
offered_first a attrs (At c) b = first (c == a) (a == c) (is_in c attrs) b (equal_turned c a)
  where
    first : (s t r b : Bool) → s ≡ t → ((s && b) || (r && b)) ≡ ((t || r) && b)
    first true true r true e = refl
    first true true true false e = refl
    first true true false false e = refl
    first false false r b e = refl
    first true false r b e = absurd (cc)
    first false true r b e = absurd (cc)

wants_among : (y : select.Inst) (j : select.Inst) (attrs : List ℕ) → list_any (wants y) (wants_of j attrs) ≡ (offered y.place attrs && fits y.parent j)
wants_among y j [] = none y.place (fits y.parent j)
  where
    none : (pl : Place) (b : Bool) → false ≡ (offered pl [] && b)
    none Root b = refl
    none (At a) b = refl
wants_among y j (a ∷ attrs) =
    list_any-append (wants y) (map (λ c. record { attr = a; carrier = c }) (carriers_of j)) (wants_of j attrs)
    ∙ ap (λ b. b || list_any (wants y) (wants_of j attrs)) (wants_here y a (carriers_of j) ∙ ap (λ b. is_at a y.place && b) (asks_one_of y.parent j))
    ∙ ap (λ b. (is_at a y.place && fits y.parent j) || b) (wants_among y j attrs) ∙ offered_first a attrs y.place (fits y.parent j)

none_wants : (ws : List Want) → list_any (λ q. false) ws ≡ false
none_wants [] = refl
none_wants (q ∷ ws) = none_wants ws

offers_it : (graph : Shape) (j : select.Inst) (pl : Place) → offered pl (interfaces_of graph.attrs (slice_index_or graph.devices j.device [])) ≡ offers_place (offered_in graph) j.device pl
offers_it graph j Root = refl
offers_it graph j (At a) = refl

carried_or_none : (graph : Shape) (j : select.Inst) (o : Option select.Inst)
    → list_any (λ q. option_map_or (λ i. wants i q) o false) (wants_of j (interfaces_of graph.attrs (slice_index_or graph.devices j.device []))) ≡ option_map_or (λ y. carries (offered_in graph) j y) o false
carried_or_none graph j None = none_wants (wants_of j (interfaces_of graph.attrs (slice_index_or graph.devices j.device [])))
carried_or_none graph j (Some y) =
    wants_among y j (interfaces_of graph.attrs (slice_index_or graph.devices j.device [])) ∙ ap (λ b. b && fits y.parent j) (offers_it graph j y.place)

-- those whom an instance carries are those that want what it serves
pub carried_wants : (graph : Shape) (insts : List select.Inst) (n : ℕ) (j : select.Inst) (x : ℕ) → slice_get insts n ≡ Some j
    → list_any (λ q. wants_at insts q x) (wants_of j (interfaces_of graph.attrs (slice_index_or graph.devices j.device []))) ≡ carries_at (offered_in graph) insts n x
carried_wants graph insts n j x is = carried_or_none graph j (slice_get insts x) ∙ sym (ap (λ o. option_map_or (λ z. option_map_or (λ y. carries (offered_in graph) z y) (slice_get insts x) false) o false) is)

pub inst_got : (insts : List Instance) (n : ℕ) (i : Instance) → slice_get insts n ≡ Some i → slice_get (map inst_of insts) n ≡ Some (inst_of i)
inst_got insts n i is = slice_get-map inst_of insts n ∙ ap (λ o. option_map inst_of o) is
