-- Where the first turn of a place stands that is not before a position: in the position's row from its spot on, or in the next row.
use Rattle.std.proofs.Common.{◌≡◌, ℕ, zero, suc, ◌+◌, ◌<◌, ◌≤◌, Bool, true, false, not, ◌&&◌, ◌==◌, nat_lt, List, [], ◌∷◌, length, map, find, cond, Option, Some, None, option_map, slice_index_or, refl, sym, ap, ◌∙◌, ◌⊎◌, inl, inr, arith}
use Rattle.std.specs.Prelude.{flat_map}
use Rattle.std.specs.List.{AllByRecursion, enumerate_from}
use Rattle.std.proofs.lemmas.Bool.{cases_lt}
use Rattle.std.proofs.lemmas.Bool.Decides.{nat_tests}
use Rattle.run_rules.proofs.Each.{find_alike}
use Rattle.cf_types.specs.declared.machine.Machine.{Machine}
use Rattle.cf_types.specs.declared.tables.Place.{Place}
use Rattle.cf_types.specs.declared.tables.Place.TheVariants.{At}
use Rattle.cf_types.specs.Numbers.{below}
use Rattle.run_rules.specs.declared.world.Position.{Position}
use Rattle.run_rules.specs.declared.world.Turn.{Turn}
use Rattle.run_rules.specs.Search.{is_child, child_spots, is_before, bus_turns}
use Rattle.run_rules.proofs.Turns.{find_children, find_same, find_first, find_later, flat_is, flat_none}
use Rattle.scan_engine.specs.declared.bus.Bus.{Bus}
use Rattle.scan_engine.specs.Buses.{begin_in, turn_on}
use Rattle.scan_engine.specs.Turns.{first_from}
use Rattle.scan_engine.proofs.Positions.{by_attr, by_row, from_start, not_by_attr, not_by_row, on_row, position_is}
use Rattle.scan_engine.proofs.Order.{all_of}
use Rattle.scan_engine.proofs.TurnsOf.{all_bus}

-- ---- one row

abbrev row : Machine → Option ℕ → Bus → ℕ → List Turn
row m parent bus r = map (turn_on bus r) (child_spots m parent bus.place)

find_none_of : {A : Type 0} (p : A → Bool) (xs : List A) → AllByRecursion (λ x. p x ≡ false) xs → find p xs ≡ None
find_none_of p [] h = refl
find_none_of p (x ∷ xs) h = rw (h.0, find_none_of p xs h.1) refl

and_false : (b : Bool) → (b && false) ≡ false
and_false true = refl
and_false false = refl

pub child_from : (b : Bool) (x s : ℕ) → b ≡ true → s ≤ x → (b && not (nat_lt x s)) ≡ true
child_from b x s h le = let high : nat_lt x s ≡ false = grind (arith, nat_tests) in rw (h, high) refl

-- the turn of the first child spot from a spot on
pub row_is : (m : Machine) (parent : Option ℕ) (bus : Bus) (r s : ℕ) (o : Option ℕ) → find (λ x. is_child m parent bus.place x && not (nat_lt x s)) (below (length m.spots)) ≡ o
    → first_from (row m parent bus r) (record { attr = bus.attr; row = r; spot = s }) ≡ option_map (turn_on bus r) o
row_is m parent bus r s o e =
    find_children (λ t. not (is_before t.at (record { attr = bus.attr; row = r; spot = s }))) (turn_on bus r) m parent bus.place
    ∙ ap (option_map (turn_on bus r))
    (find_same _ (λ x. is_child m parent bus.place x && not (nat_lt x s)) (below (length m.spots)) (λ x. ap (λ b. is_child m parent bus.place x && not b) (on_row bus.attr r x s)) ∙ e)

-- an earlier row has none
pub row_before : (m : Machine) (parent : Option ℕ) (bus : Bus) (from : Position) (r : ℕ) → from.attr ≡ bus.attr → r < from.row → first_from (row m parent bus r) from ≡ None
row_before m parent bus from r here lt =
    find_children (λ t. not (is_before t.at from)) (turn_on bus r) m parent bus.place
    ∙ ap (option_map (turn_on bus r))
    (find_none_of (λ x. is_child m parent bus.place x && not (is_before (record { attr = bus.attr; row = r; spot = x }) from)) (below (length m.spots))
    (all_of (λ x. (is_child m parent bus.place x && not (is_before (record { attr = bus.attr; row = r; spot = x }) from)) ≡ false) (below (length m.spots))
    (λ x. ap (λ b. is_child m parent bus.place x && not b) (by_row (record { attr = bus.attr; row = r; spot = x }) from (sym here) lt) ∙ and_false (is_child m parent bus.place x))))

-- a later one has all
row_after : (m : Machine) (parent : Option ℕ) (bus : Bus) (from : Position) (r : ℕ) → from.attr ≡ bus.attr → from.row < r
    → first_from (row m parent bus r) from ≡ first_from (row m parent bus r) (record { attr = bus.attr; row = r; spot = 0 })
row_after m parent bus from r here lt =
    find_children (λ t. not (is_before t.at from)) (turn_on bus r) m parent bus.place
    ∙ ap (option_map (turn_on bus r))
    (find_same _ (λ x. is_child m parent bus.place x && not (nat_lt x 0)) (below (length m.spots))
    (λ x. ap (λ b. is_child m parent bus.place x && not b) (not_by_row (record { attr = bus.attr; row = r; spot = x }) from (sym here) lt ∙ sym (none_lower x))))
    ∙ sym (row_is m parent bus r 0 _ refl)
  where
    none_lower : (x : ℕ) → nat_lt x 0 ≡ false
    none_lower x = grind (arith, nat_tests)

-- where one row has none, no row has one
row_empty : (m : Machine) (parent : Option ℕ) (bus : Bus) (r k : ℕ) → first_from (row m parent bus r) (record { attr = bus.attr; row = r; spot = 0 }) ≡ None
    → first_from (row m parent bus k) (record { attr = bus.attr; row = k; spot = 0 }) ≡ None
row_empty m parent bus r k h =
    row_is m parent bus k 0 None (nothing (find (λ x. is_child m parent bus.place x && not (nat_lt x 0)) (below (length m.spots))) (sym (row_is m parent bus r 0 _ refl) ∙ h))
  where
    nothing : (o : Option ℕ) → option_map (turn_on bus r) o ≡ None → o ≡ None
    nothing None e = refl
    nothing (Some x) e = absurd cc

-- ---- the rows of an indirect bus

abbrev pub all_rows : Machine → Option ℕ → Bus → ℕ → List Turn
all_rows m parent bus rows = flat_map (λ r. map (turn_on bus r) (child_spots m parent bus.place)) (below rows)

pub rows_past : (m : Machine) (parent : Option ℕ) (bus : Bus) (from : Position) (rows : ℕ) → from.attr ≡ bus.attr → rows ≤ from.row → first_from (all_rows m parent bus rows) from ≡ None
rows_past m parent bus from rows here past =
    flat_none (λ t. not (is_before t.at from)) (row m parent bus) rows (λ k lt. row_before m parent bus from k here (omega arith))

pub rows_here : (m : Machine) (parent : Option ℕ) (bus : Bus) (from : Position) (rows : ℕ) (t : Turn) → from.attr ≡ bus.attr → from.row < rows
    → first_from (row m parent bus from.row) (record { attr = bus.attr; row = from.row; spot = from.spot }) ≡ Some t → first_from (all_rows m parent bus rows) from ≡ Some t
rows_here m parent bus from rows t here lt e =
    flat_is (λ t. not (is_before t.at from)) (row m parent bus) rows from.row t lt
    (ap (first_from (row m parent bus from.row)) (position_is from bus.attr from.row here refl) ∙ e)
    (λ k less. row_before m parent bus from k here less)

-- the position's row has none, and so the next row decides
earlier_none : (m : Machine) (parent : Option ℕ) (bus : Bus) (from : Position) → from.attr ≡ bus.attr
    → first_from (row m parent bus from.row) (record { attr = bus.attr; row = from.row; spot = from.spot }) ≡ None
    → (k : ℕ) → k ≤ from.row → first_from (row m parent bus k) from ≡ None
earlier_none m parent bus from here none k le =
    elim (cases_lt k from.row) [
      | inl less ↦ row_before m parent bus from k here less
      | inr more ↦
          let same : from.row ≡ k = omega arith in
          ap (λ r. first_from (row m parent bus r) from) (sym same) ∙ ap (first_from (row m parent bus from.row)) (position_is from bus.attr from.row here refl) ∙ none
    ]

pub rows_over : (m : Machine) (parent : Option ℕ) (bus : Bus) (from : Position) (rows : ℕ) → from.attr ≡ bus.attr → rows ≤ from.row + 1
    → first_from (row m parent bus from.row) (record { attr = bus.attr; row = from.row; spot = from.spot }) ≡ None → first_from (all_rows m parent bus rows) from ≡ None
rows_over m parent bus from rows here few none =
    flat_none (λ t. not (is_before t.at from)) (row m parent bus) rows (λ k lt. earlier_none m parent bus from here none k (omega arith))

pub rows_next : (m : Machine) (parent : Option ℕ) (bus : Bus) (from : Position) (rows : ℕ) (o : Option Turn) → from.attr ≡ bus.attr → from.row + 1 < rows
    → first_from (row m parent bus from.row) (record { attr = bus.attr; row = from.row; spot = from.spot }) ≡ None
    → first_from (row m parent bus (from.row + 1)) (record { attr = bus.attr; row = from.row + 1; spot = 0 }) ≡ o → first_from (all_rows m parent bus rows) from ≡ o
rows_next m parent bus from rows (Some t) here lt none e =
    flat_is (λ t. not (is_before t.at from)) (row m parent bus) rows (from.row + 1) t lt
    (row_after m parent bus from (from.row + 1) here (omega arith) ∙ e) (λ k less. earlier_none m parent bus from here none k (omega arith))
rows_next m parent bus from rows None here lt none e =
    flat_none (λ t. not (is_before t.at from)) (row m parent bus) rows (λ k less. by_row k (cases_lt from.row k))
  where
    by_row : (k : ℕ) → (from.row < k) ⊎ (k ≤ from.row) → first_from (row m parent bus k) from ≡ None
    by_row k (inl more) = row_after m parent bus from k here more ∙ row_empty m parent bus (from.row + 1) k e
    by_row k (inr le) = earlier_none m parent bus from here none k le

-- ---- the turns of a bus

pub indirect_is : (m : Machine) (rows : ℕ) (parent : Option ℕ) (bus : Bus) → bus.indirect ≡ true → bus_turns m rows bus.indirect parent (bus.attr, bus.place) ≡ all_rows m parent bus rows
unfolding bus_turns
indirect_is m rows parent bus h = by_style bus.attr bus.place bus.indirect h
  where
    by_style : (a : ℕ) (place : Place) (b : Bool) → b ≡ true → bus_turns m rows b parent (a, place) ≡ all_rows m parent (record { attr = a; place = place; indirect = b }) rows
    by_style a place true e = refl
    by_style a place false e = absurd cc

pub direct_is : (m : Machine) (rows : ℕ) (parent : Option ℕ) (bus : Bus) → bus.indirect ≡ false
    → bus_turns m rows bus.indirect parent (bus.attr, bus.place) ≡ map (turn_on bus 0) (child_spots m parent bus.place)
unfolding bus_turns
direct_is m rows parent bus h = by_style bus.attr bus.place bus.indirect h
  where
    by_style : (a : ℕ) (place : Place) (b : Bool) → b ≡ false
        → bus_turns m rows b parent (a, place) ≡ map (turn_on (record { attr = a; place = place; indirect = b }) 0) (child_spots m parent place)
    by_style a place true e = absurd cc
    by_style a place false e = refl

-- an earlier place has none
pub bus_before : (m : Machine) (rows : ℕ) (indirect : Bool) (parent : Option ℕ) (e : ℕ × Place) (from : Position) → e.0 < from.attr → first_from (bus_turns m rows indirect parent e) from ≡ None
bus_before m rows indirect parent e from lt =
    find_none_of (λ t. not (is_before t.at from)) (bus_turns m rows indirect parent e)
    (all_bus (λ t. not (is_before t.at from) ≡ false) m rows indirect parent e (λ r x few straight inside child. ap not (by_attr (record { attr = e.0; row = r; spot = x }) from lt)))

-- a later one is searched from its start
pub bus_from : (m : Machine) (rows : ℕ) (indirect : Bool) (parent : Option ℕ) (e : ℕ × Place) (from : Position) → from.attr ≤ e.0
    → first_from (bus_turns m rows indirect parent e) from ≡ first_from (bus_turns m rows indirect parent e) (begin_in e.0 from)
bus_from m rows indirect parent e from le = cases (e.0 == from.attr) refl
  where
    cases : (b : Bool) → (e.0 == from.attr) ≡ b
        → first_from (bus_turns m rows indirect parent e) from ≡ first_from (bus_turns m rows indirect parent e) (cond b from (record { attr = e.0; row = 0; spot = 0 }))
    cases true k = refl
    cases false k =
        let more : from.attr < e.0 = grind (arith, nat_tests) in
        find_alike (λ t. not (is_before t.at from)) (λ t. not (is_before t.at (record { attr = e.0; row = 0; spot = 0 }))) (bus_turns m rows indirect parent e)
        (all_bus (λ t. not (is_before t.at from) ≡ not (is_before t.at (record { attr = e.0; row = 0; spot = 0 }))) m rows indirect parent e
        (λ r x few straight inside child. ap not (not_by_attr (record { attr = e.0; row = r; spot = x }) from more ∙ sym (from_start e.0 r x))))

-- ---- place by place

among_none : (q : Turn → Bool) (f : ℕ × Place → List Turn) (n : ℕ) (attrs : List ℕ) → ((k : ℕ) → k < length attrs → find q (f (n + k, At (slice_index_or attrs k 0))) ≡ None)
    → find q (flat_map f (enumerate_from n (map At attrs))) ≡ None
among_none q f n [] h = refl
among_none q f n (a ∷ attrs) h =
    find_later q f (n, At a) (enumerate_from (n + 1) (map At attrs)) None (let first : n ≡ n + 0 = omega arith in ap (λ i. find q (f (i, At a))) first ∙ h 0 (omega arith))
    (among_none q f (n + 1) attrs
    (λ k lt. let same : n + 1 + k ≡ n + suc k = omega arith in ap (λ i. find q (f (i, At (slice_index_or attrs k 0)))) same ∙ h (suc k) (omega arith)))

among_is : (q : Turn → Bool) (f : ℕ × Place → List Turn) (n : ℕ) (attrs : List ℕ) (i : ℕ) (t : Turn) → i < length attrs → find q (f (n + i, At (slice_index_or attrs i 0))) ≡ Some t
    → ((k : ℕ) → k < i → find q (f (n + k, At (slice_index_or attrs k 0))) ≡ None)
    → find q (flat_map f (enumerate_from n (map At attrs))) ≡ Some t
among_is q f n [] i t lt e h = absurd (omega arith)
among_is q f n (a ∷ attrs) zero t lt e h = find_first q f (n, At a) (enumerate_from (n + 1) (map At attrs)) t (let first : n ≡ n + 0 = omega arith in ap (λ i. find q (f (i, At a))) first ∙ e)
among_is q f n (a ∷ attrs) (suc i) t lt e h =
    find_later q f (n, At a) (enumerate_from (n + 1) (map At attrs)) (Some t) (let first : n ≡ n + 0 = omega arith in ap (λ i. find q (f (i, At a))) first ∙ h 0 (omega arith))
    (among_is q f (n + 1) attrs i t (omega arith) (let same : n + 1 + i ≡ n + suc i = omega arith in ap (λ j. find q (f (j, At (slice_index_or attrs i 0)))) same ∙ e)
    (λ k less. let same : n + 1 + k ≡ n + suc k = omega arith in ap (λ j. find q (f (j, At (slice_index_or attrs k 0)))) same ∙ h (suc k) (omega arith)))

pub places_none : (q : Turn → Bool) (f : ℕ × Place → List Turn) (attrs : List ℕ) → ((k : ℕ) → k < length attrs → find q (f (k, At (slice_index_or attrs k 0))) ≡ None)
    → find q (flat_map f (enumerate_from 0 (map At attrs))) ≡ None
places_none q f attrs h =
    among_none q f 0 attrs (λ k lt. let same : 0 + k ≡ k = omega arith in ap (λ j. find q (f (j, At (slice_index_or attrs k 0)))) same ∙ h k lt)

pub places_is : (q : Turn → Bool) (f : ℕ × Place → List Turn) (attrs : List ℕ) (i : ℕ) (t : Turn) → i < length attrs → find q (f (i, At (slice_index_or attrs i 0))) ≡ Some t
    → ((k : ℕ) → k < i → find q (f (k, At (slice_index_or attrs k 0))) ≡ None) → find q (flat_map f (enumerate_from 0 (map At attrs))) ≡ Some t
places_is q f attrs i t lt e h =
    among_is q f 0 attrs i t lt (let same : 0 + i ≡ i = omega arith in ap (λ j. find q (f (j, At (slice_index_or attrs i 0)))) same ∙ e)
    (λ k less. let same : 0 + k ≡ k = omega arith in ap (λ j. find q (f (j, At (slice_index_or attrs k 0)))) same ∙ h k less)
