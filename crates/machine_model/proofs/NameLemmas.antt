-- One more name among names that are found by slots.
use Rattle.std.proofs.Common.{◌≡◌, ℕ, zero, suc, ◌+◌, ◌-◌, ◌<◌, ◌≤◌, ◌⊎◌, inl, inr, Bool, true, false, cond, List, [], ◌∷◌, ◌++◌, length, get_or, map, refl, ap, sym, ◌∙◌, subst, arith, Option, Some, None, bytes_eq, length-append}
use Rattle.std.specs.Prelude.{◌==◌, is_some, position, replicate, slice_get, slice_index, slice_set}
use Rattle.std.specs.Hash.FoldHasher as folding
use Rattle.std.specs.Borrow.{Bor}
use Rattle.std.specs.Option.{option_or}
use Rattle.std.proofs.lemmas.Bool.{cases_eq, eq-eqb, eqb-true, false≢true}
use Rattle.std.proofs.lemmas.List.{get_or-replicate, get_or-set_other, get_or-set_same, get_or_default, length-replicate, length-set}
use Rattle.std.proofs.lemmas.Nat.{and_le_r}
use Rattle.std.proofs.lemmas.Option.{slice_get-get_or, slice_get_past, slice_get_read}
use Rattle.std.proofs.lemmas.Slice.Eq.{bytes_eq-Decides}
use Rattle.cf_types.proofs.PlaceLemmas.{position-map}
use Rattle.machine_model.specs.declared.names.Names.{Names}
use Rattle.machine_model.specs.declared.names.TheConstants.{FREE}
use Rattle.machine_model.specs.Names.{AreNames, HaveNames, HaveSlots, held, number_if, number_of, slot_of}
use Rattle.machine_model.specs.NumberedNames.{AreInOrder, IsWith}
use Rattle.machine_model.specs.NumberedNames as numbered
use Rattle.machine_model.proofs.NumberLemmas.{position_push}

-- ---- what one more name leaves

-- an element of a longer list
kept_get : {X : Type 0} (xs : List X) (y : X) (i : ℕ) → i < length xs → slice_get (xs ++ y ∷ []) i ≡ slice_get xs i
kept_get [] y i h = absurd (omega arith)
kept_get (x ∷ xs) y zero h = refl
kept_get (x ∷ xs) y (suc i) h = kept_get xs y i (omega arith)

last_get : {X : Type 0} (xs : List X) (y : X) (i : ℕ) → i ≡ length xs → slice_get (xs ++ y ∷ []) i ≡ Some y
last_get [] y zero h = refl
last_get [] y (suc i) h = absurd (omega arith)
last_get (x ∷ xs) y zero h = absurd (omega arith)
last_get (x ∷ xs) y (suc i) h = last_get xs y i (omega arith)

or_none : (o : Option ℕ) (b : Bool) (n : ℕ) → b ≡ false → o ≡ option_or o (cond b (Some n) None)
or_none (Some k) b n h = refl
or_none None true n h = absurd (cc)
or_none None false n h = refl

out_of_if : (b : Bool) (k : ℕ) (elsewhere more : Option ℕ) → cond b (Some k) (option_or elsewhere more) ≡ option_or (cond b (Some k) elsewhere) more
out_of_if true k elsewhere more = refl
out_of_if false k elsewhere more = refl

pub slot_within : (count : ℕ) (q : List ℕ) → 1 ≤ count → slot_of count q < count
slot_within count q some = omega (arith, and_le_r (folding.finish (folding.write folding.initial q)) (count - 1), some)

-- the same name has the same slot
same_held : (names : Names) (a b : List ℕ) → bytes_eq a b ≡ true → held names a ≡ held names b
same_held names a b e = ap (held names) ((bytes_eq-Decides a b).0 e)

differs : (a : Bool) → (a ≡ true → ⊥) → a ≡ false
differs true h = absurd (h refl)
differs false h = refl

module _ (old new : Names) (x : Bor (List ℕ)) (more : new.names.items ≡ old.names.items ++ x ∷ []) (few : length old.names.items < 65536) (slots : HaveSlots old) where
  abbrev Answers : List ℕ → Type 0
  Answers q = number_of new q ≡ option_or (number_of old q) (cond (bytes_eq x.now q) (Some (length old.names.items)) None)

  abbrev more_rest : List ℕ → Option ℕ
  more_rest q = option_or (numbered.number_in old.rest.items q) (cond (bytes_eq x.now q) (Some (length old.names.items)) None)

  size : length new.names.items ≡ length old.names.items + 1
  size = ap length more ∙ length-append old.names.items (x ∷ [])

  -- a slot that holds an earlier name
  answers_within : (q : List ℕ) → held new q ≡ held old q → held old q < length old.names.items → numbered.number_in new.rest.items q ≡ more_rest q → Answers q
  answers_within q same lt rest =
      let y : Bor (List ℕ) = get_or old.names.items (held old q) x in
      let there : slice_get old.names.items (held old q) ≡ Some y = slice_get-get_or old.names.items (held old q) x lt in
      ap (λ k. number_if q k (numbered.number_in new.rest.items q) (slice_get new.names.items k)) same
      ∙ ap (λ o. number_if q (held old q) o (slice_get new.names.items (held old q))) rest
      ∙ ap (number_if q (held old q) (more_rest q)) (ap (λ xs. slice_get xs (held old q)) more ∙ kept_get old.names.items x (held old q) lt ∙ there)
      ∙ out_of_if (bytes_eq y.now q) (held old q) (numbered.number_in old.rest.items q) (cond (bytes_eq x.now q) (Some (length old.names.items)) None)
      ∙ ap (λ o. option_or (number_if q (held old q) (numbered.number_in old.rest.items q) o) (cond (bytes_eq x.now q) (Some (length old.names.items)) None)) (sym there)

  none_held : (names : Names) (q : List ℕ) → length names.names.items ≤ 65536 → held names q ≡ FREE → number_of names q ≡ None
  none_held names q few is =
      ap (number_if q (held names q) (numbered.number_in names.rest.items q)) (slice_get_past names.names.items (held names q) (omega (arith, is, few)))

  -- a slot that stays free
  answers_free : (q : List ℕ) → held new q ≡ held old q → held old q ≡ FREE → bytes_eq x.now q ≡ false → Answers q
  answers_free q same is other =
      none_held new q (omega (arith, size, few)) (same ∙ is)
      ∙ or_none None (bytes_eq x.now q) (length old.names.items) other
      ∙ ap (λ o. option_or o (cond (bytes_eq x.now q) (Some (length old.names.items)) None)) (sym (none_held old q (omega (arith, few)) is))

  -- the slot that the next name takes
  answers_own : (q : List ℕ) → held new q ≡ length old.names.items → held old q ≡ FREE → new.rest ≡ old.rest → Answers q
  answers_own q same is rest =
      ap (λ k. number_if q k (numbered.number_in new.rest.items q) (slice_get new.names.items k)) same
      ∙ ap (λ r. number_if q (length old.names.items) (numbered.number_in r q) (slice_get new.names.items (length old.names.items))) (ap (λ r. r.items) rest)
      ∙ ap (number_if q (length old.names.items) (numbered.number_in old.rest.items q)) (ap (λ xs. slice_get xs (length old.names.items)) more ∙ last_get old.names.items x (length old.names.items) refl)
      ∙ ap (cond (bytes_eq x.now q) (Some (length old.names.items))) (slots.free q is)
      ∙ ap (λ o. option_or o (cond (bytes_eq x.now q) (Some (length old.names.items)) None)) (sym (none_held old q (omega (arith, few)) is))

  -- ---- a slot that another name has

  module _ (is_same : new.slots.items ≡ old.slots.items) (also : IsWith x.now (length old.names.items) old.rest.items new.rest.items) (taken : held old x.now ≡ FREE → ⊥) where
    kept_held : (q : List ℕ) → held new q ≡ held old q
    kept_held q = ap (λ s. slice_index s (slot_of (length s) q)) is_same

    apart_free : (q : List ℕ) → held old q ≡ FREE → bytes_eq x.now q ≡ false
    apart_free q is = differs (bytes_eq x.now q) (λ e. taken (same_held old x.now q e ∙ is))

    pub answers_taken : (q : List ℕ) → Answers q
    answers_taken q = elim (slots.within q) [
      | inl lt ↦ answers_within q (kept_held q) lt (also q)
      | inr is ↦ answers_free q (kept_held q) is (apart_free q is)
    ]

    pub slots_taken : HaveSlots new
    slots_taken = record {
      some_slots = subst (λ (s : List ℕ). 1 ≤ length s) (sym is_same) slots.some_slots;
      within = λ q. elim (slots.within q) as (λ _. (held new q < length new.names.items) ⊎ (held new q ≡ FREE)) [
        | inl lt ↦ inl (omega (arith, lt, kept_held q, size))
        | inr is ↦ inr (kept_held q ∙ is)
      ];
      free = λ q is.
          let was : held old q ≡ FREE = sym (kept_held q) ∙ is in
          also q ∙ sym (or_none (numbered.number_in old.rest.items q) (bytes_eq x.now q) (length old.names.items) (apart_free q was)) ∙ slots.free q was;
    }

  -- ---- a slot that the next name takes

  module _ (is_set : new.slots.items ≡ slice_set old.slots.items (slot_of (length old.slots.items) x.now) (length old.names.items)) (is_same : new.rest ≡ old.rest) (free : held old x.now ≡ FREE) where
    count_same : length new.slots.items ≡ length old.slots.items
    count_same = ap length is_set ∙ length-set old.slots.items (slot_of (length old.slots.items) x.now) (length old.names.items)

    there : slot_of (length old.slots.items) x.now < length old.slots.items
    there = slot_within (length old.slots.items) x.now slots.some_slots

    set_held : (q : List ℕ) → held new q ≡ slice_index (slice_set old.slots.items (slot_of (length old.slots.items) x.now) (length old.names.items)) (slot_of (length old.slots.items) q)
    set_held q = ap (λ m. slice_index new.slots.items (slot_of m q)) count_same ∙ ap (λ xs. slice_index xs (slot_of (length old.slots.items) q)) is_set

    own_held : (q : List ℕ) → slot_of (length old.slots.items) q ≡ slot_of (length old.slots.items) x.now → held new q ≡ length old.names.items
    own_held q e =
        set_held q
        ∙ ap (slice_index (slice_set old.slots.items (slot_of (length old.slots.items) x.now) (length old.names.items))) e
        ∙ get_or-set_same old.slots.items (slot_of (length old.slots.items) x.now) (length old.names.items) 0 there

    own_free : (q : List ℕ) → slot_of (length old.slots.items) q ≡ slot_of (length old.slots.items) x.now → held old q ≡ FREE
    own_free q e = ap (slice_index old.slots.items) e ∙ free

    other_held : (q : List ℕ) → (slot_of (length old.slots.items) q ≡ slot_of (length old.slots.items) x.now → ⊥) → held new q ≡ held old q
    other_held q h = set_held q ∙ get_or-set_other old.slots.items (slot_of (length old.slots.items) x.now) (slot_of (length old.slots.items) q) (length old.names.items) 0 h

    apart_other : (q : List ℕ) → (slot_of (length old.slots.items) q ≡ slot_of (length old.slots.items) x.now → ⊥) → bytes_eq x.now q ≡ false
    apart_other q h = differs (bytes_eq x.now q) (λ e. h (ap (slot_of (length old.slots.items)) (sym ((bytes_eq-Decides x.now q).0 e))))

    pub answers_new : (q : List ℕ) → Answers q
    answers_new q = elim (cases_eq (slot_of (length old.slots.items) q) (slot_of (length old.slots.items) x.now)) [
      | inl e ↦ answers_own q (own_held q e) (own_free q e) is_same
      | inr h ↦ elim (slots.within q) [
        | inl lt ↦
            answers_within q (other_held q h) lt
            (ap (λ r. numbered.number_in r.items q) is_same ∙ or_none (numbered.number_in old.rest.items q) (bytes_eq x.now q) (length old.names.items) (apart_other q h))
        | inr is ↦ answers_free q (other_held q h) is (apart_other q h)
      ]
    ]

    pub slots_new : HaveSlots new
    slots_new = record {
      some_slots = omega (arith, count_same, slots.some_slots);
      within = λ q. elim (cases_eq (slot_of (length old.slots.items) q) (slot_of (length old.slots.items) x.now)) as (λ _. (held new q < length new.names.items) ⊎ (held new q ≡ FREE)) [
        | inl e ↦ inl (omega (arith, own_held q e, size))
        | inr h ↦ elim (slots.within q) as (λ _. (held new q < length new.names.items) ⊎ (held new q ≡ FREE)) [
          | inl lt ↦ inl (omega (arith, other_held q h, lt, size))
          | inr is ↦ inr (other_held q h ∙ is)
        ]
      ];
      free = λ q is. elim (cases_eq (slot_of (length old.slots.items) q) (slot_of (length old.slots.items) x.now)) as (λ _. numbered.number_in new.rest.items q ≡ None) [
        | inl e ↦ absurd (omega (arith, own_held q e, is, few))
        | inr h ↦ ap (λ r. numbered.number_in r.items q) is_same ∙ slots.free q (sym (other_held q h) ∙ is)
      ];
    }

  -- ---- the next name

  pub next : (list : List (List ℕ)) → HaveNames old list → HaveSlots new → ((q : List ℕ) → Answers q) → HaveNames new (list ++ x.now ∷ [])
  next list have better answers = record {
    slots = better;
    count = omega (arith, size, have.count, length-append list (x.now ∷ []));
    each = λ q.
        answers q
        ∙ ap (λ o. option_or o (cond (bytes_eq x.now q) (Some (length old.names.items)) None)) (have.each q)
        ∙ ap (λ k. option_or (position (λ m. bytes_eq m q) list) (cond (bytes_eq x.now q) (Some k) None)) have.count
        ∙ sym (position_push (λ m. bytes_eq m q) list x.now);
  }

-- what a call leaves that took the slot of a new name, or found it taken
module _ (old new : Names) (x : Bor (List ℕ)) (slot number : ℕ) (given left : List ℕ) (b : Bool) (given_is : given ≡ old.slots.items) (b_is : b ≡ (slice_index given slot == FREE)) (left_is : left ≡ cond b (slice_set given slot number) given) (new_slots : new.slots.items ≡ left) (slot_is : slot ≡ slot_of (length old.slots.items) x.now) (number_is : number ≡ length old.names.items) (more : new.names.items ≡ old.names.items ++ x ∷ []) (few : length old.names.items < 65536) (slots : HaveSlots old) where
  seen_free : b ≡ (held old x.now == FREE)
  seen_free = b_is ∙ ap (λ g. slice_index g slot == FREE) given_is ∙ ap (λ s. slice_index old.slots.items s == FREE) slot_is

  module _ (took : b ≡ true) (is_same : new.rest ≡ old.rest) where
    is_free : held old x.now ≡ FREE
    is_free = eqb-true (held old x.now) FREE (sym seen_free ∙ took)

    is_set : new.slots.items ≡ slice_set old.slots.items (slot_of (length old.slots.items) x.now) (length old.names.items)
    is_set =
        new_slots ∙ left_is
        ∙ ap (λ c. cond c (slice_set given slot number) given) took
        ∙ ap (λ g. slice_set g slot number) given_is
        ∙ ap (λ s. slice_set old.slots.items s number) slot_is
        ∙ ap (slice_set old.slots.items (slot_of (length old.slots.items) x.now)) number_is

    pub took_slots : HaveSlots new
    took_slots = slots_new old new x more few slots is_set is_same is_free

    pub took_slot : (list : List (List ℕ)) → HaveNames old list → HaveNames new (list ++ x.now ∷ [])
    took_slot list have = next old new x more few slots list have took_slots (answers_new old new x more few slots is_set is_same is_free)

  module _ (not_took : b ≡ false) (also : IsWith x.now number old.rest.items new.rest.items) where
    is_taken : held old x.now ≡ FREE → ⊥
    is_taken is = false≢true (sym (sym seen_free ∙ not_took) ∙ eq-eqb (held old x.now) FREE is)

    is_kept : new.slots.items ≡ old.slots.items
    is_kept = new_slots ∙ left_is ∙ ap (λ c. cond c (slice_set given slot number) given) not_took ∙ given_is

    also_rest : IsWith x.now (length old.names.items) old.rest.items new.rest.items
    also_rest = subst (λ n. IsWith x.now n old.rest.items new.rest.items) number_is also

    pub rest_slots : HaveSlots new
    rest_slots = slots_taken old new x more few slots is_kept also_rest is_taken

    pub rest_name : (list : List (List ℕ)) → HaveNames old list → HaveNames new (list ++ x.now ∷ [])
    rest_name list have = next old new x more few slots list have rest_slots (answers_taken old new x more few slots is_kept also_rest is_taken)

  -- a new name whose slot is taken is not among the rest
  pub new_rest : b ≡ false → number_of old x.now ≡ None → numbered.number_in old.rest.items x.now ≡ None
  new_rest not_took new_name = elim (slots.within x.now) [
    | inl lt ↦
        let y : Bor (List ℕ) = get_or old.names.items (held old x.now) x in
        none_else (bytes_eq y.now x.now) (held old x.now) (numbered.number_in old.rest.items x.now)
        (ap (number_if x.now (held old x.now) (numbered.number_in old.rest.items x.now)) (sym (slice_get-get_or old.names.items (held old x.now) x lt)) ∙ new_name)
    | inr is ↦ absurd (false≢true (sym (sym seen_free ∙ not_took) ∙ eq-eqb (held old x.now) FREE is))
  ]
    where
      none_else : (c : Bool) (k : ℕ) (o : Option ℕ) → cond c (Some k) o ≡ None → o ≡ None
      none_else true k o h = absurd (cc)
      none_else false k o h = h

-- ---- the number of a name

-- the slot of a name holds this
pub held_is : (names : Names) (name : List ℕ) (slot k : ℕ) → slot ≡ slot_of (length names.slots.items) name → 1 ≤ length names.slots.items → k ≡ get_or names.slots.items slot k → k ≡ held names name
held_is names name slot k slot_is some is =
    is ∙ ap (λ s. get_or names.slots.items s k) slot_is ∙ get_or_default names.slots.items (slot_of (length names.slots.items) name) k 0 (slot_within (length names.slots.items) name some)

pub number_there : (names : Names) (name : List ℕ) (k : ℕ) (other : Bor (List ℕ)) (b : Bool) → k ≡ held names name → k < length names.names.items → other ≡ get_or names.names.items k other → bytes_eq other.now name ≡ b
    → cond b (Some k) (numbered.number_in names.rest.items name) ≡ number_of names name
number_there names name k other b is lt at e =
    ap (λ c. cond c (Some k) (numbered.number_in names.rest.items name)) (sym e)
    ∙ ap (number_if name k (numbered.number_in names.rest.items name)) (sym (slice_get_read names.names.items (length names.names.items) k other refl lt at))
    ∙ ap (λ m. number_if name m (numbered.number_in names.rest.items name) (slice_get names.names.items m)) is

pub number_past : (names : Names) (name : List ℕ) (k : ℕ) → k ≡ held names name → length names.names.items ≤ k → None ≡ number_of names name
number_past names name k is past =
    ap (number_if name k (numbered.number_in names.rest.items name)) (sym (slice_get_past names.names.items k past))
    ∙ ap (λ m. number_if name m (numbered.number_in names.rest.items name) (slice_get names.names.items m)) is

-- ---- no name yet

pub none_yet : (names : Names) (count : ℕ) → 1 ≤ count → names.names.items ≡ [] → names.slots.items ≡ replicate count FREE → names.rest.items ≡ [] → AreNames names []
none_yet names count some none_named all_free no_rest = record {
  have = record {
    slots = record {
      some_slots = omega (arith, size, some);
      within = λ q. inr (is_free q);
      free = λ q is. ap (λ xs. numbered.number_in xs q) no_rest;
    };
    count = ap length none_named;
    each = λ q. ap (number_if q (held names q) (numbered.number_in names.rest.items q)) (slice_get_past names.names.items (held names q) (omega (arith, nothing)));
  };
  order = subst AreInOrder (sym no_rest) (λ k d low high. absurd (omega arith));
}
  where
    size : length names.slots.items ≡ count
    size = ap length all_free ∙ length-replicate count FREE

    nothing : length names.names.items ≡ 0
    nothing = ap length none_named

    is_free : (q : List ℕ) → held names q ≡ FREE
    is_free q =
        ap (λ m. slice_index names.slots.items (slot_of m q)) size
        ∙ ap (λ xs. slice_index xs (slot_of count q)) all_free
        ∙ get_or-replicate count (slot_of count q) FREE 0 (slot_within count q some)

-- ---- the number in a list of what has names

pub number_is : {X : Type 0} (name_of : X → List ℕ) (xs : List X) (names : Names) (q : List ℕ) → AreNames names (map name_of xs) → number_of names q ≡ position (λ x. bytes_eq (name_of x) q) xs
number_is name_of xs names q are = are.have.each q ∙ position-map (λ n. bytes_eq n q) name_of xs

pub known_as : {X : Type 0} (name_of : X → List ℕ) (xs : List X) (names : Names) (q : List ℕ) (o : Option ℕ) → AreNames names (map name_of xs) → number_of names q ≡ o → is_some (position (λ x. bytes_eq (name_of x) q) xs) ≡ is_some o
known_as name_of xs names q o are e = ap is_some (sym (number_is name_of xs names q are) ∙ e)
