-- A list of rows for each spot, one spot more; and the list of a spot that hangs at a place.
use Rattle.std.proofs.Common.{◌≡◌, ℕ, ◌+◌, ◌<◌, true, false, List, [], ◌∷◌, ◌++◌, length, map, Option, Some, None, get_or, slice_get, slice_index_or, refl, sym, ◌∙◌, ap, subst, inl, inr, arith}
use Rattle.std.specs.Global.{Global}
use Rattle.std.specs.Option.{ForSome, option_map_or}
use Rattle.std.specs.Prelude.{Vec}
use Rattle.std.proofs.Math.Seq.{get_or-append_seam}
use Rattle.std.proofs.lemmas.Bool.{cases_lt, eqb-true}
use Rattle.std.proofs.lemmas.List.{get_or_append_left, length-append, map-append}
use Rattle.std.proofs.lemmas.Option.{none-some, same_Some, slice_get_past, slice_get_read}
use Rattle.cf_types.specs.declared.machine.Machine.{Machine}
use Rattle.cf_types.specs.declared.machine.Spot.{Spot}
use Rattle.cf_types.specs.declared.tables.Place.{Place}
use Rattle.cf_types.specs.declared.tables.Place.TheVariants.{Root, At}
use Rattle.run_rules.specs.Suits.{hangs_at}
use Rattle.run_rules.specs.World.{same_place}

abbrev pub items_of : List (Vec ℕ Global) → List (List ℕ)
items_of lists = map (λ list. list.items) lists

-- what is so of the rows of each spot at its own place
abbrev pub OfEachSpot : (Place → ℕ → List ℕ → Type 0) → Machine → List (List ℕ) → Type 0
OfEachSpot P m lists = (x : ℕ) → ForSome (slice_get m.spots x) (λ spot. P spot.place x (slice_index_or lists x []))

-- the lists are made for the first n spots
pub record IsIndexedTo (P : Place → ℕ → List ℕ → Type 0) (m : Machine) (n : ℕ) (lists : List (List ℕ)) : Type 0 where
  pub spots : length lists ≡ n
  pub rows : (x : ℕ) → x < n → ForSome (slice_get m.spots x) (λ spot. P spot.place x (slice_index_or lists x []))

pub indexed_none : (P : Place → ℕ → List ℕ → Type 0) (m : Machine) → IsIndexedTo P m 0 []
indexed_none P m = record { spots = refl; rows = λ x lt. absurd (omega arith) }

pub indexed_more : (P : Place → ℕ → List ℕ → Type 0) (m : Machine) (n : ℕ) (spot : Spot) (lists new : List (Vec ℕ Global)) (list : Vec ℕ Global) → n < length m.spots → spot ≡ get_or m.spots n spot
    → P spot.place n list.items → new ≡ lists ++ list ∷ [] → IsIndexedTo P m n (items_of lists) → IsIndexedTo P m (n + 1) (items_of new)
indexed_more P m n spot lists new list lt at best e h =
    let same : items_of new ≡ items_of lists ++ list.items ∷ [] = ap items_of e ∙ map-append (λ (v : Vec ℕ Global). v.items) lists (list ∷ []) in
    subst (IsIndexedTo P m (n + 1)) (sym same) (record {
      spots = omega (arith, length-append (items_of lists) (list.items ∷ []), h.spots);
      rows = λ x less. elim (cases_lt x n) [
        | inl under ↦ λ s is.
            subst (P s.place x) (sym (get_or_append_left (items_of lists) (list.items ∷ []) [] x (omega (arith, h.spots)))) (h.rows x under s is)
        | inr above ↦
            let here : x ≡ n = omega arith in
            subst (λ i. ForSome (slice_get m.spots i) (λ s. P s.place i (slice_index_or (items_of lists ++ list.items ∷ []) i []))) (sym here)
            (λ s is.
            let its : spot ≡ s = same_Some spot s (sym (slice_get_read m.spots (length m.spots) n spot refl lt at) ∙ is) in
            let rows : slice_index_or (items_of lists ++ list.items ∷ []) n [] ≡ list.items =
            subst (λ i. slice_index_or (items_of lists ++ list.items ∷ []) i [] ≡ list.items) h.spots (get_or-append_seam (items_of lists) list.items [] []) in
            subst (λ (u : Spot). P u.place n (slice_index_or (items_of lists ++ list.items ∷ []) n [])) its
            (subst (P spot.place n) (sym rows) best))
      ];
    })

pub indexed_all : (P : Place → ℕ → List ℕ → Type 0) (m : Machine) (n : ℕ) (lists : List (List ℕ)) → n ≡ length m.spots → IsIndexedTo P m n lists → OfEachSpot P m lists
indexed_all P m n lists e h = λ x. elim (cases_lt x n) [
  | inl less ↦ h.rows x less
  | inr past ↦ λ s is. absurd (none-some s (sym (slice_get_past m.spots x (omega (arith, e))) ∙ is))
]

-- ---- of the list of a spot

place_is : (a b : Place) → same_place a b ≡ true → a ≡ b
place_is Root Root h = refl
place_is (At a) (At b) h = ap At (eqb-true a b h)
place_is Root (At b) h = absurd cc
place_is (At a) Root h = absurd cc

pub listed : (P : Place → ℕ → List ℕ → Type 0) (m : Machine) (place : Place) (x : ℕ) (lists : List (List ℕ)) → OfEachSpot P m lists → hangs_at m x place ≡ true → P place x (slice_index_or lists x [])
listed P m place x lists h at = cases (slice_get m.spots x) refl at
  where
    cases : (o : Option Spot) → slice_get m.spots x ≡ o → option_map_or (λ spot. same_place spot.place place) o false ≡ true → P place x (slice_index_or lists x [])
    cases None e k = absurd cc
    cases (Some spot) e k = subst (λ u. P u x (slice_index_or lists x [])) (place_is spot.place place k) (h x spot e)
