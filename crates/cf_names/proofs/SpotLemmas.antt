-- The first spots, with one more.
use Rattle.std.proofs.Common.{◌≡◌, ℕ, ◌+◌, ◌<◌, ◌&&◌, suc, Bool, true, false, cond, Option, Some, None, List, [], ◌∷◌, ◌++◌, length, map, take, get_or, refl, ap, sym, subst, ◌∙◌, arith, append_assoc}
use Rattle.std.specs.Prelude.{◌==◌, find, flat_map, option_map}
use Rattle.std.specs.HashMap.{get}
use Rattle.std.specs.List.{enumerate_from}
use Rattle.std.specs.Option.{unwrap_or}
use Rattle.std.proofs.lemmas.Bool.{eqb-true}
use Rattle.std.proofs.lemmas.List.{append-nil, length-append, length-take-le, take_more}
use Rattle.cf_types.specs.contracts.tables.PlacePartialEq.TheImpl as place_block
use Rattle.cf_types.specs.declared.tables.Attach.{Attach}
use Rattle.cf_types.specs.declared.tables.Place.{Place}
use Rattle.cf_types.specs.declared.tables.Place.TheVariants.{Root, At}
use Rattle.cf_names.specs.Spots.{AreSpots, Spot, all_spots, first_spot, is_at, ranked, same_place, spot_at, spots_at}
use Rattle.cf_names.specs.contracts.spots.SpotKeyPartialEq.TheImpl as block
use Rattle.cf_names.specs.declared.spots.FirstSpot.{FirstSpot}
use Rattle.cf_names.specs.declared.spots.SpotKey.{SpotKey}
use Rattle.cf_names.specs.declared.spots.Spots.{Spots}

-- the first one, or else another
abbrev first_or : {A : Type 0} → Option A → Option A → Option A
first_or None o = o
first_or (Some x) o = Some x

if_first : {A : Type 0} (b : Bool) (x : A) (o p q : Option A) → q ≡ first_or o p → cond b (Some x) q ≡ first_or (cond b (Some x) o) p
if_first true x o p q e = refl
if_first false x o p q e = e

-- what is found with one more at the end
find_push : {X : Type 0} (test : X → Bool) (n : ℕ) (xs : List X) (y : X)
    → find (λ e. test e.1) (enumerate_from n (xs ++ y ∷ [])) ≡ first_or (find (λ e. test e.1) (enumerate_from n xs)) (cond (test y) (Some (n + length xs, y)) None)
find_push test n [] y = let e : n ≡ n + 0 = omega arith in ap (λ (k : ℕ). cond (test y) (Some (k, y)) None) e
find_push test n (x ∷ xs) y =
    let e : n + 1 + length xs ≡ n + suc (length xs) = omega arith in
    if_first (test x) (n, x) _ _ _
    (find_push test (n + 1) xs y ∙ ap (λ (k : ℕ). first_or (find (λ e. test e.1) (enumerate_from (n + 1) xs)) (cond (test y) (Some (k, y)) None)) e)

-- ---- the same key

both_true : (a b : Bool) → (a && b) ≡ true → (a ≡ true) × (b ≡ true)
both_true true true e = (refl, refl)
both_true true false e = absurd (cc)
both_true false b e = absurd (cc)

places_eq : (p r : Place) → place_block.ghosts.eq p r ≡ same_place p r
places_eq Root Root = refl
places_eq Root (At a) = refl
places_eq (At a) Root = refl
places_eq (At a) (At b) = refl

-- a key is another exactly where its spots are those of the other
key_eq : (k q : SpotKey) (n : ℕ) → block.ghosts.eq k q ≡ is_at q (record { key = k; attach = n })
key_eq k q n = ap (λ b. (k.device == q.device) && b) (places_eq k.place q.place)

place_same : (p r : Place) → same_place p r ≡ true → p ≡ r
place_same Root Root e = refl
place_same Root (At a) e = absurd (cc)
place_same (At a) Root e = absurd (cc)
place_same (At a) (At b) e = ap At (eqb-true a b e)

-- keys that are the same have the same first spots
same_first : (k q : SpotKey) (n : ℕ) (all : List Spot) → is_at q (record { key = k; attach = n }) ≡ true → first_spot (is_at k) all ≡ first_spot (is_at q) all
same_first k q n all e =
    let parts = both_true (k.device == q.device) (same_place k.place q.place) e in
    ap (λ (d : ℕ). first_spot (λ s. (s.key.device == d) && same_place s.key.place k.place) all) (eqb-true k.device q.device parts.0)
    ∙ ap (λ (p : Place). first_spot (λ s. (s.key.device == q.device) && same_place s.key.place p) all) (place_same k.place q.place parts.1)

-- ---- one more spot

pushed : (b : Bool) (o : Option (ℕ × Spot)) (s : Spot) (n : ℕ) (old : Option FirstSpot) → (b ≡ true → old ≡ option_map ranked o)
    → cond b (Some (unwrap_or old (ranked (n, s)))) (option_map ranked o) ≡ option_map ranked (first_or o (cond b (Some (n, s)) None))
pushed true None s n old same = ap (λ (x : Option FirstSpot). Some (unwrap_or x (ranked (n, s)))) (same refl)
pushed true (Some e) s n old same = ap (λ (x : Option FirstSpot). Some (unwrap_or x (ranked (n, s)))) (same refl)
pushed false None s n old same = refl
pushed false (Some e) s n old same = refl

pub spots_push : (old new : Spots) (s : Spot) → new.count ≡ old.count + 1
    → ((q : SpotKey) → get block.ghosts.eq new.first q ≡ cond (block.ghosts.eq s.key q) (Some (unwrap_or (get block.ghosts.eq old.first s.key) (ranked (old.count, s)))) (get block.ghosts.eq old.first q))
    → (all : List Spot) → AreSpots old all → AreSpots new (all ++ s ∷ [])
spots_push old new s count first all are = record {
  first = λ q.
      let found : Option (ℕ × Spot) = find (λ e. is_at q e.1) (enumerate_from 0 all) in
      let size : old.count ≡ 0 + length all = omega (arith, are.count) in
      first q
      ∙ ap (λ b. cond b (Some (unwrap_or (get block.ghosts.eq old.first s.key) (ranked (old.count, s)))) (get block.ghosts.eq old.first q)) (key_eq s.key q s.attach)
      ∙ ap (λ o. cond (is_at q s) (Some (unwrap_or (get block.ghosts.eq old.first s.key) (ranked (old.count, s)))) o) (are.first q)
      ∙ pushed (is_at q s) found s old.count (get block.ghosts.eq old.first s.key) (λ e. are.first s.key ∙ same_first s.key q s.attach all e)
      ∙ ap (λ (n : ℕ). option_map ranked (first_or found (cond (is_at q s) (Some (n, s)) None))) size
      ∙ ap (option_map ranked) (sym (find_push (is_at q) 0 all s));
  count = omega (arith, count, are.count, length-append all (s ∷ []));
}

-- ---- one more attachment

spots_from : (n m : ℕ) (attaches : List Attach) (a : Attach) → n + length attaches ≡ m
    → flat_map spots_at (enumerate_from n (attaches ++ a ∷ [])) ≡ flat_map spots_at (enumerate_from n attaches) ++ map (spot_at a.device m) a.places
spots_from n m [] a e =
    let same : n ≡ m = omega (arith, e) in
    append-nil (spots_at (n, a)) ∙ ap (λ (k : ℕ). map (spot_at a.device k) a.places) same
spots_from n m (x ∷ attaches) a e =
    ap (λ (spots : List Spot). spots_at (n, x) ++ spots) (spots_from (n + 1) m attaches a (omega (arith, e)))
    ∙ sym (append_assoc (spots_at (n, x)) (flat_map spots_at (enumerate_from (n + 1) attaches)) (map (spot_at a.device m) a.places))

-- the spots with those of one more attachment
pub all_spots_push : (attaches : List Attach) (a : Attach) → all_spots (attaches ++ a ∷ []) ≡ all_spots attaches ++ map (spot_at a.device (length attaches)) a.places
all_spots_push attaches a = spots_from 0 (length attaches) attaches a (omega arith)

-- the noted spots with those of one more attachment
pub spots_attached : (attaches : List Attach) (a : Attach) (n : ℕ) (new : Spots) → n ≡ length attaches → AreSpots new (all_spots attaches ++ spots_at (n, a)) → AreSpots new (all_spots (attaches ++ a ∷ []))
spots_attached attaches a n new e are =
    subst (AreSpots new) (ap (λ (k : ℕ). all_spots attaches ++ map (spot_at a.device k) a.places) e ∙ sym (all_spots_push attaches a)) are

-- the noted spots of the first attachments, with those of the next
pub spots_taken : (attaches : List Attach) (i : ℕ) (a : Attach) (new : Spots) → i < length attaches → a ≡ get_or attaches i a
    → AreSpots new (all_spots (take i attaches) ++ spots_at (i, a)) → AreSpots new (all_spots (take (i + 1) attaches))
spots_taken attaches i a new h is are =
    let size : length (take i attaches) ≡ i = length-take-le i attaches (omega (arith, h)) in
    subst (λ (xs : List Attach). AreSpots new (all_spots xs)) (sym (take_more attaches i a h ∙ ap (λ (x : Attach). take i attaches ++ x ∷ []) (sym is)))
    (spots_attached (take i attaches) a i new (sym size) are)
