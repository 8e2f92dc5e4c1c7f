-- The locator values that a rescan wants, one after the other.
use Rattle.std.proofs.Common.{◌≡◌, ◌<◌, ◌+◌, ◌==◌, ℕ, Bool, true, false, List, [], ◌∷◌, ◌++◌, map, drop, length, get_or, Option, Some, None, is_some, position, bytes_eq, refl, sym, ◌∙◌, ap, append_assoc, arith}
use Rattle.std.specs.Prelude.{if◌then◌else◌, option_and_then}
use Rattle.std.specs.List.{list_any}
use Rattle.std.proofs.lemmas.List.{append-nil, drop_more, drop_all}
use Rattle.std.proofs.lemmas.Option.{same_Some}
use Rattle.cf_types.proofs.PlaceLemmas.{position-map}
use Rattle.cf_types.specs.declared.machine.Given.{Given}
use Rattle.cf_types.specs.declared.tables.Locator.{Locator}
use Rattle.cf_types.specs.Lookups.{place_of_name}
use Rattle.run_rules.specs.Next.{wanted_of}
use Rattle.run_rules.specs.declared.world.Wanted.{Wanted}

abbrev names_of : List Locator → List (List ℕ)
names_of locs = map (λ l. l.name) locs

-- the first value has its place, and the others are those of the rest
pub record IsNext (locs : List Locator) (g : Given) (gs : List Given) (all : List Wanted) : Type 0 where
  pub place : ℕ
  pub rest : List Wanted
  pub found : position (λ l. bytes_eq l.name g.name) locs ≡ Some place
  pub others : wanted_of (names_of locs) gs ≡ Some rest
  pub all_is : all ≡ record { place = place; value = g.value } ∷ rest

wanted_next : (locs : List Locator) (g : Given) (gs : List Given) (all : List Wanted) → wanted_of (names_of locs) (g ∷ gs) ≡ Some all → IsNext locs g gs all
unfolding wanted_of
wanted_next locs g gs all e = rests (wanted_of (names_of locs) gs) refl e
  where
    fresh : (rest : List Wanted) → wanted_of (names_of locs) gs ≡ Some rest → (i : ℕ) → place_of_name (names_of locs) g.name ≡ Some i → (b : Bool)
        → (if b then None else Some (record { place = i; value = g.value } ∷ rest)) ≡ Some all → IsNext locs g gs all
    fresh rest more i at true k = absurd cc
    fresh rest more i at false k = record {
      place = i;
      rest = rest;
      found = sym (position-map (λ n. bytes_eq n g.name) (λ (l : Locator). l.name) locs) ∙ at;
      others = more;
      all_is = sym (same_Some _ all k);
    }

    places : (rest : List Wanted) → wanted_of (names_of locs) gs ≡ Some rest → (o : Option ℕ) → place_of_name (names_of locs) g.name ≡ o
        → option_and_then (λ (i : ℕ). if list_any (λ (v : Wanted). v.place == i) rest then None else Some (record { place = i; value = g.value } ∷ rest)) o ≡ Some all → IsNext locs g gs all
    places rest more None at k = absurd cc
    places rest more (Some i) at k = fresh rest more i at (list_any (λ (v : Wanted). v.place == i) rest) k

    rests : (o : Option (List Wanted)) → wanted_of (names_of locs) gs ≡ o
        → option_and_then (λ (rest : List Wanted). option_and_then (λ (i : ℕ). if list_any (λ (v : Wanted). v.place == i) rest then None else Some (record { place = i; value = g.value } ∷ rest)) (place_of_name (names_of locs) g.name)) o ≡ Some all
        → IsNext locs g gs all
    rests None more k = absurd cc
    rests (Some rest) more k = places rest more (place_of_name (names_of locs) g.name) refl k

-- so far these values, and the others are those of the rest
pub record IsSoFar (locs : List Locator) (given left : List Given) (list : List Wanted) : Type 0 where
  pub rest : List Wanted
  pub others : wanted_of (names_of locs) left ≡ Some rest
  pub all : wanted_of (names_of locs) given ≡ Some (list ++ rest)

pub none_yet : (locs : List Locator) (given : List Given) → is_some (wanted_of (names_of locs) given) ≡ true → IsSoFar locs given given []
none_yet locs given h = cases (wanted_of (names_of locs) given) refl h
  where
    cases : (o : Option (List Wanted)) → wanted_of (names_of locs) given ≡ o → is_some o ≡ true → IsSoFar locs given given []
    cases None e k = absurd cc
    cases (Some rest) e k = record { rest = rest; others = e; all = e }

next_of : (locs : List Locator) (given : List Given) (i : ℕ) (g : Given) (list : List Wanted) → i < length given → g ≡ get_or given i g → (s : IsSoFar locs given (drop i given) list)
    → IsNext locs g (drop (i + 1) given) s.rest
next_of locs given i g list lt is s =
    wanted_next locs g (drop (i + 1) given) s.rest
    (ap (λ (x : Given). wanted_of (names_of locs) (x ∷ drop (i + 1) given)) is ∙ ap (wanted_of (names_of locs)) (sym (drop_more given i g lt)) ∙ s.others)

pub one_more : (locs : List Locator) (given : List Given) (i : ℕ) (g : Given) (list : List Wanted) (place : ℕ) → i < length given → g ≡ get_or given i g → IsSoFar locs given (drop i given) list
    → position (λ l. bytes_eq l.name g.name) locs ≡ Some place → IsSoFar locs given (drop (i + 1) given) (list ++ record { place = place; value = g.value } ∷ [])
one_more locs given i g list place lt is s found =
    let n = next_of locs given i g list lt is s in
    let same : n.place ≡ place = same_Some n.place place (sym n.found ∙ found) in
    record {
      rest = n.rest;
      others = n.others;
      all = s.all ∙ ap Some (ap (λ (ws : List Wanted). list ++ ws) (n.all_is ∙ ap (λ (k : ℕ). record { place = k; value = g.value } ∷ n.rest) same)
          ∙ sym (append_assoc list (record { place = place; value = g.value } ∷ []) n.rest));
    }

pub not_missed : (locs : List Locator) (given : List Given) (i : ℕ) (g : Given) (list : List Wanted) → i < length given → g ≡ get_or given i g → IsSoFar locs given (drop i given) list
    → position (λ l. bytes_eq l.name g.name) locs ≡ None → ⊥
not_missed locs given i g list lt is s none = clash (sym (next_of locs given i g list lt is s).found ∙ none)
  where
    clash : {A : Type 0} {x : A} → Some x ≡ None → ⊥
    clash e = cc

pub all_there : (locs : List Locator) (given : List Given) (i : ℕ) (list : List Wanted) → length given ≡ i → IsSoFar locs given (drop i given) list → wanted_of (names_of locs) given ≡ Some list
unfolding wanted_of
all_there locs given i list e s =
    let none : Some [] ≡ Some s.rest = sym (ap (wanted_of (names_of locs)) (drop_all i given (omega (arith, e)))) ∙ s.others in
    s.all ∙ ap (λ (ws : List Wanted). Some (list ++ ws)) (sym (same_Some [] s.rest none)) ∙ ap Some (append-nil list)
