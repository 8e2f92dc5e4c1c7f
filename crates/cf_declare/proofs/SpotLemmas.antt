-- The first spot of a device that suits an instance, by the first spots of the device at each place.
use Rattle.std.proofs.Common.{◌≡◌, ℕ, ◌+◌, ◌<◌, ◌≤◌, ◌&&◌, ◌||◌, Bool, true, false, cond, Option, Some, None, List, [], ◌∷◌, length, map, take, get_or, refl, ap, sym, ◌∙◌, arith}
use Rattle.std.specs.Prelude.{◌==◌, if◌then◌else◌, find, flat_map, nat_lt, option_map, IfSome}
use Rattle.std.specs.List.{enumerate_from, list_any}
use Rattle.std.proofs.Math.Bool.{or-false}
use Rattle.std.proofs.lemmas.Bool.Decides.{nat_tests}
use Rattle.std.proofs.lemmas.List.{take_more}
use Rattle.std.proofs.lemmas.List.Folds.{list_any-append}
use Rattle.std.proofs.lemmas.Option.{IfSome_then}
use Rattle.cf_types.proofs.TestLemmas.{equal_turned}
use Rattle.cf_types.specs.Offers.{interfaces, offers}
use Rattle.cf_types.specs.declared.declared.Declared.{Declared}
use Rattle.cf_types.specs.declared.instance.AttachPlace.{AttachPlace}
use Rattle.cf_types.specs.declared.instance.Target.TheVariants.{AtRoot, Below, On}
use Rattle.cf_types.specs.declared.tables.Attach.{Attach}
use Rattle.cf_types.specs.declared.tables.ParentSpec.{ParentSpec}
use Rattle.cf_types.specs.declared.tables.Place.{Place}
use Rattle.cf_types.specs.declared.tables.Place.TheVariants.{Root, At}
use Rattle.config_rules.specs.Joined.{spots_of, suits}
use Rattle.cf_names.specs.Spots.{Spot, all_spots, first_spot, ranked, same_place, spot_at, spots_at}
use Rattle.cf_declare.specs.FirstSpots.{earlier, offered, place_of}
use Rattle.cf_declare.proofs.JoinLemmas.{find-append, or_else}

-- ---- tests that agree

find_same : (p q : Spot → Bool) → ((s : Spot) → p s ≡ q s) → (n : ℕ) (spots : List Spot) → find (λ e. p e.1) (enumerate_from n spots) ≡ find (λ e. q e.1) (enumerate_from n spots)
find_same p q same n [] = refl
find_same p q same n (s ∷ spots) =
    ap (λ b. cond b (Some (n, s)) (find (λ e. p e.1) (enumerate_from (n + 1) spots))) (same s)
    ∙ ap (cond (q s) (Some (n, s))) (find_same p q same (n + 1) spots)

pub first_same : (p q : Spot → Bool) → ((s : Spot) → p s ≡ q s) → (spots : List Spot) → first_spot p spots ≡ first_spot q spots
first_same p q same spots = ap (option_map ranked) (find_same p q same 0 spots)

-- ---- the earlier of two

not_less : (a b : ℕ) → b ≤ a → nat_lt a b ≡ false
not_less a b h = grind (arith, nat_tests, h)

less : (a b : ℕ) → a < b → nat_lt a b ≡ true
less a b h = grind (arith, nat_tests, h)

after_if : (b : Bool) (n : ℕ) (s : Spot) (o : Option (ℕ × Spot)) → IfSome o (λ e. n + 1 ≤ e.0) → IfSome (cond b (Some (n, s)) o) (λ e. n ≤ e.0)
after_if true n s o h = omega arith
after_if false n s o h = IfSome_then o h (λ e le. omega (arith, le))

-- what is found behind n stands behind n
found_after : (p : Spot → Bool) (n : ℕ) (spots : List Spot) → IfSome (find (λ e. p e.1) (enumerate_from n spots)) (λ e. n ≤ e.0)
found_after p n [] = tt
found_after p n (s ∷ spots) = after_if (p s) n s _ (found_after p (n + 1) spots)

first_stays : (n : ℕ) (s : Spot) (o : Option (ℕ × Spot)) → IfSome o (λ e. n ≤ e.0) → Some (ranked (n, s)) ≡ earlier (Some (ranked (n, s))) (option_map ranked o)
first_stays n s None h = refl
first_stays n s (Some e) h = sym (ap (λ b. if b then Some (ranked e) else Some (ranked (n, s))) (not_less e.0 n h))

second_stays : (n : ℕ) (s : Spot) (o : Option (ℕ × Spot)) → IfSome o (λ e. n + 1 ≤ e.0) → Some (ranked (n, s)) ≡ earlier (option_map ranked o) (Some (ranked (n, s)))
second_stays n s None h = refl
second_stays n s (Some e) h = sym (ap (λ b. if b then Some (ranked (n, s)) else Some (ranked e)) (less n e.0 (omega (arith, h))))

either_if : (a b : Bool) (n : ℕ) (s : Spot) (o f g : Option (ℕ × Spot)) → IfSome f (λ e. n + 1 ≤ e.0) → IfSome g (λ e. n + 1 ≤ e.0)
    → option_map ranked o ≡ earlier (option_map ranked f) (option_map ranked g)
    → option_map ranked (cond (a || b) (Some (n, s)) o) ≡ earlier (option_map ranked (cond a (Some (n, s)) f)) (option_map ranked (cond b (Some (n, s)) g))
either_if true true n s o f g hf hg e = first_stays n s (Some (n, s)) (omega arith)
either_if true false n s o f g hf hg e = first_stays n s g (IfSome_then g hg (λ x le. omega (arith, le)))
either_if false true n s o f g hf hg e = second_stays n s f hf
either_if false false n s o f g hf hg e = e

either_from : (p q : Spot → Bool) (n : ℕ) (spots : List Spot) → option_map ranked (find (λ e. p e.1 || q e.1) (enumerate_from n spots))
    ≡ earlier (option_map ranked (find (λ e. p e.1) (enumerate_from n spots))) (option_map ranked (find (λ e. q e.1) (enumerate_from n spots)))
either_from p q n [] = refl
either_from p q n (s ∷ spots) =
    either_if (p s) (q s) n s _ _ _ (found_after p (n + 1) spots) (found_after q (n + 1) spots) (either_from p q (n + 1) spots)

-- the first that passes one of two tests is the earlier of the first that pass them
pub first_either : (p q : Spot → Bool) (spots : List Spot) → first_spot (λ s. p s || q s) spots ≡ earlier (first_spot p spots) (first_spot q spots)
first_either p q spots = either_from p q 0 spots

-- ---- the places that suit

pub suits_root : (d : Declared) (place : Place) → same_place place Root ≡ suits d AtRoot place
suits_root d Root = refl
suits_root d (At a) = refl

pub suits_on : (d : Declared) (b : ℕ) (place : Place) → same_place place (At b) ≡ suits d (On b) place
suits_on d b Root = refl
suits_on d b (At a) = refl

pub suits_below : (d : Declared) (parent : ParentSpec) (place : Place) → offered (interfaces d.attrs d.devices parent.device) place ≡ suits d (Below parent) place
unfolding offers
suits_below d parent Root = refl
suits_below d parent (At a) = refl

-- none is offered by no attribute
none_from : (device n : ℕ) (spots : List Spot) → find (λ e. (e.1.key.device == device) && offered [] e.1.key.place) (enumerate_from n spots) ≡ None
none_from device n [] = refl
none_from device n (s ∷ spots) = ap (λ b. cond b (Some (n, s)) (find (λ e. (e.1.key.device == device) && offered [] e.1.key.place) (enumerate_from (n + 1) spots))) (nothing (s.key.device == device) s.key.place) ∙ none_from device (n + 1) spots
  where
    nothing : (b : Bool) (place : Place) → (b && offered [] place) ≡ false
    nothing true Root = refl
    nothing true (At a) = refl
    nothing false place = refl

pub first_none : (device : ℕ) (spots : List Spot) → None ≡ first_spot (λ s. (s.key.device == device) && offered [] s.key.place) spots
first_none device spots = sym (ap (option_map ranked) (none_from device 0 spots))

offered_more : (attrs : List ℕ) (i : ℕ) (place : Place) → i < length attrs → offered (take (i + 1) attrs) place ≡ (offered (take i attrs) place || same_place place (At (get_or attrs i 0)))
offered_more attrs i Root h = refl
offered_more attrs i (At a) h =
    ap (list_any (λ x. x == a)) (take_more attrs i 0 h) ∙ list_any-append (λ x. x == a) (take i attrs) (get_or attrs i 0 ∷ [])
    ∙ ap (λ b. list_any (λ x. x == a) (take i attrs) || b) (or-false (get_or attrs i 0 == a) ∙ equal_turned (get_or attrs i 0) a)

-- the first that one attribute more offers
pub first_more : (device : ℕ) (attrs : List ℕ) (i : ℕ) (spots : List Spot) → i < length attrs
    → first_spot (λ s. (s.key.device == device) && offered (take (i + 1) attrs) s.key.place) spots
    ≡ earlier (first_spot (λ s. (s.key.device == device) && offered (take i attrs) s.key.place) spots)
    (first_spot (λ s. (s.key.device == device) && same_place s.key.place (At (get_or attrs i 0))) spots)
first_more device attrs i spots h =
    first_same _ (λ s. ((s.key.device == device) && offered (take i attrs) s.key.place) || ((s.key.device == device) && same_place s.key.place (At (get_or attrs i 0))))
    (λ s. ap (λ b. (s.key.device == device) && b) (offered_more attrs i s.key.place h) ∙ both (s.key.device == device) _ _) spots
    ∙ first_either (λ s. (s.key.device == device) && offered (take i attrs) s.key.place) (λ s. (s.key.device == device) && same_place s.key.place (At (get_or attrs i 0))) spots
  where
    both : (p a b : Bool) → (p && (a || b)) ≡ ((p && a) || (p && b))
    both true a b = refl
    both false a b = refl

-- ---- the spots of a device among all

mapped_if : {X Y : Type 0} (f : X → Y) (b : Bool) (x : X) (o : Option X) (q : Option Y) → q ≡ option_map f o → cond b (Some (f x)) q ≡ option_map f (cond b (Some x) o)
mapped_if f true x o q e = refl
mapped_if f false x o q e = e

find-mapped : {X Y : Type 0} (p : Y → Bool) (f : X → Y) (xs : List X) → find p (map f xs) ≡ option_map f (find (λ x. p (f x)) xs)
find-mapped p f [] = refl
find-mapped p f (x ∷ xs) = mapped_if f (p (f x)) x (find (λ y. p (f y)) xs) (find p (map f xs)) (find-mapped p f xs)

find_nothing : {X : Type 0} (xs : List X) → find (λ x. false) xs ≡ None
find_nothing [] = refl
find_nothing (x ∷ xs) = find_nothing xs

-- the spots of one attachment
abbrev mine : ℕ → (Place → Bool) → Spot → Bool
mine device test s = (s.key.device == device) && test s.key.place

abbrev unranked : Spot → AttachPlace
unranked s = record { attach = s.attach; place = s.key.place }

here_if : (b : Bool) (test : Place → Bool) (device n : ℕ) (places : List Place)
    → find (λ (s : AttachPlace). test s.place) (if b then map (λ place. record { attach = n; place = place }) places else [])
    ≡ option_map unranked (option_map (spot_at device n) (find (λ place. b && test place) places))
here_if true test device n places = find-mapped (λ (s : AttachPlace). test s.place) (λ place. record { attach = n; place = place }) places ∙ twice (find test places)
  where
    twice : (o : Option Place) → option_map (λ place. record { attach = n; place = place }) o ≡ option_map unranked (option_map (spot_at device n) o)
    twice None = refl
    twice (Some place) = refl
here_if false test device n places = ap (λ (o : Option Place). option_map unranked (option_map (spot_at device n) o)) (sym (find_nothing places))

abbrev places_if : ℕ → ℕ × Attach → List AttachPlace
places_if device a = if a.1.device == device then map (λ place. record { attach = a.0; place = place }) a.1.places else []

here : (test : Place → Bool) (device : ℕ) (a : ℕ × Attach) → find (λ (s : AttachPlace). test s.place) (places_if device a) ≡ option_map unranked (find (mine device test) (spots_at a))
here test device a =
    here_if (a.1.device == device) test a.1.device a.0 a.1.places
    ∙ ap (option_map unranked) (sym (find-mapped (mine device test) (spot_at a.1.device a.0) a.1.places))

map_else : {A B : Type 0} (f : A → B) (o p : Option A) → option_map f (or_else o p) ≡ or_else (option_map f o) (option_map f p)
map_else f None p = refl
map_else f (Some x) p = refl

among : (test : Place → Bool) (device : ℕ) (numbered : List (ℕ × Attach)) → find (λ (s : AttachPlace). test s.place) (flat_map (places_if device) numbered) ≡ option_map unranked (find (mine device test) (flat_map spots_at numbered))
among test device [] = refl
among test device (a ∷ numbered) =
    find-append (λ (s : AttachPlace). test s.place) (places_if device a) (flat_map (places_if device) numbered)
    ∙ ap (λ (o : Option AttachPlace). or_else o (find (λ (s : AttachPlace). test s.place) (flat_map (places_if device) numbered))) (here test device a)
    ∙ ap (λ (o : Option AttachPlace). or_else (option_map unranked (find (mine device test) (spots_at a))) o) (among test device numbered)
    ∙ sym (map_else unranked (find (mine device test) (spots_at a)) (find (mine device test) (flat_map spots_at numbered)))
    ∙ ap (option_map unranked) (sym (find-append (mine device test) (spots_at a) (flat_map spots_at numbered)))

numbered_if : (b : Bool) (n : ℕ) (s : Spot) (o : Option (ℕ × Spot)) (q : Option Spot) → option_map place_of (option_map ranked o) ≡ option_map unranked q
    → option_map place_of (option_map ranked (cond b (Some (n, s)) o)) ≡ option_map unranked (cond b (Some s) q)
numbered_if true n s o q e = refl
numbered_if false n s o q e = e

numbered_from : (p : Spot → Bool) (n : ℕ) (spots : List Spot) → option_map place_of (option_map ranked (find (λ e. p e.1) (enumerate_from n spots))) ≡ option_map unranked (find p spots)
numbered_from p n [] = refl
numbered_from p n (s ∷ spots) = numbered_if (p s) n s _ _ (numbered_from p (n + 1) spots)

-- the first spot of a device whose place passes a test, found among all spots
pub placed_first : (d : Declared) (device : ℕ) (test : Place → Bool)
    → option_map place_of (first_spot (λ s. (s.key.device == device) && test s.key.place) (all_spots d.attaches)) ≡ find (λ (s : AttachPlace). test s.place) (spots_of d device)
placed_first d device test = numbered_from (mine device test) 0 (all_spots d.attaches) ∙ sym (among test device (enumerate_from 0 d.attaches))
