-- What a device offers by the graph, and the first attachment that suits.
use Rattle.std.proofs.Common.{◌≡◌, ℕ, ◌+◌, ◌<◌, ◌≤◌, Bool, true, false, cond, Option, Some, None, List, [], ◌∷◌, ◌++◌, length, get_or, drop, map, suc, refl, ap, sym, ◌∙◌, arith}
use Rattle.std.specs.Prelude.{find, flat_map, filter_map, slice_get, ◌==◌, ◌||◌, not, if◌then◌else◌, option_map, option_and_then, Ok, Err, All}
use Rattle.std.specs.List.{cons_option, list_any, enumerate_from}
use Rattle.std.specs.Option.{option_map_or}
use Rattle.std.proofs.lemmas.Bool.{ne_eqb}
use Rattle.std.proofs.lemmas.List.{drop_more}
use Rattle.std.proofs.lemmas.List.Elements.{All-head, All-tail}
use Rattle.std.proofs.lemmas.Option.{slice_get_past}
use Rattle.cf_types.specs.declared.code.configuration.TheConstants.{UNKNOWN_LOCATOR}
use Rattle.cf_types.specs.declared.instance.AttachPlace.{AttachPlace}
use Rattle.cf_types.specs.declared.instance.Target.{Target}
use Rattle.cf_types.specs.declared.tables.Attach.{Attach}
use Rattle.cf_types.specs.declared.tables.Attr.{Attr}
use Rattle.cf_types.specs.declared.tables.Device.{Device}
use Rattle.cf_types.specs.declared.tables.Place.{Place}
use Rattle.cf_types.specs.declared.declared.Declared.{Declared}
use Rattle.cf_types.specs.Offers.{nodes_of, named_by, interfaces_of, interfaces, offers}
use Rattle.config_rules.specs.Joined.{suits, spots_of, fill, fill_fault}
use Rattle.cf_types.specs.declared.stmt.GivenLoc.{GivenLoc}
use Rattle.cf_names.specs.Attaches.{attaches_of}
use Rattle.cf_declare.specs.Graphs.{placed_of, placed_at}
use Rattle.cf_declare.proofs.ListFacts.{all_numbered}

-- a device that is not there offers nothing
pub offers_past : (attrs : List Attr) (devices : List Device) (d a : ℕ) → length devices ≤ d → false ≡ offers attrs devices d a
unfolding offers interfaces
offers_past attrs devices d a h =
    sym (ap (λ (o : Option Device). list_any (λ x. x == a) (option_map_or (λ device. interfaces_of (nodes_of attrs) (named_by device)) o [])) (slice_get_past devices d h))

-- ---- the first attachment that suits

-- the places of an attachment with this number
abbrev pub spots_at : List Attach → ℕ → List AttachPlace
spots_at attaches n = option_map_or (λ a. map (λ place. record { attach = n; place = place }) a.places) (slice_get attaches n) []

-- the first that suits among the attachments of these numbers
abbrev pub first_of : Declared → Target → List ℕ → Option AttachPlace
first_of d target numbers = find (λ (s : AttachPlace). suits d target s.place) (flat_map (spots_at d.attaches) numbers)

-- the first one, or else another
abbrev pub or_else : {A : Type 0} → Option A → Option A → Option A
or_else None o = o
or_else (Some x) o = Some x

or_else_if : {A : Type 0} (b : Bool) (x : A) (o p q : Option A) → q ≡ or_else o p → cond b (Some x) q ≡ or_else (cond b (Some x) o) p
or_else_if true x o p q e = refl
or_else_if false x o p q e = e

pub find-append : {X : Type 0} (p : X → Bool) (xs ys : List X) → find p (xs ++ ys) ≡ or_else (find p xs) (find p ys)
find-append p [] ys = refl
find-append p (x ∷ xs) ys = or_else_if (p x) x (find p xs) (find p ys) (find p (xs ++ ys)) (find-append p xs ys)

map_if : (n : ℕ) (x : Place) (b : Bool) (q : Option AttachPlace) (r : Option Place) → q ≡ option_map (λ place. record { attach = n; place = place }) r → cond b (Some (record { attach = n; place = x })) q ≡ option_map (λ place. record { attach = n; place = place }) (cond b (Some x) r)
map_if n x true q r e = refl
map_if n x false q r e = e

find-map : (p : Place → Bool) (n : ℕ) (places : List Place) → find (λ (s : AttachPlace). p s.place) (map (λ place. record { attach = n; place = place }) places) ≡ option_map (λ place. record { attach = n; place = place }) (find p places)
find-map p n [] = refl
find-map p n (x ∷ places) = map_if n x (p x) _ (find p places) (find-map p n places)

placed_here : (d : Declared) (target : Target) (n : ℕ) (o : Option Attach) → find (λ (s : AttachPlace). suits d target s.place) (option_map_or (λ a. map (λ place. record { attach = n; place = place }) a.places) o []) ≡ option_and_then (placed_of d target n) o
placed_here d target n None = refl
placed_here d target n (Some a) = find-map (suits d target) n a.places

-- one more attachment
pub first_here : (d : Declared) (target : Target) (numbers : List ℕ) (i : ℕ) → i < length numbers → first_of d target (drop i numbers) ≡ or_else (placed_at d target (get_or numbers i 0)) (first_of d target (drop (i + 1) numbers))
first_here d target numbers i h =
    ap (first_of d target) (drop_more numbers i 0 h)
    ∙ find-append (λ (s : AttachPlace). suits d target s.place) (spots_at d.attaches (get_or numbers i 0)) _
    ∙ ap (λ o. or_else o (first_of d target (drop (i + 1) numbers))) (placed_here d target (get_or numbers i 0) (slice_get d.attaches (get_or numbers i 0)))

-- what is kept of an attachment, as its number
abbrev number_if : ℕ → ℕ × Attach → Option ℕ
number_if device a = if a.1.device == device then Some a.0 else None

-- its places, where it is one of the device
abbrev places_if : ℕ → ℕ × Attach → List AttachPlace
places_if device a = if a.1.device == device then map (λ place. record { attach = a.0; place = place }) a.1.places else []

spots_if : (attaches : List Attach) (b : Bool) (a : ℕ × Attach) (numbers : List ℕ) (rest : List AttachPlace) → slice_get attaches a.0 ≡ Some a.1 → flat_map (spots_at attaches) numbers ≡ rest
    → flat_map (spots_at attaches) (cons_option (if b then Some a.0 else None) numbers) ≡ (if b then map (λ place. record { attach = a.0; place = place }) a.1.places else []) ++ rest
spots_if attaches true a numbers rest at ih =
    ap (λ (o : Option Attach). option_map_or (λ x. map (λ place. record { attach = a.0; place = place }) x.places) o [] ++ flat_map (spots_at attaches) numbers) at
    ∙ ap (λ (spots : List AttachPlace). map (λ place. record { attach = a.0; place = place }) a.1.places ++ spots) ih
spots_if attaches false a numbers rest at ih = ih

spots_among : (attaches : List Attach) (device : ℕ) (numbered : List (ℕ × Attach)) → All (λ e. slice_get attaches e.0 ≡ Some e.1) numbered → flat_map (spots_at attaches) (filter_map (number_if device) numbered) ≡ flat_map (places_if device) numbered
spots_among attaches device [] h = refl
spots_among attaches device (a ∷ numbered) h =
    spots_if attaches (a.1.device == device) a (filter_map (number_if device) numbered) (flat_map (places_if device) numbered) (All-head (λ e. slice_get attaches e.0 ≡ Some e.1) a numbered h)
    (spots_among attaches device numbered (All-tail (λ e. slice_get attaches e.0 ≡ Some e.1) a numbered h))

-- the places of a device's attachments are those of their numbers
pub spots_are : (d : Declared) (device : ℕ) → flat_map (spots_at d.attaches) (attaches_of d.attaches device) ≡ spots_of d device
spots_are d device = spots_among d.attaches device (enumerate_from 0 d.attaches) (all_numbered [] d.attaches)

-- ---- whether there is an attachment

some_if : (b : Bool) (n : ℕ) (numbers : List ℕ) (any : Bool) → (length numbers == 0) ≡ not any → (length (cons_option (if b then Some n else None) numbers) == 0) ≡ not (b || any)
some_if true n numbers any h = ne_eqb (suc (length numbers)) 0 (λ e. omega arith)
some_if false n numbers any h = h

some_from : (device n : ℕ) (attaches : List Attach) → (length (filter_map (number_if device) (enumerate_from n attaches)) == 0) ≡ not (list_any (λ a. a.device == device) attaches)
some_from device n [] = refl
some_from device n (a ∷ attaches) =
    some_if (a.device == device) n (filter_map (number_if device) (enumerate_from (n + 1) attaches)) (list_any (λ x. x.device == device) attaches) (some_from device (n + 1) attaches)

twice : (b : Bool) → not (not b) ≡ b
twice true = refl
twice false = refl

-- a device has a number of an attachment exactly where it has an attachment
pub some_attached : (attaches : List Attach) (device : ℕ) → not (length (attaches_of attaches device) == 0) ≡ list_any (λ a. a.device == device) attaches
some_attached attaches device = ap not (some_from device 0 attaches) ∙ twice (list_any (λ a. a.device == device) attaches)

pub nothing_given : (pairs : List GivenLoc) → length pairs ≡ 0 → Ok [] ≡ fill [] pairs
unfolding fill fill_fault
nothing_given [] h = refl
nothing_given (g ∷ pairs) h = absurd (omega arith)

-- whatever is given where there is no locator is unknown
pub something_given : (pairs : List GivenLoc) → ¬ (length pairs ≡ 0) → Err UNKNOWN_LOCATOR ≡ fill [] pairs
unfolding fill fill_fault
something_given [] h = absurd (h refl)
something_given (g ∷ pairs) h = refl
