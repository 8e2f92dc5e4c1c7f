-- Instances with their marks, one by one.
use Rattle.std.proofs.Common.{◌≡◌, ℕ, Bool, true, false, cond, List, [], ◌∷◌, map, refl, ap, ◌∙◌}
use Rattle.std.specs.Prelude.{filter, not, if◌then◌else◌}
use Rattle.std.specs.List.{zip}
use Rattle.std.specs.Borrow.{Bor}
use Rattle.cf_types.specs.declared.instance.Instance.{Instance}
use Rattle.config_rules.specs.Meaning.{marked}
use Rattle.cf_rows.specs.Rows.{seen}

-- an instance and its mark, both behind references
abbrev pub Pair : Type 0
Pair = Bor Instance × Bor Bool

-- a pair that is wanted
abbrev pub is_wanted : Bool → Pair → Bool
is_wanted wanted e = if e.1.now then wanted else not wanted

one_pair : (b : Bool) (x : Pair) (here : List Pair) (there : List (Instance × Bool)) → map {A = Pair} (λ e. e.0.now) here ≡ map {A = Instance × Bool} (λ e. e.0) there
    → map {A = Pair} (λ e. e.0.now) (cond b (x ∷ here) here) ≡ map {A = Instance × Bool} (λ e. e.0) (cond b ((x.0.now, x.1.now) ∷ there) there)
one_pair true x here there e = ap (λ (is : List Instance). x.0.now ∷ is) e
one_pair false x here there e = e

seen_pairs : (wanted : Bool) (pairs : List Pair) → map {A = Pair} (λ e. e.0.now) (filter (is_wanted wanted) pairs)
    ≡ map {A = Instance × Bool} (λ e. e.0) (filter (λ e. if e.1 then wanted else not wanted) (map (λ (x : Pair). (x.0.now, x.1.now)) pairs))
seen_pairs wanted [] = refl
seen_pairs wanted (x ∷ pairs) = one_pair (is_wanted wanted x) x _ _ (seen_pairs wanted pairs)

-- the instances of the pairs that are wanted
marked_pairs : (wanted : Bool) (pairs : List Pair) (insts : List Instance) (marks : List Bool) → map (λ (x : Pair). (x.0.now, x.1.now)) pairs ≡ zip insts marks
    → map {A = Pair} (λ e. e.0.now) (filter (is_wanted wanted) pairs) ≡ marked wanted insts marks
marked_pairs wanted pairs insts marks e =
    seen_pairs wanted pairs ∙ ap (λ (es : List (Instance × Bool)). map (λ d. d.0) (filter (λ d. if d.1 then wanted else not wanted) es)) e

seen_firsts : (pairs : List Pair) → seen (map {A = Pair} (λ e. e.0) pairs) ≡ map {A = Pair} (λ e. e.0.now) pairs
seen_firsts [] = refl
seen_firsts (x ∷ pairs) = ap (λ (is : List Instance). x.0.now ∷ is) (seen_firsts pairs)

places_firsts : (pairs : List Pair) → map {A = Pair} (λ e. e.0.now.stmt) pairs ≡ map (λ i. i.stmt) (map {A = Pair} (λ e. e.0.now) pairs)
places_firsts [] = refl
places_firsts (x ∷ pairs) = ap (λ (ns : List ℕ). x.0.now.stmt ∷ ns) (places_firsts pairs)

-- the references to those that are marked
pub marked_seen : (pairs : List Pair) (insts : List Instance) (marks : List Bool) → map (λ (x : Pair). (x.0.now, x.1.now)) pairs ≡ zip insts marks
    → seen (map {A = Pair} (λ e. e.0) (filter (is_wanted true) pairs)) ≡ marked true insts marks
marked_seen pairs insts marks e = seen_firsts (filter (is_wanted true) pairs) ∙ marked_pairs true pairs insts marks e

-- the places of those that are not
pub marked_places : (pairs : List Pair) (insts : List Instance) (marks : List Bool) → map (λ (x : Pair). (x.0.now, x.1.now)) pairs ≡ zip insts marks
    → map {A = Pair} (λ e. e.0.now.stmt) (filter (is_wanted false) pairs) ≡ map (λ i. i.stmt) (marked false insts marks)
marked_places pairs insts marks e = places_firsts (filter (is_wanted false) pairs) ∙ ap (map (λ (i : Instance). i.stmt)) (marked_pairs false pairs insts marks e)
