-- Elements whose numbers are marked once.
use Rattle.std.proofs.Common.{◌≡◌, ◌==◌, ◌||◌, ℕ, ◌<◌, zero, suc, arith, Bool, true, false, List, [], ◌∷◌, ◌++◌, length, get_or, set, refl, ap, sym, subst, ◌∙◌, append-nil, get_or-set_other, ◌≢◌}
use Rattle.std.specs.Prelude.{flat_map, slice_get}
use Rattle.std.specs.Option.{option_to_list}
use Rattle.std.proofs.lemmas.Bool.{eqb-true, eq-eqb}
use Rattle.std.proofs.lemmas.List.{length-set}
use Rattle.cf_types.specs.Gather.{is_in}
use Rattle.file_select.specs.Marks.{AddsMarks, AreSeen}
use Rattle.file_select.proofs.MarkLemmas.{adds_to, in_left, in_right}

-- numbers that are marked already
pub adds_again : (m : List Bool) (xs : List ℕ) → ((a : ℕ) → is_in a xs ≡ true → get_or m a false ≡ true) → AddsMarks m m xs
adds_again m xs h = record { size = refl; marked = λ a. by (get_or m a false) (is_in a xs) (h a) }
  where
    by : (b c : Bool) → (c ≡ true → b ≡ true) → b ≡ (b || c)
    by true c k = refl
    by false false k = refl
    by false true k = k refl

pub seen_none : {X : Type 0} (f : X → List ℕ) (xs : List X) (seen marks : List Bool) → length seen ≡ length xs → ((i : ℕ) → get_or seen i false ≡ false) → AreSeen f xs seen marks
seen_none f xs seen marks size none = record { size = size; marked = λ i a h k. let off : get_or seen i false ≡ false = none i in absurd (cc) }

-- a mark that was read
pub mark_read : (seen : List Bool) (i : ℕ) (b : Bool) → i < length seen → b ≡ get_or seen i b → b ≡ true → get_or seen i false ≡ true
mark_read [] i b lt is on = absurd (omega arith)
mark_read (x ∷ xs) zero b lt is on = sym is ∙ on
mark_read (x ∷ xs) (suc i) b lt is on = mark_read xs i b (omega arith) is on

-- the numbers of the one element that is there
pub adds_there : {X : Type 0} (f : X → List ℕ) (xs : List X) (x : X) (old new : List Bool) (ys : List ℕ) → xs ≡ x ∷ [] → ys ≡ f x → AddsMarks old new ys → AddsMarks old new (flat_map f xs)
adds_there f xs x old new ys is same adds =
    subst (λ zs. AddsMarks old new (flat_map f zs)) (sym is) (adds_to old new ys (f x ++ []) (same ∙ sym (append-nil (f x))) adds)

-- what is marked stays marked
pub seen_more : {X : Type 0} (f : X → List ℕ) (xs : List X) (seen old new : List Bool) (ys : List ℕ) → AreSeen f xs seen old → AddsMarks old new ys → AreSeen f xs seen new
seen_more f xs seen old new ys s adds = record {
  size = s.size;
  marked = λ i a h k. adds.marked a ∙ in_left (get_or old a false) (is_in a ys) (s.marked i a h k);
}

-- one element more
pub seen_one : {X : Type 0} (f : X → List ℕ) (xs : List X) (seen after old new : List Bool) (place : ℕ) → after ≡ set seen place true → AreSeen f xs seen old
    → AddsMarks old new (flat_map f (option_to_list (slice_get xs place))) → AreSeen f xs after new
seen_one f xs seen after old new place e s adds = record {
  size = ap length e ∙ length-set seen place true ∙ s.size;
  marked = λ i a h k. by i a (place == i) refl (ap (λ m. get_or m i false) (sym e) ∙ h) k;
}
  where
    by : (i a : ℕ) (b : Bool) → (place == i) ≡ b → get_or (set seen place true) i false ≡ true → is_in a (flat_map f (option_to_list (slice_get xs i))) ≡ true → get_or new a false ≡ true
    by i a true same h k =
        adds.marked a ∙ in_right (get_or old a false) (is_in a (flat_map f (option_to_list (slice_get xs place)))) (ap (λ p. is_in a (flat_map f (option_to_list (slice_get xs p)))) (eqb-true place i same) ∙ k)
    by i a false other h k =
        let apart : i ≢ place = λ is. let t : (place == i) ≡ true = eq-eqb place i (sym is) in absurd (cc) in
        adds.marked a ∙ in_left (get_or old a false) (is_in a (flat_map f (option_to_list (slice_get xs place)))) (s.marked i a (sym (get_or-set_other seen place i true false apart) ∙ h) k)

-- the same in a list that is the same
pub seen_in : {X : Type 0} (f : X → List ℕ) (xs ys : List X) (seen marks : List Bool) → xs ≡ ys → AreSeen f xs seen marks → AreSeen f ys seen marks
seen_in f xs ys seen marks e s = subst (λ zs. AreSeen f zs seen marks) e s
