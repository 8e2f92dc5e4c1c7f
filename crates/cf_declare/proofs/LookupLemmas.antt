-- What is found by its number is the first of its name.
use Rattle.std.proofs.Common.{◌≡◌, ℕ, Bool, true, false, Option, Some, None, List, get_or, refl, ap, sym, ◌∙◌}
use Rattle.std.specs.Prelude.{find, is_some, position, slice_get, unwrap_or}
use Rattle.std.proofs.lemmas.Bool.{false≢true}
use Rattle.std.proofs.lemmas.Option.{get_or_from_slice_get}
use Rattle.cf_declare.proofs.ListFacts.{find_found, find_place, position_found}

-- there is a first exactly where there is a number
same_found : {X : Type 0} (p : X → Bool) (xs : List X) (o : Option ℕ) → o ≡ position p xs → is_some o ≡ is_some (find p xs)
same_found p xs o e = ap is_some e ∙ position_found p xs ∙ sym (find_found p xs)

here_if : {X : Type 0} (p : X → Bool) (xs : List X) (n : ℕ) (x : X) (o : Option X) → find p xs ≡ o → is_some o ≡ true → x ≡ get_or xs n x → Some n ≡ position p xs → Some x ≡ find p xs
here_if p xs n x None f some is e = absurd (false≢true some)
here_if p xs n x (Some y) f some is e =
    let at : slice_get xs n ≡ Some y = ap (λ (o : Option ℕ). slice_get xs (unwrap_or o 0)) e ∙ find_place p xs y f in
    ap Some (is ∙ get_or_from_slice_get xs n y x at) ∙ sym f

-- the first of a name has that number
pub found_here : {X : Type 0} (p : X → Bool) (xs : List X) (n : ℕ) (x : X) → x ≡ get_or xs n x → Some n ≡ position p xs → Some x ≡ find p xs
found_here p xs n x is e = here_if p xs n x (find p xs) refl (sym (same_found p xs (Some n) e)) is e

nowhere_if : {X : Type 0} (o : Option X) → false ≡ is_some o → None ≡ o
nowhere_if None h = refl
nowhere_if (Some x) h = absurd (false≢true h)

-- without a number there is none of the name
pub found_nowhere : {X : Type 0} (p : X → Bool) (xs : List X) → None ≡ position p xs → None ≡ find p xs
found_nowhere p xs e = nowhere_if (find p xs) (same_found p xs None e)
