-- The first and the last of a list, which pass a test.
use Rattle.std.proofs.Common.{◌≡◌, ◌<◌, ◌∙◌, Bool, true, Some, List, [], ◌∷◌, ap, length, ◌-◌, sym, arith}
use Rattle.std.specs.Prelude.{find, reverse}
use Rattle.std.proofs.Math.Seq.{take-length}
use Rattle.std.specs.List.{slice_get}
use Rattle.std.proofs.lemmas.Option.{get_or_from_slice_get, same_Some, slice_get_within}
use Rattle.run_rules.proofs.FromEnd.{last_found}

-- the last one of all is found, if it passes
pub end_found : {X : Type 0} (p : X → Bool) (xs : List X) (d : X) → slice_get xs (length xs - 1) ≡ Some d → p d ≡ true → find p (reverse xs) ≡ Some d
end_found p xs d e fits =
    let within : length xs - 1 < length xs = slice_get_within xs (length xs - 1) d e in
    ap (λ ys. find p (reverse ys)) (sym (take-length xs))
    ∙ last_found p xs (length xs - 1) (length xs) d (omega (arith, within)) within (ap p (get_or_from_slice_get xs (length xs - 1) d d e) ∙ fits) ∙ ap Some (get_or_from_slice_get xs (length xs - 1) d d e)

-- the first one is found, if it passes
pub first_found : {X : Type 0} (p : X → Bool) (xs : List X) (d : X) → slice_get xs 0 ≡ Some d → p d ≡ true → find p xs ≡ Some d
first_found p [] d e fits = absurd cc
first_found p (x ∷ xs) d e fits = rw (ap p (same_Some x d e) ∙ fits) e
