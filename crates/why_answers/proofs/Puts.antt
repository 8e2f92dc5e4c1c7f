-- A text that is put behind another.
use Rattle.std.proofs.Common.{◌≡◌, ◌∙◌, ℕ, List, ◌++◌, ap, append_assoc}
use Rattle.std.specs.Prelude.{OnOk, Result}
use Rattle.std.specs.Prelude as std

pub both : {A E : Type 0} (r : Result A E) (old mid new first second : List ℕ) → mid ≡ old ++ first → OnOk r (new ≡ mid ++ second) → OnOk r (new ≡ old ++ (first ++ second))
both (std.Ok done) old mid new first second put then = then ∙ ap (λ (xs : List ℕ). xs ++ second) put ∙ append_assoc old first second
both (std.Err stop) old mid new first second put then = tt
