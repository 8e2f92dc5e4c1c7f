-- A loop over the lines of a text, at its next line and at its end.
use denote.Param.Members.{Mut}
use Rattle.std.specs.Fn.{CalledAt}
use Rattle.std.specs.Slice.Iter as slice
use Rattle.std.proofs.Common.{◌≡◌, ℕ, ◌+◌, ◌<◌, ◌≤◌, ◌^◌, Bool, false, List, [], ◌∷◌, ◌++◌, length, drop, arith, Option, Some, None}
use Rattle.std.specs.Prelude.{◌==◌}
use Rattle.std.specs.Borrow.{Bor}
use Rattle.std.specs.Iterator.{Yields}
use Rattle.std.proofs.lemmas.Iterator.{YieldsList}
use Rattle.std.proofs.lemmas.Iterator.Consumers.{YieldsList-turn}
use Rattle.std.proofs.lemmas.Iterator.Splits.{YieldsList-from_slice_split}
use Rattle.cf_types.specs.Lines.{lines_of}
use Rattle.machine_text.proofs.TextLemmas.{left_at, left_none, lines_few}

module _ {F : Type 0} (s : _) (g : Mut F (Bor ℕ × Unit {0}) Bool) {f : F} (text : List ℕ) (rest : slice.split_rest s ≡ text) (done : slice.split_done s ≡ false) (closure : slice.split_callee s ≡ f)
    (tests : (x : ℕ) (b : Bool) (q : F) → CalledAt g f x b q → (q ≡ f) × (b ≡ (x == 10))) (xs : List (Bor (List ℕ))) (t : _) (y : Yields (slice.split_steps g) s xs t) where
  road : YieldsList (slice.split_steps g) (λ x. x.now) s (lines_of text)
  road = YieldsList-from_slice_split g (λ b. b == 10) text rest done closure tests

  pub next_line : (r : Option (Bor (List ℕ))) (u : _) (x : Bor (List ℕ)) → r ≡ Some x → slice.split_steps g t r u → drop (length xs) (lines_of text) ≡ x.now ∷ drop (length (xs ++ x ∷ [])) (lines_of text)
  next_line r u x is p = left_at road xs t y r u x is p

  pub no_line : (r : Option (Bor (List ℕ))) (u : _) → r ≡ None → slice.split_steps g t r u → drop (length xs) (lines_of text) ≡ []
  no_line r u is p = left_none road xs t y r u is p

  -- the number of the line behind it, which few lines leave small
  pub next_number : (r : Option (Bor (List ℕ))) (u : _) (x : Bor (List ℕ)) → r ≡ Some x → slice.split_steps g t r u → (number : ℕ) → number ≡ length xs + 1 → length text ≤ 1048576 → number + 1 < 2 ^ 32
  next_number r u x is p number count short = let turn = YieldsList-turn road xs t y r u x is p in omega (arith, turn.0, lines_few text)
