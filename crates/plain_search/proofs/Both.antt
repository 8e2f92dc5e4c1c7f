-- Two tests that both pass.
use Rattle.std.proofs.Common.{◌≡◌, Bool, true, ◌&&◌, refl}

pub both_true : (a b : Bool) → a ≡ true → b ≡ true → (a && b) ≡ true
both_true a b e f = rw (e, f) refl
