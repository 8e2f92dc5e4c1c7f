use Rattle.std.proofs.Common.{◌≡◌, ◌+◌, ◌%◌, ◌∙◌, ℕ, false, ◌==◌, Option, Some, None, ap, arith, eq-eqb, sym}
use Rattle.std.specs.Prelude.{unwrap_or}
use Rattle.plain_names.proofs.NameLaws.{other_end}
use Rattle.plain_names.proofs.names.ends_with.Goals as goal

other_digit : (last digit : ℕ) → (last == digit) ≡ false → Some last ≡ Some digit → ⊥
other_digit last digit other same =
    let is : last ≡ digit = ap (λ (o : Option ℕ). unwrap_or o 0) same in
    let never = sym (eq-eqb last digit is) ∙ other in
    absurd cc

pub returns-in-Some : goal.returns-in-Some
returns-in-Some c = λ other front.
    other_end c.args.name.now front c.args.unit (Some c.in-Some.last.now) (omega arith) c.in-Some.ensures.value (other_digit c.in-Some.last.now (48 + c.args.unit % 10) other)

pub returns-in-None : goal.returns-in-None
returns-in-None c = λ other front. other_end c.args.name.now front c.args.unit None (omega arith) c.in-None.ensures.value (λ same. cc)
