use Rattle.std.proofs.Common.{◌≡◌, ◌∙◌, ◌<◌, ℕ, Bool, not, length, refl, sym, false, arith}
use Rattle.run_rules.proofs.Below.{find-is, find-none}
use Rattle.match_reasons.specs.Reasons.{fits_at}
use Rattle.match_reasons.proofs.locators.missed_at.Goals as goal

pub returns-then-not-fits_at : goal.returns-then-not-fits_at
returns-then-not-fits_at c =
    let test : ℕ → Bool = λ i. not (fits_at c.args.locators.now c.args.values.now c.args.found.now i) in
    let within : c.loop-place.place < length c.args.locators.now = omega arith in
    let here : fits_at c.args.locators.now c.args.values.now c.args.found.now c.loop-place.place ≡ false = sym c.fits_at.ensures ∙ c.if-not-fits_at.true in
    sym (find-is test (length c.args.locators.now) c.loop-place.place within (rw here refl) (λ q less. rw (c.loop-place.invariant q less) refl))

pub returns : goal.returns
returns c =
    let test : ℕ → Bool = λ i. not (fits_at c.args.locators.now c.args.values.now c.args.found.now i) in
    let end : c.loop-place.place ≡ length c.args.locators.now = omega arith in
    sym (find-none test (length c.args.locators.now) (λ q less. let under : q < c.loop-place.place = omega arith in rw (c.loop-place.invariant q under) refl))
