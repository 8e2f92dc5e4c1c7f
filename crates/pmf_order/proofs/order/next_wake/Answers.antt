use Rattle.std.proofs.Common.{◌≡◌, ◌∙◌, ◌&&◌, ◌||◌, Bool, true, false, ap, find, refl, sym}
use Rattle.run_rules.specs.declared.world.Dev.{Dev}
use Rattle.run_rules.specs.Next as next
use Rattle.run_rules.specs.World.{is_under, serial_of}
use Rattle.run_rules.proofs.Turns.{find_same}
use Rattle.pmf_order.specs.Resting.{wakes_below}
use Rattle.pmf_order.proofs.AboveLaws.{above_or_below}
use Rattle.pmf_order.proofs.FromEnd.{first_found}
use Rattle.pmf_order.proofs.order.next_wake.Goals as goal

pub returns-then-is_under : goal.returns-then-is_under
unfolding next.next_wake
returns-then-is_under c =
    let live = c.args.tree.now.live in
    let target = c.args.target in
    let first = c.in-Some.first.now in
    let under : is_under live target first.serial ≡ true = sym c.is_under.ensures ∙ c.if-is_under.true in
    let p : Dev → Bool = λ d. d.asleep && (is_under live d.serial target || (c.args.whole && is_under live target d.serial)) in
    let passes : p first ≡ true = last_of (is_under live first.serial target) first.asleep c.args.whole (is_under live target first.serial) c.if-first.true c.if-whole.true under in
    ap serial_of (sym (first_found p c.back-among.result.now first (sym c.in-Some.ensures.value) passes) ∙ sym (c.back-among.ensures p (λ d e. rw e refl)))
  where
    last_of : (a s w b : Bool) → s ≡ true → w ≡ true → b ≡ true → (s && (a || (w && b))) ≡ true
    last_of true s w b asleep whole under = rw asleep refl
    last_of false s w b asleep whole under = rw (asleep, whole, under) refl

pub returns-then-whole-2 : goal.returns-then-whole-2
unfolding next.next_wake
returns-then-whole-2 c =
    let live = c.args.tree.now.live in
    let target = c.args.target in
    let above = c.first_above-above.result in
    c.first_below.ensures
    ∙ ap serial_of (sym (c.back-among.ensures (wakes_below live target above) (λ d e. rw e refl))
    ∙ above_or_below (λ d. is_under live d.serial target) (λ d. is_under live target d.serial) above live c.stands.ensures.later c.first_above-above.ensures)
    ∙ ap (λ (w : Bool). serial_of (find (λ d. d.asleep && (is_under live d.serial target || (w && is_under live target d.serial))) live)) (sym c.if-whole-2.true)

pub returns-else-whole-2 : goal.returns-else-whole-2
unfolding next.next_wake
returns-else-whole-2 c =
    let live = c.args.tree.now.live in
    let target = c.args.target in
    c.first_above-above.ensures
    ∙ ap serial_of (find_same (λ d. d.asleep && is_under live d.serial target) (λ d. d.asleep && (is_under live d.serial target || false)) live
    (λ d. alone d.asleep (is_under live d.serial target)))
    ∙ ap (λ (w : Bool). serial_of (find (λ d. d.asleep && (is_under live d.serial target || (w && is_under live target d.serial))) live)) (sym c.if-whole-2.false)
  where
    alone : (a b : Bool) → (a && b) ≡ (a && (b || false))
    alone a true = refl
    alone a false = refl
