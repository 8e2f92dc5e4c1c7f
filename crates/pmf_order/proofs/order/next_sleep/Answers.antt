use Rattle.std.proofs.Common.{◌≡◌, ◌∙◌, true, ap, refl, sym}
use Rattle.run_rules.specs.Next as next
use Rattle.run_rules.specs.World.{is_under, serial_of}
use Rattle.pmf_order.specs.Resting.{sleeps}
use Rattle.pmf_order.proofs.FromEnd.{end_found}
use Rattle.pmf_order.proofs.order.next_sleep.Goals as goal

pub returns-then-is_under : goal.returns-then-is_under
unfolding next.next_sleep
returns-then-is_under c =
    let live = c.args.tree.now.live in
    let target = c.args.target in
    let last = c.in-Some.last.now in
    let under : is_under live target last.serial ≡ true = sym c.is_under.ensures ∙ c.if-is_under.true in
    let passes : sleeps live target last ≡ true = rw (c.if-not-last.true, under) refl in
    ap serial_of (sym (end_found (sleeps live target) c.front-among.result.now last (sym c.in-Some.ensures.value) passes)
    ∙ sym (c.front-among.ensures (sleeps live target) (λ d e. rw e refl)))

pub returns : goal.returns
unfolding next.next_sleep
returns c =
    c.last_to_sleep.ensures ∙ ap serial_of (sym (c.front-among.ensures (sleeps c.args.tree.now.live c.args.target) (λ d e. rw e refl)))
