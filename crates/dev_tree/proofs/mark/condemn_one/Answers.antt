use Rattle.std.proofs.Common.{◌≡◌, ◌<◌, ◌∙◌, false, Some, None, get_or, length, ap, sym, subst, eq-eqb, ne_eqb, arith}
use Rattle.std.specs.Prelude.{slice_set}
use Rattle.run_rules.proofs.Marked.{condemned_at, condemned_past}
use Rattle.run_rules.specs.declared.world.Dev.{Dev}
use Rattle.run_rules.specs.After.{with_condemner}
use Rattle.dev_tree.proofs.BareLaws.{alone_under, one_changed}
use Rattle.run_rules.proofs.Order.{all_at}
use Rattle.dev_tree.proofs.mark.condemn_one.Goals as goal

-- what stands past the end
abbrev blank : Dev
blank = record { serial = 0; row = 0; unit = 0; parent = 0; spot = 0; asleep = false; condemned = None }

pub returns : goal.returns
returns c =
    let live = c.args.live.now in
    let i = c.in-Some.place in
    let s = c.args.serial in
    let here : i < length live = c.in-Some.ensures.0 in
    let at : (get_or live i blank).serial ≡ s = c.in-Some.ensures.1 blank in
    let low : 0 < s = subst (λ n. 0 < n) at (all_at (λ d. 0 < d.serial) live i blank c.requires.order.above here) in
    let some : 0 < length live = omega (arith, here) in
    let own : with_condemner live c.args.caller s (get_or live i blank) ≡ record (get_or live i blank) { condemned = Some c.args.caller } =
    condemned_at live c.args.caller s (get_or live i blank) (alone_under live s (get_or live i blank).serial c.requires.bare low some ∙ eq-eqb (get_or live i blank).serial s at) in
    ap (λ (d : Dev). slice_set live i d) (sym own)
    ∙ one_changed (with_condemner live c.args.caller s) live i s blank
    (λ d ne. condemned_past live c.args.caller s d (alone_under live s d.serial c.requires.bare low some ∙ ne_eqb d.serial s ne)) c.requires.order.later here at
