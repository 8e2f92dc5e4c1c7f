use Rattle.std.proofs.Common.{◌%◌, ◌∙◌, length, subst, sym}
use Rattle.run_rules.specs.World.{is_under, parent_of}
use Rattle.run_rules.specs.Chains.{NeverMeets}
use Rattle.run_rules.proofs.Climbs.{above_misses, below_misses, kept_misses, one_kept}
use Rattle.pmf_order.proofs.under.is_under.Goals as goal

pub returns-then-has-clause-is : goal.returns-then-has-clause-is
unfolding is_under
returns-then-has-clause-is c =
    let live = c.args.tree.now.live in
    let serial = c.args.serial in
    sym (kept_misses live c.args.target c.args.strangers.now.serials (serial % 64) serial c.requires c.if-serial-ne0.true (sym c.has.ensures ∙ c.if-has.true) (length live))

pub returns-then-has-clause-noted : goal.returns-then-has-clause-noted
returns-then-has-clause-noted c =
    let live = c.args.tree.now.live in
    let target = c.args.target in
    let serial = c.args.serial in
    let noted = c.args.strangers.now.serials in
    let never : NeverMeets live target serial
    = kept_misses live target noted (serial % 64) serial c.requires c.if-serial-ne0.true (sym c.has.ensures ∙ c.if-has.true) in
    let parent = parent_of live serial in
    rw (c.note.ensures, c.parent_of-parent.ensures) (one_kept live target noted (parent % 64) parent c.requires (above_misses live target serial never))

pub returns-then-has-2-clause-is : goal.returns-then-has-2-clause-is
unfolding is_under
returns-then-has-2-clause-is c =
    let live = c.args.tree.now.live in
    let target = c.args.target in
    let parent = c.parent_of-parent.result in
    let above : NeverMeets live target parent = kept_misses live target c.args.strangers.now.serials (parent % 64) parent c.requires
    c.if-parent-ne0.true (sym c.has-then-parent-ne0.ensures ∙ c.if-has-2.true) in
    sym (below_misses live target c.args.serial c.if-serial-target.true (subst (NeverMeets live target) c.parent_of-parent.ensures above) (length live))

pub returns-then-has-2-clause-noted : goal.returns-then-has-2-clause-noted
returns-then-has-2-clause-noted c =
    let live = c.args.tree.now.live in
    let target = c.args.target in
    let serial = c.args.serial in
    let parent = c.parent_of-parent.result in
    let noted = c.args.strangers.now.serials in
    let above : NeverMeets live target parent = kept_misses live target noted (parent % 64) parent c.requires
    c.if-parent-ne0.true (sym c.has-then-parent-ne0.ensures ∙ c.if-has-2.true) in
    let never : NeverMeets live target serial = below_misses live target serial c.if-serial-target.true (subst (NeverMeets live target) c.parent_of-parent.ensures above) in
    rw c.note-then-has-2.ensures (one_kept live target noted (serial % 64) serial c.requires never)
