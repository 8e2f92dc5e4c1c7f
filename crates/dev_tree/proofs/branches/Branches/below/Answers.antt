use Rattle.std.proofs.Common.{◌≡◌, ◌<◌, ◌∙◌, List, [], length, slice_index_or, false, None, ap, sym, subst, arith}
use Rattle.run_rules.specs.declared.world.Dev.{Dev}
use Rattle.run_rules.specs.World.{children, is_live}
use Rattle.std.proofs.lemmas.List.{get_or_default}
use Rattle.dev_tree.specs.Branching.{AreBranchesIn}
use Rattle.dev_tree.proofs.BranchLaws.{no_children}
use Rattle.dev_tree.proofs.branches.Branches.below.Goals as goal

-- what stands past the end
abbrev blank : Dev
blank = record { serial = 0; row = 0; unit = 0; parent = 0; spot = 0; asleep = false; condemned = None }

pub returns-in-Some : goal.returns-in-Some
returns-in-Some c =
    let live = c.args.tree.now.live in
    let lists : List (List Dev) = c.self.inside.lists.items in
    let h : AreBranchesIn live live (record { top = c.self.inside.top; lists = lists }) = subst (AreBranchesIn live live) (sym c.self.view_is) c.requires in
    let within : c.in-Some.place < length live = subst (λ (ds : List Dev). c.in-Some.place < length ds) c.devices.ensures c.in-Some.ensures.0 in
    let at : (slice_index_or live c.in-Some.place blank).serial ≡ c.args.serial =
    subst (λ (ds : List Dev). (slice_index_or ds c.in-Some.place blank).serial ≡ c.args.serial) c.devices.ensures (c.in-Some.ensures.1 blank) in
    c.items-in-Some.ensures ∙ c.index.ensures ∙ get_or_default lists c.in-Some.place _ [] (omega (arith, within, h.count)) ∙ h.each c.in-Some.place blank within ∙ ap (children live) at

pub returns-in-None : goal.returns-in-None
returns-in-None c =
    sym
    (no_children c.args.tree.now.live c.args.tree.now.live c.args.tree.now.next c.args.serial c.if-serial-eq0.false
    (subst (λ (ds : List Dev). is_live ds c.args.serial ≡ false) c.devices.ensures c.in-None.ensures) c.stands.ensures.placed)
