use Rattle.std.proofs.Common.{◌≡◌, ◌<◌, ◌∙◌, List, [], ◌∷◌, ◌++◌, length, slice_index_or, ap, sym, subst, arith}
use Rattle.run_rules.specs.declared.world.Dev.{Dev}
use Rattle.std.proofs.lemmas.List.{get_or_default}
use Rattle.dev_tree.specs.Branching.{Branching, AreBranchesIn}
use Rattle.dev_tree.proofs.BranchLaws.{listed_at}
use Rattle.dev_tree.proofs.branches.Branches.put.Goals as goal

pub returns-in_ok-push-in-Some : goal.returns-in_ok-push-in-Some
returns-in_ok-push-in-Some c = λ listed h.
    let live = c.args.live.now in
    let old : Branching = record { top = c.self.inside.top; lists = c.self.inside.lists.items } in
    let known : AreBranchesIn live listed old = subst (AreBranchesIn live listed) (sym c.self.view_is) h in
    let within : c.in-Some.place < length old.lists = omega (arith, c.in-Some.ensures.0, known.count) in
    let was : c.index_mut.result.now ≡ slice_index_or old.lists c.in-Some.place [] = c.index_mut.ensures.value ∙ get_or_default old.lists c.in-Some.place _ [] within in
    listed_at live listed old c.args.device c.in-Some.place c.push-in-Some.new.self c.requires.order.later c.if-device-eq0.false c.in-Some.ensures.0 c.in-Some.ensures.1
    (c.in_ok-push-in-Some.ensures.ok ∙ ap (λ (xs : List Dev). xs ++ c.args.device ∷ []) was) known
