use Rattle.std.proofs.Common.{rules}
use Rattle.file_select.proofs.SourceLemmas.{kept_same, pushed_same}
use Rattle.file_select.proofs.sources.Selection.push.Goals as goal

pub invariant_of-self-then-branch : goal.invariant_of-self-then-branch
invariant_of-self-then-branch c =
    pushed_same c.self.inside.seen c.insert.new.self c.self.inside.paths.items c.push_reserved.new.self.items c.args.path.now c.in_ok-copy.copy c.in_ok-insert.ensures.texts c.self.invariant (search rules) (search rules)

pub invariant_of-self-else-branch : goal.invariant_of-self-else-branch
invariant_of-self-else-branch c =
    kept_same c.self.inside.seen c.insert.new.self c.self.inside.paths.items c.reserve.new.self.items c.args.path.now c.in_ok-insert.ensures.texts c.self.invariant (search rules) (search rules)
