use Rattle.std.proofs.Common.{◌∙◌, sym}
use Rattle.cf_rows.proofs.WarnLemmas.{none_warned}
use Rattle.cf_rows.proofs.idle.warnings.Goals as goal

pub returns-then-is_none : goal.returns-then-is_none
returns-then-is_none c = λ insts are.
    let none = c.is_none.ensures in
    c.make.ensures
    ∙ sym (none_warned c.args.files.now insts c.args.placed.now _ _ _ (none.instances c.if-is_none.true) (none.items c.if-is_none.true) (none.orphans c.if-is_none.true) c.requires.instances c.requires.items are)
