use Rattle.std.proofs.Common.{◌∙◌, ◌∷◌, List, ap}
use Rattle.cf_types.specs.declared.machine.StyleLine.{StyleLine}
use Rattle.plain_rows.proofs.StyleLaws.{first_put}
use Rattle.plain_rows.proofs.styles.put.Goals as goal

pub returns : goal.returns
returns c = first_put c.args.line.now c.args.list.now.items c.insert.new.self.items (c.in_ok-insert.ensures.items ∙ ap (λ (xs : List StyleLine). c.args.line.now ∷ xs) c.forget.ensures)
