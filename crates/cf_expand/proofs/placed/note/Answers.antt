use Rattle.std.proofs.Common.{◌∙◌, sym}
use Rattle.cf_expand.proofs.NameLemmas.{name_noted}
use Rattle.cf_expand.proofs.placed.note.Goals as goal

pub returns-clause-ok : goal.returns-clause-ok
returns-clause-ok c = λ name.
    name_noted c.args.names.now c.insert.new.self c.in_ok-key.key name c.in-Some.name.now c.args.stmt.now c.in_ok-insert.ensures.keys (c.in_ok-key.ensures.items ∙ c.bytes.ensures.bytes) (sym c.in-Some.ensures)
