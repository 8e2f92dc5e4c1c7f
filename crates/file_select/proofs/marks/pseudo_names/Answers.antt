use Rattle.std.proofs.Common.{◌∙◌, ap}
use Rattle.file_select.specs.Texts.{with_text}
use Rattle.file_select.proofs.TextLemmas.{has_more}
use Rattle.file_select.proofs.marks.pseudo_names.Goals as goal

pub loop-pseudo-preserved : goal.loop-pseudo-preserved
loop-pseudo-preserved c = λ name.
    has_more (λ p. p.name) c.args.pseudos.now c.loop-pseudo.pseudo-index c.pseudo-item.result c.loop-pseudo.names c.insert.new.self name c.loop-pseudo-test.true c.pseudo-item.is (c.loop-pseudo.invariant name)
    (c.in_ok-insert.ensures.texts ∙ ap (with_text c.loop-pseudo.names) c.bytes.ensures.bytes)
