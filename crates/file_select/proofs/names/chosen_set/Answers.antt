use Rattle.std.proofs.Common.{rules}
use Rattle.std.proofs.lemmas.List.Elements.{All-nil}
use Rattle.std.specs.List.{All}
use Rattle.std.proofs.Common.{List, ℕ, refl, sym, subst}
use Rattle.file_select.specs.Texts.{IsShort}
use Rattle.file_select.proofs.RowLemmas.{all_inserted}
use Rattle.file_select.proofs.names.chosen_set.Goals as goal

pub returns-clause-same : goal.returns-clause-same
returns-clause-same c = λ name.
    all_inserted c.args.tables.now name c.make-names.result _ _ _ _ _ _ _ _ c.make-names.ensures c.in_ok-insert_rows.ensures.names c.in_ok-insert_attrs.ensures.names c.in_ok-insert_options.ensures.names c.in_ok-insert_file_systems.ensures.names
    c.items.ensures refl c.items-2.ensures (search rules) (search rules)

pub returns-clause-short : goal.returns-clause-short
returns-clause-short c =
    c.in_ok-insert_file_systems.ensures.short (c.in_ok-insert_options.ensures.short (c.in_ok-insert_attrs.ensures.short (c.in_ok-insert_rows.ensures.short
    (subst (λ (ts : List (List ℕ)). All IsShort ts) (sym c.make-names.ensures) (All-nil IsShort)))))
