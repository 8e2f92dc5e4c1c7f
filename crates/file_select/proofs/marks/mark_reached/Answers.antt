use Rattle.std.proofs.Common.{◌<◌, ◌∙◌, ap, sym, subst, length, map, List}
use Rattle.std.specs.List.{All}
use Rattle.cf_types.specs.Gather.{is_in}
use Rattle.cf_types.specs.Offers.{nodes_of, walks}
use Rattle.cf_types.specs.declared.tables.Attr.{Attr}
use Rattle.cf_types.specs.declared.tables.Pseudo.{Pseudo}
use Rattle.config_rules.specs.Select.{has_name}
use Rattle.file_rules.specs.Chosen.{named_attrs, wanted_attrs}
use Rattle.file_select.proofs.MarkLemmas.{adds_both, adds_to, only_added}
use Rattle.file_select.proofs.RowLemmas.{named_attrs_same, wanted_within}
use Rattle.file_select.proofs.marks.mark_reached.Goals as goal

pub returns-clause-marked : goal.returns-clause-marked
returns-clause-marked c = λ a.
    c.mark_needs.ensures.marked (wanted_attrs c.args.tables.now)
    (subst (λ (xs : List Attr). All (λ b. b < length xs) (wanted_attrs c.args.tables.now)) (sym c.items-3.ensures) (wanted_within c.args.tables.now c.requires.formed))
    (only_added c.args.marks.now c.mark_named.new.marks (wanted_attrs c.args.tables.now) c.requires.none
    (adds_both c.args.marks.now c.mark_rows.new.marks c.mark_named.new.marks _ _ c.in_ok-mark_rows.ensures
    (adds_to c.mark_rows.new.marks c.mark_named.new.marks (named_attrs c.items-2.result.now c.in_ok-names.names) (named_attrs c.args.tables.now.attrs (map (λ p. p.name) c.args.tables.now.pseudos))
    (ap (λ xs. named_attrs xs c.in_ok-names.names) c.items-2.ensures
    ∙ named_attrs_same c.args.tables.now.attrs c.in_ok-names.names (map (λ p. p.name) c.args.tables.now.pseudos)
    (λ name. c.in_ok-names.ensures name ∙ ap (λ (ps : List Pseudo). has_name (map (λ p. p.name) ps) name) c.items.ensures))
    c.mark_named.ensures)))
    a
    ∙ ap (λ (xs : List Attr). is_in a (walks (nodes_of xs) (wanted_attrs c.args.tables.now))) c.items-3.ensures
