use Rattle.std.proofs.Common.{List, ℕ, ◌∙◌, ap, arith, subst, sym}
use Rattle.std.specs.Prelude.{Option}
use Rattle.config_rules.specs.MachineText.{LineForm, after_line, spot_line}
use Rattle.machine_text.specs.Words.{seen}
use Rattle.machine_model.specs.Left.{Leaves}
use Rattle.machine_model.proofs.MachineLemmas.{few_words, many_words, match_words, spot_words, style_words, three_words}
use Rattle.machine_model.proofs.line.add_rest.Goals as goal

pub returns-in-len3-up-clause-left : goal.returns-in-len3-up-clause-left
returns-in-len3-up-clause-left c =
    let P : Option LineForm → Type 0 = λ form. Leaves (after_line c.args.index.now.tables.now c.args.draft.now.machine form) c.add_spot.result c.add_spot.new.draft.machine in
    let Q : List (List ℕ) → Type 0 = λ ws. P (spot_line ws) in
    subst P (sym (spot_words c.args.word.now (seen c.args.rest.now) (sym c.if-spells.ensures))) (subst Q (three_words c.args.rest.now _ c.in-len3-up.len_at_least) c.add_spot.ensures.left)

pub returns-in_default-clause-left : goal.returns-in_default-clause-left
returns-in_default-clause-left c =
    ap (after_line c.args.index.now.tables.now c.args.draft.now.machine) (spot_words c.args.word.now (seen c.args.rest.now) (sym c.if-spells.ensures) ∙ (few_words c.args.rest.now c.in_default.len_below).0)

pub returns-in_default-rest-clause-left : goal.returns-in_default-rest-clause-left
returns-in_default-rest-clause-left c =
    ap (after_line c.args.index.now.tables.now c.args.draft.now.machine) (match_words c.args.word.now (seen c.args.rest.now) (sym c.if-spells.ensures) (sym c.if-spells-2.ensures) ∙ (few_words c.args.rest.now c.in_default-rest.len_below).1)

pub returns-in_default-rest-4-clause-left : goal.returns-in_default-rest-4-clause-left
returns-in_default-rest-4-clause-left c =
    ap (after_line c.args.index.now.tables.now c.args.draft.now.machine) (match_words c.args.word.now (seen c.args.rest.now) (sym c.if-spells.ensures) (sym c.if-spells-2.ensures) ∙ (many_words c.args.rest.now (omega (arith, c.in_default-rest.len_at_least))).0)

pub returns-in_default-rest-2-clause-left : goal.returns-in_default-rest-2-clause-left
returns-in_default-rest-2-clause-left c =
    ap (after_line c.args.index.now.tables.now c.args.draft.now.machine) (style_words c.args.word.now (seen c.args.rest.now) (sym c.if-spells.ensures) (sym c.if-spells-2.ensures) (sym c.if-spells-3.ensures) ∙ (few_words c.args.rest.now c.in_default-rest-2.len_below).2)

pub returns-in_default-rest-2-2-clause-left : goal.returns-in_default-rest-2-2-clause-left
returns-in_default-rest-2-2-clause-left c =
    ap (after_line c.args.index.now.tables.now c.args.draft.now.machine) (style_words c.args.word.now (seen c.args.rest.now) (sym c.if-spells.ensures) (sym c.if-spells-2.ensures) (sym c.if-spells-3.ensures) ∙ (many_words c.args.rest.now (omega (arith, c.in_default-rest-2.len_at_least))).1)
