use Rattle.std.proofs.Common.{◌≡◌, ◌∙◌, ℕ, List, [], ◌∷◌, ◌++◌, ap, map, subst}
use Rattle.run_rules.specs.declared.world.Setup.{Setup}
use Rattle.match_reasons.specs.declared.reason.RowReason.{RowReason}
use Rattle.why_text.specs.Looks.{setup_in}
use Rattle.why_text.specs.WhyText.{column, row_text, told_lines}
use Rattle.why_text.proofs.lines.told_lines.Goals as goal

pub returns : goal.returns
unfolding told_lines
returns c =
    let look = c.args.look.now in
    let s = setup_in look in
    let line : ℕ → RowReason → List ℕ = λ width told. row_text c.args.takes.now width s look.live.now.devices look.parent look.spot told in
    let last : List ℕ = c.in_ok-last.last in
    let numbers : List RowReason → List ℕ = map (λ it. it.row) in
    let rows : List RowReason = c.items-rows.result.now in
    let width : c.in_ok-width.width ≡ column s.tables (numbers rows) = c.in_ok-width.ensures ∙ ap (λ (t : Setup). column t.tables c.deref.result.now) c.rules.view_is ∙ ap (column s.tables) (c.deref.ensures.value ∙ c.in_ok-numbers.ensures) in
    let so_far : c.push.new.self.items ≡ map (line (column s.tables (numbers rows))) rows ++ last ∷ [] =
    c.in_ok-push.ensures.items ∙ ap (λ (xs : List (List ℕ)). xs ++ last ∷ []) (c.in_ok-lines.ensures ∙ ap (λ (w : ℕ). map (line w) rows) width) in
    subst (λ (rs : List RowReason). c.push.new.self.items ≡ map (line (column s.tables (numbers rs))) rs ++ last ∷ []) c.items-rows.ensures so_far
    ∙ ap (λ (x : List ℕ). map (line (column s.tables (numbers c.args.told.now.rows))) c.args.told.now.rows ++ x ∷ []) c.in_ok-last.ensures
