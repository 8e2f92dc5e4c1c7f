use Rattle.std.proofs.Common.{◌≡◌, ◌∙◌, ◌+◌, ℕ, true, false, Option, List, [], ◌∷◌, ◌++◌, ap, subst, sym, length, arith}
use Rattle.match_reasons.specs.declared.reason.Reason.{Reason}
use Rattle.match_reasons.specs.declared.reason.RowReason.{RowReason}
use Rattle.match_reasons.specs.Reasons.{could_stand, row_reason}
use Rattle.match_reasons.specs.Searches.{parent_by}
use Rattle.match_reasons.proofs.ToldLaws.{HasTold, told_all, told_none, told_one, told_other}
use Rattle.plain_world.proofs.RulesLaws.{rows_are}
use Rattle.match_reasons.proofs.told.told_of.Goals as goal
use Rattle.match_reasons.proofs.told.told_of.Goals.{then-could_stand+in_ok-push, else-could_stand}

pub loop-row-init : goal.loop-row-init
loop-row-init c =
    let s = c.args.rules.now in
    let search = c.search_of-search.result in
    subst (λ (rows : List RowReason). HasTold s c.args.live.now.devices (parent_by s search.parent) search.place search.spot 0 rows 0) (sym c.make-rows.ensures)
    (told_none s c.args.live.now.devices (parent_by s search.parent) search.place search.spot)

pub loop-row-preserved : goal.loop-row-preserved
loop-row-preserved c =
    let s = c.args.rules.now in
    let live = c.args.live.now.devices in
    let search = c.search_of-search.result in
    let p = parent_by s search.parent in
    elim c.if-could_stand.branch [
      | then-could_stand+in_ok-push w ↦
          let could : could_stand s.tables search.place c.loop-row.row ≡ true = sym c.could_stand.ensures ∙ w.if-could_stand.true in
          let more : c.if-could_stand.rows ≡ c.loop-row.rows ++ row_reason s live p search.place search.spot c.loop-row.row ∷ [] =
          w.rows-is ∙ w.in_ok-push.ensures.ok
          ∙ ap (λ (why : Option Reason). c.loop-row.rows ++ record { row = c.loop-row.row; reason = why } ∷ []) w.reason_at-reason.ensures in
          subst (λ (n : ℕ). HasTold s live p search.place search.spot (c.loop-row.row + 1) c.if-could_stand.rows n) (sym w.others-is)
          (told_one s live p search.place search.spot c.loop-row.row c.loop-row.rows c.if-could_stand.rows c.loop-row.others could more c.loop-row.invariant)
      | else-could_stand w ↦
          let other : could_stand s.tables search.place c.loop-row.row ≡ false = sym c.could_stand.ensures ∙ w.if-could_stand.false in
          subst (λ (n : ℕ). HasTold s live p search.place search.spot (c.loop-row.row + 1) c.if-could_stand.rows n) (sym w.others-is)
          (subst (λ (rows : List RowReason). HasTold s live p search.place search.spot (c.loop-row.row + 1) rows (c.loop-row.others + 1)) (sym w.rows-is)
          (told_other s live p search.place search.spot c.loop-row.row c.loop-row.rows c.loop-row.others other c.loop-row.invariant))
    ]

pub returns : goal.returns
returns c =
    let search = c.search_of-search.result in
    let end : c.loop-row.row ≡ length c.args.rules.now.tables.rows = omega (arith, rows_are c.rules.inside c.args.rules.now c.rules.view_is) in
    told_all c.args.rules.now c.args.live.now.devices c.args.parent c.args.spot search.parent search.place search.spot c.loop-row.row c.loop-row.rows c.loop-row.others
    c.search_of-search.ensures.parent c.search_of-search.ensures.place c.search_of-search.ensures.spot end c.loop-row.invariant
