use Rattle.std.proofs.Common.{◌≡◌, ◌∙◌, ◌∷◌, ◌++◌, [], ℕ, Bool, true, List, get_or, take, slice_set, ap, subst, sym, arith}
use Rattle.std.proofs.lemmas.List.{take_all, take_more}
use Rattle.cf_types.specs.declared.tables.Row.{Row}
use Rattle.cf_types.specs.Gather.{is_in}
use Rattle.match_search.specs.Fixed.{hits_at}
use Rattle.match_search.proofs.FixedLaws.{AreSet, all_set, hit_set, miss_set, within}
use Rattle.match_search.proofs.fixed.FixedRows.set.Goals as goal
use Rattle.match_search.proofs.fixed.FixedRows.set.Goals.{then-is_hit, else-is_hit}

pub set-requires : goal.set-requires
set-requires c =
    let rows = c.args.tables.now.rows in
    let q = get_or c.rows-list.result.now c.loop-row.row-index 0 in
    let hit : hits_at rows q c.args.of.device c.args.of.unit ≡ true =
    ap (λ (rs : List Row). hits_at rs q c.args.of.device c.args.of.unit) (sym c.items.ensures) ∙ sym c.is_hit.ensures ∙ c.if-is_hit.true in
    let lt = within rows q c.args.of.device c.args.of.unit hit in
    omega (arith, lt, c.from.ensures, c.loop-row.invariant.count, c.requires.length)

pub loop-row-preserved : goal.loop-row-preserved
loop-row-preserved c =
    let rows = c.args.tables.now.rows in
    let old = c.args.rows.now in
    let new = c.loop-row.rows in
    let all = c.rows-list.result.now in
    let i = c.loop-row.row-index in
    let q = get_or all i 0 in
    let device = c.args.of.device in
    let unit = c.args.of.unit in
    let live = c.args.live in
    let is : hits_at rows q device unit ≡ c.is_hit.result = ap (λ (rs : List Row). hits_at rs q device unit) (sym c.items.ensures) ∙ sym c.is_hit.ensures in
    subst (λ (list : List ℕ). AreSet rows old c.if-is_hit.rows list device unit live) (sym (take_more all i 0 c.loop-row-test.true))
    (elim c.if-is_hit.branch [
      | then-is_hit w ↦
          subst (λ (marks : List Bool). AreSet rows old marks (take i all ++ q ∷ []) device unit live)
          (sym (w.rows-is ∙ w.set.ensures ∙ ap (λ (p : ℕ). slice_set new p live) w.from.ensures))
          (hit_set rows old new (take i all) q device unit live c.requires.length (is ∙ w.if-is_hit.true) c.loop-row.invariant)
      | else-is_hit w ↦
          subst (λ (marks : List Bool). AreSet rows old marks (take i all ++ q ∷ []) device unit live) (sym w.rows-is)
          (miss_set rows old new (take i all) q device unit live (is ∙ w.if-is_hit.false) c.loop-row.invariant)
    ])

pub returns : goal.returns
returns c =
    let rows = c.args.tables.now.rows in
    let old = c.args.rows.now in
    let all = c.rows-list.result.now in
    let device = c.args.of.device in
    let unit = c.args.of.unit in
    all_set rows old c.loop-row.rows all device unit c.args.live c.requires.length (λ r hit. ap (is_in r) c.rows-list.ensures ∙ c.requires.fixed.all r device unit hit)
    (subst (λ (list : List ℕ). AreSet rows old c.loop-row.rows list device unit c.args.live) (take_all c.loop-row.row-index all c.loop-row-test.false) c.loop-row.invariant)
