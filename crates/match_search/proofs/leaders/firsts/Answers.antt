use Rattle.std.proofs.Common.{◌∙◌, ◌++◌, ◌∷◌, [], sym, ap, subst, take}
use Rattle.std.proofs.lemmas.List.{take_more}
use Rattle.match_search.specs.Leaders.{AreLeaders}
use Rattle.match_search.proofs.LeaderLaws.{AreNoted, noted_still, noted_too, pushed, skipped}
use Rattle.match_search.proofs.leaders.firsts.Goals as goal
use Rattle.match_search.proofs.leaders.firsts.Goals.{then-is_new+in_ok-push, else-is_new}

pub loop-row-preserved : goal.loop-row-preserved
loop-row-preserved c = λ lines are.
    let leads = (c.loop-row.invariant lines are).0 in
    let noted = (c.loop-row.invariant lines are).1 in
    let kinds = c.args.kinds.now.items in
    let so_far = take c.loop-row.row-index c.args.rows.now in
    let one_more = take_more c.args.rows.now c.loop-row.row-index 0 c.loop-row-test.true in
    elim c.if-is_new.branch [
      | then-is_new+in_ok-push w ↦
          let list = ap (λ v. v.items) w.list-is ∙ w.in_ok-push.ensures.items in (
            subst (λ all. AreLeaders lines all c.if-is_new.list.items) (sym one_more) (subst (AreLeaders lines (so_far ++ _ ∷ [])) (sym list) (pushed lines so_far c.loop-row.list.items _ leads)),
            subst (AreNoted lines kinds c.is_new.new.seen.items) (sym list) (noted_too lines kinds c.loop-row.seen.items c.is_new.new.seen.items c.loop-row.list.items _ are noted c.is_new.ensures.seen),
          )
      | else-is_new w ↦
          let list = ap (λ v. v.items) w.list-is in
          let was = c.is_new.ensures.old w.if-is_new.false in (
            subst (λ all. AreLeaders lines all c.if-is_new.list.items) (sym one_more)
                (subst (AreLeaders lines (so_far ++ _ ∷ [])) (sym list) (skipped lines kinds c.loop-row.seen.items so_far c.loop-row.list.items _ are leads noted was.0 was.1)),
            subst (AreNoted lines kinds c.is_new.new.seen.items) (sym list) (noted_still lines kinds c.loop-row.seen.items c.is_new.new.seen.items c.loop-row.list.items _ noted c.is_new.ensures.seen was.1),
          )
    ]
