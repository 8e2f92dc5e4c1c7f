use Rattle.std.proofs.Common.{◌≡◌, ◌∙◌, ◌++◌, ◌∷◌, [], ℕ, Bool, List, sym, ap}
use Rattle.gone_rows.specs.Gone.{is_gone, stated_by}
use Rattle.gone_rows.proofs.Places.{one_fails, one_passes}
use Rattle.gone_rows.proofs.gone.gone_places.Goals as goal
use Rattle.gone_rows.proofs.gone.gone_places.Goals.{then-is_gone+in_ok-push, else-is_gone}

pub loop-place-preserved : goal.loop-place-preserved
loop-place-preserved c =
    let so = c.loop-place.invariant in
    let f : ℕ → Bool = is_gone (stated_by c.args.stated.now) c.args.word.now in
    let n = c.loop-place.place in
    let places : List ℕ = c.loop-place.places.items in
    elim c.if-is_gone.branch [
      | then-is_gone+in_ok-push w ↦
          let more : c.if-is_gone.places.items ≡ places ++ n ∷ [] = ap (λ v. v.items) w.places-is ∙ w.in_ok-push.ensures.items in
          one_passes f n places c.if-is_gone.places.items (sym c.is_gone.ensures ∙ w.if-is_gone.true) more so
      | else-is_gone w ↦ ap (λ v. v.items) w.places-is ∙ one_fails f n places (sym c.is_gone.ensures ∙ w.if-is_gone.false) so
    ]
