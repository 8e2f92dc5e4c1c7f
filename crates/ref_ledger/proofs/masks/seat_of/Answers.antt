use Rattle.std.proofs.Common.{◌≡◌, ◌≢◌, ℕ, List, get_or, ap, ◌∙◌, sym, arith}
use Rattle.std.proofs.lemmas.List.{get_or_default}
use Rattle.ref_ledger.proofs.PlaceLaws.{gap_of}
use Rattle.ref_ledger.proofs.masks.seat_of.Goals as goal
use Rattle.ref_ledger.proofs.masks.seat_of.Goals.{else-place-masks-via-then-place-masks+else-masks-place, else-place-masks-via-else-place-masks}

pub returns-else-place-masks : goal.returns-else-place-masks
returns-else-place-masks c =
    gap_of c.args.masks.now c.args.serial c.place_of-place.result c.requires c.place_of-place.ensures
    (λ d lt e. elim c.else-place-masks.branch [
      | else-place-masks-via-then-place-masks+else-masks-place w ↦
          w.if-masks-place.false (ap (λ m. m.serial) (get_or_default c.args.masks.now c.place_of-place.result _ d lt) ∙ e)
      | else-place-masks-via-else-place-masks w ↦ absurd (omega (arith, lt, w.if-place-masks.false))
    ])
