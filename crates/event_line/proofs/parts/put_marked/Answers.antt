use Rattle.std.proofs.Common.{arith, refl}
use Rattle.event_line.proofs.Digits.{put_one, put_two, put_three}
use Rattle.event_line.proofs.parts.put_marked.Goals as goal
use Rattle.event_line.proofs.parts.put_marked.Goals.{then-number-ge100, else-number-ge100, then-number-ge10, else-number-ge10}

pub returns : goal.returns
returns c = elim c.if-number-ge100.branch [
  | then-number-ge100 w ↦ elim c.if-number-ge10.branch [
    | then-number-ge10 v ↦
        rw (c.push_reserved-3.ensures.items, c.push_reserved-2.ensures.items, v.out-is, v.push_reserved-then-number-ge10.ensures.items, w.out-is, w.push_reserved.ensures.items, c.reserve.ensures.items)
        (put_three c.args.out.now.items c.args.number c.args.mark _ _ _ w.if-number-ge100.true c.if-number-ge1000.false refl refl refl)
    | else-number-ge10 v ↦ absurd (omega (arith, v.if-number-ge10.false, w.if-number-ge100.true))
  ]
  | else-number-ge100 w ↦ elim c.if-number-ge10.branch [
    | then-number-ge10 v ↦
        rw (c.push_reserved-3.ensures.items, c.push_reserved-2.ensures.items, v.out-is, v.push_reserved-then-number-ge10.ensures.items, w.out-is, c.reserve.ensures.items)
        (put_two c.args.out.now.items c.args.number c.args.mark _ _ v.if-number-ge10.true w.if-number-ge100.false refl refl)
    | else-number-ge10 v ↦
        rw (c.push_reserved-3.ensures.items, c.push_reserved-2.ensures.items, v.out-is, w.out-is, c.reserve.ensures.items)
        (put_one c.args.out.now.items c.args.number c.args.mark _ v.if-number-ge10.false refl)
  ]
]
