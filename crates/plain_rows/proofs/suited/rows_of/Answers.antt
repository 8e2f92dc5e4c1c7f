use Rattle.std.proofs.Common.{◌∙◌, ◌<◌, ◌++◌, ◌∷◌, ℕ, List, [], ap, arith, length, subst, sym}
use Rattle.std.specs.Global.{Global}
use Rattle.std.specs.Prelude.{Vec}
use Rattle.plain_rows.specs.Suited.{FindsAlike}
use Rattle.plain_rows.specs.declared.suited.Candidate.{Candidate}
use Rattle.plain_rows.proofs.AlikeLaws.{none_alike, one_kept, one_left}
use Rattle.plain_rows.proofs.suited.rows_of.Goals as goal
use Rattle.plain_rows.proofs.suited.rows_of.Goals.{then-not-repeats+in_ok-push, else-not-repeats}

-- what stands past the end
abbrev blank : Candidate
blank = record { value = record { 0 = 0 }; row = 0 }

pub loop-place-init : goal.loop-place-init
loop-place-init c = subst (FindsAlike c.args.tables.now []) (sym c.new-rows.ensures.items) (none_alike c.args.tables.now)

pub loop-place-preserved : goal.loop-place-preserved
loop-place-preserved c =
    let t = c.args.tables.now in
    let list : List Candidate = c.args.list.now.items in
    let within : c.loop-place.place < length list = omega (arith, c.loop-place-test.true, c.len-place-end.ensures) in
    elim c.if-not-repeats.branch [
      | then-not-repeats+in_ok-push w ↦
          one_kept t list c.loop-place.place w.index.result.now c.loop-place.rows.items c.if-not-repeats.rows.items within
          (ap (λ (v : Vec ℕ Global). v.items) w.rows-is ∙ w.in_ok-push.ensures.items ∙ ap (λ (u : Candidate). c.loop-place.rows.items ++ u.row ∷ []) w.index.ensures)
          c.loop-place.invariant
      | else-not-repeats w ↦
          let alike = rw c.deref.ensures.value at (c.repeats.ensures w.if-not-repeats.false) in
          subst (FindsAlike t _) (sym (ap (λ (v : Vec ℕ Global). v.items) w.rows-is))
          (one_left t list c.loop-place.place blank c.loop-place.rows.items within alike.0 (alike.1 blank blank) c.loop-place.invariant)
    ]
