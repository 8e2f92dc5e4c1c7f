use Rattle.std.proofs.Common.{rules, ◌++◌, take, ap, ◌∙◌, sym, subst}
use Rattle.std.specs.Io.KnownBytes.{Appends}
use Rattle.std.proofs.KnownBytes.{Appends-trans}
use Rattle.std.proofs.Math.Seq.{take-add}
use Rattle.std.proofs.lemmas.List.{take_rest}
use Rattle.cf_io.proofs.host.write_piece.Goals as goal

pub loop-preserved : goal.loop-preserved
loop-preserved g c =
    let piece = c.args.piece.now in
    let n = c.loop.taken in
    let more = c.in-Some.count in (
      search rules,
      subst (Appends _ _) (ap (λ rest. take n piece ++ take more rest) (take_rest piece n) ∙ sym (take-add n more piece))
          (Appends-trans _ _ _ _ _ c.loop.invariant.1 c.in-Some.ensures.taken),
    )
