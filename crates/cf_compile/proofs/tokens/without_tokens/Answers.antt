use Rattle.std.proofs.Common.{◌≡◌, ◌<◌, ◌∙◌, List, length, ap, arith}
use Rattle.cf_types.specs.declared.stmt.Placed.{Placed}
use Rattle.cf_compile.proofs.EmptiedLaws.{all_emptied, emptied_to, step_emptied}
use Rattle.cf_compile.proofs.tokens.without_tokens.Goals as goal

pub loop-place-preserved : goal.loop-place-preserved
loop-place-preserved c =
    let lt : c.loop-place.place < length c.args.placed = omega (arith, ap (λ (xs : List Placed). length xs) c.into_vec-kept.ensures) in
    step_emptied c.loop-place.place c.loop-place.kept.items c.args.placed c.index_mut.result.now c.empty.new.statement c.loop-place.invariant lt
    c.index_mut.ensures.value c.empty.ensures

pub returns : goal.returns
returns c =
    let all : c.loop-place.place ≡ length c.args.placed = omega (arith, ap (λ (xs : List Placed). length xs) c.into_vec-kept.ensures) in
    c.from_vec.ensures ∙ c.loop-place.invariant ∙ ap (λ n. emptied_to n c.args.placed) all ∙ all_emptied c.args.placed
