use Rattle.std.proofs.Common.{◌≡◌, ◌+◌, ◌<◌, ◌++◌, ◌∙◌, List, length, take, drop, get_or, slice_set, ap, arith}
use Rattle.std.proofs.lemmas.List.{length-drop}
use Rattle.cf_types.specs.declared.stmt.Token.{Token}
use Rattle.cf_expand.proofs.UnreadLemmas.{moved_more}
use Rattle.cf_expand.proofs.unread.keep_from.Goals as goal

pub loop-place-preserved : goal.loop-place-preserved
loop-place-preserved c =
    let old = c.args.tokens.now.items in
    let from = c.args.from in
    let place = c.loop-place.place in
    let token = c.index.result.now in
    let all : List Token = take place (drop from old) ++ drop place old in
    let within : place < length (drop from old) = omega (arith, c.loop-place-test.true, c.len.ensures, length-drop from old) in
    let read : token ≡ get_or all (from + place) token = c.index.ensures ∙ ap (λ (ts : List Token). get_or ts (from + place) token) c.loop-place.invariant in
    ap (λ (ts : List Token). slice_set ts place token) c.loop-place.invariant
    ∙ ap (λ (t : Token). slice_set all place t) read
    ∙ moved_more old from place token within
