use Rattle.std.proofs.lemmas.List.{take_rest}
use Rattle.cf_lexer.proofs.CheckLemmas.{four_behind}
use Rattle.cf_lexer.proofs.check.plain_len.Goals as goal

pub loop-len-preserved : goal.loop-len-preserved
loop-len-preserved c =
    let all = four_behind c.loop-len.len c.args.bytes.now _ (take_rest c.args.bytes.now c.loop-len.len) (c.are_four_plain.ensures c.loop-len-test.true) c.loop-len.invariant.within c.loop-len.invariant.so_far in
    record { within = all.0; so_far = all.1 }
