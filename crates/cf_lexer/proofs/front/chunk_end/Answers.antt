use Rattle.config_rules.specs.Cut.{is_chunk_byte}
use Rattle.cf_lexer.proofs.FrontLemmas.{four_further}
use Rattle.cf_lexer.proofs.front.chunk_end.Goals as goal

pub loop-end-preserved : goal.loop-end-preserved
loop-end-preserved c =
    let all = four_further is_chunk_byte c.args.start c.loop-end.end c.four_len-more.result c.args.text.now c.loop-end.invariant.within c.four_len-more.ensures c.loop-end.invariant.so_far in
    record { within = all.0; so_far = all.1 }
