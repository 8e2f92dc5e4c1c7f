use Rattle.std.proofs.Common.{◌+◌, ◌∙◌, ap, sym, arith, Ok}
use Rattle.cf_lexer.proofs.QuoteLemmas.{chunk_front, chunk_within}
use Rattle.cf_lexer.proofs.front.front_part.Goals as goal

pub returns-then-is_chunk_byte-clause-front : goal.returns-then-is_chunk_byte-clause-front
returns-then-is_chunk_byte-clause-front c =
    ap Ok c.token.ensures ∙ (chunk_front c.args.first (c.chunk_len.result + 1) c.args.more.now (sym c.if-is_chunk_byte.ensures) (ap (λ n. n + 1) c.chunk_len.ensures.len)).0

pub returns-then-is_chunk_byte-clause-within : goal.returns-then-is_chunk_byte-clause-within
returns-then-is_chunk_byte-clause-within c =
    chunk_within c.token.result (c.chunk_len.result + 1) _ c.token.ensures (omega arith)
    (chunk_front c.args.first (c.chunk_len.result + 1) c.args.more.now (sym c.if-is_chunk_byte.ensures) (ap (λ n. n + 1) c.chunk_len.ensures.len)).1
