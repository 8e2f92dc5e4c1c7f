use Rattle.std.specs.Prelude.{slice_index}
use Rattle.std.proofs.Common.{◌≡◌, ◌+◌, [], ◌∷◌, ◌++◌, ◌∙◌, ap, refl, sym, arith}
use Rattle.std.specs.List.{prefix_len}
use Rattle.std.proofs.lemmas.List.{take_rest}
use Rattle.cf_types.specs.declared.stmt.TokenKind.TheVariants as kind
use Rattle.config_rules.specs.Cut.{is_chunk_byte, is_mark_byte, is_space, token}
use Rattle.cf_lexer.specs.Lines.{bytes_behind, first_of}
use Rattle.cf_lexer.proofs.LineLemmas.{blank_goes_on, chunk_goes_on, mark_goes_on}
use Rattle.cf_lexer.proofs.PlaceLemmas.{no_newline, run_in_line}
use Rattle.cf_lexer.proofs.line.push_part.Goals as goal

pub returns-then-is_chunk_byte : goal.returns-then-is_chunk_byte
returns-then-is_chunk_byte c =
    let text = c.args.text.now in
    let place = c.args.place in
    let more = bytes_behind text place in
    let len = prefix_len is_chunk_byte more + 1 in
    let chunk = sym c.if-is_chunk_byte.ensures in
    let there : c.chunk_end-end.result ≡ place + len = omega (arith, c.chunk_end-end.ensures.end, ap (prefix_len is_chunk_byte) (take_rest text (place + 1))) in (
      len,
      there,
      chunk_goes_on c.args.tokens.now.items c.push_kind.new.tokens.items c.args.line place (slice_index text place) (first_of more) len chunk
          (omega (arith, run_in_line is_chunk_byte more refl)) (c.in_ok-push_kind.ensures ∙ ap (λ end. c.args.tokens.now.items ++ token kind.Chunk place end c.args.line ∷ []) there),
      no_newline is_chunk_byte (slice_index text place) refl chunk,
    )

pub returns-then-is_blank_byte : goal.returns-then-is_blank_byte
returns-then-is_blank_byte c = (
  1,
  refl,
  blank_goes_on c.args.tokens.now.items c.args.line c.args.place (slice_index c.args.text.now c.args.place) (first_of (bytes_behind c.args.text.now c.args.place)) (sym c.if-is_blank_byte.ensures),
  no_newline is_space (slice_index c.args.text.now c.args.place) refl (sym c.if-is_blank_byte.ensures),
)

pub returns-then-is_mark_byte : goal.returns-then-is_mark_byte
returns-then-is_mark_byte c = (
  1,
  refl,
  mark_goes_on c.args.tokens.now.items c.push_kind-then-is_mark_byte.new.tokens.items c.args.line c.args.place (slice_index c.args.text.now c.args.place) (first_of (bytes_behind c.args.text.now c.args.place)) (sym c.if-is_mark_byte.ensures) c.in_ok-push_kind-2.ensures,
  no_newline is_mark_byte (slice_index c.args.text.now c.args.place) refl (sym c.if-is_mark_byte.ensures),
)
