use Rattle.std.proofs.Common.{◌≡◌, false, refl, sym}
use Rattle.std.specs.Prelude.{◌==◌, slice_index}
use Rattle.std.proofs.lemmas.Bool.{eqb-true, false_from_ne_true}
use Rattle.cf_lexer.specs.Front.{is_plain_byte}
use Rattle.cf_lexer.specs.Lines.{bytes_behind, first_of}
use Rattle.cf_lexer.proofs.CheckLemmas.{front_goes, front_stops, run_goes}
use Rattle.cf_lexer.proofs.PlaceLemmas.{no_newline}
use Rattle.cf_lexer.proofs.check.part_len.Goals as goal

pub returns-then-is_plain_byte : goal.returns-then-is_plain_byte
returns-then-is_plain_byte c =
    let first = slice_index c.args.text.now c.args.place in (
      run_goes first c.plain_len.result (bytes_behind c.args.text.now c.args.place) (sym c.if-is_plain_byte.ensures) c.plain_len.ensures.len,
      no_newline is_plain_byte first refl (sym c.if-is_plain_byte.ensures),
    )

pub returns-in-Ok : goal.returns-in-Ok
returns-in-Ok c =
    let first = slice_index c.args.text.now c.args.place in
    let differs : (first == 10) ≡ false = false_from_ne_true (first == 10) (λ e. c.if-first-eq10.false (eqb-true first 10 e)) in
    (front_goes first (first_of (bytes_behind c.args.text.now c.args.place)) c.in-Ok.front c.in-Ok.ensures.front c.in-Ok.ensures.within, differs)

pub returns-in-Err : goal.returns-in-Err
returns-in-Err c =
    let first = slice_index c.args.text.now c.args.place in
    let differs : (first == 10) ≡ false = false_from_ne_true (first == 10) (λ e. c.if-first-eq10.false (eqb-true first 10 e)) in
    (front_stops first c.in-Err.code (first_of (bytes_behind c.args.text.now c.args.place)) c.in-Err.ensures.front, differs)
