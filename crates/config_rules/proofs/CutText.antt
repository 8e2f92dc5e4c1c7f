-- A text has at most one cut, or one fault, and the function finds it.
use Rattle.std.proofs.Common.{◌≡◌, ℕ, zero, suc, ◌+◌, ◌<◌, List, [], ◌∷◌, length, get_or, take, refl, ap, sym, ◌∙◌, arith, Result, Ok, Err}
use Rattle.std.specs.Prelude.{IfOk, IfErr}
use Rattle.std.specs.List.{AllZip}
use Rattle.cf_types.specs.declared.stmt.Token.{Token}
use Rattle.cf_types.specs.Lines.{lines_of}
use Rattle.config_rules.specs.Cut.{Part, parts_of, at_line, all_parts, cut_of, lines_tokens, LineCut, LineFault, Cut, CutFault, ◌>>=◌}
use Rattle.config_rules.proofs.Parts.{ok_is}
use Rattle.config_rules.proofs.CutLaws.{parts_sound, if_bind}
use Rattle.config_rules.proofs.CutWhole.{parts_only, fault_only, fault_sound, err_is, err_bind}

at_line_ok : {A : Type 0} (P : A → Type 0) (n : ℕ) (r : Result A ℕ) → ((x : A) → r ≡ Ok x → P x) → IfOk (at_line n r) P
at_line_ok P n (Ok x) h = h x refl
at_line_ok P n (Err code) h = tt

at_line_err : {A : Type 0} (P : ℕ × ℕ → Type 0) (n : ℕ) (r : Result A ℕ) → ((code : ℕ) → r ≡ Err code → P (n, code)) → IfErr (at_line n r) P
at_line_err P n (Ok x) h = tt
at_line_err P n (Err code) h = h code refl

all_sound : (n : ℕ) (lines : List (List ℕ)) → IfOk (all_parts n lines) (λ parts. AllZip LineCut lines parts)
all_sound n [] = tt
all_sound n (line ∷ lines) =
    if_bind (λ parts. AllZip LineCut (line ∷ lines) parts) (at_line n (parts_of line)) _ (λ p e.
    if_bind (λ parts. AllZip LineCut (line ∷ lines) parts) (all_parts (n + 1) lines) _ (λ more k. (
      ok_is (λ q. LineCut line q) (at_line n (parts_of line)) p (at_line_ok (λ q. LineCut line q) n (parts_of line) (parts_sound line)) e,
      ok_is (λ ps. AllZip LineCut lines ps) (all_parts (n + 1) lines) more (all_sound (n + 1) lines) k,
    )))

all_only : (n : ℕ) (lines : List (List ℕ)) (parts : List (List Part)) → AllZip LineCut lines parts → all_parts n lines ≡ Ok parts
all_only n [] [] h = refl
all_only n [] (p ∷ parts) h = absurd h
all_only n (line ∷ lines) [] h = absurd h
all_only n (line ∷ lines) (p ∷ parts) h =
    ap (λ r. at_line n r >>= λ q. all_parts (n + 1) lines >>= λ more. Ok (q ∷ more)) (parts_only line p h.0)
    ∙ ap (λ r. r >>= λ more. Ok (p ∷ more)) (all_only (n + 1) lines parts h.1)

-- the line of a fault, from the first line's number on
record FaultFrom (n : ℕ) (lines : List (List ℕ)) (line code : ℕ) : Type 0 where
  number : ℕ
  counted : line ≡ number + n
  within : number < length lines
  before : List (List Part)
  cut : AllZip LineCut (take number lines) before
  fault : LineFault (get_or lines number []) code

later : (n : ℕ) (line : List ℕ) (lines : List (List ℕ)) (p : List Part) (l code : ℕ) → LineCut line p → FaultFrom (n + 1) lines l code → FaultFrom n (line ∷ lines) l code
later n line lines p l code k f = record {
  number = suc f.number;
  counted = omega (arith, f.counted);
  within = omega (arith, f.within);
  before = p ∷ f.before;
  cut = (k, f.cut);
  fault = f.fault;
}

fault_from : (n : ℕ) (lines : List (List ℕ)) → IfErr (all_parts n lines) (λ e. FaultFrom n lines e.0 e.1)
fault_from n [] = tt
fault_from n (line ∷ lines) =
    err_bind (λ e. FaultFrom n (line ∷ lines) e.0 e.1) (at_line n (parts_of line)) _
    (at_line_err (λ e. FaultFrom n (line ∷ lines) e.0 e.1) n (parts_of line)
    (λ code e. record { number = 0; counted = omega arith; within = omega arith; before = []; cut = tt; fault = fault_sound line code e }))
    (λ p e.
    let k : LineCut line p = ok_is (λ q. LineCut line q) (at_line n (parts_of line)) p (at_line_ok (λ q. LineCut line q) n (parts_of line) (parts_sound line)) e in
    behind p k (all_parts (n + 1) lines) (fault_from (n + 1) lines))
  where
    behind : (p : List Part) → LineCut line p → (r : Result (List (List Part)) (ℕ × ℕ)) → IfErr r (λ e. FaultFrom (n + 1) lines e.0 e.1) → IfErr (r >>= λ more. Ok (p ∷ more)) (λ e. FaultFrom n (line ∷ lines) e.0 e.1)
    behind p k (Ok more) f = tt
    behind p k (Err e) f = later n line lines p e.0 e.1 k f

fault_at : (n number : ℕ) (lines : List (List ℕ)) (before : List (List Part)) (code : ℕ) → number < length lines → AllZip LineCut (take number lines) before → LineFault (get_or lines number []) code → all_parts n lines ≡ Err (number + n, code)
fault_at n number [] before code h k f = absurd (omega arith)
fault_at n zero (line ∷ lines) before code h k f =
    ap (λ r. at_line n r >>= λ q. all_parts (n + 1) lines >>= λ more. Ok (q ∷ more)) (fault_only line code f)
    ∙ let e : n ≡ 0 + n = omega arith in ap (λ m. Err (m, code)) e
fault_at n (suc number) (line ∷ lines) [] code h k f = absurd k
fault_at n (suc number) (line ∷ lines) (p ∷ before) code h k f =
    ap (λ r. at_line n r >>= λ q. all_parts (n + 1) lines >>= λ more. Ok (q ∷ more)) (parts_only line p k.0)
    ∙ ap (λ r. r >>= λ more. Ok (p ∷ more)) (fault_at (n + 1) number lines before code (omega arith) k.1 f)
    ∙ let e : number + (n + 1) ≡ suc number + n = omega arith in ap (λ m. Err (m, code)) e

-- ---- the four laws of a text

pub cut_only : (text : List ℕ) (tokens : List Token) → Cut text tokens → cut_of text ≡ Ok tokens
cut_only text tokens c = ap (λ r. r >>= λ parts. Ok (lines_tokens 1 0 parts)) (all_only 1 (lines_of text) c.parts c.lines) ∙ ap Ok (sym c.shown)

pub cut_fault_only : (text : List ℕ) (line code : ℕ) → CutFault text line code → cut_of text ≡ Err (line, code)
cut_fault_only text line code f =
    ap (λ r. r >>= λ parts. Ok (lines_tokens 1 0 parts)) (fault_at 1 f.number (lines_of text) f.before code f.within f.lines f.fault)
    ∙ ap (λ l. Err (l, code)) (sym f.counted)

pub cut_sound : (text : List ℕ) (tokens : List Token) → cut_of text ≡ Ok tokens → Cut text tokens
cut_sound text tokens e =
    ok_is (λ ts. Cut text ts) (cut_of text) tokens
    (if_bind (λ ts. Cut text ts) (all_parts 1 (lines_of text)) _ (λ parts k.
    record { parts = parts; lines = ok_is (λ ps. AllZip LineCut (lines_of text) ps) (all_parts 1 (lines_of text)) parts (all_sound 1 (lines_of text)) k; shown = refl }))
    e

cut_fault_of : (text : List ℕ) (r : Result (List (List Part)) (ℕ × ℕ)) → IfErr r (λ e. FaultFrom 1 (lines_of text) e.0 e.1) → IfErr (r >>= λ parts. Ok (lines_tokens 1 0 parts)) (λ e. CutFault text e.0 e.1)
cut_fault_of text (Ok parts) h = tt
cut_fault_of text (Err e) h = record { number = h.number; counted = h.counted; within = h.within; before = h.before; lines = h.cut; fault = h.fault }

pub cut_fault_sound : (text : List ℕ) (line code : ℕ) → cut_of text ≡ Err (line, code) → CutFault text line code
cut_fault_sound text line code e =
    err_is (λ f. CutFault text f.0 f.1) (cut_of text) (line, code) (cut_fault_of text (all_parts 1 (lines_of text)) (fault_from 1 (lines_of text))) e
