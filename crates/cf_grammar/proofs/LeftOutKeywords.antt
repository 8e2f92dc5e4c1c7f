-- Whether a statement is left out, by the keyword that its first word is.
use Rattle.std.proofs.Common.{◌≡◌, ◌∙◌, ◌<◌, ◌||◌, ◌&&◌, ℕ, zero, suc, Bool, true, false, cond, not, List, [], ◌∷◌, length, get_or, Option, Some, None, refl, sym, ap, arith}
use Rattle.std.specs.Prelude.{drop, find, if◌then◌else◌, is_none}
use Rattle.std.specs.List.{list_all}
use Rattle.std.proofs.lemmas.Slice.Eq.{bytes_eq-Decides}
use Rattle.cf_types.specs.declared.keyword.Keyword.{Keyword}
use Rattle.cf_types.specs.declared.keyword.Keyword.TheVariants as word
use Rattle.cf_types.specs.declared.keyword.TheConstants.{KEYWORDS}
use Rattle.cf_types.specs.declared.stmt.Piece.{Piece}
use Rattle.cf_types.specs.declared.stmt.TokenKind.{TokenKind}
use Rattle.cf_types.specs.declared.stmt.TokenKind.TheVariants as kind
use Rattle.config_rules.specs.Form.{braced, has_named_text, has_text_or_size, is_chunk, is_defining, is_word, spelling_of}
use Rattle.cf_grammar.specs.Keywords.{defines, keyword_in}
use Rattle.cf_grammar.specs.LeftOut.{gives_text, is_left_out_statement, is_left_out_word}
use Rattle.cf_grammar.proofs.FormLemmas.{row_is}

-- a keyword as it is written
abbrev written : Keyword → Piece
written k = record { kind = kind.Chunk; text = spelling_of k }

is_written_so : (k : Keyword) (t : TokenKind) (text : List ℕ) → is_word (spelling_of k) (record { kind = t; text = text }) ≡ true → record { kind = t; text = text } ≡ written k
is_written_so k kind.Chunk text e = ap (λ (bytes : List ℕ). record { kind = kind.Chunk; text = bytes }) ((bytes_eq-Decides text (spelling_of k)).0 e)
is_written_so k kind.Text text e = absurd (cc)
is_written_so k kind.Mark text e = absurd (cc)
is_written_so k kind.Stop text e = absurd (cc)

-- a keyword is no word that is left out, and defines as its word does
abbrev is_told : Keyword → Piece → Bool
is_told k p = not (is_left_out_word p) && (if defines k then is_defining p else not (is_defining p))

all_told : list_all (λ k. is_told k (written k)) KEYWORDS ≡ true
all_told = refl

-- what is found passes the test, and any other that all of the list pass
found_passes : {A : Type 0} (f g : A → Bool) (xs : List A) (x : A) → list_all g xs ≡ true → Some x ≡ find f xs → (f x ≡ true) × (g x ≡ true)
found_passes f g [] x h e = absurd (cc)
found_passes f g (y ∷ ys) x h e = by_test (f y) refl (g y) refl h e (found_passes f g ys x)
  where
    by_test : (b : Bool) → f y ≡ b → (d : Bool) → g y ≡ d → (d && list_all g ys) ≡ true → Some x ≡ cond b (Some y) (find f ys)
        → (list_all g ys ≡ true → Some x ≡ find f ys → (f x ≡ true) × (g x ≡ true)) → (f x ≡ true) × (g x ≡ true)
    by_test true ef true eg h e rest = let same : x ≡ y = cc in (ap f same ∙ ef, ap g same ∙ eg)
    by_test false ef true eg h e rest = rest h e
    by_test b ef false eg h e rest = absurd (cc)

none_passes : {A : Type 0} (f : A → Bool) (xs : List A) (n : ℕ) (d : A) → None ≡ find f xs → n < length xs → f (get_or xs n d) ≡ false
none_passes f [] n d e h = absurd (omega arith)
none_passes f (y ∷ ys) zero d e h = by_test (f y) refl e
  where
    by_test : (b : Bool) → f y ≡ b → None ≡ cond b (Some y) (find f ys) → f y ≡ false
    by_test true ef e = absurd (cc)
    by_test false ef e = ef
none_passes f (y ∷ ys) (suc n) d e h = by_test (f y) e (λ none. none_passes f ys n d none (omega arith))
  where
    by_test : (b : Bool) → None ≡ cond b (Some y) (find f ys) → (None ≡ find f ys → f (get_or ys n d) ≡ false) → f (get_or ys n d) ≡ false
    by_test true e rest = absurd (cc)
    by_test false e rest = rest e

no_keyword : (p : Piece) → None ≡ keyword_in p → is_defining p ≡ false
no_keyword p e =
    let f = λ (k : Keyword). is_word (spelling_of k) p in
    let define : f word.Define ≡ false = none_passes f KEYWORDS 9 word.Define e (omega arith) in
    let defpseudo : f word.DefPseudo ≡ false = none_passes f KEYWORDS 11 word.Define e (omega arith) in
    let device : f word.Device ≡ false = none_passes f KEYWORDS 12 word.Define e (omega arith) in
    rw (define, defpseudo, device) refl

is_keyword : (p : Piece) (k : Keyword) → Some k ≡ keyword_in p → is_told k p ≡ true
is_keyword p k e =
    let found = found_passes (λ k. is_word (spelling_of k) p) (λ k. is_told k (written k)) KEYWORDS k all_told e in
    ap (is_told k) (is_written_so k p.kind p.text found.0) ∙ found.1

-- by the keyword, where there is one
abbrev pub left_out_by : Option Keyword → Piece → List Piece → Bool
left_out_by None p ps = is_left_out_word p || gives_text p ps
left_out_by (Some k) p ps = defines k && has_text_or_size (braced ps)

told : (l c h d w t : Bool) → (not l && (if w then d else not d)) ≡ true → (w && t) ≡ ((l || ((c && false) && h)) || (d && t))
told true c h d w t e = absurd (cc)
told false true h true true t e = refl
told false false h true true t e = refl
told false c h false true t e = absurd (cc)
told false c h true false t e = absurd (cc)
told false true h false false t e = refl
told false false h false false t e = refl

untold : (l c h : Bool) → (l || (c && h)) ≡ ((l || ((c && true) && h)) || false)
untold true c h = refl
untold false true true = refl
untold false true false = refl
untold false false h = refl

pub by_keyword : (p : Piece) (ps : List Piece) (found : Option Keyword) → found ≡ keyword_in p → left_out_by found p ps ≡ is_left_out_statement p ps
by_keyword p ps None e =
    rw (ap is_none (row_is p None e), no_keyword p e) (untold (is_left_out_word p) (is_chunk p) (has_named_text (drop 2 ps)))
by_keyword p ps (Some k) e =
    told (is_left_out_word p) (is_chunk p) (has_named_text (drop 2 ps)) (is_defining p) (defines k) (has_text_or_size (braced ps)) (is_keyword p k e)
    ∙ ap (λ b. (is_left_out_word p || ((is_chunk p && b) && has_named_text (drop 2 ps))) || (is_defining p && has_text_or_size (braced ps))) (sym (ap is_none (row_is p (Some k) e)))
