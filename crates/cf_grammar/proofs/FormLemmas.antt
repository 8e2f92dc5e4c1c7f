-- The form of a statement, by its first word.
use Rattle.std.proofs.Common.{◌≡◌, ◌∙◌, ◌-◌, ◌≤◌, Bool, true, false, Option, Some, None, List, [], ◌∷◌, length, get_or, map, take, drop, refl, sym, ap, arith}
use Rattle.std.specs.Prelude.{option_map}
use Rattle.cf_types.specs.declared.stmt.Piece.{Piece}
use Rattle.cf_types.specs.declared.stmt.Stmt.{Stmt}
use Rattle.config_rules.specs.Form.{form_by, form_of, inst_stmt, row_by, row_of, table}
use Rattle.cf_words.proofs.ListLemmas.{map_first_rest}
use Rattle.cf_types.specs.declared.keyword.Keyword.{Keyword}
use Rattle.cf_types.specs.declared.keyword.TheConstants.{KEYWORDS}
use Rattle.cf_grammar.specs.Keywords.{first_keyword, keyword_in}
use Rattle.cf_grammar.specs.Statement.{are_short}
use Rattle.cf_grammar.proofs.KeywordLemmas.{row_found, table_is}

-- the keyword of a statement is that of its first word
pub keyword_first : {X : Type 0} (f : X → Piece) (xs : List X) (d : X) → 1 ≤ length xs → first_keyword (map f xs) ≡ keyword_in (f (get_or xs 0 d))
keyword_first f [] d h = absurd (omega arith)
keyword_first f (x ∷ xs) d h = refl

pub row_is : (p : Piece) (found : Option Keyword) → found ≡ keyword_in p → row_of table p ≡ option_map row_by found
row_is p found e = ap (λ rows. row_of rows p) table_is ∙ row_found KEYWORDS p ∙ ap (option_map row_by) (sym e)

-- by the keyword, where there is one, from what is behind it
abbrev pub form_with : Bool → Option Keyword → List Piece → List Piece → Option Stmt
form_with sized (Some k) behind all = form_by k sized behind
form_with sized None behind all = inst_stmt sized all

form_of-cons : (sized : Bool) (p : Piece) (ps : List Piece) (found : Option Keyword) → true ≡ are_short (p ∷ ps) → found ≡ keyword_in p → form_with sized found ps (p ∷ ps) ≡ form_of sized (p ∷ ps)
unfolding form_of
form_of-cons sized p ps None short e = rw (← short, row_is p None e) refl
form_of-cons sized p ps (Some k) short e = rw (← short, row_is p (Some k) e) refl

pub form_of-words : {X : Type 0} (f : X → Piece) (sized : Bool) (xs : List X) (d : X) (found : Option Keyword) → 1 ≤ length xs → true ≡ are_short (map f xs) → found ≡ keyword_in (f (get_or xs 0 d))
    → form_with sized found (map f (take (length xs - 1) (drop 1 xs))) (map f xs) ≡ form_of sized (map f xs)
form_of-words f sized xs d found h short e =
    let all = map_first_rest f xs d h in
    ap (form_with sized found (map f (take (length xs - 1) (drop 1 xs)))) (sym all)
    ∙ form_of-cons sized (f (get_or xs 0 d)) (map f (take (length xs - 1) (drop 1 xs))) found (short ∙ ap are_short (sym all)) e
    ∙ ap (form_of sized) all

pub form_of-long : (sized : Bool) (ps : List Piece) → false ≡ are_short ps → None ≡ form_of sized ps
unfolding form_of
form_of-long sized [] h = refl
form_of-long sized (p ∷ ps) h = rw (← h) refl

pub form_of-none : {X : Type 0} (f : X → Piece) (sized : Bool) (xs : List X) → length xs ≤ 0 → None ≡ form_of sized (map f xs)
unfolding form_of
form_of-none f sized [] h = refl
form_of-none f sized (x ∷ xs) h = absurd (omega arith)
