-- Keywords by two of their bytes and their length, and the keyword of a statement.
use Rattle.std.specs.Prelude.{ℕ, Bool, true, false, ◌==◌, ◌&&◌, List, [], ◌∷◌, length, Option, None, find, slice_index}
use Rattle.cf_types.specs.declared.keyword.Keyword.{Keyword}
use Rattle.cf_types.specs.declared.keyword.Keyword.TheVariants.{Define, DefPseudo, Device}
use Rattle.cf_types.specs.declared.keyword.TheConstants.{KEYWORDS}
use Rattle.cf_types.specs.declared.stmt.Piece.{Piece}
use Rattle.config_rules.specs.Form.{is_word, spelling_of}

-- the keyword has this first byte, this third byte and this size
abbrev pub looks : ℕ → ℕ → ℕ → Keyword → Bool
looks first third size k = slice_index (spelling_of k) 0 == first && slice_index (spelling_of k) 2 == third && length (spelling_of k) == size

-- the keyword that a token is
abbrev pub keyword_in : Piece → Option Keyword
keyword_in p = find (λ k. is_word (spelling_of k) p) KEYWORDS

-- the keyword with which a statement begins
abbrev pub first_keyword : List Piece → Option Keyword
first_keyword [] = None
first_keyword (p ∷ ps) = keyword_in p

-- the statements of a keyword may have a list of locators
abbrev pub defines : Keyword → Bool
defines Define = true
defines DefPseudo = true
defines Device = true
defines _ = false
