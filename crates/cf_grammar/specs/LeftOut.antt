-- The tests by which a statement is left out, at its beginning and at each place.
use Rattle.std.specs.Prelude.{ℕ, Bool, false, ◌&&◌, ◌||◌, List, [], ◌∷◌, codes, drop, is_none}
use Rattle.std.specs.List.{list_any}
use Rattle.cf_types.specs.declared.stmt.Piece.{Piece}
use Rattle.config_rules.specs.Form.{braced, has_named_text, has_text_or_size, is_chunk, is_defining, is_mark, is_text, is_word, may_name_locator, row_of, table}
use Rattle.cf_grammar.specs.declared.fault.LeftOut.{LeftOut}
use Rattle.cf_grammar.specs.declared.fault.LeftOut.TheVariants.{Package, Object, IoConf, Select, PseudoRoot, BuildPrefix}
use Rattle.cf_grammar.specs.declared.fault.TheConstants.{LEFT_OUT}

abbrev pub left_out_spelling : LeftOut → List ℕ
left_out_spelling Package = codes "package"
left_out_spelling Object = codes "object"
left_out_spelling IoConf = codes "ioconf"
left_out_spelling Select = codes "select"
left_out_spelling PseudoRoot = codes "pseudo-root"
left_out_spelling BuildPrefix = codes "buildprefix"

abbrev pub begins_text : List Piece → Bool
begins_text [] = false
begins_text (p ∷ ps) = is_text p

abbrev pub begins_named_text : List Piece → Bool
begins_named_text [] = false
begins_named_text (p ∷ ps) = may_name_locator p && begins_text ps

abbrev pub begins_size_or_text : List Piece → Bool
begins_size_or_text [] = false
begins_size_or_text (p ∷ ps) = is_mark (codes "[") p || (is_mark (codes "=") p && begins_text ps)

abbrev pub begins_text_or_size : List Piece → Bool
begins_text_or_size [] = false
begins_text_or_size (p ∷ ps) = may_name_locator p && begins_size_or_text ps

abbrev pub is_left_out_word : Piece → Bool
is_left_out_word p = list_any (λ left_out. is_word (left_out_spelling left_out) p) LEFT_OUT

-- an instance with this first word gives a locator a string
abbrev pub gives_text : Piece → List Piece → Bool
gives_text p ps = is_chunk p && has_named_text (drop 2 ps)

abbrev pub is_left_out_statement : Piece → List Piece → Bool
is_left_out_statement p ps =
    is_left_out_word p
    || (is_chunk p && is_none (row_of table p) && has_named_text (drop 2 ps))
    || (is_defining p && has_text_or_size (braced ps))
