-- The places of an attachment and its name, read from the end.
use Rattle.std.specs.Prelude.{ℕ, ◌-◌, Bool, not, ◌&&◌, nat_lt, if◌then◌else◌, List, length, take, drop, codes, Option, Some, None, option_map, option_and_then}
use Rattle.std.specs.List.{list_any}
use Rattle.cf_types.specs.declared.stmt.Piece.{Piece}
use Rattle.config_rules.specs.Form.{alone, is_mark, is_word, name_of, names_of}

-- a word, the last but one token, with no comma before it and something before that
abbrev pub is_before_last : List ℕ → List Piece → Bool
is_before_last word ps =
    nat_lt 2 (length ps) && list_any (is_word word) (take 1 (drop (length ps - 2) ps))
    && not (list_any (is_mark (codes ",")) (take 1 (drop (length ps - 3) ps)))

-- the places, and where they end with `with N`, the attachment's name
abbrev pub by_end : List Piece → Option (List (List ℕ) × Option (List ℕ))
by_end ps =
    if is_before_last (codes "with") ps
    then option_and_then (λ places. option_map (λ name. (places, Some name)) (alone name_of (drop (length ps - 1) ps))) (names_of (take (length ps - 2) ps))
    else option_map (λ places. (places, None)) (names_of ps)
