-- What a negation takes back.
use Rattle.std.proofs.Common.{◌≡◌, ◌∙◌, ◌-◌, ◌≤◌, get_or, map, take, drop, Bool, true, false, cond, Option, Some, None, List, [], ◌∷◌, length, refl, ap, codes}
use Rattle.cf_types.specs.declared.stmt.Piece.{Piece}
use Rattle.cf_types.specs.declared.stmt.Stmt.{Stmt}
use Rattle.config_rules.specs.Form.{at_place, is_word, no_stmt}
use Rattle.cf_grammar.specs.declared.negation.Negated.{Negated}
use Rattle.cf_grammar.specs.declared.negation.Negated.TheVariants as word
use Rattle.cf_words.proofs.ListLemmas.{map_first_rest}
use Rattle.cf_grammar.specs.Negation.{negated_of, no_by_unit, no_by_word}

pub at_place_other : (sized : Bool) (ps : List Piece) → (length ps ≡ 2 → ⊥) → None ≡ at_place sized ps
at_place_other sized [] h = refl
at_place_other sized (p ∷ []) h = refl
at_place_other sized (p ∷ q ∷ []) h = absurd (h refl)
at_place_other sized (p ∷ q ∷ r ∷ ps) h = refl

abbrev pub no_by : Bool → Piece → List Piece → Option Negated → Option Stmt
no_by sized p ps (Some negated) = no_by_word negated sized ps
no_by sized p ps None = no_by_unit sized p ps

-- a negation by what its first word is
pub no_stmt-cons : (sized : Bool) (p : Piece) (ps : List Piece) (found : Option Negated) → found ≡ negated_of p → no_by sized p ps found ≡ no_stmt sized (p ∷ ps)
no_stmt-cons sized p ps found e =
    rw e (by_tests (is_word (codes "options") p) (is_word (codes "makeoptions") p) (is_word (codes "file-system") p) (is_word (codes "pseudo-device") p) (is_word (codes "device") p))
  where
    by_tests : (a b d e f : Bool)
        → no_by sized p ps (cond a (Some word.Options) (cond b (Some word.MakeOptions) (cond d (Some word.FileSystem) (cond e (Some word.PseudoDevice) (cond f (Some word.Device) None)))))
        ≡ cond a (no_by_word word.Options sized ps) (cond b (no_by_word word.MakeOptions sized ps) (cond d (no_by_word word.FileSystem sized ps) (cond e (no_by_word word.PseudoDevice sized ps) (cond f (no_by_word word.Device sized ps) (no_by_unit sized p ps)))))
    by_tests true b d e f = refl
    by_tests false true d e f = refl
    by_tests false false true e f = refl
    by_tests false false false true f = refl
    by_tests false false false false true = refl
    by_tests false false false false false = refl

-- the same over words
pub no_stmt-words : {X : Type 0} (f : X → Piece) (sized : Bool) (xs : List X) (d : X) (found : Option Negated) → 1 ≤ length xs → found ≡ negated_of (f (get_or xs 0 d))
    → no_by sized (f (get_or xs 0 d)) (map f (take (length xs - 1) (drop 1 xs))) found ≡ no_stmt sized (map f xs)
no_stmt-words f sized xs d found h e =
    no_stmt-cons sized (f (get_or xs 0 d)) (map f (take (length xs - 1) (drop 1 xs))) found e ∙ ap (no_stmt sized) (map_first_rest f xs d h)
