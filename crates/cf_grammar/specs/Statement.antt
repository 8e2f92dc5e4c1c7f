-- What a caller of `statement` owes, and what the errors mean.
use Rattle.std.specs.Prelude.{◌≡◌, ℕ, ◌≤◌, Bool, nat_le, List, length, All, Some, ⊤, false, is_some, if◌then◌else◌}
use Rattle.std.specs.List.{list_all}
use Rattle.cf_types.specs.declared.code.configuration.TheConstants.{NO_FORM, OUT_OF_RANGE}
use Rattle.cf_types.specs.declared.stmt.Piece.{Piece}
use Rattle.cf_types.specs.declared.stmt.Token.{Token}
use Rattle.config_rules.specs.Form.{form_fault, form_of}
use Rattle.cf_grammar.specs.declared.grammar.GrammarStop.{GrammarStop}
use Rattle.cf_grammar.specs.declared.grammar.GrammarStop.TheVariants.{Fault, Memory}

-- a token's span lies within the text
abbrev pub IsWithin : List ℕ → Token → Type 0
IsWithin text t = (t.start ≤ t.end) × (t.end ≤ length text)

abbrev pub AreWithin : List ℕ → List Token → Type 0
AreWithin text tokens = All (IsWithin text) tokens

-- no token is longer than one may be
abbrev pub are_short : List Piece → Bool
are_short ps = list_all (λ q. nat_le (length q.text) 1023) ps

-- the fault of these tokens; want of memory says nothing
abbrev pub IsFaultOf : List Piece → GrammarStop → Type 0
IsFaultOf ps (Fault code) = form_fault ps ≡ Some code
IsFaultOf ps Memory = ⊤

-- the code of words that are no statement with each number in its range, and of none that is left out
abbrev pub unread_code : List Piece → ℕ
unread_code ps = if is_some (form_of false ps) then OUT_OF_RANGE else NO_FORM
