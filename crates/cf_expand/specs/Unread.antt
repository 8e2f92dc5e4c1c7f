-- The tokens of a file that are not read yet.
use Rattle.std.specs.Prelude.{◌≡◌, ℕ, Bool, true, List, [], ◌++◌}
use Rattle.cf_types.specs.declared.stmt.Token.{Token}
use Rattle.cf_lexer.specs.Rest.{Passes, is_closed}

-- those that are cut, and those of the rest of the text
pub record Uncut : Type 0 where
  pub text : List ℕ
  pub kept : List Token
  pub more : List Token

abbrev pub all_left : Uncut → List Token
all_left u = u.kept ++ u.more

-- statements were passed over, none where the part is not left out
pub record PassesTo (live : Bool) (text : List ℕ) (old new : List Token) : Type 0 where
  pub passes : Passes text old new
  pub none : live ≡ true → passes.passed ≡ []

-- the next statement is cut, if there is one
pub record Refills (live : Bool) (old new : Uncut) : Type 0 where
  pub text : new.text ≡ old.text
  pub passes : PassesTo live old.text (all_left old) (all_left new)
  pub closed : is_closed old.kept ≡ true → is_closed new.kept ≡ true
  pub ready : new.kept ≡ [] → new.more ≡ []
