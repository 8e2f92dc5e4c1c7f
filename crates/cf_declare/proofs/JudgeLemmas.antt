-- What taking a statement leaves declared.
use Rattle.std.proofs.Common.{◌≡◌, ℕ, Option, Some, None, [], ◌∷◌, ◌++◌, refl, sym, ◌∙◌}
use Rattle.std.specs.Prelude.{IfOk, IfSome, Result, Ok, Err}
use Rattle.std.proofs.lemmas.List.{append-nil}
use Rattle.cf_types.specs.declared.tables.Attr.{Attr}
use Rattle.cf_names.specs.Indexed.{with_attr}
use Rattle.config_rules.specs.Declared.{Declared}
use Rattle.cf_declare.specs.Judging.{Takes}
use Rattle.cf_declare.proofs.DeclareLaws.{same_declared}

-- the code that is found
pub taken_code : (fault : Option ℕ) (old more new : Declared) (code : Option ℕ) → Takes fault old more new code → code ≡ fault
taken_code fault old more new None h = sym h.0
taken_code fault old more new (Some code) h = sym h.0

-- without a code there is more
pub taken_more : (fault : Option ℕ) (old more new : Declared) (code : Option ℕ) → Takes fault old more new code → code ≡ None → new ≡ more
taken_more fault old more new None h e = h.1
taken_more fault old more new (Some code) h e = absurd (cc)

-- with a code all is as before
pub taken_same : (fault : Option ℕ) (old more new : Declared) (code : Option ℕ) → Takes fault old more new code → IfSome code (λ _. new ≡ old)
taken_same fault old more new None h = tt
taken_same fault old more new (Some code) h = h.1

-- the same is declared, whatever the number of instances
pub taken_any : {E : Type 0} (fault : Option ℕ) (old more same new : Declared) (r : Result (Option ℕ) E) → more ≡ same → IfOk r (Takes fault old more new)
    → IfOk r (λ code. (n : ℕ) → Takes fault old same new code)
taken_any fault old more same new (Ok None) e h = λ n. (h.0, h.1 ∙ e)
taken_any fault old more same new (Ok (Some code)) e h = λ n. h
taken_any fault old more same new (Err stop) e h = tt

-- nothing but an attribute is added
pub attr_alone : (d : Declared) (a : Attr) → with_attr d a ≡ record { attrs = d.attrs ++ a ∷ []; devices = d.devices ++ []; attaches = d.attaches ++ [] }
attr_alone d a =
    same_declared (d.attrs ++ a ∷ []) _ d.devices (d.devices ++ []) d.attaches (d.attaches ++ []) refl (sym (append-nil d.devices)) (sym (append-nil d.attaches))
