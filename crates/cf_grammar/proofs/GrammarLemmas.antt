-- The first fault of a statement's form, or the statement.
use Rattle.std.proofs.Common.{◌≡◌, ℕ, Bool, cond, true, false, Option, Some, None, List, refl, ap, sym}
use Rattle.std.specs.Prelude.{is_some, is_none}
use Rattle.cf_types.specs.declared.code.configuration.TheConstants.{LEFT_OUT, NO_FORM, OUT_OF_RANGE}
use Rattle.cf_types.specs.declared.stmt.Piece.{Piece}
use Rattle.cf_types.specs.declared.stmt.Stmt.{Stmt}
use Rattle.config_rules.specs.Form.{◌or◌, Form, form_fault, form_of, given, is_left_out}
use Rattle.cf_grammar.specs.Statement.{are_short, unread_code}
use Rattle.cf_grammar.proofs.FormLemmas.{form_of-long}
use Rattle.cf_grammar.proofs.SizedLemmas.{form_there}

pub fault_left_out : (ps : List Piece) → true ≡ is_left_out ps → form_fault ps ≡ Some LEFT_OUT
unfolding form_fault
fault_left_out ps h = rw (← h) refl

by_form : {A : Type 0} (o : Option A) (rest : Option ℕ) → false ≡ is_some o → (given (is_none o) NO_FORM or rest) ≡ Some NO_FORM
by_form None rest h = refl
by_form (Some s) rest h = cc

fault_form : (ps : List Piece) → false ≡ is_left_out ps → false ≡ is_some (form_of false ps) → form_fault ps ≡ Some NO_FORM
unfolding form_fault
fault_form ps kept h = rw (← kept) (by_form (form_of false ps) _ h)

pub fault_long : (ps : List Piece) → false ≡ is_left_out ps → false ≡ are_short ps → form_fault ps ≡ Some NO_FORM
fault_long ps kept long = fault_form ps kept (ap is_some (form_of-long false ps long))

past_form : {A : Type 0} (o : Option A) (rest : Option ℕ) → true ≡ is_some o → (given (is_none o) NO_FORM or rest) ≡ rest
past_form None rest h = cc
past_form (Some s) rest h = refl

fault_range : (ps : List Piece) → false ≡ is_left_out ps → true ≡ is_some (form_of false ps) → None ≡ form_of true ps → form_fault ps ≡ Some OUT_OF_RANGE
unfolding form_fault
fault_range ps kept h e = rw (← kept, past_form (form_of false ps) _ h, ← e) refl

pub fault_unread : (ps : List Piece) → false ≡ is_left_out ps → None ≡ form_of true ps → form_fault ps ≡ Some (unread_code ps)
fault_unread ps kept e = by_test (is_some (form_of false ps)) refl
  where
    by_test : (b : Bool) → b ≡ is_some (form_of false ps) → form_fault ps ≡ Some (cond b OUT_OF_RANGE NO_FORM)
    by_test true h = fault_range ps kept h e
    by_test false h = fault_form ps kept h

pub form_is : (ps : List Piece) (s : Stmt) → false ≡ is_left_out ps → Some s ≡ form_of true ps → Form ps s
unfolding form_fault
form_is ps s kept e = (rw (← kept, past_form (form_of false ps) _ (form_there ps (rw (← e) refl)), ← e) refl, sym e)
