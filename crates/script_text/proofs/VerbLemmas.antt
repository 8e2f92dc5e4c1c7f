-- The table of commands by their verbs.
use Rattle.std.proofs.Common.{◌≡◌, ℕ, Bool, true, false, cond, List, [], ◌∷◌, map, refl, ap, sym, ◌∙◌, Option, Some, bytes_eq}
use Rattle.std.specs.Prelude.{find, option_map}
use Rattle.config_rules.specs.ScriptText.{CommandRow, commands, row_of}
use Rattle.script_text.specs.declared.verb.TheConstants.{VERBS}
use Rattle.script_text.specs.Verbs.{row_by, spelling_of}

rows_are : map row_by VERBS ≡ commands
unfolding commands
rows_are = refl

find_if : {A B : Type 0} (f : A → B) (b : Bool) (x : A) (o : Option A) (p : Option B) → p ≡ option_map f o → cond b (Some (f x)) p ≡ option_map f (cond b (Some x) o)
find_if f true x o p h = refl
find_if f false x o p h = h

find-map : {A B : Type 0} (f : A → B) (p : B → Bool) (xs : List A) → find p (map f xs) ≡ option_map f (find (λ x. p (f x)) xs)
find-map f p [] = refl
find-map f p (x ∷ xs) = find_if f (p (f x)) x (find (λ y. p (f y)) xs) (find p (map f xs)) (find-map f p xs)

-- the row of a word is that of its verb
pub row_is : (word : List ℕ) → row_of word ≡ option_map row_by (find (λ v. bytes_eq (spelling_of v) word) VERBS)
row_is word = ap (find (λ (r : CommandRow). bytes_eq r.word word)) (sym rows_are) ∙ find-map row_by (λ (r : CommandRow). bytes_eq r.word word) VERBS
