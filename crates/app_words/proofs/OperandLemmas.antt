-- What clap makes of operands.
use Rattle.std.proofs.Common.{ap, refl, sym, codes, true, false, ℕ, List, Option, Some, None, [], ◌∷◌, ◌≡◌, ◌∙◌, ◌==◌, arith, inl, inr, ◌⊎◌, subst}
use Rattle.std.specs.Prelude.{Ok, Err, IfErr, Result}
use Rattle.std.specs.List.{list_all}
use Rattle.clap.specs.Lexer.{short_of}
use Rattle.clap.specs.Walk.{Text, first_of}
use Rattle.clap.specs.Simple.{App, HasMatchesOf, is_simple, matches_of}
use Rattle.clap.specs.Matches.{first_value as value_of, found_of}
use Rattle.clap.specs.declared.parser.matches.ArgMatches.{ArgMatches}
use Rattle.clap.proofs.WalkLemmas.{first_value-rows}
use Rattle.clap.specs.Kinds.{HasKind}
use Rattle.clap.specs.Values.{kind_of}
use Rattle.clap.specs.declared.error.Error.{Error}
use Rattle.std.specs.Result.{IsErrAnd}
use Rattle.app_words.specs.declared.words.Words.{Words}
use Rattle.app_words.specs.Commands.{boot_app, file_app}
use Rattle.clap.specs.Faults.{fault_of, is_simple_and_free}
use Rattle.clap.proofs.OnLiterals.{clap_on_literals}
use Rattle.clap.specs.declared.error.kind.ErrorKind.{ErrorKind}
use Rattle.clap.specs.declared.error.kind.ErrorKind.TheVariants as kind
use Rattle.app_words.specs.declared.words.WordStop.{WordStop}
use Rattle.app_words.specs.declared.words.WordStop.TheVariants.{Usage, Memory}
use Rattle.app_words.specs.Words.{Form, HasForm, IsStopped, is_operand, file_in, boot_form, boot, stop_of}
use Rattle.clap.specs.Kinds.{IsAmong, Kinds}

pub file_is_simple : is_simple file_app ≡ true
unfolding clap_on_literals
file_is_simple = refl

pub file_is_free : is_simple_and_free file_app ≡ true
unfolding clap_on_literals
file_is_free = refl

pub boot_is_simple : is_simple boot_app ≡ true
unfolding clap_on_literals
boot_is_simple = refl

pub boot_is_free : is_simple_and_free boot_app ≡ true
unfolding clap_on_literals
boot_is_free = refl

pub no_short : (x : ℕ) (xs : Text) → (x == 45) ≡ false → short_of (x ∷ xs) ≡ None
no_short x xs e = rw e refl

one_fault : (x : ℕ) (xs : Text) → (x == 45) ≡ false → fault_of file_app ((x ∷ xs) ∷ []) ≡ []
unfolding clap_on_literals
one_fault x xs e = rw (e, no_short x xs e) refl

one_value : (x : ℕ) (xs : Text) → (x == 45) ≡ false → first_of (codes "file") (matches_of file_app ((x ∷ xs) ∷ [])) ≡ Some (x ∷ xs)
unfolding clap_on_literals
one_value x xs e = rw (e, no_short x xs e) refl

no_word_fault : fault_of file_app [] ≡ kind.MissingRequiredArgument ∷ []
unfolding clap_on_literals
no_word_fault = refl

second_fault : (x y : ℕ) (xs ys : Text) (more : List Text) → (x == 45) ≡ false → (y == 45) ≡ false → fault_of file_app ((x ∷ xs) ∷ (y ∷ ys) ∷ more) ≡ kind.UnknownArgument ∷ []
unfolding clap_on_literals
second_fault x y xs ys more e d = rw (e, no_short x xs e, d, no_short y ys d) refl

one_word_fault : (x : ℕ) (xs : Text) → (x == 45) ≡ false → fault_of boot_app ((x ∷ xs) ∷ []) ≡ kind.MissingRequiredArgument ∷ []
unfolding clap_on_literals
one_word_fault x xs e = rw (e, no_short x xs e) refl

no_words_fault : fault_of boot_app [] ≡ kind.MissingRequiredArgument ∷ []
unfolding clap_on_literals
no_words_fault = refl

two_fault : (x y : ℕ) (xs ys : Text) → (x == 45) ≡ false → (y == 45) ≡ false → fault_of boot_app ((x ∷ xs) ∷ (y ∷ ys) ∷ []) ≡ []
unfolding clap_on_literals
two_fault x y xs ys e d = rw (e, no_short x xs e, d, no_short y ys d) refl

first_value : (x y : ℕ) (xs ys : Text) → (x == 45) ≡ false → (y == 45) ≡ false → first_of (codes "file") (matches_of boot_app ((x ∷ xs) ∷ (y ∷ ys) ∷ [])) ≡ Some (x ∷ xs)
unfolding clap_on_literals
first_value x y xs ys e d = rw (e, no_short x xs e, d, no_short y ys d) refl

second_value : (x y : ℕ) (xs ys : Text) → (x == 45) ≡ false → (y == 45) ≡ false → first_of (codes "machine") (matches_of boot_app ((x ∷ xs) ∷ (y ∷ ys) ∷ [])) ≡ Some (y ∷ ys)
unfolding clap_on_literals
second_value x y xs ys e d = rw (e, no_short x xs e, d, no_short y ys d) refl

third_fault : (x y z : ℕ) (xs ys zs : Text) (more : List Text) → (x == 45) ≡ false → (y == 45) ≡ false → (z == 45) ≡ false → fault_of boot_app ((x ∷ xs) ∷ (y ∷ ys) ∷ (z ∷ zs) ∷ more) ≡ kind.UnknownArgument ∷ []
unfolding clap_on_literals
third_fault x y z xs ys zs more e d f = rw (e, no_short x xs e, d, no_short y ys d, f, no_short z zs f) refl

-- a word that is an operand begins with another byte than `-`
pub plain : (x : ℕ) (xs : Text) (words : List Text) → list_all is_operand ((x ∷ xs) ∷ words) ≡ true → (x == 45) ≡ false
plain x xs words all = grind arith

pub rest : (word : Text) (words : List Text) → list_all is_operand (word ∷ words) ≡ true → list_all is_operand words ≡ true
rest word words all = grind arith

pub empty : (words : List Text) → list_all is_operand ([] ∷ words) ≡ true → ⊥
empty words all = grind arith

-- an error without a fault is want of memory, and refuses nothing
pub unrefused : {A : Type 0} (said : Option A) (k : ErrorKind) → (k ≡ kind.OutOfMemory) ⊎ ⊥ → IsStopped said (stop_of k)
unrefused said k (inl e) = rw e tt
unrefused said k (inr none) = elim none [ ]

said_nothing : (A : Type 0) (stop : WordStop) → IsStopped {A = A} None stop
said_nothing A Usage = refl
said_nothing A Memory = tt

pub refused : (A : Type 0) (k : ErrorKind) → IsStopped {A = A} None (stop_of k)
refused A k = said_nothing A (stop_of k)

-- what a parse of the operand gives, by cases on how many there are
pub file_value : (words : List Text) → list_all is_operand words ≡ true → fault_of file_app words ≡ [] → first_of (codes "file") (matches_of file_app words) ≡ file_in words
file_value [] all e = let f = no_word_fault in cc
file_value ([] ∷ words) all e = absurd (empty words all)
file_value ((x ∷ xs) ∷ []) all e = one_value x xs (plain x xs [] all)
file_value ((x ∷ xs) ∷ [] ∷ words) all e = absurd (empty words (rest (x ∷ xs) ([] ∷ words) all))
file_value ((x ∷ xs) ∷ (y ∷ ys) ∷ more) all e = let f = second_fault x y xs ys more (plain x xs ((y ∷ ys) ∷ more) all) (plain y ys more (rest (x ∷ xs) ((y ∷ ys) ∷ more) all)) in cc

pub file_refusal : (words : List Text) → list_all is_operand words ≡ true → (k : ErrorKind) → (k ≡ kind.OutOfMemory) ⊎ IsAmong k (fault_of file_app words) → IsStopped (file_in words) (stop_of k)
file_refusal [] all k why = refused _ k
file_refusal ([] ∷ words) all k why = absurd (empty words all)
file_refusal ((x ∷ xs) ∷ []) all k why = unrefused _ k (subst (λ (kinds : Kinds). (k ≡ kind.OutOfMemory) ⊎ IsAmong k kinds) (one_fault x xs (plain x xs [] all)) why)
file_refusal (word ∷ other ∷ more) all k why = refused _ k

-- what a parse of both operands gives
pub boot_value : (words : List Text) → list_all is_operand words ≡ true → fault_of boot_app words ≡ []
    → (file machine : Text) × (boot_form words ≡ Some (boot file machine)) × (first_of (codes "file") (matches_of boot_app words) ≡ Some file) × (first_of (codes "machine") (matches_of boot_app words) ≡ Some machine)
boot_value [] all e = let f = no_words_fault in cc
boot_value ([] ∷ words) all e = absurd (empty words all)
boot_value ((x ∷ xs) ∷ []) all e = let f = one_word_fault x xs (plain x xs [] all) in cc
boot_value ((x ∷ xs) ∷ [] ∷ words) all e = absurd (empty words (rest (x ∷ xs) ([] ∷ words) all))
boot_value ((x ∷ xs) ∷ (y ∷ ys) ∷ []) all e =
    let p = plain x xs ((y ∷ ys) ∷ []) all in
    let q = plain y ys [] (rest (x ∷ xs) ((y ∷ ys) ∷ []) all) in
    (x ∷ xs, y ∷ ys, refl, first_value x y xs ys p q, second_value x y xs ys p q)
boot_value ((x ∷ xs) ∷ (y ∷ ys) ∷ [] ∷ words) all e = absurd (empty words (rest (y ∷ ys) ([] ∷ words) (rest (x ∷ xs) ((y ∷ ys) ∷ [] ∷ words) all)))
boot_value ((x ∷ xs) ∷ (y ∷ ys) ∷ (z ∷ zs) ∷ more) all e =
    let behind = rest (x ∷ xs) ((y ∷ ys) ∷ (z ∷ zs) ∷ more) all in
    let f = third_fault x y z xs ys zs more (plain x xs ((y ∷ ys) ∷ (z ∷ zs) ∷ more) all) (plain y ys ((z ∷ zs) ∷ more) behind) (plain z zs more (rest (y ∷ ys) ((z ∷ zs) ∷ more) behind)) in
    cc

pub boot_refusal : (words : List Text) → list_all is_operand words ≡ true → (k : ErrorKind) → (k ≡ kind.OutOfMemory) ⊎ IsAmong k (fault_of boot_app words) → HasForm (boot_form words) (Err (stop_of k))
boot_refusal [] all k why = refused _ k
boot_refusal (word ∷ []) all k why = refused _ k
boot_refusal ([] ∷ words) all k why = absurd (empty words all)
boot_refusal ((x ∷ xs) ∷ [] ∷ words) all k why = absurd (empty words (rest (x ∷ xs) ([] ∷ words) all))
boot_refusal ((x ∷ xs) ∷ (y ∷ ys) ∷ []) all k why =
    unrefused (Some (boot (x ∷ xs) (y ∷ ys))) k (subst (λ (kinds : Kinds). (k ≡ kind.OutOfMemory) ⊎ IsAmong k kinds)
    (two_fault x y xs ys (plain x xs ((y ∷ ys) ∷ []) all) (plain y ys [] (rest (x ∷ xs) ((y ∷ ys) ∷ []) all))) why)
boot_refusal (word ∷ other ∷ third ∷ more) all k why = refused _ k

-- the stop that an error became
pub stopped : (form : Option Form) (r : Result Words WordStop) (k : ErrorKind) → IsErrAnd r (λ stop. stop ≡ stop_of k) → HasForm form (Err (stop_of k)) → HasForm form r
stopped form (Ok words) k is h = elim is [ ]
stopped form (Err stop) k is h = rw is h

pub stopped_at : {A R : Type 0} (said : Option A) (r : Result R WordStop) (k : ErrorKind) → IsErrAnd r (λ stop. stop ≡ stop_of k) → IsStopped said (stop_of k)
    → IfErr r (IsStopped said)
stopped_at said (Ok word) k is h = elim is [ ]
stopped_at said (Err stop) k is h = rw is h

-- what a getter reads is the value of a row
pub row_value : (app : App) (words : List Text) (m : ArgMatches) (id : Text) → is_simple app ≡ true → HasMatchesOf app words m → value_of (found_of m) id ≡ first_of id (matches_of app words)
row_value app words m id simple has = first_value-rows (found_of m) id ∙ ap (first_of id) (has simple).0

pub file_error : (app : App) (words : List Text) (e : Error) → app ≡ file_app → list_all is_operand words ≡ true
    → (is_simple_and_free app ≡ true → HasKind (fault_of app words) e) → IsStopped (file_in words) (stop_of (kind_of e))
file_error app words e is all kinds = file_refusal words all (kind_of e) ((rw is at kinds) file_is_free)

pub file_found : (app : App) (words : List Text) (m : ArgMatches) (file : Option Text) → app ≡ file_app → list_all is_operand words ≡ true
    → (is_simple_and_free app ≡ true → fault_of app words ≡ []) → HasMatchesOf app words m → file ≡ value_of (found_of m) (codes "file")
    → file_in words ≡ file
file_found app words m file is all kinds has read =
    sym (read ∙ row_value file_app words m (codes "file") file_is_simple (rw is at has) ∙ file_value words all ((rw is at kinds) file_is_free))

pub boot_error : (app : App) (words : List Text) (e : Error) → app ≡ boot_app → list_all is_operand words ≡ true
    → (is_simple_and_free app ≡ true → HasKind (fault_of app words) e) → HasForm (boot_form words) (Err (stop_of (kind_of e)))
boot_error app words e is all kinds = boot_refusal words all (kind_of e) ((rw is at kinds) boot_is_free)

pub boot_found : (app : App) (words : List Text) (m : ArgMatches) → app ≡ boot_app → list_all is_operand words ≡ true
    → (is_simple_and_free app ≡ true → fault_of app words ≡ []) → HasMatchesOf app words m
    → (file machine : Text) × (boot_form words ≡ Some (boot file machine)) × (value_of (found_of m) (codes "file") ≡ Some file) × (value_of (found_of m) (codes "machine") ≡ Some machine)
boot_found app words m is all kinds has =
    let found = boot_value words all ((rw is at kinds) boot_is_free) in
    let rows : HasMatchesOf boot_app words m = rw is at has in (
      found.0,
      found.1,
      found.2,
      row_value boot_app words m (codes "file") boot_is_simple rows ∙ found.3,
      row_value boot_app words m (codes "machine") boot_is_simple rows ∙ found.4,
    )

-- nothing was read, where something is to be read
pub lacks : {A : Type 0} {value : Option Text} {text : Text} → None ≡ value → value ≡ Some text → A
lacks none some = let e = none ∙ some in cc

-- what was read is what is to be read
pub given : {form : Option Form} {value other : Option Text} {file machine read also : Text} → form ≡ Some (boot file machine)
    → Some read ≡ value → value ≡ Some file → Some also ≡ other → other ≡ Some machine → form ≡ Some (boot read also)
given form read file also machine = form ∙ let e = read ∙ file in let d = also ∙ machine in cc
