-- The table of statements, by its keywords.
use Rattle.std.proofs.Common.{◌≡◌, ◌∙◌, ◌<◌, ◌&&◌, ℕ, Bool, true, false, cond, Option, Some, None, List, [], ◌∷◌, length, map, refl, ap, sym, subst, arith}
use Rattle.std.specs.Prelude.{bytes_eq, filter, find, nat_lt, option_map, slice_index}
use Rattle.std.proofs.lemmas.Bool.Decides.{nat_tests}
use Rattle.std.proofs.lemmas.Slice.Eq.{bytes_eq-Decides}
use Rattle.cf_types.specs.declared.stmt.Piece.{Piece}
use Rattle.config_rules.specs.Form.{given, is_chunk, is_word, row_by, row_of, spelling_of, table}
use Rattle.cf_types.specs.declared.keyword.Keyword.{Keyword}
use Rattle.cf_types.specs.declared.keyword.Keyword.TheVariants as word
use Rattle.cf_types.specs.declared.keyword.TheConstants.{KEYWORDS}
use Rattle.cf_types.specs.declared.stmt.CondWord.TheVariants as condition
use Rattle.cf_grammar.specs.Keywords.{keyword_in, looks}

pub table_is : table ≡ map row_by KEYWORDS
unfolding table
table_is = refl

pub row_found : (ks : List Keyword) (p : Piece) → row_of (map row_by ks) p ≡ option_map row_by (find (λ k. is_word (spelling_of k) p) ks)
row_found [] p = refl
row_found (k ∷ ks) p = by_test (is_word (spelling_of k) p) (row_found ks p)
  where
    by_test : (b : Bool) → row_of (map row_by ks) p ≡ option_map row_by (find (λ k. is_word (spelling_of k) p) ks)
        → cond b (Some (row_by k)) (row_of (map row_by ks) p) ≡ option_map row_by (cond b (Some k) (find (λ k. is_word (spelling_of k) p) ks))
    by_test true e = refl
    by_test false e = e

-- what passes the one test passes the other: then it is found among those that do
pub find_among : {A : Type 0} (f g : A → Bool) (xs : List A) → ((x : A) → true ≡ f x → true ≡ g x) → find f (filter g xs) ≡ find f xs
find_among f g [] h = refl
find_among f g (x ∷ xs) h = by_test (g x) refl (find_among f g xs h)
  where
    not_first : (a b : Bool) → (true ≡ a → true ≡ b) → b ≡ false → a ≡ false
    not_first true b k e = sym (sym e ∙ sym (k refl))
    not_first false b k e = refl

    by_test : (b : Bool) → g x ≡ b → find f (filter g xs) ≡ find f xs → find f (cond b (x ∷ filter g xs) (filter g xs)) ≡ cond (f x) (Some x) (find f xs)
    by_test true e rest = ap (cond (f x) (Some x)) rest
    by_test false e rest = rw (not_first (f x) (g x) (h x) e) rest

-- what is found passes the test
pub found_passes : {A : Type 0} (f : A → Bool) (xs : List A) (x : A) → Some x ≡ find f xs → f x ≡ true
found_passes f [] x e = absurd (cc)
found_passes f (y ∷ ys) x e = by_test (f y) refl e (found_passes f ys x)
  where
    by_test : (b : Bool) → f y ≡ b → Some x ≡ cond b (Some y) (find f ys) → (Some x ≡ find f ys → f x ≡ true) → f x ≡ true
    by_test true here e rest = let same : x ≡ y = cc in ap f same ∙ here
    by_test false here e rest = rest e

-- where none passes, what is found by another test doesn't
none_passes : {A : Type 0} (f g : A → Bool) (xs : List A) (x : A) → None ≡ find f xs → Some x ≡ find g xs → f x ≡ false
none_passes f g [] x e h = absurd (cc)
none_passes f g (y ∷ ys) x e h = by_tests (f y) refl (g y) e h (none_passes f g ys x)
  where
    by_tests : (b : Bool) → f y ≡ b → (d : Bool) → None ≡ cond b (Some y) (find f ys) → Some x ≡ cond d (Some y) (find g ys)
        → (None ≡ find f ys → Some x ≡ find g ys → f x ≡ false) → f x ≡ false
    by_tests true here d e h rest = absurd (cc)
    by_tests false here true e h rest = let same : x ≡ y = cc in ap f same ∙ here
    by_tests false here false e h rest = rest e h

text_of : (p : Piece) (k : Keyword) → is_word (spelling_of k) p ≡ true → p.text ≡ spelling_of k
text_of p k e = behind (is_chunk p) e
  where
    behind : (chunk : Bool) → (chunk && bytes_eq p.text (spelling_of k)) ≡ true → p.text ≡ spelling_of k
    behind true e = (bytes_eq-Decides p.text (spelling_of k)).0 e
    behind false e = absurd (cc)

-- the keyword that looks as this text does
abbrev pub looking : List ℕ → Option Keyword
looking text = find (looks (slice_index text 0) (slice_index text 2) (length text)) KEYWORDS

-- no two keywords look the same
own : (k : Keyword) → looking (spelling_of k) ≡ Some k
own word.Include = refl
own (word.Condition condition.Else) = refl
own (word.Condition c) = refl
own k = refl

looks_so : (p : Piece) (k : Keyword) → Some k ≡ keyword_in p → looking p.text ≡ Some k
looks_so p k e = ap looking (text_of p k (found_passes (λ k. is_word (spelling_of k) p) KEYWORDS k e)) ∙ own k

pub one_looks : (p : Piece) (k : Keyword) → Some k ≡ looking p.text → given (is_word (spelling_of k) p) k ≡ keyword_in p
one_looks p k h = by_keyword (keyword_in p) refl
  where
    by_keyword : (found : Option Keyword) → found ≡ keyword_in p → given (is_word (spelling_of k) p) k ≡ found
    by_keyword None e = rw (none_passes (λ k. is_word (spelling_of k) p) (looks (slice_index p.text 0) (slice_index p.text 2) (length p.text)) KEYWORDS k e h) refl
    by_keyword (Some j) e =
        let other = looks_so p j e in
        let same : k ≡ j = cc in
        let passes = found_passes (λ k. is_word (spelling_of k) p) KEYWORDS j e in
        rw (same, passes) refl

-- `no` alone has fewer than three bytes
pub short_no : (p : Piece) → length p.text < 3 → given (is_word (spelling_of word.No) p) word.No ≡ keyword_in p
short_no p h = find_among (λ k. is_word (spelling_of k) p) (λ k. nat_lt (length (spelling_of k)) 3) KEYWORDS (λ k e. ltb_of (length (spelling_of k)) (subst (λ text. length text < 3) (text_of p k (sym e)) h))
  where
    ltb_of : (n : ℕ) → n < 3 → true ≡ nat_lt n 3
    ltb_of n h = grind (arith, nat_tests)
