-- The places of an attachment and its name are the same from the end.
use Rattle.std.proofs.Common.{◌≡◌, ℕ, suc, ◌-◌, ◌<◌, ◌&&◌, Bool, true, false, cond, Option, Some, None, List, [], ◌∷◌, length, take, drop, refl, sym, ap, ◌∙◌, arith, codes, inl, inr}
use Rattle.std.specs.Prelude.{option_map, option_and_then, nat_lt}
use Rattle.std.specs.List.{onto_first, slice_split}
use Rattle.std.proofs.lemmas.Bool.{cases_Bool, lt-ltb, ltb-true, true≢false}
use Rattle.cf_types.specs.declared.stmt.Piece.{Piece}
use Rattle.cf_types.specs.declared.stmt.TokenKind.{TokenKind}
use Rattle.cf_types.specs.declared.stmt.TokenKind.TheVariants as kind
use Rattle.config_rules.specs.Form.{alone, each, is_mark, is_word, name_of, names_of, places_and_name}
use Rattle.cf_grammar.specs.Places.{by_end, is_before_last}

-- ---- commas and words

comma_no_name : (n : Piece) → is_mark (codes ",") n ≡ true → name_of n ≡ None
comma_no_name n h = by n.kind n.text h
  where
    by : (k : TokenKind) (t : List ℕ) → is_mark (codes ",") (record { kind = k; text = t }) ≡ true → name_of (record { kind = k; text = t }) ≡ None
    by kind.Chunk t e = absurd cc
    by kind.Text t e = refl
    by kind.Mark t e = refl
    by kind.Stop t e = refl

comma_no_word : (m : Piece) (word : List ℕ) → is_mark (codes ",") m ≡ true → is_word word m ≡ false
comma_no_word m word h = by m.kind m.text h
  where
    by : (k : TokenKind) (t : List ℕ) → is_mark (codes ",") (record { kind = k; text = t }) ≡ true → is_word word (record { kind = k; text = t }) ≡ false
    by kind.Chunk t e = absurd cc
    by kind.Text t e = refl
    by kind.Mark t e = refl
    by kind.Stop t e = refl

-- ---- names between commas

record HasPart (ps : List Piece) : Type 0 where
  first : List Piece
  others : List (List Piece)
  are : slice_split (is_mark (codes ",")) ps ≡ first ∷ others

has_part : (ps : List Piece) → HasPart ps
has_part [] = record { first = []; others = []; are = refl }
has_part (p ∷ ps) = by (is_mark (codes ",") p) refl (has_part ps)
  where
    by : (b : Bool) → is_mark (codes ",") p ≡ b → HasPart ps → HasPart (p ∷ ps)
    by true e h = record { first = []; others = slice_split (is_mark (codes ",")) ps; are = rw e refl }
    by false e h = record { first = p ∷ h.first; others = h.others; are = rw e (ap (onto_first p) h.are) }

-- a name before another token that is no comma
names_two : (n m : Piece) (ps : List Piece) → is_mark (codes ",") m ≡ false → names_of (n ∷ m ∷ ps) ≡ None
names_two n m ps other = let h = has_part ps in rw (other, h.are) (by (is_mark (codes ",") n) h.first h.others)
  where
    by : (b : Bool) (first : List Piece) (others : List (List Piece))
        → each (alone name_of) (cond b ([] ∷ (m ∷ first) ∷ others) ((n ∷ m ∷ first) ∷ others)) ≡ None
    by true first others = refl
    by false first others = refl

alone_each : (o : Option (List ℕ)) → option_and_then (λ y. option_map (λ ys. y ∷ ys) (Some [])) o ≡ option_map (λ place. place ∷ []) o
alone_each None = refl
alone_each (Some x) = refl

names_one : (n : Piece) → names_of (n ∷ []) ≡ option_map (λ place. place ∷ []) (name_of n)
names_one n = by (is_mark (codes ",") n) refl
  where
    by : (b : Bool) → is_mark (codes ",") n ≡ b → names_of (n ∷ []) ≡ option_map (λ place. place ∷ []) (name_of n)
    by true e = rw (e, comma_no_name n e) refl
    by false e = rw e (alone_each (name_of n))

names_more : (n m : Piece) (ps : List Piece) → is_mark (codes ",") m ≡ true
    → names_of (n ∷ m ∷ ps) ≡ option_and_then (λ place. option_map (λ places. place ∷ places) (names_of ps)) (name_of n)
names_more n m ps comma = by (is_mark (codes ",") n) refl
  where
    by : (b : Bool) → is_mark (codes ",") n ≡ b → names_of (n ∷ m ∷ ps) ≡ option_and_then (λ place. option_map (λ places. place ∷ places) (names_of ps)) (name_of n)
    by true e = rw (e, comma_no_name n e) refl
    by false e = rw (e, comma) refl

-- ---- the end

and_no : (b : Bool) → (b && false) ≡ false
and_no true = refl
and_no false = refl

before_more : (n m : Piece) (ps : List Piece) → is_mark (codes ",") m ≡ true → is_before_last (codes "with") (n ∷ m ∷ ps) ≡ is_before_last (codes "with") ps
before_more n m [] comma = refl
before_more n m (a ∷ []) comma = rw (comma_no_word m (codes "with") comma) refl
before_more n m (a ∷ b ∷ []) comma = rw comma (and_no _)
before_more n m (a ∷ b ∷ c ∷ qs) comma =
    let ps : List Piece = a ∷ b ∷ c ∷ qs in
    let second : length (n ∷ m ∷ ps) - 2 ≡ suc (suc (length ps - 2)) = omega arith in
    let third : length (n ∷ m ∷ ps) - 3 ≡ suc (suc (length ps - 3)) = omega arith in
    let long : nat_lt 2 (length (n ∷ m ∷ ps)) ≡ true = lt-ltb 2 (length (n ∷ m ∷ ps)) (omega arith) in
    let there : nat_lt 2 (length ps) ≡ true = lt-ltb 2 (length ps) (omega arith) in
    rw (second, third, long, there) refl

long_enough : (ps : List Piece) → is_before_last (codes "with") ps ≡ true → 2 < length ps
long_enough ps h =
    elim (cases_Bool (nat_lt 2 (length ps))) [
      | inl e ↦ ltb-true 2 (length ps) e
      | inr e ↦ let short : is_before_last (codes "with") ps ≡ false = rw e refl in absurd (true≢false (sym h ∙ short))
    ]

-- ---- both ways

-- places alone, and with a name
abbrev pub plain : List (List ℕ) → List (List ℕ) × Option (List ℕ)
plain places = (places, None)

abbrev pub called : Option (List ℕ) → List (List ℕ) → Option (List (List ℕ) × Option (List ℕ))
called a places = option_map (λ name. (places, Some name)) a

-- a place before places with a name
abbrev lift : List ℕ → List (List ℕ) × Option (List ℕ) → List (List ℕ) × Option (List ℕ)
lift place rest = (place ∷ rest.0, rest.1)

none_then : {A B : Type 0} (o : Option A) → option_and_then {U = B} (λ x. None) o ≡ None
none_then None = refl
none_then (Some x) = refl

one_plain : (o : Option (List ℕ)) → option_map plain (option_map (λ place. place ∷ []) o) ≡ option_map (λ place. plain (place ∷ [])) o
one_plain None = refl
one_plain (Some x) = refl

one_called : (o a : Option (List ℕ)) → option_and_then (called a) (option_map (λ place. place ∷ []) o) ≡ option_and_then (λ place. called a (place ∷ [])) o
one_called None a = refl
one_called (Some x) a = refl

more_called : (o : Option (List ℕ)) (all : Option (List (List ℕ))) (a : Option (List ℕ))
    → option_and_then (called a) (option_and_then (λ place. option_map (λ places. place ∷ places) all) o) ≡ option_and_then (λ place. option_map (lift place) (option_and_then (called a) all)) o
more_called None all a = refl
more_called (Some x) None a = refl
more_called (Some x) (Some xs) None = refl
more_called (Some x) (Some xs) (Some y) = refl

more_plain : (o : Option (List ℕ)) (all : Option (List (List ℕ)))
    → option_map plain (option_and_then (λ place. option_map (λ places. place ∷ places) all) o) ≡ option_and_then (λ place. option_map (lift place) (option_map plain all)) o
more_plain None all = refl
more_plain (Some x) None = refl
more_plain (Some x) (Some xs) = refl

-- a place, a comma and the rest
after_comma : (n m : Piece) (ps : List Piece) → is_mark (codes ",") m ≡ true → by_end (n ∷ m ∷ ps) ≡ option_and_then (λ place. option_map (lift place) (by_end ps)) (name_of n)
after_comma n m ps comma = rw (before_more n m ps comma) (by (is_before_last (codes "with") ps) refl)
  where
    by : (b : Bool) → is_before_last (codes "with") ps ≡ b
        → cond b (option_and_then (called (alone name_of (drop (length (n ∷ m ∷ ps) - 1) (n ∷ m ∷ ps)))) (names_of (take (length (n ∷ m ∷ ps) - 2) (n ∷ m ∷ ps))))
        (option_map plain (names_of (n ∷ m ∷ ps)))
        ≡ option_and_then (λ place. option_map (lift place)
        (cond b (option_and_then (called (alone name_of (drop (length ps - 1) ps))) (names_of (take (length ps - 2) ps))) (option_map plain (names_of ps)))) (name_of n)
    by true e =
        let long : 2 < length ps = long_enough ps e in
        let last : length (n ∷ m ∷ ps) - 1 ≡ suc (suc (length ps - 1)) = omega (arith, long) in
        let second : length (n ∷ m ∷ ps) - 2 ≡ suc (suc (length ps - 2)) = omega (arith, long) in
        rw (last, second, names_more n m (take (length ps - 2) ps) comma) (more_called (name_of n) (names_of (take (length ps - 2) ps)) (alone name_of (drop (length ps - 1) ps)))
    by false e = rw (names_more n m ps comma) (more_plain (name_of n) (names_of ps))

-- a second token that is no comma, with two more behind it
too_many : (n m x y : Piece) (qs : List Piece) → is_mark (codes ",") m ≡ false → by_end (n ∷ m ∷ x ∷ y ∷ qs) ≡ None
too_many n m x y qs other = by (is_before_last (codes "with") (n ∷ m ∷ x ∷ y ∷ qs))
  where
    second : length (n ∷ m ∷ x ∷ y ∷ qs) - 2 ≡ suc (suc (length qs))
    second = omega arith

    by : (b : Bool)
        → cond b (option_and_then (called (alone name_of (drop (length (n ∷ m ∷ x ∷ y ∷ qs) - 1) (n ∷ m ∷ x ∷ y ∷ qs)))) (names_of (take (length (n ∷ m ∷ x ∷ y ∷ qs) - 2) (n ∷ m ∷ x ∷ y ∷ qs))))
        (option_map plain (names_of (n ∷ m ∷ x ∷ y ∷ qs))) ≡ None
    by true = rw (second, names_two n m (take (length qs) (x ∷ y ∷ qs)) other) refl
    by false = rw (names_two n m (x ∷ y ∷ qs) other) refl

with_name : (n m : Piece) (ps : List Piece) → is_mark (codes ",") m ≡ false → is_word (codes "with") m ≡ true
    → by_end (n ∷ m ∷ ps) ≡ option_and_then (λ place. called (alone name_of ps) (place ∷ [])) (name_of n)
with_name n m [] e f = rw (names_two n m [] e) (sym (none_then (name_of n)))
with_name n m (x ∷ []) e f = by_place (is_mark (codes ",") n) refl
  where
    by_place : (b : Bool) → is_mark (codes ",") n ≡ b → by_end (n ∷ m ∷ x ∷ []) ≡ option_and_then (λ place. called (alone name_of (x ∷ [])) (place ∷ [])) (name_of n)
    by_place true g = rw (f, g, comma_no_name n g) refl
    by_place false g =
        let ends : is_before_last (codes "with") (n ∷ m ∷ x ∷ []) ≡ true = rw (f, g) refl in
        ap (λ b. cond b (option_and_then (called (name_of x)) (names_of (n ∷ []))) (option_map plain (names_of (n ∷ m ∷ x ∷ [])))) ends
        ∙ ap (option_and_then (called (name_of x))) (names_one n) ∙ one_called (name_of n) (name_of x)
with_name n m (x ∷ y ∷ qs) e f = too_many n m x y qs e ∙ sym (none_then (name_of n))

nothing : (n m : Piece) (ps : List Piece) → is_mark (codes ",") m ≡ false → is_word (codes "with") m ≡ false → by_end (n ∷ m ∷ ps) ≡ None
nothing n m [] e f = rw (names_two n m [] e) refl
nothing n m (x ∷ []) e f = rw (f, names_two n m (x ∷ []) e) refl
nothing n m (x ∷ y ∷ qs) e f = too_many n m x y qs e

pub by_end_is : (ps : List Piece) → by_end ps ≡ places_and_name ps
by_end_is [] = refl
by_end_is (n ∷ []) = rw (names_one n) (one_plain (name_of n))
by_end_is (n ∷ m ∷ ps) = by (is_mark (codes ",") m) (is_word (codes "with") m) refl refl (by_end_is ps)
  where
    by : (c w : Bool) → is_mark (codes ",") m ≡ c → is_word (codes "with") m ≡ w → by_end ps ≡ places_and_name ps → by_end (n ∷ m ∷ ps) ≡ places_and_name (n ∷ m ∷ ps)
    by true w e f later = after_comma n m ps e ∙ rw (e, later) refl
    by false true e f later = with_name n m ps e f ∙ rw (e, f) refl
    by false false e f later = nothing n m ps e f ∙ rw (e, f) (sym (none_then (name_of n)))
