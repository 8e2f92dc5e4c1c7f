-- A line has at most one cut, or one fault, and the function finds it.
use Rattle.std.proofs.Common.{◌≡◌, ℕ, zero, suc, ◌+◌, ◌≤◌, inl, inr, Bool, true, false, cond, not, ◌&&◌, List, [], ◌∷◌, ◌++◌, length, take, drop, refl, ap, sym, ◌∙◌, subst, arith, Result, Ok, Err, length-append, length-drop, append_assoc, append-nil, one-add, codes}
use Rattle.std.specs.Prelude.{IfOk, ◌==◌, take_while, slice_index, ⊤}
use Rattle.std.specs.List.{prefix_len, list_all, list_any}
use Rattle.std.proofs.lemmas.Bool.{eqb-true, not-true, or_cases, false_from_ne_true}
use Rattle.std.proofs.lemmas.List.{take-append-drop}
use Rattle.std.proofs.Math.Seq.{drop-append_seam}
use Rattle.cf_types.specs.declared.code.configuration.TheConstants.{BAD_BYTE}
use Rattle.config_rules.specs.Cut.{Part, Space, Comment, Quoted, Chunk, Mark, spelling, spellings, is_part, may_precede, are_parts, is_space, is_chunk_byte, is_text_byte, is_mark_byte, quoted_part, first_part, parts_within, parts_of, ◌>>=◌, LineCut}
use Rattle.config_rules.proofs.Parts.{cond_both, first_cases, first_len, ok_is}

-- ---- truth values

pub both_left : (a b : Bool) → (a && b) ≡ true → a ≡ true
both_left true b h = refl
both_left false b h = h

pub both_right : (a b : Bool) → (a && b) ≡ true → b ≡ true
both_right true b h = h
both_right false b h = absurd (cc)

-- what holds of each of these bytes holds of one of them
pub one_of : (P : ℕ → Bool) (xs : List ℕ) (c : ℕ) → list_any (λ m. m == c) xs ≡ true → list_all P xs ≡ true → P c ≡ true
one_of P [] c h k = absurd (cc)
one_of P (x ∷ xs) c h k =
    elim (or_cases (x == c) (list_any (λ m. m == c) xs) h) [
      | inl e ↦ ap P (sym (eqb-true x c e)) ∙ both_left (P x) (list_all P xs) k
      | inr e ↦ one_of P xs c e (both_right (P x) (list_all P xs) k)
    ]

pub from_byte : (P : ℕ → Bool) (c x : ℕ) → (c == x) ≡ true → P x ≡ true → P c ≡ true
from_byte P c x h k = ap P (eqb-true c x h) ∙ k

-- ---- bytes of different kinds

not_chunk : ℕ → Bool
not_chunk c = not (is_chunk_byte c)

pub space_no_chunk : (c : ℕ) → is_space c ≡ true → is_chunk_byte c ≡ false
space_no_chunk c h =
    elim (or_cases (c == 32) (c == 9) h) [
      | inl e ↦ not-true _ (from_byte (λ m. not (is_chunk_byte m)) c 32 e refl)
      | inr e ↦ not-true _ (from_byte (λ m. not (is_chunk_byte m)) c 9 e refl)
    ]

pub chunk_no_space : (c : ℕ) → is_chunk_byte c ≡ true → is_space c ≡ false
chunk_no_space c h = false_from_ne_true (is_space c) (λ s. let e : is_chunk_byte c ≡ false = space_no_chunk c s in cc)

pub chunk_is_not : (c x : ℕ) → is_chunk_byte x ≡ false → is_chunk_byte c ≡ true → (c == x) ≡ false
chunk_is_not c x differs h = false_from_ne_true (c == x) (λ e. let same : is_chunk_byte c ≡ is_chunk_byte x = ap is_chunk_byte (eqb-true c x e) in cc)

-- a mark is none of the others
pub mark_is : (P : ℕ → Bool) (c : ℕ) → list_all (λ m. not (P m)) (codes ",=:{}[]()!&|") ≡ true → is_mark_byte c ≡ true → P c ≡ false
mark_is P c k h = not-true _ (one_of (λ m. not (P m)) (codes ",=:{}[]()!&|") c h k)

-- ---- runs of bytes

pub run_all : (p : ℕ → Bool) (xs ys : List ℕ) → list_all p xs ≡ true → p (slice_index ys 0) ≡ false → prefix_len p (xs ++ ys) ≡ length xs
run_all p [] [] h k = refl
run_all p [] (y ∷ ys) h k = ap (λ b. cond b (1 + prefix_len p ys) 0) k
run_all p (x ∷ xs) ys h k =
    ap (λ b. cond b (1 + prefix_len p (xs ++ ys)) 0) (both_left (p x) (list_all p xs) h)
    ∙ omega (arith, run_all p xs ys (both_right (p x) (list_all p xs) h) k)

pub run_end : (p : ℕ → Bool) (xs : List ℕ) → p 0 ≡ false → p (slice_index (drop (prefix_len p xs) xs) 0) ≡ false
run_end p [] h = h
run_end p (x ∷ xs) h = by_test (p x) refl (run_end p xs h)
  where
    by_test : (b : Bool) → p x ≡ b → p (slice_index (drop (prefix_len p xs) xs) 0) ≡ false → p (slice_index (drop (cond (p x) (1 + prefix_len p xs) 0) (x ∷ xs)) 0) ≡ false
    by_test true e more = rw e (rw one-add more)
    by_test false e more = rw e e

-- ---- what is cut is a cut

-- what stands behind a part: nothing behind a comment, and no byte of a chunk behind a chunk
abbrev pub MayFollow : Part → List ℕ → Type 0
MayFollow (Comment bytes) more = more ≡ []
MayFollow (Chunk bytes) more = is_chunk_byte (slice_index more 0) ≡ false
MayFollow _ more = ⊤

-- the line begins with this part
pub record Begins (line : List ℕ) (p : Part) : Type 0 where
  pub more : List ℕ
  pub whole : line ≡ spelling p ++ more
  pub part : is_part p ≡ true
  pub follows : MayFollow p more

pub all_taken : (p : ℕ → Bool) (xs : List ℕ) → list_all p (take_while p xs) ≡ true
all_taken p [] = refl
all_taken p (x ∷ xs) = by_test (p x) refl (all_taken p xs)
  where
    by_test : (b : Bool) → p x ≡ b → list_all p (take_while p xs) ≡ true → list_all p (take (cond (p x) (1 + prefix_len p xs) 0) (x ∷ xs)) ≡ true
    by_test true e more = rw e (rw one-add (rw e more))
    by_test false e more = rw e refl

quoted_begins : (bytes rest : List ℕ) → list_all is_text_byte bytes ≡ true → IfOk (quoted_part bytes rest) (λ p. Begins (34 ∷ (bytes ++ rest)) p)
quoted_begins bytes [] h = tt
quoted_begins bytes (c ∷ rest) h =
    cond_both (λ r. IfOk r (λ p. Begins (34 ∷ (bytes ++ c ∷ rest)) p)) (c == 34) (Ok (Quoted bytes)) (Err BAD_BYTE)
    (λ e. record {
      more = rest;
      whole = ap (λ d. 34 ∷ (bytes ++ d ∷ rest)) (eqb-true c 34 e) ∙ ap (λ xs. 34 ∷ xs) (sym (append_assoc bytes (34 ∷ []) rest));
      part = h;
      follows = tt;
    })
    (λ _. tt)

plus_begins : (c : ℕ) (cs : List ℕ) → (c == 43 && slice_index cs 0 == 61) ≡ true → Begins (c ∷ cs) (Mark (43 ∷ 61 ∷ []))
plus_begins c [] h = absurd (let e : (slice_index [] 0 == 61) ≡ true = both_right (c == 43) _ h in cc)
plus_begins c (d ∷ cs) h =
    let e : c ≡ 43 = eqb-true c 43 (both_left (c == 43) (d == 61) h) in
    let f : d ≡ 61 = eqb-true d 61 (both_right (c == 43) (d == 61) h) in
    record { more = cs; whole = ap (λ a. a ∷ d ∷ cs) e ∙ ap (λ b. 43 ∷ b ∷ cs) f; part = refl; follows = tt }

pub first_begins : (c : ℕ) (cs : List ℕ) → IfOk (first_part c cs) (λ p. Begins (c ∷ cs) p)
first_begins c cs =
    first_cases (λ r. IfOk r (λ p. Begins (c ∷ cs) p)) c cs
    (λ h. record { more = cs; whole = refl; part = h; follows = tt })
    (λ h. record { more = []; whole = ap (λ d. d ∷ cs) (eqb-true c 35 h) ∙ ap (λ xs. 35 ∷ xs) (sym (append-nil cs)); part = refl; follows = refl })
    (λ h.
    let e : 34 ≡ c = sym (eqb-true c 34 h) in
    let f : take_while is_text_byte cs ++ drop (prefix_len is_text_byte cs) cs ≡ cs = take-append-drop (prefix_len is_text_byte cs) cs in
    let Q : ℕ → Type 0 = λ d. IfOk (quoted_part (take_while is_text_byte cs) (drop (prefix_len is_text_byte cs) cs)) (λ p. Begins (d ∷ cs) p) in
    let R : List ℕ → Type 0 = λ xs. IfOk (quoted_part (take_while is_text_byte cs) (drop (prefix_len is_text_byte cs) cs)) (λ p. Begins (34 ∷ xs) p) in
    subst Q e (subst R f (quoted_begins (take_while is_text_byte cs) (drop (prefix_len is_text_byte cs) cs) (all_taken is_text_byte cs))))
    (λ h. record { more = drop (prefix_len is_chunk_byte cs) cs; whole = ap (λ xs. c ∷ xs) (sym (take-append-drop (prefix_len is_chunk_byte cs) cs)); part = rw h (all_taken is_chunk_byte cs); follows = run_end is_chunk_byte cs refl })
    (λ h. record { more = cs; whole = refl; part = h; follows = tt })
    (λ h. plus_begins c cs h)
    (λ _. tt)

part_some : (p : Part) → is_part p ≡ true → 1 ≤ length (spelling p)
part_some (Space c) h = omega arith
part_some (Comment bytes) h = omega arith
part_some (Quoted bytes) h = omega arith
part_some (Chunk []) h = absurd (cc)
part_some (Chunk (c ∷ cs)) h = omega arith
part_some (Mark []) h = absurd (cc)
part_some (Mark (c ∷ cs)) h = omega arith

chunk_first : (bytes more : List ℕ) → is_part (Chunk bytes) ≡ true → is_chunk_byte (slice_index (bytes ++ more) 0) ≡ true
chunk_first [] more h = absurd (cc)
chunk_first (c ∷ cs) more h = both_left (is_chunk_byte c) (list_all is_chunk_byte cs) h

pub may_precede_is : (p : Part) (more : List ℕ) (parts : List Part) (rest : List ℕ) → MayFollow p more → more ≡ spellings parts ++ rest → are_parts parts ≡ true → may_precede p parts ≡ true
may_precede_is (Space c) more parts rest h k ok = refl
may_precede_is (Comment bytes) more [] rest h k ok = refl
may_precede_is (Comment bytes) more (q ∷ qs) rest h k ok =
    let some : 1 ≤ length (spelling q) = part_some q (both_left (is_part q) (may_precede q qs) (both_left _ (are_parts qs) ok)) in
    let none : length ((spelling q ++ spellings qs) ++ rest) ≡ 0 = ap length (sym k ∙ h) in
    absurd (omega (arith, length-append (spelling q) (spellings qs), length-append (spelling q ++ spellings qs) rest))
may_precede_is (Quoted bytes) more parts rest h k ok = refl
may_precede_is (Chunk bytes) more [] rest h k ok = refl
may_precede_is (Chunk bytes) more (Space c ∷ qs) rest h k ok = refl
may_precede_is (Chunk bytes) more (Comment b ∷ qs) rest h k ok = refl
may_precede_is (Chunk bytes) more (Quoted b ∷ qs) rest h k ok = refl
may_precede_is (Chunk bytes) more (Chunk b ∷ qs) rest h k ok =
    let part : is_part (Chunk b) ≡ true = both_left (is_part (Chunk b)) (may_precede (Chunk b) qs) (both_left _ (are_parts qs) ok) in
    let first : is_chunk_byte (slice_index (b ++ (spellings qs ++ rest)) 0) ≡ true = chunk_first b (spellings qs ++ rest) part in
    let same : is_chunk_byte (slice_index more 0) ≡ is_chunk_byte (slice_index (b ++ (spellings qs ++ rest)) 0) = ap (λ xs. is_chunk_byte (slice_index xs 0)) (k ∙ append_assoc b (spellings qs) rest) in
    absurd (cc)
may_precede_is (Chunk bytes) more (Mark b ∷ qs) rest h k ok = refl
may_precede_is (Mark bytes) more parts rest h k ok = refl

pub if_bind : {A B E : Type 0} (P : B → Type 0) (r : Result A E) (f : A → Result B E) → ((x : A) → r ≡ Ok x → IfOk (f x) P) → IfOk (r >>= f) P
if_bind P (Ok x) f h = h x refl
if_bind P (Err e) f h = tt

pub with_begin : (line : List ℕ) (p : Part) (parts : List Part) (b : Begins line p) → LineCut (drop (length (spelling p)) line) parts → LineCut line (p ∷ parts)
with_begin line p parts b k =
    let rest : drop (length (spelling p)) line ≡ b.more = ap (drop (length (spelling p))) b.whole ∙ drop-append_seam (spelling p) b.more in
    let more : b.more ≡ spellings parts = sym rest ∙ k.0 in
    let before : may_precede p parts ≡ true = may_precede_is p b.more parts [] b.follows (more ∙ sym (append-nil (spellings parts))) k.1 in
    let part : is_part p ≡ true = b.part in
    let others : are_parts parts ≡ true = k.1 in
    (b.whole ∙ ap (λ xs. spelling p ++ xs) more, rw (part, before, others) refl)

sound_within : (n : ℕ) (line : List ℕ) → length line ≤ n → IfOk (parts_within n line) (λ parts. LineCut line parts)
unfolding parts_within
sound_within zero [] h = (refl, refl)
sound_within zero (c ∷ cs) h = absurd (omega arith)
sound_within (suc n) [] h = (refl, refl)
sound_within (suc n) (c ∷ cs) h =
    if_bind (λ parts. LineCut (c ∷ cs) parts) (first_part c cs) _ (λ p e.
    let b : Begins (c ∷ cs) p = ok_is (λ q. Begins (c ∷ cs) q) (first_part c cs) p (first_begins c cs) e in
    let some : 1 ≤ length (spelling p) = ok_is (λ q. 1 ≤ length (spelling q)) (first_part c cs) p (first_len c cs) e in
    let fewer : length (drop (length (spelling p)) (c ∷ cs)) ≤ n = omega (arith, length-drop (length (spelling p)) (c ∷ cs)) in
    if_bind (λ parts. LineCut (c ∷ cs) parts) (parts_within n (drop (length (spelling p)) (c ∷ cs))) _ (λ parts k.
    with_begin (c ∷ cs) p parts b (ok_is (λ ps. LineCut (drop (length (spelling p)) (c ∷ cs)) ps) _ parts (sound_within n (drop (length (spelling p)) (c ∷ cs)) fewer) k)))

-- the function gives a cut
pub parts_sound : (line : List ℕ) (parts : List Part) → parts_of line ≡ Ok parts → LineCut line parts
parts_sound line parts e = ok_is (λ ps. LineCut line ps) (parts_of line) parts (sound_within (length line) line (omega arith)) e
