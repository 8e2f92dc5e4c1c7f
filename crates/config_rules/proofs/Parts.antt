-- The parts of a line, one after the other.
use Rattle.std.proofs.Common.{◌≡◌, ℕ, zero, suc, ◌≤◌, Bool, true, false, cond, ◌&&◌, ◌||◌, List, [], ◌∷◌, length, drop, refl, ap, subst, arith, Result, Ok, Err, length-drop}
use Rattle.std.specs.Prelude.{IfOk, ◌==◌, take_while, slice_index}
use Rattle.std.specs.List.{prefix_len}
use Rattle.cf_types.specs.declared.code.configuration.TheConstants.{BAD_BYTE}
use Rattle.config_rules.specs.Cut.{Part, Space, Comment, Quoted, Chunk, Mark, spelling, is_space, is_chunk_byte, is_text_byte, is_mark_byte, begins_part, quoted_part, first_part, parts_within, parts_of, ◌>>=◌}

pub cond_both : {A : Type 0} (Q : A → Type 0) (b : Bool) (x y : A) → (b ≡ true → Q x) → (b ≡ false → Q y) → Q (cond b x y)
cond_both Q true x y f g = f refl
cond_both Q false x y f g = g refl

none_begins : (a b d e f g : Bool) → a ≡ false → b ≡ false → d ≡ false → e ≡ false → f ≡ false → g ≡ false → (a || b || d || e || f || g) ≡ false
none_begins a b d e f g p q r s t u = rw (p, q, r, s, t, u) refl

-- a fact of the first part, case by case
pub first_cases : (Q : Result Part ℕ → Type 0) (c : ℕ) (cs : List ℕ)
    → (is_space c ≡ true → Q (Ok (Space c)))
    → ((c == 35) ≡ true → Q (Ok (Comment cs)))
    → ((c == 34) ≡ true → Q (quoted_part (take_while is_text_byte cs) (drop (prefix_len is_text_byte cs) cs)))
    → (is_chunk_byte c ≡ true → Q (Ok (Chunk (c ∷ take_while is_chunk_byte cs))))
    → (is_mark_byte c ≡ true → Q (Ok (Mark (c ∷ []))))
    → ((c == 43 && slice_index cs 0 == 61) ≡ true → Q (Ok (Mark (43 ∷ 61 ∷ []))))
    → (begins_part c cs ≡ false → Q (Err BAD_BYTE))
    → Q (first_part c cs)
first_cases Q c cs space comment quote chunk mark plus none =
    cond_both Q (is_space c) _ _ space (λ a.
    cond_both Q (c == 35) _ _ comment (λ b.
    cond_both Q (c == 34) _ _ quote (λ d.
    cond_both Q (is_chunk_byte c) _ _ chunk (λ e.
    cond_both Q (is_mark_byte c) _ _ mark (λ f.
    cond_both Q (c == 43 && slice_index cs 0 == 61) _ _ plus (λ g.
    none (none_begins _ _ _ _ _ _ a b d e f g)))))))

-- what a step gives, if it gives something
pub bind_same : {A B E : Type 0} (r : Result A E) (f g : A → Result B E) → ((x : A) → r ≡ Ok x → f x ≡ g x) → (r >>= f) ≡ (r >>= g)
bind_same (Ok x) f g h = h x refl
bind_same (Err e) f g h = refl

pub ok_is : {A E : Type 0} (P : A → Type 0) (r : Result A E) (x : A) → IfOk r P → r ≡ Ok x → P x
ok_is {A} {E} P r x h e = let Q : Result A E → Type 0 = λ s. IfOk s P in subst Q e h

quoted_len : (bytes rest : List ℕ) → IfOk (quoted_part bytes rest) (λ p. 1 ≤ length (spelling p))
quoted_len bytes [] = tt
quoted_len bytes (c ∷ rest) =
    cond_both (λ r. IfOk r (λ p. 1 ≤ length (spelling p))) (c == 34) (Ok (Quoted bytes)) (Err BAD_BYTE) (λ _. omega arith) (λ _. tt)

-- no part is empty
pub first_len : (c : ℕ) (cs : List ℕ) → IfOk (first_part c cs) (λ p. 1 ≤ length (spelling p))
first_len c cs =
    first_cases (λ r. IfOk r (λ p. 1 ≤ length (spelling p))) c cs (λ _. omega arith) (λ _. omega arith) (λ _. quoted_len (take_while is_text_byte cs) (drop (prefix_len is_text_byte cs) cs)) (λ _. omega arith) (λ _. omega arith) (λ _. omega arith) (λ _. tt)

-- more steps than bytes change nothing
pub parts_enough : (m n : ℕ) (cs : List ℕ) → length cs ≤ m → length cs ≤ n → parts_within m cs ≡ parts_within n cs
unfolding parts_within
parts_enough zero zero cs h k = refl
parts_enough zero (suc n) [] h k = refl
parts_enough zero (suc n) (c ∷ cs) h k = absurd (omega arith)
parts_enough (suc m) zero [] h k = refl
parts_enough (suc m) zero (c ∷ cs) h k = absurd (omega arith)
parts_enough (suc m) (suc n) [] h k = refl
parts_enough (suc m) (suc n) (c ∷ cs) h k =
    bind_same (first_part c cs) _ _ (λ part e.
    let some : 1 ≤ length (spelling part) = ok_is _ _ part (first_len c cs) e in
    let fewer : length (drop (length (spelling part)) (c ∷ cs)) ≤ length cs = omega (arith, length-drop (length (spelling part)) (c ∷ cs)) in
    ap (λ r. r >>= λ parts. Ok (part ∷ parts)) (parts_enough m n (drop (length (spelling part)) (c ∷ cs)) (omega arith) (omega arith)))

-- the first part and the parts of the rest
pub parts_step : (c : ℕ) (cs : List ℕ) → parts_of (c ∷ cs) ≡ (first_part c cs >>= λ part. parts_of (drop (length (spelling part)) (c ∷ cs)) >>= λ parts. Ok (part ∷ parts))
unfolding parts_within
parts_step c cs =
    bind_same (first_part c cs) _ _ (λ part e.
    let some : 1 ≤ length (spelling part) = ok_is _ _ part (first_len c cs) e in
    let fewer : length (drop (length (spelling part)) (c ∷ cs)) ≤ length cs = omega (arith, length-drop (length (spelling part)) (c ∷ cs)) in
    ap (λ r. r >>= λ parts. Ok (part ∷ parts)) (parts_enough (length cs) (length (drop (length (spelling part)) (c ∷ cs))) (drop (length (spelling part)) (c ∷ cs)) fewer (omega arith)))
