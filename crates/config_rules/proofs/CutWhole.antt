-- Every cut and every fault of a line is the one that the function finds.
use Rattle.std.proofs.Common.{◌≡◌, ℕ, zero, suc, ◌≤◌, inl, inr, true, false, ◌&&◌, ◌||◌, List, [], ◌∷◌, ◌++◌, length, take, drop, refl, ap, sym, ◌∙◌, subst, arith, Result, Ok, Err, length-append, length-drop, append_assoc, append-nil}
use Rattle.std.specs.Prelude.{IfErr, ◌==◌, take_while, slice_index, ⊤}
use Rattle.std.specs.List.{prefix_len, list_all, list_any}
use Rattle.std.proofs.lemmas.Bool.{eqb-true, or_parts}
use Rattle.std.proofs.lemmas.List.{take-append-drop}
use Rattle.std.proofs.Math.Seq.{take-append_seam, drop-append_seam}
use Rattle.cf_types.specs.declared.code.configuration.TheConstants.{BAD_BYTE}
use Rattle.config_rules.specs.Cut.{Part, Space, Comment, Quoted, Chunk, Mark, spelling, spellings, is_part, may_precede, are_parts, is_space, is_chunk_byte, is_text_byte, is_mark_byte, is_comment, begins_part, quoted_part, first_part, parts_within, parts_of, ◌>>=◌, LineCut, LineFault, Stuck, NoQuote}
use Rattle.config_rules.proofs.Parts.{cond_both, first_cases, first_len, ok_is, parts_step}
use Rattle.config_rules.proofs.CutLaws.{both_left, both_right, space_no_chunk, chunk_no_space, chunk_is_not, mark_is, run_all, MayFollow, Begins, first_begins, all_taken, run_end, may_precede_is}

-- ---- a part at the front is found

one_step : (c : ℕ) (cs more : List ℕ) (p : Part) → first_part c cs ≡ Ok p → c ∷ cs ≡ spelling p ++ more → parts_of (c ∷ cs) ≡ (parts_of more >>= λ parts. Ok (p ∷ parts))
one_step c cs more p e whole =
    parts_step c cs ∙ ap (λ r. r >>= λ part. parts_of (drop (length (spelling part)) (c ∷ cs)) >>= λ parts. Ok (part ∷ parts)) e
    ∙ ap (λ xs. parts_of xs >>= λ parts. Ok (p ∷ parts)) (ap (drop (length (spelling p))) whole ∙ drop-append_seam (spelling p) more)

quoted_found : (bytes more : List ℕ) → list_all is_text_byte bytes ≡ true → quoted_part (take_while is_text_byte (bytes ++ 34 ∷ more)) (drop (prefix_len is_text_byte (bytes ++ 34 ∷ more)) (bytes ++ 34 ∷ more)) ≡ Ok (Quoted bytes)
quoted_found bytes more h =
    let len : prefix_len is_text_byte (bytes ++ 34 ∷ more) ≡ length bytes = run_all is_text_byte bytes (34 ∷ more) h refl in
    ap (λ n. quoted_part (take n (bytes ++ 34 ∷ more)) (drop n (bytes ++ 34 ∷ more))) len
    ∙ ap (λ xs. quoted_part xs (drop (length bytes) (bytes ++ 34 ∷ more))) (take-append_seam bytes (34 ∷ more))
    ∙ ap (quoted_part bytes) (drop-append_seam bytes (34 ∷ more))

chunk_found : (c : ℕ) (bytes more : List ℕ) → is_chunk_byte c ≡ true → list_all is_chunk_byte bytes ≡ true → is_chunk_byte (slice_index more 0) ≡ false → first_part c (bytes ++ more) ≡ Ok (Chunk (c ∷ bytes))
chunk_found c bytes more h k follows =
    let space : is_space c ≡ false = chunk_no_space c h in
    let comment : (c == 35) ≡ false = chunk_is_not c 35 refl h in
    let quote : (c == 34) ≡ false = chunk_is_not c 34 refl h in
    let len : prefix_len is_chunk_byte (bytes ++ more) ≡ length bytes = run_all is_chunk_byte bytes more k follows in
    rw (space, comment, quote, h) (ap (λ n. Ok (Chunk (c ∷ take n (bytes ++ more)))) len ∙ ap (λ xs. Ok (Chunk (c ∷ xs))) (take-append_seam bytes more))

mark_found : (c : ℕ) (more : List ℕ) → is_mark_byte c ≡ true → first_part c more ≡ Ok (Mark (c ∷ []))
mark_found c more h =
    let space : is_space c ≡ false = mark_is is_space c refl h in
    let comment : (c == 35) ≡ false = mark_is (λ m. m == 35) c refl h in
    let quote : (c == 34) ≡ false = mark_is (λ m. m == 34) c refl h in
    let chunk : is_chunk_byte c ≡ false = mark_is is_chunk_byte c refl h in
    rw (space, comment, quote, chunk, h) refl

pub part_found : (p : Part) (more : List ℕ) → is_part p ≡ true → MayFollow p more → parts_of (spelling p ++ more) ≡ (parts_of more >>= λ parts. Ok (p ∷ parts))
part_found (Space c) more h follows = one_step c more more (Space c) (rw h refl) refl
part_found (Comment bytes) more h follows =
    one_step 35 (bytes ++ more) more (Comment bytes) (ap (λ xs. Ok (Comment (bytes ++ xs))) follows ∙ ap (λ xs. Ok (Comment xs)) (append-nil bytes)) refl
part_found (Quoted bytes) more h follows =
    let e : (bytes ++ 34 ∷ []) ++ more ≡ bytes ++ 34 ∷ more = append_assoc bytes (34 ∷ []) more in
    ap (λ xs. parts_of (34 ∷ xs)) e
    ∙ one_step 34 (bytes ++ 34 ∷ more) more (Quoted bytes) (quoted_found bytes more h) (ap (λ xs. 34 ∷ xs) (sym e))
part_found (Chunk []) more h follows = absurd (cc)
part_found (Chunk (c ∷ bytes)) more h follows =
    one_step c (bytes ++ more) more (Chunk (c ∷ bytes)) (chunk_found c bytes more (both_left (is_chunk_byte c) _ h) (both_right (is_chunk_byte c) (list_all is_chunk_byte bytes) h) follows) refl
part_found (Mark []) more h follows = absurd (cc)
part_found (Mark (c ∷ [])) more h follows = one_step c more more (Mark (c ∷ [])) (mark_found c more h) refl
part_found (Mark (c ∷ d ∷ [])) more h follows =
    let e : c ≡ 43 = eqb-true c 43 (both_left (c == 43) (d == 61) h) in
    let f : d ≡ 61 = eqb-true d 61 (both_right (c == 43) (d == 61) h) in
    let P : ℕ → Type 0 = λ a. parts_of (a ∷ d ∷ more) ≡ (parts_of more >>= λ parts. Ok (Mark (a ∷ d ∷ []) ∷ parts)) in
    let Q : ℕ → Type 0 = λ b. parts_of (43 ∷ b ∷ more) ≡ (parts_of more >>= λ parts. Ok (Mark (43 ∷ b ∷ []) ∷ parts)) in
    subst P (sym e) (subst Q (sym f) (one_step 43 (61 ∷ more) more (Mark (43 ∷ 61 ∷ [])) refl refl))
part_found (Mark (c ∷ d ∷ a ∷ rest)) more h follows = absurd (cc)

-- ---- so are all parts at the front

-- what stands behind the last part
abbrev pub MayEnd : List Part → List ℕ → Type 0
MayEnd [] rest = ⊤
MayEnd (p ∷ []) rest = MayFollow p rest
MayEnd (p ∷ q ∷ ps) rest = MayEnd (q ∷ ps) rest

no_chunk_first : (q : Part) (xs : List ℕ) → is_part q ≡ true → may_precede (Chunk []) (q ∷ []) ≡ true → is_chunk_byte (slice_index (spelling q ++ xs) 0) ≡ false
no_chunk_first (Space c) xs h k = space_no_chunk c h
no_chunk_first (Comment bytes) xs h k = refl
no_chunk_first (Quoted bytes) xs h k = refl
no_chunk_first (Chunk bytes) xs h k = absurd (cc)
no_chunk_first (Mark []) xs h k = absurd (cc)
no_chunk_first (Mark (c ∷ [])) xs h k = mark_is is_chunk_byte c refl h
no_chunk_first (Mark (c ∷ d ∷ [])) xs h k = ap is_chunk_byte (eqb-true c 43 (both_left (c == 43) (d == 61) h))
no_chunk_first (Mark (c ∷ d ∷ a ∷ rest)) xs h k = absurd (cc)

follows_part : (p q : Part) (ps : List Part) (rest : List ℕ) → is_part q ≡ true → may_precede p (q ∷ ps) ≡ true → MayFollow p (spellings (q ∷ ps) ++ rest)
follows_part (Space c) q ps rest h k = tt
follows_part (Comment bytes) q ps rest h k = absurd (cc)
follows_part (Quoted bytes) q ps rest h k = tt
follows_part (Chunk bytes) (Chunk more) ps rest h k = absurd (cc)
follows_part (Chunk bytes) (Space c) ps rest h k = no_chunk_first (Space c) (spellings ps ++ rest) h refl
follows_part (Chunk bytes) (Comment b) ps rest h k = refl
follows_part (Chunk bytes) (Quoted b) ps rest h k = refl
follows_part (Chunk bytes) (Mark b) ps rest h k =
    ap (λ xs. is_chunk_byte (slice_index xs 0)) (append_assoc b (spellings ps) rest) ∙ no_chunk_first (Mark b) (spellings ps ++ rest) h refl
follows_part (Mark bytes) q ps rest h k = tt

bind_more : (p : Part) (ps : List Part) (r : Result (List Part) ℕ) → ((r >>= λ more. Ok (ps ++ more)) >>= λ parts. Ok (p ∷ parts)) ≡ (r >>= λ more. Ok (p ∷ ps ++ more))
bind_more p ps (Ok more) = refl
bind_more p ps (Err code) = refl

bind_none : (r : Result (List Part) ℕ) → r ≡ (r >>= λ more. Ok ([] ++ more))
bind_none (Ok more) = refl
bind_none (Err code) = refl

pub parts_found : (parts : List Part) (rest : List ℕ) → are_parts parts ≡ true → MayEnd parts rest → parts_of (spellings parts ++ rest) ≡ (parts_of rest >>= λ more. Ok (parts ++ more))
parts_found [] rest h k = bind_none (parts_of rest)
parts_found (p ∷ []) rest h k =
    ap (λ xs. parts_of (xs ++ rest)) (append-nil (spelling p))
    ∙ part_found p rest (both_left (is_part p) _ (both_left _ true h)) k
parts_found (p ∷ q ∷ ps) rest h k =
    let here : (is_part p && may_precede p (q ∷ ps)) ≡ true = both_left _ (are_parts (q ∷ ps)) h in
    let later : are_parts (q ∷ ps) ≡ true = both_right (is_part p && may_precede p (q ∷ ps)) _ h in
    let next : is_part q ≡ true = both_left (is_part q) (may_precede q ps) (both_left _ (are_parts ps) later) in
    ap parts_of (append_assoc (spelling p) (spellings (q ∷ ps)) rest)
    ∙ part_found p (spellings (q ∷ ps) ++ rest) (both_left (is_part p) _ here) (follows_part p q ps rest next (both_right (is_part p) _ here))
    ∙ ap (λ r. r >>= λ parts. Ok (p ∷ parts)) (parts_found (q ∷ ps) rest later k)
    ∙ bind_more p (q ∷ ps) (parts_of rest)

end_of_line : (parts : List Part) → MayEnd parts []
end_of_line [] = tt
end_of_line (Space c ∷ []) = tt
end_of_line (Comment b ∷ []) = refl
end_of_line (Quoted b ∷ []) = tt
end_of_line (Chunk b ∷ []) = refl
end_of_line (Mark b ∷ []) = tt
end_of_line (p ∷ q ∷ ps) = end_of_line (q ∷ ps)

-- a cut is the one that the function gives
pub parts_only : (line : List ℕ) (parts : List Part) → LineCut line parts → parts_of line ≡ Ok parts
unfolding parts_within
parts_only line parts k =
    ap parts_of (k.0 ∙ sym (append-nil (spellings parts))) ∙ parts_found parts [] k.1 (end_of_line parts) ∙ ap Ok (append-nil parts)

-- ---- a fault

none_first : (c : ℕ) (more : List ℕ) → begins_part c more ≡ false → first_part c more ≡ Err BAD_BYTE
none_first c more h =
    let a = or_parts ((((is_space c || c == 35) || c == 34) || is_chunk_byte c) || is_mark_byte c) (c == 43 && slice_index more 0 == 61) h in
    let b = or_parts (((is_space c || c == 35) || c == 34) || is_chunk_byte c) (is_mark_byte c) a.0 in
    let d = or_parts ((is_space c || c == 35) || c == 34) (is_chunk_byte c) b.0 in
    let e = or_parts (is_space c || c == 35) (c == 34) d.0 in
    let f = or_parts (is_space c) (c == 35) e.0 in
    rw (f.0, f.1, e.1, d.1, b.1, a.1) refl

not_text : (more : List ℕ) (code : ℕ) → NoQuote more code → is_text_byte (slice_index more 0) ≡ false
not_text [] code h = refl
not_text (c ∷ more) code h = h.1

no_quote : (bytes more : List ℕ) (code : ℕ) → NoQuote more code → quoted_part bytes more ≡ Err code
no_quote bytes [] code h = ap Err (sym h)
no_quote bytes (c ∷ more) code h = rw h.0 (ap Err (sym h.2))

open_first : (bytes more : List ℕ) (code : ℕ) → list_all is_text_byte bytes ≡ true → NoQuote more code → first_part 34 (bytes ++ more) ≡ Err code
open_first bytes more code h k =
    let len : prefix_len is_text_byte (bytes ++ more) ≡ length bytes = run_all is_text_byte bytes more h (not_text more code k) in
    ap (λ n. quoted_part (take n (bytes ++ more)) (drop n (bytes ++ more))) len
    ∙ ap (λ xs. quoted_part xs (drop (length bytes) (bytes ++ more))) (take-append_seam bytes more)
    ∙ ap (quoted_part bytes) (drop-append_seam bytes more)
    ∙ no_quote bytes more code k

stuck_err : (rest : List ℕ) (code : ℕ) → Stuck rest code → parts_of rest ≡ Err code
stuck_err rest code (inl s) =
    ap parts_of s.2 ∙ parts_step s.0 s.1 ∙ ap (λ r. r >>= λ part. parts_of (drop (length (spelling part)) (s.0 ∷ s.1)) >>= λ parts. Ok (part ∷ parts)) (none_first s.0 s.1 s.3) ∙ ap Err (sym s.4)
stuck_err rest code (inr s) =
    ap parts_of s.2 ∙ parts_step 34 (s.0 ++ s.1) ∙ ap (λ r. r >>= λ part. parts_of (drop (length (spelling part)) (34 ∷ (s.0 ++ s.1))) >>= λ parts. Ok (part ∷ parts)) (open_first s.0 s.1 code s.3 s.4)

stuck_first : (rest : List ℕ) (code : ℕ) → Stuck rest code → is_chunk_byte (slice_index rest 0) ≡ false
stuck_first rest code (inl s) =
    let a = or_parts ((((is_space s.0 || s.0 == 35) || s.0 == 34) || is_chunk_byte s.0) || is_mark_byte s.0) (s.0 == 43 && slice_index s.1 0 == 61) s.3 in
    let b = or_parts (((is_space s.0 || s.0 == 35) || s.0 == 34) || is_chunk_byte s.0) (is_mark_byte s.0) a.0 in
    let d = or_parts ((is_space s.0 || s.0 == 35) || s.0 == 34) (is_chunk_byte s.0) b.0 in
    ap (λ xs. is_chunk_byte (slice_index xs 0)) s.2 ∙ d.1
stuck_first rest code (inr s) = ap (λ xs. is_chunk_byte (slice_index xs 0)) s.2

end_stuck : (parts : List Part) (rest : List ℕ) → list_any is_comment parts ≡ false → is_chunk_byte (slice_index rest 0) ≡ false → MayEnd parts rest
end_stuck [] rest h k = tt
end_stuck (Space c ∷ []) rest h k = tt
end_stuck (Comment b ∷ []) rest h k = absurd (cc)
end_stuck (Quoted b ∷ []) rest h k = tt
end_stuck (Chunk b ∷ []) rest h k = k
end_stuck (Mark b ∷ []) rest h k = tt
end_stuck (p ∷ q ∷ ps) rest h k = let e = or_parts (is_comment p) (list_any is_comment (q ∷ ps)) h in end_stuck (q ∷ ps) rest e.1 k

-- a fault is the one that the function gives
pub fault_only : (line : List ℕ) (code : ℕ) → LineFault line code → parts_of line ≡ Err code
fault_only line code f =
    ap parts_of f.whole ∙ parts_found f.parts f.rest f.cut (end_stuck f.parts f.rest f.outside (stuck_first f.rest code f.stuck))
    ∙ ap (λ r. r >>= λ more. Ok (f.parts ++ more)) (stuck_err f.rest code f.stuck)

quoted_stuck : (bytes rest : List ℕ) → list_all is_text_byte bytes ≡ true → is_text_byte (slice_index rest 0) ≡ false → IfErr (quoted_part bytes rest) (λ code. Stuck (34 ∷ (bytes ++ rest)) code)
quoted_stuck bytes [] h k = inr (bytes, [], refl, h, refl)
quoted_stuck bytes (c ∷ rest) h k =
    cond_both (λ r. IfErr r (λ code. Stuck (34 ∷ (bytes ++ c ∷ rest)) code)) (c == 34) (Ok (Quoted bytes)) (Err BAD_BYTE)
    (λ _. tt) (λ e. inr (bytes, c ∷ rest, refl, h, (e, k, refl)))

first_stuck : (c : ℕ) (cs : List ℕ) → IfErr (first_part c cs) (λ code. Stuck (c ∷ cs) code)
first_stuck c cs =
    first_cases (λ r. IfErr r (λ code. Stuck (c ∷ cs) code)) c cs (λ _. tt) (λ _. tt)
    (λ h.
    let bytes = take_while is_text_byte cs in
    let rest = drop (prefix_len is_text_byte cs) cs in
    let e : 34 ≡ c = sym (eqb-true c 34 h) in
    let f : bytes ++ rest ≡ cs = take-append-drop (prefix_len is_text_byte cs) cs in
    let Q : ℕ → Type 0 = λ d. IfErr (quoted_part bytes rest) (λ code. Stuck (d ∷ cs) code) in
    let R : List ℕ → Type 0 = λ xs. IfErr (quoted_part bytes rest) (λ code. Stuck (34 ∷ xs) code) in
    subst Q e (subst R f (quoted_stuck bytes rest (all_taken is_text_byte cs) (run_end is_text_byte cs refl))))
    (λ _. tt) (λ _. tt) (λ _. tt) (λ h. inl (c, cs, refl, h, refl))

pub err_bind : {A B E : Type 0} (P : E → Type 0) (r : Result A E) (f : A → Result B E) → IfErr r P → ((x : A) → r ≡ Ok x → IfErr (f x) P) → IfErr (r >>= f) P
err_bind P (Ok x) f h k = k x refl
err_bind P (Err e) f h k = h

err_more : {A B E : Type 0} (P Q : E → Type 0) (r : Result A E) (f : A → B) → ((e : E) → P e → Q e) → IfErr r P → IfErr (r >>= λ x. Ok (f x)) Q
err_more P Q (Ok x) f h k = tt
err_more P Q (Err e) f h k = h e k

stuck_some : (rest : List ℕ) (code : ℕ) → Stuck rest code → 1 ≤ length rest
stuck_some rest code (inl s) = omega (arith, ap length s.2)
stuck_some rest code (inr s) = omega (arith, ap length s.2)

no_comment : (p : Part) (more : List ℕ) → MayFollow p more → 1 ≤ length more → is_comment p ≡ false
no_comment (Space c) more h k = refl
no_comment (Comment b) more h k = absurd (omega (arith, ap length h))
no_comment (Quoted b) more h k = refl
no_comment (Chunk b) more h k = refl
no_comment (Mark b) more h k = refl

fault_behind : (line : List ℕ) (p : Part) (code : ℕ) → Begins line p → LineFault (drop (length (spelling p)) line) code → LineFault line code
fault_behind line p code b f =
    let rest : drop (length (spelling p)) line ≡ b.more = ap (drop (length (spelling p))) b.whole ∙ drop-append_seam (spelling p) b.more in
    let more : b.more ≡ spellings f.parts ++ f.rest = sym rest ∙ f.whole in
    let some : 1 ≤ length b.more = omega (arith, ap length more, length-append (spellings f.parts) f.rest, stuck_some f.rest code f.stuck) in
    let before : may_precede p f.parts ≡ true = may_precede_is p b.more f.parts f.rest b.follows more f.cut in
    let part : is_part p ≡ true = b.part in
    let others : are_parts f.parts ≡ true = f.cut in
    let here : is_comment p ≡ false = no_comment p b.more b.follows some in
    let later : list_any is_comment f.parts ≡ false = f.outside in
    record {
      parts = p ∷ f.parts;
      rest = f.rest;
      whole = b.whole ∙ ap (λ xs. spelling p ++ xs) more ∙ sym (append_assoc (spelling p) (spellings f.parts) f.rest);
      cut = rw (part, before, others) refl;
      outside = rw (here, later) refl;
      stuck = f.stuck;
    }

fault_within : (n : ℕ) (line : List ℕ) → length line ≤ n → IfErr (parts_within n line) (λ code. LineFault line code)
unfolding parts_within
fault_within zero line h = tt
fault_within (suc n) [] h = tt
fault_within (suc n) (c ∷ cs) h =
    err_bind (λ code. LineFault (c ∷ cs) code) (first_part c cs) _ (first_fault (first_part c cs) (first_stuck c cs)) (λ p e.
    let b : Begins (c ∷ cs) p = ok_is (λ q. Begins (c ∷ cs) q) (first_part c cs) p (first_begins c cs) e in
    let some : 1 ≤ length (spelling p) = ok_is (λ q. 1 ≤ length (spelling q)) (first_part c cs) p (first_len c cs) e in
    let fewer : length (drop (length (spelling p)) (c ∷ cs)) ≤ n = omega (arith, length-drop (length (spelling p)) (c ∷ cs)) in
    err_more (λ code. LineFault (drop (length (spelling p)) (c ∷ cs)) code) (λ code. LineFault (c ∷ cs) code) (parts_within n (drop (length (spelling p)) (c ∷ cs))) (λ parts. p ∷ parts)
    (λ code. fault_behind (c ∷ cs) p code b) (fault_within n (drop (length (spelling p)) (c ∷ cs)) fewer))
  where
    first_fault : (r : Result Part ℕ) → IfErr r (λ code. Stuck (c ∷ cs) code) → IfErr r (λ code. LineFault (c ∷ cs) code)
    first_fault (Ok p) s = tt
    first_fault (Err code) s = record { parts = []; rest = c ∷ cs; whole = refl; cut = refl; outside = refl; stuck = s }

pub err_is : {A E : Type 0} (P : E → Type 0) (r : Result A E) (x : E) → IfErr r P → r ≡ Err x → P x
err_is {A} {E} P r x h e = let Q : Result A E → Type 0 = λ s. IfErr s P in subst Q e h

-- the function gives a fault
pub fault_sound : (line : List ℕ) (code : ℕ) → parts_of line ≡ Err code → LineFault line code
fault_sound line code e = err_is (λ k. LineFault line k) (parts_of line) code (fault_within (length line) line (omega arith)) e
