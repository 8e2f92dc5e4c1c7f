-- Where a text is cut.
use Rattle.std.proofs.Common.{◌≡◌, ℕ, zero, suc, ◌+◌, ◌<◌, ◌==◌, Bool, true, false, cond, List, [], ◌∷◌, ◌++◌, length, take, drop, get_or, refl, ap, arith, eq-eqb}
use Rattle.std.specs.List.{list_any}
use Rattle.std.proofs.lemmas.Bool.{ne_eqb}
use Rattle.dev_event.specs.Reading.{before, behind, onto_first, pieces}

-- no byte is the mark
abbrev pub Lacks : ℕ → List ℕ → Type 0
Lacks m [] = Unit {0}
Lacks m (c ∷ cs) = ((c == m) ≡ false) × Lacks m cs

same : (m : ℕ) → (m == m) ≡ true
same m = eq-eqb m m refl

-- ---- at the first mark

pub before_mark : (m : ℕ) (w rest : List ℕ) → Lacks m w → before m (w ++ m ∷ rest) ≡ w
before_mark m [] rest lacks = rw (same m) refl
before_mark m (c ∷ w) rest lacks = rw lacks.0 (ap (λ cs. c ∷ cs) (before_mark m w rest lacks.1))

pub behind_mark : (m : ℕ) (w rest : List ℕ) → Lacks m w → behind m (w ++ m ∷ rest) ≡ rest
behind_mark m [] rest lacks = rw (same m) refl
behind_mark m (c ∷ w) rest lacks = rw lacks.0 (behind_mark m w rest lacks.1)

-- what lacks the mark is passed
pub behind_over : (m : ℕ) (w rest : List ℕ) → Lacks m w → behind m (w ++ rest) ≡ behind m rest
behind_over m [] rest lacks = refl
behind_over m (c ∷ w) rest lacks = rw lacks.0 (behind_over m w rest lacks.1)

pub before_over : (m : ℕ) (w rest : List ℕ) → Lacks m w → before m (w ++ rest) ≡ w ++ before m rest
before_over m [] rest lacks = refl
before_over m (c ∷ w) rest lacks = rw lacks.0 (ap (λ cs. c ∷ cs) (before_over m w rest lacks.1))

pub before_all : (m : ℕ) (w : List ℕ) → Lacks m w → before m w ≡ w
before_all m [] lacks = refl
before_all m (c ∷ w) lacks = rw lacks.0 (ap (λ cs. c ∷ cs) (before_all m w lacks.1))

-- ---- pieces

pub pieces_word : (w rest : List ℕ) → Lacks 32 w → pieces (w ++ 32 ∷ rest) ≡ w ∷ pieces rest
pieces_word [] rest lacks = refl
pieces_word (c ∷ w) rest lacks = rw lacks.0 (ap (onto_first c) (pieces_word w rest lacks.1))

pub pieces_end : (w : List ℕ) → Lacks 32 w → pieces w ≡ w ∷ []
pieces_end [] lacks = refl
pieces_end (c ∷ w) lacks = rw lacks.0 (ap (onto_first c) (pieces_end w lacks.1))

-- ---- by the place of the mark

pub before_at : (m : ℕ) (text : List ℕ) (i : ℕ) → i < length text → ((k : ℕ) → k < i → get_or text k 0 ≡ m → ⊥) → get_or text i 0 ≡ m → take i text ≡ before m text
before_at m [] i lt none here = absurd (omega arith)
before_at m (c ∷ cs) zero lt none here = rw (eq-eqb c m here) refl
before_at m (c ∷ cs) (suc i) lt none here =
    rw (ne_eqb c m (none 0 (omega arith))) (ap (λ ys. c ∷ ys) (before_at m cs i (omega arith) (λ k less. none (suc k) (omega arith)) here))

pub behind_at : (m : ℕ) (text : List ℕ) (i : ℕ) → i < length text → ((k : ℕ) → k < i → get_or text k 0 ≡ m → ⊥) → get_or text i 0 ≡ m → drop (i + 1) text ≡ behind m text
behind_at m [] i lt none here = absurd (omega arith)
behind_at m (c ∷ cs) zero lt none here = rw (eq-eqb c m here) refl
behind_at m (c ∷ cs) (suc i) lt none here =
    let next : suc i + 1 ≡ suc (i + 1) = omega arith in
    rw (ne_eqb c m (none 0 (omega arith)), next) (behind_at m cs i (omega arith) (λ k less. none (suc k) (omega arith)) here)

pub before_none : (m : ℕ) (text : List ℕ) → ((k : ℕ) → k < length text → get_or text k 0 ≡ m → ⊥) → text ≡ before m text
before_none m [] none = refl
before_none m (c ∷ cs) none = rw (ne_eqb c m (none 0 (omega arith))) (ap (λ ys. c ∷ ys) (before_none m cs (λ k less. none (suc k) (omega arith))))

pub behind_none : (m : ℕ) (text : List ℕ) → ((k : ℕ) → k < length text → get_or text k 0 ≡ m → ⊥) → [] ≡ behind m text
behind_none m [] none = refl
behind_none m (c ∷ cs) none = rw (ne_eqb c m (none 0 (omega arith))) (behind_none m cs (λ k less. none (suc k) (omega arith)))

-- ---- by the first blank, if there is one

abbrev pub has_blank : List ℕ → Bool
has_blank text = list_any (λ c. c == 32) text

pub pieces_more : (text : List ℕ) → has_blank text ≡ true → pieces text ≡ before 32 text ∷ pieces (behind 32 text)
pieces_more [] blank = absurd cc
pieces_more (c ∷ cs) blank = by (c == 32) refl (pieces_more cs)
  where
    by : (b : Bool) → (c == 32) ≡ b → (has_blank cs ≡ true → pieces cs ≡ before 32 cs ∷ pieces (behind 32 cs)) → pieces (c ∷ cs) ≡ before 32 (c ∷ cs) ∷ pieces (behind 32 (c ∷ cs))
    by true here rest = rw here refl
    by false other rest = let more : has_blank cs ≡ true = rw other at blank in rw other (ap (onto_first c) (rest more))

pub pieces_last : (text : List ℕ) → has_blank text ≡ false → pieces text ≡ before 32 text ∷ []
pieces_last [] none = refl
pieces_last (c ∷ cs) none = by (c == 32) refl (pieces_last cs)
  where
    by : (b : Bool) → (c == 32) ≡ b → (has_blank cs ≡ false → pieces cs ≡ before 32 cs ∷ []) → pieces (c ∷ cs) ≡ before 32 (c ∷ cs) ∷ []
    by true here rest = let never : true ≡ false = rw here at none in absurd cc
    by false other rest = let fewer : has_blank cs ≡ false = rw other at none in rw other (ap (onto_first c) (rest fewer))

pub behind_shorter : (text : List ℕ) → has_blank text ≡ true → length (behind 32 text) < length text
behind_shorter [] blank = absurd cc
behind_shorter (c ∷ cs) blank = by (c == 32) refl (behind_shorter cs)
  where
    by : (b : Bool) → (c == 32) ≡ b → (has_blank cs ≡ true → length (behind 32 cs) < length cs) → length (cond b cs (behind 32 cs)) < length (c ∷ cs)
    by true here rest = omega arith
    by false other rest = let more : has_blank cs ≡ true = rw other at blank in let less : length (behind 32 cs) < length cs = rest more in omega arith

-- there is a first piece in any case
pub pieces_first : (text : List ℕ) → (rest : List (List ℕ)) × (pieces text ≡ before 32 text ∷ rest)
pieces_first text = by (has_blank text) refl
  where
    by : (b : Bool) → has_blank text ≡ b → (rest : List (List ℕ)) × (pieces text ≡ before 32 text ∷ rest)
    by true blank = (pieces (behind 32 text), pieces_more text blank)
    by false none = ([], pieces_last text none)
