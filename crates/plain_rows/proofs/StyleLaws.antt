-- Style lines by attachment, one line more.
use Rattle.std.proofs.Common.{◌≡◌, ℕ, zero, suc, ◌<◌, Bool, true, false, not, cond, ◌&&◌, ◌==◌, List, [], ◌∷◌, ◌++◌, length, find, reverse, Option, Some, option_map, slice_index_or, slice_set, refl, sym, ◌∙◌, ap, arith, eq-eqb}
use Rattle.std.specs.Global.{Global}
use Rattle.std.specs.Prelude.{Vec, filter, if◌then◌else◌}
use Rattle.std.proofs.lemmas.Bool.{eqb-true, false≢true}
use Rattle.std.proofs.lemmas.List.{get_or-set_other, get_or-set_same, length-map, map-append, reverse-append}
use Rattle.cf_types.specs.declared.machine.StyleLine.{StyleLine}
use Rattle.plain_rows.specs.Styles.{lists_of, style_at, style_in, style_of_lines}

-- ---- one list

-- lines for another attribute are found where those for one are gone
kept : (b a : ℕ) (xs : List StyleLine) → (b == a) ≡ false → find (λ (l : StyleLine). l.attr == a) (filter (λ l. not (l.attr == b)) xs) ≡ find (λ l. l.attr == a) xs
kept b a [] other = refl
kept b a (x ∷ xs) other = cases (kept b a xs other) (x.attr == b) refl
  where
    cases : find (λ (l : StyleLine). l.attr == a) (filter (λ l. not (l.attr == b)) xs) ≡ find (λ l. l.attr == a) xs → (c : Bool) → (x.attr == b) ≡ c
        → find (λ (l : StyleLine). l.attr == a) (cond (not c) (x ∷ filter (λ l. not (l.attr == b)) xs) (filter (λ l. not (l.attr == b)) xs)) ≡ cond (x.attr == a) (Some x) (find (λ l. l.attr == a) xs)
    cases rest true e =
        let same : x.attr ≡ b = eqb-true x.attr b e in
        let apart : (x.attr == a) ≡ false = rw same other in
        rest ∙ sym (ap (λ (c : Bool). cond c (Some x) (find (λ l. l.attr == a) xs)) apart)
    cases rest false e = ap (λ (o : Option StyleLine). cond (x.attr == a) (Some x) o) rest

pub first_put : (line : StyleLine) (old new : List StyleLine) → new ≡ line ∷ filter (λ l. not (l.attr == line.attr)) old → (a : ℕ) → style_in new a ≡ (if line.attr == a then Some line.indirect else style_in old a)
first_put line old new e a = ap (λ xs. style_in xs a) e ∙ cases (line.attr == a) refl
  where
    cases : (c : Bool) → (line.attr == a) ≡ c
        → option_map (λ (l : StyleLine). l.indirect) (cond c (Some line) (find (λ l. l.attr == a) (filter (λ l. not (l.attr == line.attr)) old))) ≡ (if c then Some line.indirect else style_in old a)
    cases true e = refl
    cases false e = ap (option_map (λ (l : StyleLine). l.indirect)) (kept line.attr a old e)

-- ---- lists of them

lists_set : (lists : List (Vec StyleLine Global)) (i : ℕ) (list : Vec StyleLine Global) → lists_of (slice_set lists i list) ≡ slice_set (lists_of lists) i list.items
lists_set [] i list = refl
lists_set (l ∷ lists) zero list = refl
lists_set (l ∷ lists) (suc i) list = ap (λ ls. l.items ∷ ls) (lists_set lists i list)

pub list_put : (lists new : List (Vec StyleLine Global)) (c : ℕ) (line : StyleLine) (list : Vec StyleLine Global) (old : List StyleLine) → c < length lists → old ≡ slice_index_or (lists_of lists) c []
    → new ≡ slice_set lists c list → ((a : ℕ) → style_in list.items a ≡ (if line.attr == a then Some line.indirect else style_in old a))
    → (k a : ℕ) → style_at (lists_of new) k a ≡ (if c == k && line.attr == a then Some line.indirect else style_at (lists_of lists) k a)
list_put lists new c line list old lt at set put k a =
    ap (λ ls. style_at (lists_of ls) k a) set ∙ ap (λ ls. style_at ls k a) (lists_set lists c list) ∙ cases (c == k) refl
  where
    size : length (lists_of lists) ≡ length lists
    size = length-map lists (λ (v : Vec StyleLine Global). v.items)

    cases : (b : Bool) → (c == k) ≡ b → style_at (slice_set (lists_of lists) c list.items) k a ≡ (if b && line.attr == a then Some line.indirect else style_at (lists_of lists) k a)
    cases true e =
        let same : c ≡ k = eqb-true c k e in
        let here : slice_index_or (slice_set (lists_of lists) c list.items) c [] ≡ list.items = get_or-set_same (lists_of lists) c list.items [] (omega (arith, size, lt)) in
        rw (← same) (ap (λ xs. style_in xs a) here ∙ put a ∙ ap (λ xs. if line.attr == a then Some line.indirect else style_in xs a) at)
    cases false e =
        ap (λ xs. style_in xs a) (get_or-set_other (lists_of lists) c k list.items [] (λ q. false≢true (sym e ∙ eq-eqb c k (sym q))))

more_empty : (lists : List (List StyleLine)) (k a : ℕ) → style_at (lists ++ [] ∷ []) k a ≡ style_at lists k a
more_empty [] zero a = refl
more_empty [] (suc k) a = refl
more_empty (l ∷ lists) zero a = refl
more_empty (l ∷ lists) (suc k) a = more_empty lists k a

pub empty_more : (lists new : List (Vec StyleLine Global)) (list : Vec StyleLine Global) → new ≡ lists ++ list ∷ [] → list.items ≡ [] → (k a : ℕ) → style_at (lists_of new) k a ≡ style_at (lists_of lists) k a
empty_more lists new list more e k a =
    ap (λ ls. style_at (lists_of ls) k a) more ∙ ap (λ ls. style_at ls k a) (map-append (λ (v : Vec StyleLine Global). v.items) lists (list ∷ []))
    ∙ ap (λ (xs : List StyleLine). style_at (lists_of lists ++ xs ∷ []) k a) e ∙ more_empty (lists_of lists) k a

-- ---- the last line

pub line_more : (lines : List StyleLine) (line : StyleLine) (k a : ℕ) → style_of_lines (lines ++ line ∷ []) k a ≡ (if line.attach == k && line.attr == a then Some line.indirect else style_of_lines lines k a)
line_more lines line k a =
    ap (λ ls. option_map (λ (l : StyleLine). l.indirect) (find (λ l. l.attach == k && l.attr == a) ls)) (reverse-append lines (line ∷ []))
    ∙ cases (line.attach == k && line.attr == a)
  where
    cases : (b : Bool) → option_map (λ (l : StyleLine). l.indirect) (cond b (Some line) (find (λ l. l.attach == k && l.attr == a) (reverse lines))) ≡ (if b then Some line.indirect else style_of_lines lines k a)
    cases true = refl
    cases false = refl
