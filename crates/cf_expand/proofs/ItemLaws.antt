-- The reading of a file statement by statement is its reading by items.
use Rattle.std.proofs.Common.{◌≡◌, ℕ, suc, ◌+◌, ◌-◌, ◌&&◌, ◌||◌, Bool, true, false, cond, not, Option, Some, None, List, [], ◌∷◌, length, refl, ap, sym, ◌∙◌, add-zero, arith}
use Rattle.std.specs.Prelude.{All, ⊤, ◌==◌, is_none, is_some, nat_le, option_map}
use Rattle.std.specs.List.{list_all}
use Rattle.std.specs.Option.{option_map_or}
use Rattle.std.proofs.lemmas.Bool.Decides.{nat_tests}
use Rattle.std.proofs.lemmas.List.Elements.{All-cons, All-head, All-nil, All-tail}
use Rattle.std.proofs.lemmas.Slice.Eq.{bytes_eq-Decides}
use Rattle.cf_types.specs.declared.code.configuration.TheConstants.{LEFT_OUT, NO_FORM, OUT_OF_RANGE, TOO_MANY_STATEMENTS}
use Rattle.cf_types.specs.declared.keyword.Keyword.TheVariants as word
use Rattle.cf_types.specs.declared.keyword.TheConstants.{CONDITION_WORDS}
use Rattle.cf_types.specs.declared.stmt.CondWord.{CondWord}
use Rattle.cf_types.specs.declared.stmt.CondWord.TheVariants.{IfDef, IfNDef, ElifDef, ElifNDef, Else, EndIf}
use Rattle.cf_types.specs.declared.stmt.Piece.{Piece}
use Rattle.cf_types.specs.declared.stmt.Stmt.{Stmt}
use Rattle.cf_types.specs.declared.stmt.Stmt.TheVariants as stmt
use Rattle.cf_types.specs.declared.stmt.TokenKind.{TokenKind}
use Rattle.cf_types.specs.declared.stmt.TokenKind.TheVariants as kind
use Rattle.cf_grammar.proofs.KeywordLemmas.{found_passes}
use Rattle.config_rules.specs.Form.{◌or◌, alone, by_row, cond_form, condition_spelling, form_fault, form_of, given, is_left_out, is_word, name_of, row_by, row_of, table}
use Rattle.config_rules.specs.Reading.{Branches, Files, Here, Items, Part, Reader, Reading, Rest, Statement, ◌before◌, behind_end, branch, branches, branches_in, closes, condition, condition_of, ended, followed_by, holds, is_else, is_met, items_of, names_declared, next_word, nothing, opens, otherwise, put, read_branches, read_items, read_placed, refused, rest_of, statement, stray, treat, with_condition, within}
use Rattle.config_rules.specs.Reading as by_items
use Rattle.cf_expand.specs.Levels.{Level, among, is_live, is_misplaced, is_placed, levels_after, levels_behind, next_branch, opened, read_end, read_statement, read_statements}

-- ---- one reading behind another

before_clear : (m : Reading) (f : Reading → Reading) → is_some m.fault ≡ false → (m before f) ≡ f m
before_clear m f e = ap (λ b. cond b m (f m)) e

before_fault : (m : Reading) (f : Reading → Reading) → is_some m.fault ≡ true → (m before f) ≡ m
before_fault m f e = ap (λ b. cond b m (f m)) e

before_each : (m : Reading) (f g : Reading → Reading) → ((x : Reading) → f x ≡ g x) → (m before f) ≡ (m before g)
before_each m f g h = ap (λ x. cond (is_some m.fault) m x) (h m)

before_same : (m : Reading) (f g : Reading → Reading) → ((x : Reading) → is_some x.fault ≡ false → f x ≡ g x) → (m before f) ≡ (m before g)
before_same m f g h = by (is_some m.fault) refl
  where
    by : (b : Bool) → is_some m.fault ≡ b → cond b m (f m) ≡ cond b m (g m)
    by true e = refl
    by false e = h m e

before_more : (m : Reading) (f g : Reading → Reading) → (m before f before g) ≡ (m before (λ x. f x before g))
before_more m f g = by (is_some m.fault) refl
  where
    by : (b : Bool) → is_some m.fault ≡ b → cond (is_some (cond b m (f m)).fault) (cond b m (f m)) (g (cond b m (f m))) ≡ cond b m (cond (is_some (f m).fault) (f m) (g (f m)))
    by true e = ap (λ c. cond c m (g m)) e
    by false e = refl

-- ---- a statement that begins with a condition word has the form of one

-- a condition word, with its name or without one
abbrev IsCond : Stmt → Type 0
IsCond form = (word : CondWord) × (name : Option (List ℕ)) × (form ≡ stmt.Cond word name)

row_is : (w : CondWord) → row_of table (record { kind = kind.Chunk; text = condition_spelling w }) ≡ Some (row_by (word.Condition w))
unfolding table
row_is IfDef = refl
row_is IfNDef = refl
row_is ElifDef = refl
row_is ElifNDef = refl
row_is Else = refl
row_is EndIf = refl

named_cond : (w : CondWord) (o : Option (List ℕ)) (form : Stmt) → option_map (λ (name : List ℕ). stmt.Cond w (Some name)) o ≡ Some form → IsCond form
named_cond w None form e = absurd (cc)
named_cond w (Some name) form e = (w, Some name, cc)

bare_cond : (w : CondWord) (b : Bool) (form : Stmt) → given b (stmt.Cond w None) ≡ Some form → IsCond form
bare_cond w true form e = (w, None, cc)
bare_cond w false form e = absurd (cc)

cond_formed : (w : CondWord) (ps : List Piece) (form : Stmt) → cond_form w ps ≡ Some form → IsCond form
cond_formed Else ps form e = bare_cond Else _ form e
cond_formed EndIf ps form e = bare_cond EndIf _ form e
cond_formed IfDef ps form e = named_cond IfDef (alone name_of ps) form e
cond_formed IfNDef ps form e = named_cond IfNDef (alone name_of ps) form e
cond_formed ElifDef ps form e = named_cond ElifDef (alone name_of ps) form e
cond_formed ElifNDef ps form e = named_cond ElifNDef (alone name_of ps) form e

spelled_so : (p : Piece) (text : List ℕ) → is_word text p ≡ true → p ≡ record { kind = kind.Chunk; text = text }
spelled_so p text e = by p.kind refl e
  where
    by : (k : TokenKind) → p.kind ≡ k → is_word text (record { kind = k; text = p.text }) ≡ true → p ≡ record { kind = kind.Chunk; text = text }
    by kind.Chunk is same = let t = (bytes_eq-Decides p.text text).0 same in λ i. record { kind = is i; text = t i }
    by kind.Text is same = absurd (cc)
    by kind.Mark is same = absurd (cc)
    by kind.Stop is same = absurd (cc)

by_row_is : (w : CondWord) (p : Piece) (ps : List Piece) → p ≡ record { kind = kind.Chunk; text = condition_spelling w } → by_row true (row_of table p) p ps ≡ cond_form w ps
by_row_is w p ps is = ap (λ r. by_row true r p ps) (ap (row_of table) is ∙ row_is w)

pieces_cond : (line : ℕ) (pieces : List Piece) (w : CondWord) (form : Stmt) → condition_of (record { line = line; pieces = pieces }) ≡ Some w → form_of true pieces ≡ Some form → IsCond form
unfolding form_of
pieces_cond line [] w form begins formed = absurd (cc)
pieces_cond line (p ∷ ps) w form begins formed =
    let here : is_word (condition_spelling w) p ≡ true = found_passes (λ c. is_word (condition_spelling c) p) CONDITION_WORDS w (sym begins) in
    by (list_all (λ q. nat_le (length q.text) 1023) (p ∷ ps)) (by_row_is w p ps (spelled_so p (condition_spelling w) here)) formed
  where
    by : (b : Bool) → by_row true (row_of table p) p ps ≡ cond_form w ps → cond b (by_row true (row_of table p) p ps) None ≡ Some form → IsCond form
    by true row e = cond_formed w ps form (sym row ∙ e)
    by false row e = absurd (cc)

form_is_cond : (s : Statement) (w : CondWord) (form : Stmt) → condition_of s ≡ Some w → form_of true s.pieces ≡ Some form → IsCond form
form_is_cond s w form begins formed = pieces_cond s.line s.pieces w form begins formed

-- what has no fault has a form
formed_there : (ps : List Piece) → form_fault ps ≡ None → is_none (form_of true ps) ≡ false
unfolding form_fault
formed_there ps none = by (is_left_out ps) (is_none (form_of false ps)) (is_none (form_of true ps)) none
  where
    by : (a b c : Bool) → (given a LEFT_OUT or (given b NO_FORM or given c OUT_OF_RANGE)) ≡ None → c ≡ false
    by true b c e = absurd (cc)
    by false true c e = absurd (cc)
    by false false true e = absurd (cc)
    by false false false e = refl

module _ (files : Files) (below : Reader) where
  abbrev step : Here → List Level → Statement → Reading → Reading
  step here levels s r = read_statement files below here levels s r

  -- a statement, where so many conditions are open around it
  abbrev at : ℕ → Here → Here
  at n here = record here { around = n }

  -- a condition word is read the same way, however many are open
  word_reads : (live : Bool) (here : Here) (n m : ℕ) (misplaced : Bool) (s : Statement) (w : CondWord) (r : Reading) → condition_of s ≡ Some w
      → by_items.read_statement files below live (at n here) misplaced s r ≡ by_items.read_statement files below live (at m here) misplaced s r
  word_reads false here n m misplaced s w r begins = refl
  word_reads true here n m misplaced s w r begins =
      ap (λ (x : Reading). cond (nat_le 65536 (length r.placed)) (refused here.file s.line TOO_MANY_STATEMENTS r) (option_map_or (λ code. refused here.file s.line code r) (form_fault s.pieces) x)) (by (form_of true s.pieces) refl)
    where
      by : (o : Option Stmt) → form_of true s.pieces ≡ o → option_map_or (λ form. treat files below (at n here) misplaced s form r) o r ≡ option_map_or (λ form. treat files below (at m here) misplaced s form r) o r
      by None e = refl
      by (Some form) e =
          let found = form_is_cond s w form begins e in
          ap (λ f. treat files below (at n here) misplaced s f r) found.2 ∙ sym (ap (λ f. treat files below (at m here) misplaced s f r) found.2)

  -- where it is misplaced, the reading ends
  misplaced_fault : (live : Bool) (here : Here) (s : Statement) (w : CondWord) (r : Reading) → condition_of s ≡ Some w → is_some (by_items.read_statement files below live here true s r).fault ≡ true
  misplaced_fault false here s w r begins = refl
  misplaced_fault true here s w r begins = by (nat_le 65536 (length r.placed)) (form_fault s.pieces) refl (form_of true s.pieces) refl
    where
      by : (b : Bool) (o : Option ℕ) → form_fault s.pieces ≡ o → (f : Option Stmt) → form_of true s.pieces ≡ f
          → is_some (cond b (refused here.file s.line TOO_MANY_STATEMENTS r) (option_map_or (λ code. refused here.file s.line code r) o (option_map_or (λ form. treat files below here true s form r) f r))).fault ≡ true
      by true o e f g = refl
      by false (Some code) e f g = refl
      by false None e None g = let none : is_none (form_of true s.pieces) ≡ false = formed_there s.pieces e in absurd (cc)
      by false None e (Some form) g =
          let found = form_is_cond s w form begins g in
          ap (λ f. is_some (treat files below here true s f r).fault) found.2

  -- ---- items, and what is read behind them

  abbrev mutual
    kont : Bool → Here → Items → (Reading → Reading) → Reading → Reading
    kont live here nothing k r = k r
    kont live here (statement s items) k r =
        by_items.read_statement files below live here (is_some (condition_of s)) s r
        before kont live here items k
    kont live here (condition s inside further items) k r =
        by_items.read_statement files below live here (nat_le 16 here.around) s r
        before kont (live && is_met s r) (within here) inside (kont_branches live (live && not (live && is_met s r)) here s.line further (kont live here items k))

    kont_branches : Bool → Bool → Here → ℕ → Branches → (Reading → Reading) → Reading → Reading
    kont_branches live free here line (branch s inside further) k r =
        by_items.read_statement files below live here false s r
        before kont (free && is_met s r) (within here) inside (kont_branches live (free && not (free && is_met s r)) here line further k)
    kont_branches live free here line (otherwise s inside end) k r =
        by_items.read_statement files below live here false s r
        before kont free (within here) inside (λ x. by_items.read_end files below live here line end x before k)
    kont_branches live free here line (ended end) k r = by_items.read_end files below live here line end r before k

  -- four readings, one behind the other
  four : (m : Reading) (f g h k : Reading → Reading) → (m before f before g before h before k) ≡ (m before (λ x. f x before (λ y. g y before (λ z. h z before k))))
  four m f g h k =
      before_more (m before f before g) h k
      ∙ before_more (m before f) g (λ z. h z before k)
      ∙ before_more m f (λ y. g y before (λ z. h z before k))

  three : (m : Reading) (f g k : Reading → Reading) → (m before f before g before k) ≡ (m before (λ x. f x before (λ y. g y before k)))
  three m f g k = before_more (m before f) g k ∙ before_more m f (λ y. g y before k)

  -- where there are items, the first is read whatever was found before
  abbrev IsClear : Items → Reading → Type 0
  IsClear nothing r = is_some r.fault ≡ false
  IsClear _ r = ⊤

  is_clear : (items : Items) (r : Reading) → is_some r.fault ≡ false → IsClear items r
  is_clear nothing r e = e
  is_clear (statement s items) r e = tt
  is_clear (condition s inside further items) r e = tt

  mutual
    kont_reads : (items : Items) (live : Bool) (here : Here) (k : Reading → Reading) (r : Reading) → IsClear items r → kont live here items k r ≡ (read_items files below live here items r before k)
    kont_reads nothing live here k r clear = sym (before_clear r k clear)
    kont_reads (statement s items) live here k r clear =
        let m = by_items.read_statement files below live here (is_some (condition_of s)) s r in
        before_same m (kont live here items k) (λ x. read_items files below live here items x before k) (λ x e. kont_reads items live here k x (is_clear items x e))
        ∙ sym (before_more m (read_items files below live here items) k)
    kont_reads (condition s inside further items) live here k r clear =
        let m = by_items.read_statement files below live here (nat_le 16 here.around) s r in
        let chosen = live && is_met s r in
        let free = live && not chosen in
        let f = read_items files below chosen (within here) inside in
        let g = read_branches files below live free here s.line further in
        let h = read_items files below live here items in
        let last = kont live here items k in
        let behind = kont_branches live free here s.line further last in
        before_same m (kont chosen (within here) inside behind) (λ x. f x before (λ y. g y before (λ z. h z before k)))
        (λ x ex. kont_reads inside chosen (within here) behind x (is_clear inside x ex)
        ∙ before_same (f x) behind (λ y. g y before (λ z. h z before k))
        (λ y ey. branches_read further live free here s.line last y
        ∙ before_same (g y) last (λ z. h z before k) (λ z ez. kont_reads items live here k z (is_clear items z ez))))
        ∙ sym (four m f g h k)

    branches_read : (further : Branches) (live free : Bool) (here : Here) (line : ℕ) (k : Reading → Reading) (r : Reading)
        → kont_branches live free here line further k r ≡ (read_branches files below live free here line further r before k)
    branches_read (branch s inside further) live free here line k r =
        let m = by_items.read_statement files below live here false s r in
        let chosen = free && is_met s r in
        let f = read_items files below chosen (within here) inside in
        let g = read_branches files below live (free && not chosen) here line further in
        let behind = kont_branches live (free && not chosen) here line further k in
        before_same m (kont chosen (within here) inside behind) (λ x. f x before (λ y. g y before k))
        (λ x ex. kont_reads inside chosen (within here) behind x (is_clear inside x ex)
        ∙ before_same (f x) behind (λ y. g y before k) (λ y ey. branches_read further live (free && not chosen) here line k y))
        ∙ sym (three m f g k)
    branches_read (otherwise s inside end) live free here line k r =
        let m = by_items.read_statement files below live here false s r in
        let f = read_items files below free (within here) inside in
        let g = by_items.read_end files below live here line end in
        let behind = λ (x : Reading). g x before k in
        before_same m (kont free (within here) inside behind) (λ x. f x before (λ y. g y before k))
        (λ x ex. kont_reads inside free (within here) behind x (is_clear inside x ex))
        ∙ sym (three m f g k)
    branches_read (ended end) live free here line k r = refl

  before_all : (m : Reading) → (m before (λ x. x)) ≡ m
  before_all m = by (is_some m.fault)
    where
      by : (b : Bool) → cond b m m ≡ m
      by true = refl
      by false = refl

  kont_whole : (items : Items) (live : Bool) (here : Here) (r : Reading) → kont live here items (λ x. x) r ≡ read_items files below live here items r
  kont_whole nothing live here r = refl
  kont_whole (statement s items) live here r = kont_reads (statement s items) live here (λ x. x) r tt ∙ before_all (read_items files below live here (statement s items) r)
  kont_whole (condition s inside further items) live here r =
      kont_reads (condition s inside further items) live here (λ x. x) r tt ∙ before_all (read_items files below live here (condition s inside further items) r)

  -- items behind others
  kont_more : (items more : Items) (live : Bool) (here : Here) (k : Reading → Reading) (r : Reading) → kont live here (followed_by items more) k r ≡ kont live here items (kont live here more k) r
  kont_more nothing more live here k r = refl
  kont_more (statement s items) more live here k r =
      let m = by_items.read_statement files below live here (is_some (condition_of s)) s r in
      before_each m (kont live here (followed_by items more) k) (kont live here items (kont live here more k)) (λ x. kont_more items more live here k x)
  kont_more (condition s inside further items) more live here k r =
      let same : kont live here (followed_by items more) k ≡ kont live here items (kont live here more k) = λ i x. kont_more items more live here k x i in
      ap (λ (last : Reading → Reading). by_items.read_statement files below live here (nat_le 16 here.around) s r
      before kont (live && is_met s r) (within here) inside (kont_branches live (live && not (live && is_met s r)) here s.line further last)) same

  -- ---- the parts that go on with open conditions

  abbrev IsPart : Part → Type 0
  IsPart p = (branches (condition_of p.word) || closes (condition_of p.word)) ≡ true

  behind_parts : (parts : List Part) → All IsPart parts → All IsPart (behind_end parts).parts
  behind_parts [] h = h
  behind_parts (p ∷ parts) h = by (closes (condition_of p.word)) (behind_parts parts (All-tail IsPart p parts h))
    where
      by : (b : Bool) → All IsPart (behind_end parts).parts → All IsPart (cond b (record { items = p.items; parts = parts }) (behind_end parts)).parts
      by true later = All-tail IsPart p parts h
      by false later = later

  rest_parts : (ss : List Statement) → All IsPart (rest_of ss).parts
  rest_parts [] = All-nil IsPart
  rest_parts (s ∷ ss) = by (condition_of s) refl (rest_parts ss)
    where
      by : (w : Option CondWord) → condition_of s ≡ w → All IsPart (rest_of ss).parts → All IsPart (put w s (rest_of ss)).parts
      by None e h = h
      by (Some IfDef) e h = behind_parts (rest_of ss).parts h
      by (Some IfNDef) e h = behind_parts (rest_of ss).parts h
      by (Some ElifDef) e h = All-cons IsPart (record { word = s; items = (rest_of ss).items }) (rest_of ss).parts (ap (λ w. branches w || closes w) e) h
      by (Some ElifNDef) e h = All-cons IsPart (record { word = s; items = (rest_of ss).items }) (rest_of ss).parts (ap (λ w. branches w || closes w) e) h
      by (Some Else) e h = All-cons IsPart (record { word = s; items = (rest_of ss).items }) (rest_of ss).parts (ap (λ w. branches w || closes w) e) h
      by (Some EndIf) e h = All-cons IsPart (record { word = s; items = (rest_of ss).items }) (rest_of ss).parts (ap (λ w. branches w || closes w) e) h

  -- the parts, and the end of the file, within some levels
  abbrev k_parts : Here → List Level → List Part → Reading → Reading
  k_parts here levels [] r = read_end here levels r
  k_parts here levels (p ∷ parts) r =
      step here levels p.word r
      before kont (is_live (levels_behind r.placed p.word levels)) (among (levels_behind r.placed p.word levels) here) p.items (k_parts here (levels_behind r.placed p.word levels) parts)

  joined : (m m' : Reading) (a a' : Bool) (h h' : Here) (items : Items) (k k' : Reading → Reading) → m ≡ m' → a ≡ a' → h ≡ h' → ((y : Reading) → k y ≡ k' y) → (m before kont a h items k) ≡ (m' before kont a' h' items k')
  joined m m' a a' h h' items k k' em ea eh ek = λ i. em i before kont (ea i) (eh i) items (λ y. ek y i)

  deeper : (here : Here) (lv : Level) (levels : List Level) → among (lv ∷ levels) here ≡ within (among levels here)
  deeper here lv levels =
      let n : here.around + suc (length levels) ≡ here.around + length levels + 1 = omega arith in
      λ i. record here { around = n i }

  -- a statement with this word
  step_by : (here : Here) (levels : List Level) (s : Statement) (w : Option CondWord) (r : Reading) → condition_of s ≡ w
      → step here levels s r ≡ by_items.read_statement files below (is_placed w levels) (among levels here) (is_misplaced (16 - here.around) w levels) s r
  step_by here levels s w r e = ap (λ c. by_items.read_statement files below (is_placed c levels) (among levels here) (is_misplaced (16 - here.around) c levels) s r) e

  levels_by : (levels : List Level) (s : Statement) (w : Option CondWord) (r : Reading) → condition_of s ≡ w → levels_behind r.placed s levels ≡ levels_after w s.line (is_met s r) levels
  levels_by levels s w r e = ap (λ c. levels_after c s.line (is_met s r) levels) e

  -- a word that belongs to the innermost condition
  turns : (here : Here) (lv : Level) (levels : List Level) (s : Statement) (w : CondWord) (r : Reading) (misplaced : Bool) → condition_of s ≡ Some w → (branches (Some w) || closes (Some w)) ≡ true
      → (branches (Some w) && lv.last) ≡ misplaced → step here (lv ∷ levels) s r ≡ by_items.read_statement files below lv.outer (among levels here) misplaced s r
  turns here lv levels s w r misplaced e part is =
      step_by here (lv ∷ levels) s (Some w) r e
      ∙ ap (λ b. by_items.read_statement files below b (among (lv ∷ levels) here) (is_misplaced (16 - here.around) (Some w) (lv ∷ levels)) s r) (placed w part)
      ∙ ap (λ b. by_items.read_statement files below lv.outer (among (lv ∷ levels) here) b s r) (stray_is w part ∙ is)
      ∙ word_reads lv.outer here (here.around + suc (length levels)) (here.around + length levels) misplaced s w r e
    where
      placed : (w : CondWord) → (branches (Some w) || closes (Some w)) ≡ true → is_placed (Some w) (lv ∷ levels) ≡ lv.outer
      placed IfDef h = absurd (cc)
      placed IfNDef h = absurd (cc)
      placed ElifDef h = refl
      placed ElifNDef h = refl
      placed Else h = refl
      placed EndIf h = refl

      or_none : (b : Bool) → (b || false) ≡ b
      or_none true = refl
      or_none false = refl

      not_none : (suc (length levels) == 0) ≡ false
      not_none = grind (arith, nat_tests)

      by_last : ((suc (length levels) == 0) || (lv.last || false)) ≡ lv.last
      by_last = ap (λ b. b || (lv.last || false)) not_none ∙ or_none lv.last

      stray_is : (w : CondWord) → (branches (Some w) || closes (Some w)) ≡ true → is_misplaced (16 - here.around) (Some w) (lv ∷ levels) ≡ (branches (Some w) && lv.last)
      stray_is IfDef h = absurd (cc)
      stray_is IfNDef h = absurd (cc)
      stray_is ElifDef h = by_last
      stray_is ElifNDef h = by_last
      stray_is Else h = by_last
      stray_is EndIf h = ap (λ b. b || false) not_none

  -- what stands behind a part with this word
  abbrev behind : Option CondWord → Part → List Part → Rest
  behind c p parts = cond (closes c) (record { items = p.items; parts = parts }) (behind_end parts)

  -- the branches from a part with this word on
  abbrev further : Option CondWord → Part → List Part → Branches
  further c p parts = cond (is_else c) (otherwise p.word p.items (next_word parts)) (cond (branches c) (branch p.word p.items (branches_in parts)) (ended (Some p.word)))

  -- some items within these levels, and the parts behind them
  abbrev rest_within : Here → Items → List Part → List Level → Reading → Reading
  rest_within here items parts ls m = m before kont (is_live ls) (among ls here) items (k_parts here ls parts)

  -- behind `else` a condition only ends
  last_parts : (parts : List Part) → All IsPart parts → (here : Here) (lv : Level) (levels : List Level) → lv.last ≡ true → (y : Reading)
      → k_parts here (lv ∷ levels) parts y
      ≡ (by_items.read_end files below lv.outer (among levels here) lv.line (next_word parts) y before kont (is_live levels) (among levels here) (behind_end parts).items (k_parts here levels (behind_end parts).parts))
  last_parts [] all here lv levels last y = refl
  last_parts (q ∷ qs) all here lv levels last y = by (condition_of q.word) refl (All-head IsPart q qs all)
    where
      wrong : (w : CondWord) → condition_of q.word ≡ Some w → branches (Some w) ≡ true → (k : Reading → Reading)
          → k_parts here (lv ∷ levels) (q ∷ qs) y ≡ (by_items.read_statement files below lv.outer (among levels here) true q.word y before k)
      wrong w e is k =
          let m = by_items.read_statement files below lv.outer (among levels here) true q.word y in
          let ls = levels_behind y.placed q.word (lv ∷ levels) in
          let fault : is_some m.fault ≡ true = misplaced_fault lv.outer (among levels here) q.word w y e in
          ap (λ (x : Reading). x before kont (is_live ls) (among ls here) q.items (k_parts here ls qs))
          (turns here lv levels q.word w y true e (ap (λ b. b || closes (Some w)) is) (ap (λ b. b && lv.last) is ∙ last))
          ∙ before_fault m (kont (is_live ls) (among ls here) q.items (k_parts here ls qs)) fault
          ∙ sym (before_fault m k fault)

      by : (c : Option CondWord) → condition_of q.word ≡ c → (branches (condition_of q.word) || closes (condition_of q.word)) ≡ true
          → k_parts here (lv ∷ levels) (q ∷ qs) y
          ≡ (by_items.read_statement files below lv.outer (among levels here) (not (closes c)) q.word y before kont (is_live levels) (among levels here) (behind c q qs).items (k_parts here levels (behind c q qs).parts))
      by None e h = let bad : (branches None || closes None) ≡ true = sym (ap (λ w. branches w || closes w) e) ∙ h in absurd (cc)
      by (Some IfDef) e h = let bad : (branches (Some IfDef) || closes (Some IfDef)) ≡ true = sym (ap (λ w. branches w || closes w) e) ∙ h in absurd (cc)
      by (Some IfNDef) e h = let bad : (branches (Some IfNDef) || closes (Some IfNDef)) ≡ true = sym (ap (λ w. branches w || closes w) e) ∙ h in absurd (cc)
      by (Some ElifDef) e h = wrong ElifDef e refl (kont (is_live levels) (among levels here) (behind_end qs).items (k_parts here levels (behind_end qs).parts))
      by (Some ElifNDef) e h = wrong ElifNDef e refl (kont (is_live levels) (among levels here) (behind_end qs).items (k_parts here levels (behind_end qs).parts))
      by (Some Else) e h = wrong Else e refl (kont (is_live levels) (among levels here) (behind_end qs).items (k_parts here levels (behind_end qs).parts))
      by (Some EndIf) e h =
          let m = step here (lv ∷ levels) q.word y in
          ap (λ (ls : List Level). m before kont (is_live ls) (among ls here) q.items (k_parts here ls qs)) (levels_by (lv ∷ levels) q.word (Some EndIf) y e)
          ∙ ap (λ (x : Reading). x before kont (is_live levels) (among levels here) q.items (k_parts here levels qs)) (turns here lv levels q.word EndIf y false e refl refl)

  no_longer : (outer taken holds : Bool) → (outer && not (taken || (outer && holds))) ≡ ((outer && not taken) && not ((outer && not taken) && holds))
  no_longer true true holds = refl
  no_longer true false true = refl
  no_longer true false false = refl
  no_longer false taken holds = refl

  chosen_so : (outer taken holds : Bool) → (outer && not taken && holds) ≡ ((outer && not taken) && holds)
  chosen_so true taken holds = refl
  chosen_so false taken holds = refl

  -- what stands behind a condition within these levels
  abbrev onward : Here → List Level → Rest → Reading → Reading
  onward here levels rest = kont (is_live levels) (among levels here) rest.items (k_parts here levels rest.parts)

  -- the parts within an open condition are its branches, and what stands behind it
  abbrev PartsRead : Here → List Level → List Part → Type 0
  PartsRead here levels parts = (lv : Level) → lv.last ≡ false → (x : Reading)
      → k_parts here (lv ∷ levels) parts x ≡ kont_branches lv.outer (lv.outer && not lv.taken) (among levels here) lv.line (branches_in parts) (onward here levels (behind_end parts)) x

  and_none : (b : Bool) → (b && false) ≡ false
  and_none true = refl
  and_none false = refl

  and_all : (b : Bool) → (b && true) ≡ b
  and_all true = refl
  and_all false = refl

  -- another branch with a condition of its own
  another : (here : Here) (levels : List Level) (p : Part) (parts : List Part) → PartsRead here levels parts → (lv : Level) → lv.last ≡ false → (x : Reading)
      → (w : CondWord) → condition_of p.word ≡ Some w → (branches (Some w) || closes (Some w)) ≡ true
      → levels_after (Some w) p.word.line (is_met p.word x) (lv ∷ levels) ≡ next_branch (is_met p.word x) false lv ∷ levels
      → k_parts here (lv ∷ levels) (p ∷ parts) x
      ≡ kont_branches lv.outer (lv.outer && not lv.taken) (among levels here) lv.line (branch p.word p.items (branches_in parts)) (onward here levels (behind_end parts)) x
  another here levels p parts later lv last x w e part after =
      let m = step here (lv ∷ levels) p.word x in
      let m' = by_items.read_statement files below lv.outer (among levels here) false p.word x in
      let met = is_met p.word x in
      let next = next_branch met false lv in
      let free = lv.outer && not lv.taken in
      ap (λ (ls : List Level). rest_within here p.items parts ls m) (levels_by (lv ∷ levels) p.word (Some w) x e ∙ after)
      ∙ joined m m' (lv.outer && not lv.taken && met) (free && met) (among (next ∷ levels) here) (within (among levels here)) p.items (k_parts here (next ∷ levels) parts)
      (kont_branches lv.outer (free && not (free && met)) (among levels here) lv.line (branches_in parts) (onward here levels (behind_end parts)))
      (turns here lv levels p.word w x false e part (ap (λ b. branches (Some w) && b) last ∙ and_none (branches (Some w))))
      (chosen_so lv.outer lv.taken met)
      (deeper here next levels)
      (λ y. later next refl y
      ∙ ap (λ b. kont_branches lv.outer b (among levels here) lv.line (branches_in parts) (onward here levels (behind_end parts)) y) (no_longer lv.outer lv.taken met))

  -- the branch of `else`
  the_last : (here : Here) (levels : List Level) (p : Part) (parts : List Part) → All IsPart parts → (lv : Level) → lv.last ≡ false → (x : Reading)
      → condition_of p.word ≡ Some Else
      → k_parts here (lv ∷ levels) (p ∷ parts) x
      ≡ kont_branches lv.outer (lv.outer && not lv.taken) (among levels here) lv.line (otherwise p.word p.items (next_word parts)) (onward here levels (behind_end parts)) x
  the_last here levels p parts all lv last x e =
      let m = step here (lv ∷ levels) p.word x in
      let m' = by_items.read_statement files below lv.outer (among levels here) false p.word x in
      let met = is_met p.word x in
      let met_is : met ≡ true = ap (λ w. holds w (names_declared x.placed p.word)) e in
      let next = next_branch met true lv in
      let free = lv.outer && not lv.taken in
      ap (λ (ls : List Level). rest_within here p.items parts ls m) (levels_by (lv ∷ levels) p.word (Some Else) x e)
      ∙ joined m m' (lv.outer && not lv.taken && met) free (among (next ∷ levels) here) (within (among levels here)) p.items (k_parts here (next ∷ levels) parts)
      (λ y. by_items.read_end files below lv.outer (among levels here) lv.line (next_word parts) y before onward here levels (behind_end parts))
      (turns here lv levels p.word Else x false e refl last)
      (chosen_so lv.outer lv.taken met ∙ ap (λ b. free && b) met_is ∙ and_all free)
      (deeper here next levels)
      (λ y. last_parts parts all here next levels refl y)

  -- its end
  the_end : (here : Here) (levels : List Level) (p : Part) (parts : List Part) (lv : Level) (x : Reading) → condition_of p.word ≡ Some EndIf
      → k_parts here (lv ∷ levels) (p ∷ parts) x
      ≡ kont_branches lv.outer (lv.outer && not lv.taken) (among levels here) lv.line (ended (Some p.word)) (kont (is_live levels) (among levels here) p.items (k_parts here levels parts)) x
  the_end here levels p parts lv x e =
      let m = step here (lv ∷ levels) p.word x in
      let k = kont (is_live levels) (among levels here) p.items (k_parts here levels parts) in
      ap (λ (ls : List Level). rest_within here p.items parts ls m) (levels_by (lv ∷ levels) p.word (Some EndIf) x e)
      ∙ ap (λ (y : Reading). y before k) (turns here lv levels p.word EndIf x false e refl refl
      ∙ ap (λ c. by_items.read_statement files below lv.outer (among levels here) (not (closes c)) p.word x) (sym e))

  parts_read : (parts : List Part) → All IsPart parts → (here : Here) (levels : List Level) → PartsRead here levels parts
  parts_read [] all here levels lv last x = refl
  parts_read (p ∷ parts) all here levels lv last x =
      by (condition_of p.word) refl (All-head IsPart p parts all) (λ next l y. parts_read parts (All-tail IsPart p parts all) here levels next l y)
    where
      by : (c : Option CondWord) → condition_of p.word ≡ c → (branches (condition_of p.word) || closes (condition_of p.word)) ≡ true → PartsRead here levels parts
          → k_parts here (lv ∷ levels) (p ∷ parts) x
          ≡ kont_branches lv.outer (lv.outer && not lv.taken) (among levels here) lv.line (further c p parts) (onward here levels (behind c p parts)) x
      by None e h later = let bad : (branches None || closes None) ≡ true = sym (ap (λ w. branches w || closes w) e) ∙ h in absurd (cc)
      by (Some IfDef) e h later = let bad : (branches (Some IfDef) || closes (Some IfDef)) ≡ true = sym (ap (λ w. branches w || closes w) e) ∙ h in absurd (cc)
      by (Some IfNDef) e h later = let bad : (branches (Some IfNDef) || closes (Some IfNDef)) ≡ true = sym (ap (λ w. branches w || closes w) e) ∙ h in absurd (cc)
      by (Some ElifDef) e h later = another here levels p parts later lv last x ElifDef e refl refl
      by (Some ElifNDef) e h later = another here levels p parts later lv last x ElifNDef e refl refl
      by (Some Else) e h later = the_last here levels p parts (All-tail IsPart p parts all) lv last x e
      by (Some EndIf) e h later = the_end here levels p parts lv x e

  -- ---- statement by statement

  outside : (levels : List Level) (w : Option CondWord) → (branches w || closes w) ≡ false → is_placed w levels ≡ is_live levels
  outside [] w h = refl
  outside (l ∷ levels) w h = ap (λ b. cond b l.outer l.live) h

  room_is : (around n : ℕ) → nat_le (16 - around) n ≡ nat_le 16 (around + n)
  room_is around n = grind (arith, nat_tests)

  or_no : (b : Bool) → (b || false || false) ≡ b
  or_no true = refl
  or_no false = refl

  abbrev StepsRead : Here → List Statement → Type 0
  StepsRead here ss = (levels : List Level) (r : Reading) → read_statements files below here levels ss r ≡ onward here levels (rest_of ss) r

  -- the first statement
  first : (here : Here) (s : Statement) (ss : List Statement) → StepsRead here ss → (levels : List Level) (r : Reading)
      → read_statements files below here levels (s ∷ ss) r ≡ rest_within here (rest_of ss).items (rest_of ss).parts (levels_behind r.placed s levels) (step here levels s r)
  first here s ss later levels r =
      let ls = levels_behind r.placed s levels in
      before_each (step here levels s r) (read_statements files below here ls ss) (onward here ls (rest_of ss)) (λ x. later ls x)

  -- a condition is opened
  opening : (here : Here) (s : Statement) (ss : List Statement) → StepsRead here ss → (levels : List Level) (r : Reading)
      → (w : CondWord) → condition_of s ≡ Some w → (branches (Some w) || closes (Some w)) ≡ false
      → is_misplaced (16 - here.around) (Some w) levels ≡ nat_le (16 - here.around) (length levels)
      → levels_after (Some w) s.line (is_met s r) levels ≡ opened s.line (is_met s r) levels ∷ levels
      → read_statements files below here levels (s ∷ ss) r ≡ onward here levels (with_condition s (rest_of ss) (behind_end (rest_of ss).parts)) r
  opening here s ss later levels r w e plain stray_is behind_it =
      let live = is_live levels in
      let met = is_met s r in
      let next = opened s.line met levels in
      let rest = rest_of ss in
      let m = step here levels s r in
      let m' = by_items.read_statement files below live (among levels here) (nat_le 16 (here.around + length levels)) s r in
      first here s ss later levels r
      ∙ ap (λ (ls : List Level). rest_within here rest.items rest.parts ls m) (levels_by levels s (Some w) r e ∙ behind_it)
      ∙ joined m m' (live && met) (live && met) (among (next ∷ levels) here) (within (among levels here)) rest.items (k_parts here (next ∷ levels) rest.parts)
      (kont_branches live (live && not (live && met)) (among levels here) s.line (branches_in rest.parts) (onward here levels (behind_end rest.parts)))
      (step_by here levels s (Some w) r e
      ∙ ap (λ b. by_items.read_statement files below b (among levels here) (is_misplaced (16 - here.around) (Some w) levels) s r) (outside levels (Some w) plain)
      ∙ ap (λ b. by_items.read_statement files below live (among levels here) b s r) (stray_is ∙ room_is here.around (length levels)))
      refl
      (deeper here next levels)
      (λ y. parts_read rest.parts (rest_parts ss) here levels next refl y)

  opens_more : (w : CondWord) (line : ℕ) (met : Bool) → opens (Some w) ≡ true → (levels : List Level) → levels_after (Some w) line met levels ≡ opened line met levels ∷ levels
  opens_more w line met h [] = ap (λ b. cond b (opened line met [] ∷ []) []) h
  opens_more w line met h (l ∷ levels) =
      ap (λ b. cond b (opened line met (l ∷ levels) ∷ l ∷ levels) (cond (branches (Some w)) (next_branch met (is_else (Some w)) l ∷ levels) (cond (closes (Some w)) levels (l ∷ levels)))) h

  none_after : (line : ℕ) (met : Bool) (levels : List Level) → levels_after None line met levels ≡ levels
  none_after line met [] = refl
  none_after line met (l ∷ levels) = refl

  steps_read : (ss : List Statement) (here : Here) → StepsRead here ss
  steps_read [] here levels r = refl
  steps_read (s ∷ ss) here levels r = by (condition_of s) refl (λ ls x. steps_read ss here ls x)
    where
      by : (c : Option CondWord) → condition_of s ≡ c → StepsRead here ss → read_statements files below here levels (s ∷ ss) r ≡ onward here levels (put c s (rest_of ss)) r
      by None e later =
          first here s ss later levels r
          ∙ ap (λ (ls : List Level). rest_within here (rest_of ss).items (rest_of ss).parts ls (step here levels s r)) (levels_by levels s None r e ∙ none_after s.line (is_met s r) levels)
          ∙ ap (λ (m : Reading). rest_within here (rest_of ss).items (rest_of ss).parts levels m)
          (step_by here levels s None r e
          ∙ ap (λ b. by_items.read_statement files below b (among levels here) false s r) (outside levels None refl)
          ∙ ap (λ c. by_items.read_statement files below (is_live levels) (among levels here) (is_some c) s r) (sym e))
      by (Some IfDef) e later = opening here s ss later levels r IfDef e refl (or_no (nat_le (16 - here.around) (length levels))) (opens_more IfDef s.line (is_met s r) refl levels)
      by (Some IfNDef) e later = opening here s ss later levels r IfNDef e refl (or_no (nat_le (16 - here.around) (length levels))) (opens_more IfNDef s.line (is_met s r) refl levels)
      by (Some ElifDef) e later = first here s ss later levels r
      by (Some ElifNDef) e later = first here s ss later levels r
      by (Some Else) e later = first here s ss later levels r
      by (Some EndIf) e later = first here s ss later levels r

  -- a word for which no condition is open ends the reading
  stray_ends : (here : Here) (parts : List Part) → All IsPart parts → (r : Reading) → k_parts here [] parts r ≡ kont true (among [] here) (stray (next_word parts)) (λ x. x) r
  stray_ends here [] all r = refl
  stray_ends here (p ∷ parts) all r = by (condition_of p.word) refl (All-head IsPart p parts all)
    where
      alone_is : (w : CondWord) → condition_of p.word ≡ Some w → is_misplaced (16 - here.around) (Some w) [] ≡ true → k_parts here [] (p ∷ parts) r ≡ kont true (among [] here) (statement p.word nothing) (λ x. x) r
      alone_is w e bad =
          let m = by_items.read_statement files below true (among [] here) true p.word r in
          let ls = levels_behind r.placed p.word [] in
          let fault : is_some m.fault ≡ true = misplaced_fault true (among [] here) p.word w r e in
          ap (λ (x : Reading). x before kont (is_live ls) (among ls here) p.items (k_parts here ls parts))
          (step_by here [] p.word (Some w) r e ∙ ap (λ b. by_items.read_statement files below true (among [] here) b p.word r) bad)
          ∙ before_fault m (kont (is_live ls) (among ls here) p.items (k_parts here ls parts)) fault
          ∙ sym (before_fault m (λ x. x) fault)
          ∙ ap (λ c. by_items.read_statement files below true (among [] here) (is_some c) p.word r before (λ x. x)) (sym e)

      by : (c : Option CondWord) → condition_of p.word ≡ c → (branches (condition_of p.word) || closes (condition_of p.word)) ≡ true
          → k_parts here [] (p ∷ parts) r ≡ kont true (among [] here) (statement p.word nothing) (λ x. x) r
      by None e h = let bad : (branches None || closes None) ≡ true = sym (ap (λ w. branches w || closes w) e) ∙ h in absurd (cc)
      by (Some IfDef) e h = let bad : (branches (Some IfDef) || closes (Some IfDef)) ≡ true = sym (ap (λ w. branches w || closes w) e) ∙ h in absurd (cc)
      by (Some IfNDef) e h = let bad : (branches (Some IfNDef) || closes (Some IfNDef)) ≡ true = sym (ap (λ w. branches w || closes w) e) ∙ h in absurd (cc)
      by (Some ElifDef) e h = alone_is ElifDef e refl
      by (Some ElifNDef) e h = alone_is ElifNDef e refl
      by (Some Else) e h = alone_is Else e refl
      by (Some EndIf) e h = alone_is EndIf e refl

  -- **the statements of a file, one after the other, read as its items**
  pub items_read : (here : Here) (ss : List Statement) (r : Reading) → read_statements files below here [] ss r ≡ read_items files below true here (items_of ss) r
  items_read here ss r =
      let t = rest_of ss in
      let same : among [] here ≡ here = λ i. record here { around = add-zero here.around i } in
      steps_read ss here [] r
      ∙ ap (λ (k : Reading → Reading). kont true (among [] here) t.items k r) (λ i x. stray_ends here t.parts (rest_parts ss) x i)
      ∙ sym (kont_more t.items (stray (next_word t.parts)) true (among [] here) (λ x. x) r)
      ∙ kont_whole (items_of ss) true (among [] here) r
      ∙ ap (λ (h : Here). read_items files below true h (items_of ss) r) same
