-- The tokens that are kept while a file is read.
use Rattle.std.proofs.Common.{◌≡◌, ℕ, ◌+◌, ◌-◌, ◌≤◌, ◌<◌, zero, suc, Bool, true, false, cond, not, None, List, [], ◌∷◌, ◌++◌, length, map, take, drop, set, get_or, refl, ap, sym, subst, ◌∙◌, arith, append_assoc}
use Rattle.std.specs.Prelude.{All, is_some}
use Rattle.std.specs.List.{after_first, before_first, position_or_len}
use Rattle.std.proofs.lemmas.List.Elements.{All-cons, All-head, All-nil, All-tail}
use Rattle.std.proofs.lemmas.List.{drop-drop, drop_at, get_or-append-add, get_or-drop, length-append, length-drop, length-take-le, set_split, take-append-drop, take_all, take_at, take_more}
use Rattle.cf_types.specs.declared.stmt.Placed.{Placed}
use Rattle.cf_types.specs.declared.stmt.Token.{Token}
use Rattle.cf_grammar.specs.Statement.{AreWithin, IsWithin}
use Rattle.cf_lexer.specs.Rest.{Passes, all_tokens, first_condition, is_closed, rest_tokens}
use Rattle.cf_lexer.specs.declared.rest.Cutting.{Cutting}
use Rattle.cf_lexer.proofs.RestLemmas.{IsPlain, IsQuiet, split_at}
use Rattle.config_rules.specs.Cut.{is_stop, statements}
use Rattle.config_rules.specs.Reading.{Files, Here, Reader, Reading, Statement, condition_of, statements_in}
use Rattle.cf_expand.specs.Levels.{Level, is_live, levels_behind, read_statement, read_statements}
use Rattle.cf_expand.specs.Lines.{Parts, statement_of}
use Rattle.cf_expand.specs.Steps.{IsCutting}
use Rattle.cf_expand.specs.Unread.{PassesTo, Refills, Uncut, all_left}

-- the last ones, as many as stand behind a place
last_of : (n : ℕ) (xs : List Token) → drop (length xs - length (drop n xs)) xs ≡ drop n xs
last_of zero xs = let e : length xs - length xs ≡ 0 = omega arith in ap (λ m. drop m xs) e
last_of (suc n) [] = refl
last_of (suc n) (x ∷ xs) =
    let e : suc (length xs) - length (drop n xs) ≡ suc (length xs - length (drop n xs)) = omega (arith, length-drop n xs) in
    ap (λ m. drop m (x ∷ xs)) e ∙ last_of n xs

-- what is kept are the tokens behind the first statement
pub last_kept : (left rest new : List Token) (count : ℕ) → count ≡ length rest → rest ≡ after_first is_stop left → new ≡ drop (length left - count) left → new ≡ rest
last_kept left rest new count many behind is =
    is ∙ ap (λ m. drop (length left - m) left) (many ∙ ap length behind) ∙ last_of (position_or_len is_stop left + 1) left ∙ sym behind

-- the last ones of all are the last ones of those that are not read
pub unread_last : (xs : List Token) (read count : ℕ) → read ≤ length xs → count ≤ length (drop read xs)
    → drop (length xs - count) xs ≡ drop (length (drop read xs) - count) (drop read xs)
unread_last xs read count within few =
    let e : length xs - count ≡ read + (length (drop read xs) - count) = omega (arith, within, few, length-drop read xs) in
    ap (λ m. drop m xs) e ∙ sym (drop-drop (length (drop read xs) - count) read xs)

pub last_many : (xs : List Token) (read count : ℕ) → read ≤ length xs → count ≤ length (drop read xs) → length (drop (length xs - count) xs) ≡ count
last_many xs read count within few = omega (arith, within, few, length-drop read xs, length-drop (length xs - count) xs)

-- ---- moved to the front

-- one more token is moved
pub moved_more : (old : List Token) (from i : ℕ) (d : Token) → i < length (drop from old)
    → set (take i (drop from old) ++ drop i old) i (get_or (take i (drop from old) ++ drop i old) (from + i) d) ≡ take (i + 1) (drop from old) ++ drop (i + 1) old
moved_more old from i d within =
    let back = drop from old in
    let front = take i back in
    let all = front ++ drop i old in
    let size : length front ≡ i = length-take-le i back (omega arith) in
    let inside : i < length all = omega (arith, size, length-append front (drop i old), length-drop i old, length-drop from old) in
    let next : suc i ≡ i + 1 = omega arith in
    let place : from + i ≡ length front + from = omega (arith, size) in
    let turned : i + from ≡ from + i = omega arith in
    let token : get_or all (from + i) d ≡ get_or back i d =
    ap (λ (k : ℕ). get_or all k d) place ∙ get_or-append-add front (drop i old) from d ∙ get_or-drop i old from d
    ∙ ap (λ (k : ℕ). get_or old k d) turned ∙ sym (get_or-drop from old i d) in
    let behind : drop (i + 1) all ≡ drop (i + 1) old = sym (drop-drop 1 i all) ∙ ap (drop 1) (drop_at front (drop i old) i size) ∙ drop-drop 1 i old in
    set_split all i (get_or all (from + i) d) inside
    ∙ ap (λ (k : ℕ). take i all ++ get_or all (from + i) d ∷ drop k all) next
    ∙ ap (λ (ts : List Token). ts ++ get_or all (from + i) d ∷ drop (i + 1) all) (take_at front (drop i old) i size)
    ∙ ap (λ (ts : List Token). front ++ get_or all (from + i) d ∷ ts) behind
    ∙ ap (λ (t : Token). front ++ t ∷ drop (i + 1) old) token
    ∙ sym (append_assoc front (get_or back i d ∷ []) (drop (i + 1) old))
    ∙ ap (λ (ts : List Token). ts ++ drop (i + 1) old) (sym (take_more back i d within))

-- all are moved, and the rest is cut off
pub moved_all : (old : List Token) (from count : ℕ) → count ≡ length old - from → take count (take count (drop from old) ++ drop count old) ≡ drop from old
moved_all old from count is =
    let size : length (drop from old) ≡ count = omega (arith, length-drop from old, is) in
    let whole : take count (drop from old) ≡ drop from old = take_all count (drop from old) (omega (arith, size)) in
    ap (λ (ts : List Token). take count (ts ++ drop count old)) whole ∙ take_at (drop from old) (drop count old) count size

-- ---- tokens that end with a stop

-- where their first statement ends
pub record Ends (tokens : List Token) : Type 0 where
  pub stop : Token
  pub is : is_stop stop ≡ true
  pub whole : tokens ≡ before_first is_stop tokens ++ stop ∷ after_first is_stop tokens
  pub plain : All IsPlain (before_first is_stop tokens)
  pub closed : is_closed (after_first is_stop tokens) ≡ true

closed_tail : (t : Token) (ts : List Token) → is_closed (t ∷ ts) ≡ true → is_closed ts ≡ true
closed_tail t [] h = refl
closed_tail t (u ∷ us) h = h

pub ends_closed : (tokens : List Token) → is_closed tokens ≡ true → 1 ≤ length tokens → Ends tokens
ends_closed [] closed some = absurd (omega arith)
ends_closed (t ∷ ts) closed some = by_kind (is_stop t) refl (ends_closed ts (closed_tail t ts closed))
  where
    behind : (us : List Token) → is_closed (t ∷ us) ≡ true → is_stop t ≡ false → 1 ≤ length us
    behind [] h e = absurd (cc)
    behind (u ∷ us) h e = omega arith

    by_kind : (b : Bool) → is_stop t ≡ b → (1 ≤ length ts → Ends ts) → Ends (t ∷ ts)
    by_kind true e later =
        let n : position_or_len is_stop (t ∷ ts) ≡ 0 = ap (λ b. cond (not b) (1 + position_or_len is_stop ts) 0) e in
        let front : before_first is_stop (t ∷ ts) ≡ [] = ap (λ m. take m (t ∷ ts)) n in
        let back : after_first is_stop (t ∷ ts) ≡ ts = ap (λ m. drop (m + 1) (t ∷ ts)) n in
        record {
          stop = t;
          is = e;
          whole = sym (ap (λ xs. xs ++ t ∷ after_first is_stop (t ∷ ts)) front ∙ ap (λ xs. t ∷ xs) back);
          plain = subst (All IsPlain) (sym front) (All-nil IsPlain);
          closed = ap is_closed back ∙ closed_tail t ts closed;
        }
    by_kind false e later =
        let more : Ends ts = later (behind ts closed e) in
        let n : position_or_len is_stop (t ∷ ts) ≡ suc (position_or_len is_stop ts) = ap (λ b. cond (not b) (1 + position_or_len is_stop ts) 0) e ∙ omega arith in
        let front : before_first is_stop (t ∷ ts) ≡ t ∷ before_first is_stop ts = ap (λ m. take m (t ∷ ts)) n in
        let one : suc (position_or_len is_stop ts) + 1 ≡ suc (position_or_len is_stop ts + 1) = omega arith in
        let back : after_first is_stop (t ∷ ts) ≡ after_first is_stop ts = ap (λ m. drop (m + 1) (t ∷ ts)) n ∙ ap (λ m. drop m (t ∷ ts)) one in
        record {
          stop = more.stop;
          is = more.is;
          whole = ap (λ xs. t ∷ xs) more.whole ∙ sym (ap (λ xs. xs ++ more.stop ∷ after_first is_stop (t ∷ ts)) front ∙ ap (λ xs. t ∷ (before_first is_stop ts ++ more.stop ∷ xs)) back);
          plain = subst (All IsPlain) (sym front) (All-cons IsPlain t (before_first is_stop ts) e more.plain);
          closed = ap is_closed back ∙ more.closed;
        }

some_parts : (kept statement rest : List Token) → Parts kept statement rest → 1 ≤ length kept
some_parts kept statement rest parts = omega (arith, parts.shorter)

-- the first statement of the tokens that are cut is the first of all
pub whole_splits : (kept more statement rest : List Token) → is_closed kept ≡ true → Parts kept statement rest → statements (kept ++ more) ≡ statement ∷ statements (rest ++ more)
whole_splits kept more statement rest closed parts =
    let e : Ends kept = ends_closed kept closed (some_parts kept statement rest parts) in
    ap (λ xs. statements (xs ++ more)) e.whole
    ∙ ap statements (append_assoc (before_first is_stop kept) (e.stop ∷ after_first is_stop kept) more)
    ∙ split_at (before_first is_stop kept) e.stop (after_first is_stop kept ++ more) e.plain e.is
    ∙ ap (λ xs. xs ∷ statements (after_first is_stop kept ++ more)) (sym parts.front)
    ∙ ap (λ xs. statement ∷ statements (xs ++ more)) (sym parts.behind)

pub rest_closed : (kept statement rest : List Token) → is_closed kept ≡ true → Parts kept statement rest → is_closed rest ≡ true
rest_closed kept statement rest closed parts =
    ap is_closed parts.behind ∙ (ends_closed kept closed (some_parts kept statement rest parts)).closed

-- what is left is a part of what was left
pub suffix_within : (text : List ℕ) (front left : List Token) → AreWithin text (front ++ left) → AreWithin text left
suffix_within text [] left within = within
suffix_within text (t ∷ front) left within = suffix_within text front left (All-tail (IsWithin text) t (front ++ left) within)

-- ---- statements that are left out

pub condition_is : (text : List ℕ) (ts : List Token) → condition_of (statement_of text ts) ≡ first_condition text ts
condition_is text [] = refl
condition_is text (t ∷ ts) = refl

quiet_one : (files : Files) (below : Reader) (here : Here) (l : Level) (levels : List Level) (s : Statement) (r : Reading) → l.live ≡ false → condition_of s ≡ None
    → read_statement files below here (l ∷ levels) s r ≡ r
quiet_one files below here l levels s r out none = rw (none, out) refl

quiet_levels : (l : Level) (levels : List Level) (placed : List Placed) (s : Statement) → condition_of s ≡ None → levels_behind placed s (l ∷ levels) ≡ l ∷ levels
quiet_levels l levels placed s none = rw none refl

-- without a condition word they change nothing
pub left_out : (files : Files) (below : Reader) (here : Here) (levels : List Level) (text : List ℕ) (passed : List (List Token)) (ss : List Statement) (r : Reading) → is_live levels ≡ false → is_some r.fault ≡ false
    → All (λ ts. first_condition text ts ≡ None) passed → read_statements files below here levels (map (statement_of text) passed ++ ss) r ≡ read_statements files below here levels ss r
left_out files below here [] text passed ss r out clear quiet = absurd (cc)
left_out files below here (l ∷ levels) text [] ss r out clear quiet = refl
left_out files below here (l ∷ levels) text (ts ∷ passed) ss r out clear quiet =
    let s = statement_of text ts in
    let none : condition_of s ≡ None = condition_is text ts ∙ All-head (IsQuiet text) ts passed quiet in
    let rest = map (statement_of text) passed ++ ss in
    let first : read_statement files below here (l ∷ levels) s r ≡ r = quiet_one files below here l levels s r out none in
    ap (λ (x : Reading). cond (is_some x.fault) x (read_statements files below here (levels_behind r.placed s (l ∷ levels)) rest x)) first
    ∙ ap (λ b. cond b r (read_statements files below here (levels_behind r.placed s (l ∷ levels)) rest r)) clear
    ∙ ap (λ ls. read_statements files below here ls rest r) (quiet_levels l levels r.placed s none)
    ∙ left_out files below here (l ∷ levels) text passed ss r out clear (All-tail (IsQuiet text) ts passed quiet)

map_append : (text : List ℕ) (xs ys : List (List Token)) → map (statement_of text) (xs ++ ys) ≡ map (statement_of text) xs ++ map (statement_of text) ys
map_append text [] ys = refl
map_append text (x ∷ xs) ys = ap (λ ss. statement_of text x ∷ ss) (map_append text xs ys)

-- the reading goes on the same way where statements were passed over
pub passed_reads : (files : Files) (below : Reader) (here : Here) (levels : List Level) (live : Bool) (text : List ℕ) (old new : List Token) (r whole : Reading) → live ≡ is_live levels → is_some r.fault ≡ false → PassesTo live text old new
    → read_statements files below here levels (statements_in text old) r ≡ whole → read_statements files below here levels (statements_in text new) r ≡ whole
passed_reads files below here levels live text old new r whole same clear to is =
    let p = to.passes in
    let all : statements_in text old ≡ map (statement_of text) p.passed ++ statements_in text new = ap (map (statement_of text)) p.splits ∙ map_append text p.passed (statements new) in
    by_live live refl
    ∙ ap (λ ss. read_statements files below here levels ss r) (sym all) ∙ is
  where
    by_live : (b : Bool) → live ≡ b → read_statements files below here levels (statements_in text new) r ≡ read_statements files below here levels (map (statement_of text) to.passes.passed ++ statements_in text new) r
    by_live true e = ap (λ (ps : List (List Token)). read_statements files below here levels (map (statement_of text) ps ++ statements_in text new) r) (sym (to.none e))
    by_live false e = sym (left_out files below here levels text to.passes.passed (statements_in text new) r (sym same ∙ e) clear to.passes.quiet)

-- at the end of the tokens that are cut nothing is left
pub none_left : (u : Uncut) → u.kept ≡ [] → u.more ≡ [] → all_left u ≡ []
none_left u kept more = ap (λ xs. xs ++ u.more) kept ∙ more

-- behind a statement, and those that were passed over behind it
pub passed_left : (text : List ℕ) (old cut new : Uncut) (rest : List Token) (live : Bool) → old.text ≡ text → cut ≡ record old { kept = cut.kept } → cut.kept ≡ rest → Refills live cut new
    → (new.text ≡ text) × PassesTo live text (rest ++ old.more) (all_left new)
passed_left text old cut new rest live here is kept refills =
    let same : cut.text ≡ text = ap (λ (u : Uncut). u.text) is ∙ here in
    let all : all_left cut ≡ rest ++ old.more = ap (λ xs. xs ++ cut.more) kept ∙ ap (λ (u : Uncut). rest ++ u.more) is in
    let to : PassesTo live text (all_left cut) (all_left new) = subst (λ (x : List ℕ). PassesTo live x (all_left cut) (all_left new)) same refills.passes in
    (refills.text ∙ same, subst (λ (xs : List Token). PassesTo live text xs (all_left new)) all to)

-- what is left behind the first statement lies within the text
pub split_within : (text : List ℕ) (kept more statement rest : List Token) → Parts kept statement rest → AreWithin text (kept ++ more) → AreWithin text (rest ++ more)
split_within text kept more statement rest parts within =
    let whole : kept ++ more ≡ take (position_or_len is_stop kept + 1) kept ++ (rest ++ more) =
    ap (λ xs. xs ++ more) (sym (take-append-drop (position_or_len is_stop kept + 1) kept)) ∙ append_assoc (take (position_or_len is_stop kept + 1) kept) (after_first is_stop kept) more
    ∙ ap (λ xs. take (position_or_len is_stop kept + 1) kept ++ (xs ++ more)) (sym parts.behind) in
    suffix_within text (take (position_or_len is_stop kept + 1) kept) (rest ++ more) (subst (AreWithin text) whole within)

-- only the tokens that are cut are others
pub kept_only : (old cut : Uncut) (kept : List Token) → cut ≡ record old { kept = kept } → cut ≡ record old { kept = cut.kept }
kept_only old cut kept is = is ∙ ap (λ (ts : List Token). record old { kept = ts }) (sym (ap (λ (u : Uncut). u.kept) is))

pub front_within : (text : List ℕ) (front left : List Token) → AreWithin text (front ++ left) → AreWithin text front
front_within text [] left within = All-nil (IsWithin text)
front_within text (t ∷ front) left within =
    All-cons (IsWithin text) t front (All-head (IsWithin text) t (front ++ left) within) (front_within text front left (All-tail (IsWithin text) t (front ++ left) within))

-- the first statement lies within the text
pub first_within : (text : List ℕ) (kept more statement rest : List Token) → Parts kept statement rest → AreWithin text (kept ++ more) → AreWithin text statement
first_within text kept more statement rest parts within =
    let n = position_or_len is_stop kept in
    let whole : kept ++ more ≡ take n kept ++ (drop n kept ++ more) = ap (λ xs. xs ++ more) (sym (take-append-drop n kept)) ∙ append_assoc (take n kept) (drop n kept) more in
    subst (AreWithin text) (sym parts.front) (front_within text (take n kept) (drop n kept ++ more) (subst (AreWithin text) whole within))

-- fewer tokens are left
pub fewer_left : (kept more statement rest front left : List Token) → Parts kept statement rest → rest ++ more ≡ front ++ left → length left < length (kept ++ more)
fewer_left kept more statement rest front left parts is =
    omega (arith, parts.shorter, ap length is, length-append rest more, length-append front left, length-append kept more)

-- before the first statement
pub record Started (text : List ℕ) (tokens : List Token) (u : Uncut) : Type 0 where
  pub text_is : u.text ≡ text
  pub same : statements_in text (all_left u) ≡ statements_in text tokens
  pub closed : is_closed u.kept ≡ true
  pub ready : u.kept ≡ [] → u.more ≡ []
  pub within : AreWithin text (all_left u)

pub started : (text shown : List ℕ) (c : Cutting) (made left : Uncut) → shown ≡ text → made ≡ record { text = shown; kept = c.tokens; more = rest_tokens shown c.rest } → Refills true made left → IsCutting text c
    → Started text (all_tokens text c) left
started text shown c made left e is refills cutting =
    let text_is : made.text ≡ text = ap (λ (u : Uncut). u.text) is ∙ e in
    let all : all_left made ≡ all_tokens text c = ap all_left is ∙ ap (λ (x : List ℕ). c.tokens ++ rest_tokens x c.rest) e in
    let to : PassesTo true text (all_tokens text c) (all_left left) =
    subst (λ (xs : List Token). PassesTo true text xs (all_left left)) all (subst (λ (x : List ℕ). PassesTo true x (all_left made) (all_left left)) text_is refills.passes) in
    record {
      text_is = refills.text ∙ text_is;
      same = sym (ap (map (statement_of text)) (to.passes.splits ∙ ap (λ (ps : List (List Token)). ps ++ statements (all_left left)) (to.none refl)));
      closed = refills.closed (ap (λ (u : Uncut). is_closed u.kept) is ∙ cutting.closed);
      ready = refills.ready;
      within = suffix_within text to.passes.front (all_left left) (subst (AreWithin text) to.passes.whole cutting.within);
    }

-- ---- how the next statement is cut

pub passes_same : (live : Bool) (text : List ℕ) (tokens : List Token) → PassesTo live text tokens tokens
passes_same live text tokens = record {
  passes = record { front = []; whole = refl; passed = []; splits = refl; quiet = All-nil (IsQuiet text) };
  none = λ h. refl;
}

pub passes_out : (live : Bool) (text : List ℕ) (old new : List Token) → live ≡ false → Passes text old new → PassesTo live text old new
passes_out live text old new out p = record { passes = p; none = λ h. absurd (cc) }

pub passes_as : (live : Bool) (text : List ℕ) (old mid new : List Token) → PassesTo live text old mid → new ≡ mid → PassesTo live text old new
passes_as live text old mid new to is = subst (PassesTo live text old) (sym is) to

-- nothing is done
pub refills_same : (live : Bool) (u : Uncut) → (u.kept ≡ [] → u.more ≡ []) → Refills live u u
refills_same live u ready = record { text = refl; passes = passes_same live u.text (all_left u); closed = λ h. h; ready = ready }

-- all that was cut is read
pub refills_next : (live : Bool) (text : List ℕ) (kept more kept' more' : List Token) → kept ≡ [] → PassesTo live text more (kept' ++ more') → is_closed kept' ≡ true → (kept' ≡ [] → more' ≡ [])
    → Refills live (record { text = text; kept = kept; more = more }) (record { text = text; kept = kept'; more = more' })
refills_next live text kept more kept' more' none to closed ready = record {
  text = refl;
  passes = subst (λ (xs : List Token). PassesTo live text (xs ++ more) (kept' ++ more')) (sym none) to;
  closed = λ h. closed;
  ready = ready;
}

pub some_left : (tokens : List Token) (read : ℕ) (more : List Token) → read < length tokens → drop read tokens ≡ [] → more ≡ []
some_left tokens read more lt none = absurd (omega (arith, lt, ap length none, length-drop read tokens))

pub none_there : (xs : List Token) (read : ℕ) → length xs ≤ read → drop read xs ≡ []
none_there [] zero h = refl
none_there [] (suc read) h = refl
none_there (x ∷ xs) zero h = absurd (omega arith)
none_there (x ∷ xs) (suc read) h = none_there xs read (omega arith)
