-- The paths of sources, one statement more.
use Rattle.std.proofs.Common.{◌≡◌, ℕ, ◌+◌, ◌<◌, Bool, true, false, not, ◌||◌, cond, Option, Some, None, List, [], ◌∷◌, ◌++◌, length, get_or, take, drop, map, refl, ap, sym, subst, ◌∙◌, append-nil}
use Rattle.std.specs.Prelude.{filter, slice_get}
use Rattle.std.specs.Option.{option_to_list}
use Rattle.std.specs.Str.{bytes_eq}
use Rattle.std.proofs.Math.Bool.{or-false}
use Rattle.std.proofs.lemmas.List.{drop_more, map-append, take-append-drop}
use Rattle.std.proofs.lemmas.List.Elements.{filter-append}
use Rattle.std.proofs.lemmas.List.Folds.{list_any-append}
use Rattle.std.proofs.lemmas.Map.Views.{any-filter_same}
use Rattle.std.proofs.lemmas.Slice.Eq.{bytes_eq-Decides}
use Rattle.cf_types.proofs.ListLemmas.{filter_map_more}
use Rattle.cf_types.specs.declared.stmt.Piece.{Piece}
use Rattle.cf_types.specs.declared.stmt.Placed.{Placed}
use Rattle.cf_types.specs.declared.tables.Refusal.{Refusal}
use Rattle.config_rules.specs.Fault.{refusal}
use Rattle.config_rules.specs.Select.{has_name}
use Rattle.file_rules.specs.Sources.{AreSources, IsFirstBad, IsSource, SelectsIn, Source, distinct, file_pieces, files_in, is_selected, path_in, paths_of}
use Rattle.file_select.specs.Answers.{Takes, TakesOptional, with_path}
use Rattle.file_select.specs.Findings.{Finds}
use Rattle.file_select.specs.Texts.{with_text}
use Rattle.file_select.specs.declared.statement.Finding.TheVariants.{Good}
use Rattle.file_select.proofs.TextLemmas.{has-with_text}

-- ---- one path more

filter_one : (p : List ℕ → Bool) (y : List ℕ) (b : Bool) → p y ≡ b → filter p (y ∷ []) ≡ cond b (y ∷ []) []
filter_one p y b e = ap (λ v. cond v (y ∷ []) []) e

distinct_step : (x y : List ℕ) (ds : List (List ℕ)) → x ∷ filter (λ z. not (bytes_eq x z)) (with_path ds y) ≡ with_path (x ∷ filter (λ z. not (bytes_eq x z)) ds) y
distinct_step x y ds = by (bytes_eq x y) (has_name ds y) refl refl
  where
    ne : List ℕ → Bool
    ne z = not (bytes_eq x z)

    same_others : bytes_eq x y ≡ false → has_name (filter (λ z. not (bytes_eq x z)) ds) y ≡ has_name ds y
    same_others e =
        any-filter_same (λ z. bytes_eq z y) (λ z. not (bytes_eq x z)) true
        (λ k t. ap (λ z. not (bytes_eq x z)) ((bytes_eq-Decides k y).0 t) ∙ ap not e) ds

    by : (b h : Bool) → bytes_eq x y ≡ b → has_name ds y ≡ h
        → x ∷ filter (λ z. not (bytes_eq x z)) (cond (has_name ds y) ds (ds ++ y ∷ []))
        ≡ cond (bytes_eq x y || has_name (filter (λ z. not (bytes_eq x z)) ds) y) (x ∷ filter (λ z. not (bytes_eq x z)) ds) (x ∷ (filter (λ z. not (bytes_eq x z)) ds ++ y ∷ []))
    by true true e g = rw (e, g) refl
    by true false e g =
        rw (e, g)
        (ap (λ zs. x ∷ zs) (filter-append (λ z. not (bytes_eq x z)) ds (y ∷ []) ∙ ap (λ zs. filter (λ z. not (bytes_eq x z)) ds ++ zs) (filter_one (λ z. not (bytes_eq x z)) y false (ap not e)) ∙ append-nil (filter (λ z. not (bytes_eq x z)) ds)))
    by false true e g = let o = same_others e ∙ g in rw (e, g, o) refl
    by false false e g =
        let o = same_others e ∙ g in
        rw (e, g, o)
        (ap (λ zs. x ∷ zs) (filter-append (λ z. not (bytes_eq x z)) ds (y ∷ []) ∙ ap (λ zs. filter (λ z. not (bytes_eq x z)) ds ++ zs) (filter_one (λ z. not (bytes_eq x z)) y true (ap not e))))

distinct_more : (xs : List (List ℕ)) (y : List ℕ) → distinct (xs ++ y ∷ []) ≡ with_path (distinct xs) y
distinct_more [] y = refl
distinct_more (x ∷ xs) y = ap (λ ds. x ∷ filter (λ z. not (bytes_eq x z)) ds) (distinct_more xs y) ∙ distinct_step x y (distinct xs)

or_known : (a b : Bool) → (b ≡ true → a ≡ true) → a ≡ (a || b)
or_known true b h = refl
or_known false true h = h refl
or_known false false h = refl

-- what is among the paths with one more
pub has-with_path : (paths : List (List ℕ)) (path text : List ℕ) → has_name (with_path paths path) text ≡ (has_name paths text || bytes_eq path text)
has-with_path paths path text = by (has_name paths path) refl
  where
    by : (b : Bool) → has_name paths path ≡ b → has_name (cond b paths (paths ++ path ∷ [])) text ≡ (has_name paths text || bytes_eq path text)
    by true e = or_known (has_name paths text) (bytes_eq path text) (λ h. ap (has_name paths) (sym ((bytes_eq-Decides path text).0 h)) ∙ e)
    by false e = list_any-append (λ n. bytes_eq n text) paths (path ∷ []) ∙ ap (λ b. has_name paths text || b) (or-false (bytes_eq path text))

-- a set and a list that have the same, with one more
pub same_more : (seen paths : List (List ℕ)) (path : List ℕ) → ((text : List ℕ) → has_name seen text ≡ has_name paths text) → (text : List ℕ) → has_name (with_text seen path) text ≡ has_name (with_path paths path) text
same_more seen paths path h text =
    has-with_text seen path text ∙ ap (λ b. b || bytes_eq path text) (h text) ∙ sym (has-with_path paths path text)

-- ---- one source more

paths_more : (test : List ℕ → Bool) (ss : List Source) (s : Source) → paths_of test (ss ++ s ∷ []) ≡ cond (is_selected test s) (with_path (paths_of test ss) s.path) (paths_of test ss)
paths_more test ss s = ap (λ zs. distinct (map (λ x. x.path) zs)) (filter-append (is_selected test) ss (s ∷ [])) ∙ by (is_selected test s) refl
  where
    by : (b : Bool) → is_selected test s ≡ b → distinct (map (λ x. x.path) (filter (is_selected test) ss ++ cond b (s ∷ []) [])) ≡ cond b (with_path (paths_of test ss) s.path) (paths_of test ss)
    by true e = ap distinct (map-append (λ x. x.path) (filter (is_selected test) ss) (s ∷ [])) ∙ distinct_more (map (λ x. x.path) (filter (is_selected test) ss)) s.path
    by false e = ap (λ zs. distinct (map (λ x. x.path) zs)) (append-nil (filter (is_selected test) ss))

sources_more : (pss : List (List Piece)) (ss : List Source) (ps : List Piece) (s : Source) → AreSources pss ss → IsSource ps s → AreSources (pss ++ ps ∷ []) (ss ++ s ∷ [])
sources_more [] [] ps s h k = (k, tt)
sources_more [] (x ∷ ss) ps s h k = absurd h
sources_more (x ∷ pss) [] ps s h k = absurd h
sources_more (x ∷ pss) (y ∷ ss) ps s h k = (h.0, sources_more pss ss ps s h.1 k)

files_more : (placed : List Placed) (i : ℕ) (p : Placed) (o : Option (List Piece)) → i < length placed → p ≡ get_or placed i p → file_pieces p.stmt ≡ o → files_in (take (i + 1) placed) ≡ files_in (take i placed) ++ option_to_list o
files_more placed i p o h is e =
    filter_map_more (λ q. file_pieces q.stmt) placed i p h ∙ ap (λ (q : Placed). files_in (take i placed) ++ option_to_list (file_pieces q.stmt)) (sym is) ∙ ap (λ x. files_in (take i placed) ++ option_to_list x) e

-- the paths with one statement more
pub selects_more : (test : List ℕ → Bool) (placed : List Placed) (i : ℕ) (p : Placed) (paths new : List (List ℕ)) → i < length placed → p ≡ get_or placed i p → SelectsIn test (take i placed) paths → TakesOptional test (file_pieces p.stmt) paths None new → SelectsIn test (take (i + 1) placed) new
selects_more test placed i p paths new h is so_far takes = by (file_pieces p.stmt) refl takes
  where
    by : (o : Option (List Piece)) → file_pieces p.stmt ≡ o → TakesOptional test o paths None new → SelectsIn test (take (i + 1) placed) new
    by None e t = record {
      sources = so_far.sources;
      read = subst (λ (pss : List (List Piece)). AreSources pss so_far.sources) (sym (files_more placed i p None h is e ∙ append-nil (files_in (take i placed)))) so_far.read;
      shown = t.1 ∙ so_far.shown;
    }
    by (Some ps) e t = record {
      sources = so_far.sources ++ t.0 ∷ [];
      read = subst (λ (pss : List (List Piece)). AreSources pss (so_far.sources ++ t.0 ∷ [])) (sym (files_more placed i p (Some ps) h is e)) (sources_more (files_in (take i placed)) so_far.sources ps t.0 so_far.read t.1);
      shown = t.2 ∙ ap (λ ds. cond (is_selected test t.0) (with_path ds (t.0).path) ds) so_far.shown ∙ sym (paths_more test so_far.sources t.0);
    }

take_and_drop : (placed : List Placed) (i : ℕ) → take i placed ++ drop i placed ≡ placed
take_and_drop placed i = take-append-drop i placed

-- the first statement that has a code
pub first_bad : (test : List ℕ → Bool) (files : List (List ℕ)) (placed : List Placed) (i : ℕ) (p : Placed) (paths new : List (List ℕ)) (code : ℕ) (r : Refusal) → i < length placed → p ≡ get_or placed i p → SelectsIn test (take i placed) paths → TakesOptional test (file_pieces p.stmt) paths (Some code) new → r ≡ refusal files p code → IsFirstBad files placed r
first_bad test files placed i p paths new code r h is so_far takes shown = by (file_pieces p.stmt) refl takes
  where
    by : (o : Option (List Piece)) → file_pieces p.stmt ≡ o → TakesOptional test o paths (Some code) new → IsFirstBad files placed r
    by None e t = absurd (cc (t.0))
    by (Some ps) e t = record {
      before = take i placed;
      bad = p;
      after = drop (i + 1) placed;
      sources = so_far.sources;
      pieces = ps;
      code = code;
      parts = sym (take_and_drop placed i) ∙ ap (λ qs. take i placed ++ qs) (drop_more placed i p h ∙ ap (λ q. q ∷ drop (i + 1) placed) (sym is));
      good = so_far.read;
      file = e;
      has_code = t;
      shown = shown;
    }

-- ---- what a `file` statement does

first_path : (ps : List Piece) (p : Piece) (path : List ℕ) → slice_get ps 0 ≡ Some p → path_in ps ≡ Some path → path ≡ p.text
first_path [] p path h e = absurd (cc)
first_path (q ∷ ps) p path h e = let same : q ≡ p = cc in by_test _ (sym e) ∙ ap (λ (z : Piece). z.text) same
  where
    by_test : (b : Bool) → Some path ≡ cond b (Some q.text) None → path ≡ q.text
    by_test true k = cc
    by_test false k = absurd (cc)

-- the path of a source that is selected is appended
pub takes_selected : (test : List ℕ → Bool) (ps : List Piece) (p : Piece) (paths new : List (List ℕ)) → Finds test ps (Good true) → slice_get ps 0 ≡ Some p → new ≡ with_path paths p.text → Takes test ps paths None new
takes_selected test ps p paths new (s, source, selected) first e =
    (s, source, e ∙ ap (with_path paths) (sym (first_path ps p s.path first source.form.path)) ∙ ap (λ b. cond b (with_path paths s.path) paths) selected)

pub takes_other : (test : List ℕ → Bool) (ps : List Piece) (paths new : List (List ℕ)) → Finds test ps (Good false) → new ≡ paths → Takes test ps paths None new
takes_other test ps paths new (s, source, selected) e = (s, source, e ∙ ap (λ b. cond b (with_path paths s.path) paths) selected)

-- a source has a first piece
pub takes_nothing : (test : List ℕ → Bool) (ps : List Piece) (paths new : List (List ℕ)) → Finds test ps (Good true) → slice_get ps 0 ≡ None → Takes test ps paths None new
takes_nothing test [] paths new (s, source, selected) e = let k : None ≡ Some s.path = source.form.path in absurd (cc)
takes_nothing test (p ∷ ps) paths new f e = absurd (cc)

-- ---- a set beside a list

pub pushed_same : (seen new paths more : List (List ℕ)) (path copy : List ℕ) → new ≡ with_text seen path → ((text : List ℕ) → has_name seen text ≡ has_name paths text) → more ≡ paths ++ copy ∷ [] → copy ≡ path → (text : List ℕ) → has_name new text ≡ has_name more text
pushed_same seen new paths more path copy e h pushed is text =
    ap (λ ts. has_name ts text) e ∙ has-with_text seen path text ∙ ap (λ b. b || bytes_eq path text) (h text)
    ∙ ap (λ b. has_name paths text || b) (sym (or-false (bytes_eq path text))) ∙ sym (list_any-append (λ n. bytes_eq n text) paths (path ∷ []))
    ∙ ap (λ t. has_name (paths ++ t ∷ []) text) (sym is) ∙ ap (λ ts. has_name ts text) (sym pushed)

pub kept_same : (seen new paths same : List (List ℕ)) (path : List ℕ) → new ≡ with_text seen path → ((text : List ℕ) → has_name seen text ≡ has_name paths text) → same ≡ paths → false ≡ not (has_name seen path) → (text : List ℕ) → has_name new text ≡ has_name same text
kept_same seen new paths same path e h kept known text =
    let there : has_name paths path ≡ true = sym (h path) ∙ by (has_name seen path) known in
    ap (λ ts. has_name ts text) e ∙ has-with_text seen path text ∙ ap (λ b. b || bytes_eq path text) (h text)
    ∙ sym (or_known (has_name paths text) (bytes_eq path text) (λ k. ap (has_name paths) (sym ((bytes_eq-Decides path text).0 k)) ∙ there)) ∙ ap (λ ts. has_name ts text) (sym kept)
  where
    by : (b : Bool) → false ≡ not b → b ≡ true
    by true k = refl
    by false k = absurd (cc)
