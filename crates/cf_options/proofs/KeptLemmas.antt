-- The items of one more statement.
use Rattle.std.proofs.Common.{◌≡◌, ℕ, ◌+◌, ◌<◌, ◌≤◌, not, Bool, true, cond, suc, List, [], ◌∷◌, ◌++◌, length, get_or, take, drop, drop-cons, add-one, refl, ap, sym, ◌∙◌, append_assoc}
use Rattle.std.specs.Prelude.{filter}
use Rattle.std.specs.List.{list_any}
use Rattle.std.proofs.lemmas.List.{drop_all, append-nil, take_all, take_more}
use Rattle.std.proofs.lemmas.List.Elements.{filter-append}
use Rattle.cf_types.specs.declared.stmt.ItemKind.{ItemKind}
use Rattle.cf_types.specs.declared.stmt.Placed.{Placed}
use Rattle.cf_types.specs.declared.stmt.Stmt.{Stmt}
use Rattle.config_rules.specs.Fault.{stmts_of}
use Rattle.config_rules.specs.Select.{kept_items, drops}
use Rattle.config_rules.proofs.PlacedLaws.{any_stmts}
use Rattle.cf_options.specs.Last.{not_dropped}

dropped_same : {A : Type 0} (kind : ItemKind) (name_of : A → List ℕ) (dropped : List ℕ → Bool) (later : List Placed) (items : List A) → ((q : List ℕ) → dropped q ≡ list_any (λ p. drops kind q p.stmt) later)
    → filter (λ x. not (list_any (drops kind (name_of x)) (stmts_of later))) items ≡ not_dropped dropped name_of items
dropped_same kind name_of dropped later [] h = refl
dropped_same kind name_of dropped later (x ∷ items) h =
    let rest = filter (λ y. not (list_any (drops kind (name_of y)) (stmts_of later))) items in
    let e : list_any (drops kind (name_of x)) (stmts_of later) ≡ dropped (name_of x) = any_stmts (drops kind (name_of x)) later ∙ sym (h (name_of x)) in
    ap (λ b. cond (not b) (x ∷ rest) rest) e ∙ ap (λ ys. cond (not (dropped (name_of x))) (x ∷ ys) ys) (dropped_same kind name_of dropped later items h)

kept_next : {A : Type 0} (kind : ItemKind) (items_of : Stmt → List A) (name_of : A → List ℕ) (placed : List Placed) (i : ℕ) (p : Placed) → i < length placed → p ≡ get_or placed i p
    → kept_items kind items_of name_of (stmts_of (drop i placed)) ≡ filter (λ x. not (list_any (drops kind (name_of x)) (stmts_of (drop (i + 1) placed)))) (items_of p.stmt) ++ kept_items kind items_of name_of (stmts_of (drop (i + 1) placed))
unfolding kept_items
kept_next kind items_of name_of placed i p h is =
    rw (add-one, drop-cons placed i p)
    (ap (λ (q : Placed). filter (λ x. not (list_any (drops kind (name_of x)) (stmts_of (drop (suc i) placed)))) (items_of q.stmt) ++ kept_items kind items_of name_of (stmts_of (drop (suc i) placed))) (sym is))

kept_front : {A : Type 0} (kind : ItemKind) (items_of : Stmt → List A) (name_of : A → List ℕ) (dropped : List ℕ → Bool) (placed : List Placed) (i : ℕ) (p : Placed) → i < length placed → p ≡ get_or placed i p
    → ((q : List ℕ) → dropped q ≡ list_any (λ x. drops kind q x.stmt) (drop (i + 1) placed))
    → kept_items kind items_of name_of (stmts_of (drop i placed)) ≡ not_dropped dropped name_of (items_of p.stmt) ++ kept_items kind items_of name_of (stmts_of (drop (i + 1) placed))
kept_front kind items_of name_of dropped placed i p h is later =
    kept_next kind items_of name_of placed i p h is
    ∙ ap (λ xs. xs ++ kept_items kind items_of name_of (stmts_of (drop (i + 1) placed))) (dropped_same kind name_of dropped (drop (i + 1) placed) (items_of p.stmt) later)

-- the items kept so far, and those of the statements that are left
pub kept_more : {A : Type 0} (kind : ItemKind) (items_of : Stmt → List A) (name_of : A → List ℕ) (dropped : List ℕ → Bool) (placed : List Placed) (i : ℕ) (p : Placed) (items now next all : List A) → i < length placed → p ≡ get_or placed i p
    → ((q : List ℕ) → dropped q ≡ list_any (λ x. drops kind q x.stmt) (drop (i + 1) placed)) → items ≡ items_of p.stmt
    → now ++ kept_items kind items_of name_of (stmts_of (drop i placed)) ≡ all → next ≡ now ++ not_dropped dropped name_of items
    → next ++ kept_items kind items_of name_of (stmts_of (drop (i + 1) placed)) ≡ all
kept_more kind items_of name_of dropped placed i p items now next all h is later of so_far new =
    let rest = kept_items kind items_of name_of (stmts_of (drop (i + 1) placed)) in
    let here = not_dropped dropped name_of (items_of p.stmt) in
    ap (λ xs. xs ++ rest) (new ∙ ap (λ xs. now ++ not_dropped dropped name_of xs) of)
    ∙ append_assoc now here rest ∙ ap (λ xs. now ++ xs) (sym (kept_front kind items_of name_of dropped placed i p h is later)) ∙ so_far

-- no statement is left
pub kept_ends : {A : Type 0} (kind : ItemKind) (items_of : Stmt → List A) (name_of : A → List ℕ) (placed : List Placed) (i : ℕ) (now all : List A) → length placed ≤ i
    → now ++ kept_items kind items_of name_of (stmts_of (drop i placed)) ≡ all → now ≡ all
unfolding kept_items
kept_ends kind items_of name_of placed i now all h so_far =
    let none : now ++ [] ≡ all = rw (drop_all i placed h) at so_far in sym (append-nil now) ∙ none

-- one more element that passes a test or not
pub filter_step : {X : Type 0} (test : X → Bool) (xs : List X) (i : ℕ) (x : X) (first now next : List X) → i < length xs → x ≡ get_or xs i x → now ≡ first ++ filter test (take i xs) → next ≡ now ++ filter test (x ∷ []) → next ≡ first ++ filter test (take (i + 1) xs)
filter_step test xs i x first now next h is so_far new =
    new ∙ ap (λ ys. ys ++ filter test (x ∷ [])) so_far ∙ append_assoc first (filter test (take i xs)) (filter test (x ∷ [])) ∙ ap (λ y. first ++ (filter test (take i xs) ++ filter test (y ∷ []))) is
    ∙ ap (λ ys. first ++ ys) (sym (ap (filter test) (take_more xs i x h) ∙ filter-append test (take i xs) (get_or xs i x ∷ [])))

-- one more element that passes, where all before it do
pub kept_step : {X : Type 0} (test : X → Bool) (xs : List X) (i : ℕ) (x : X) → i < length xs → x ≡ get_or xs i x → take i xs ≡ filter test (take i xs) → test x ≡ true → take (i + 1) xs ≡ filter test (take (i + 1) xs)
kept_step test xs i x h is so_far passes =
    take_more xs i x h ∙ ap (λ y. take i xs ++ y ∷ []) (sym is)
    ∙ filter_step test xs i x [] (take i xs) (take i xs ++ x ∷ []) h is so_far (ap (λ b. take i xs ++ cond b (x ∷ []) []) (sym passes))

-- all pass
pub kept_all : {X : Type 0} (test : X → Bool) (xs : List X) (i : ℕ) → length xs ≤ i → take i xs ≡ filter test (take i xs) → filter test xs ≡ xs
kept_all test xs i h same = let all : take i xs ≡ xs = take_all i xs h in ap (filter test) (sym all) ∙ sym same ∙ all
