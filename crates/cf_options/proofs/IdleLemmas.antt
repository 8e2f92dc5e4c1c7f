-- One more statement, where it is asked which negations take back nothing.
use Rattle.std.proofs.Common.{◌≡◌, ℕ, ◌+◌, ◌<◌, ◌≤◌, ◌||◌, ◌&&◌, not, Bool, true, false, cond, suc, List, [], ◌∷◌, ◌++◌, length, get_or, take, drop, drop-cons, add-one, refl, ap, sym, ◌∙◌, append_assoc, map, arith}
use Rattle.std.specs.Prelude.{bytes_eq, filter}
use Rattle.std.specs.List.{list_any}
use Rattle.std.proofs.lemmas.List.{drop_all, append-nil, map-append, length-map, length-take-le}
use Rattle.std.proofs.lemmas.List.Folds.{list_any-append}
use Rattle.std.proofs.lemmas.Slice.Eq.{bytes_eq-Decides}
use Rattle.std.proofs.Math.Bool.{or-true}
use Rattle.cf_types.specs.declared.stmt.ItemKind.{ItemKind}
use Rattle.cf_types.specs.declared.stmt.ItemKind.TheVariants as of_kind
use Rattle.cf_types.specs.declared.stmt.Placed.{Placed}
use Rattle.cf_types.specs.declared.stmt.Stmt.{Stmt}
use Rattle.cf_types.specs.declared.stmt.Stmt.TheVariants as stmt
use Rattle.config_rules.specs.Fault.{stmts_of}
use Rattle.config_rules.specs.Meaning.{idle_items, idle_names}
use Rattle.config_rules.specs.Select.{drops, has_name, item_names, same_kind, takes_item}
use Rattle.config_rules.proofs.PlacedLaws.{stmts_more}
use Rattle.cf_options.specs.ItemFlags.{idle_of, idle_places}
use Rattle.cf_options.specs.Parts.{negates_items}
use Rattle.cf_options.proofs.KeptLemmas.{filter_step}

no_item : (h d : Bool) → ((h && not false) || false) ≡ (h || (false && not d))
no_item true d = refl
no_item false d = refl

one_item : (h a d n t : Bool) → ((h && not (a || (d || false))) || (n || (t && not d))) ≡ (n || (((h && not a) || t) && not d))
one_item true true true n t = refl
one_item true true false n t = refl
one_item true false true true t = refl
one_item true false true false true = refl
one_item true false true false false = refl
one_item true false false true t = refl
one_item true false false false t = refl
one_item false a true n t = refl
one_item false a false n t = refl

-- no item stands before the first statement
pub takes_none : (kind : ItemKind) (name : List ℕ) → false ≡ takes_item kind name []
unfolding takes_item
takes_none kind name = refl

-- an item stands after one more statement
takes_last : (kind : ItemKind) (name : List ℕ) (xs : List Stmt) (s : Stmt) → takes_item kind name (xs ++ s ∷ []) ≡ (has_name (item_names kind s) name || (takes_item kind name xs && not (drops kind name s)))
unfolding takes_item
takes_last kind name [] s = no_item (has_name (item_names kind s) name) (drops kind name s)
takes_last kind name (x ∷ xs) s =
    let h = has_name (item_names kind x) name in
    let more : takes_item kind name (xs ++ s ∷ []) ≡ (has_name (item_names kind s) name || (takes_item kind name xs && not (drops kind name s))) = takes_last kind name xs s in
    ap (λ b. (h && not b) || takes_item kind name (xs ++ s ∷ [])) (list_any-append (drops kind name) xs (s ∷ []))
    ∙ ap (λ b. (h && not (list_any (drops kind name) xs || (drops kind name s || false))) || b) more
    ∙ one_item h (list_any (drops kind name) xs) (drops kind name s) (has_name (item_names kind s) name) (takes_item kind name xs)

pub takes_more : (kind : ItemKind) (name : List ℕ) (placed : List Placed) (i : ℕ) (p : Placed) (now next : Bool) → i < length placed → p ≡ get_or placed i p → now ≡ takes_item kind name (stmts_of (take i placed))
    → next ≡ (has_name (item_names kind p.stmt) name || (now && not (drops kind name p.stmt))) → next ≡ takes_item kind name (stmts_of (take (i + 1) placed))
takes_more kind name placed i p now next h is so_far new =
    new ∙ ap (λ b. has_name (item_names kind p.stmt) name || (b && not (drops kind name p.stmt))) so_far
    ∙ sym (ap (takes_item kind name) (stmts_more placed i p h is) ∙ takes_last kind name (stmts_of (take i placed)) p.stmt)

-- where no statement is a negation of items none takes back nothing
none_idle : (before : List Stmt) (s : Stmt) (later : List Stmt) → negates_items s ≡ false → idle_items (before ++ s ∷ []) later ≡ [] → idle_items before (s ∷ later) ≡ []
unfolding idle_items
none_idle before (stmt.NoItems kind names) later h e = cc
none_idle before _ later h e = e

pub no_idle : (placed : List Placed) (before : List Stmt) → list_any (λ p. negates_items p.stmt) placed ≡ false → idle_items before (stmts_of placed) ≡ []
unfolding idle_items
no_idle [] before h = refl
no_idle (p ∷ placed) before h =
    none_idle before p.stmt (stmts_of placed) (neither (negates_items p.stmt) h).0 (no_idle placed (before ++ p.stmt ∷ []) (neither (negates_items p.stmt) h).1)
  where
    neither : (a : Bool) → (a || list_any (λ p. negates_items p.stmt) placed) ≡ false → (a ≡ false) × (list_any (λ p. negates_items p.stmt) placed ≡ false)
    neither true h = (h, cc)
    neither false h = (refl, h)

-- one more name
pub idle_step : (stands : List ℕ → Bool) (names : List (List ℕ)) (place i : ℕ) (name : List ℕ) (first now next : List ℕ) → i < length names → name ≡ get_or names i name
    → now ≡ first ++ idle_places stands (take i names) place → next ≡ now ++ idle_places stands (name ∷ []) place → next ≡ first ++ idle_places stands (take (i + 1) names) place
idle_step stands names place i name first now next h is so_far new =
    let test = λ (n : List ℕ). not (stands n) in
    let put = λ (n : List ℕ). place in
    let one : filter test (take (i + 1) names) ≡ filter test (take i names) ++ filter test (name ∷ []) =
    sym (filter_step test names i name [] (filter test (take i names)) (filter test (take i names) ++ filter test (name ∷ [])) h is refl refl) in
    new ∙ ap (λ xs. xs ++ map put (filter test (name ∷ []))) so_far ∙ append_assoc first (map put (filter test (take i names))) (map put (filter test (name ∷ [])))
    ∙ ap (λ xs. first ++ xs) (sym (ap (map put) one ∙ map-append put (filter test (take i names)) (filter test (name ∷ []))))

-- a name that stands in front or behind is one of the names
name_first : (n : List ℕ) (names : List (List ℕ)) → has_name (n ∷ names) n ≡ true
name_first n names = ap (λ b. b || has_name names n) ((bytes_eq-Decides n n).1 refl)

name_behind : (n : List ℕ) (names : List (List ℕ)) (q : List ℕ) → has_name names q ≡ true → has_name (n ∷ names) q ≡ true
name_behind n names q h = ap (λ b. bytes_eq n q || b) h ∙ or-true (bytes_eq n q)

same_names : (kind : ItemKind) (stands : List ℕ → Bool) (before : List Stmt) (names : List (List ℕ)) → ((q : List ℕ) → has_name names q ≡ true → stands q ≡ takes_item kind q before)
    → filter (λ n. not (stands n)) names ≡ filter (λ n. not (takes_item kind n before)) names
same_names kind stands before [] h = refl
same_names kind stands before (n ∷ names) h =
    ap (λ b. cond (not b) (n ∷ filter (λ m. not (stands m)) names) (filter (λ m. not (stands m)) names)) (h n (name_first n names))
    ∙ ap (λ ms. cond (not (takes_item kind n before)) (n ∷ ms) ms) (same_names kind stands before names (λ q k. h q (name_behind n names q k)))

own_kind : (kind : ItemKind) → same_kind kind kind ≡ true
own_kind of_kind.Options = refl
own_kind of_kind.MakeOptions = refl
own_kind of_kind.PseudoDevice = refl
own_kind of_kind.FileSystem = refl

same_idle : (stands : ItemKind → List ℕ → Bool) (before : List Stmt) (place : ℕ) (s : Stmt) → ((kind : ItemKind) (q : List ℕ) → drops kind q s ≡ true → stands kind q ≡ takes_item kind q before)
    → idle_of stands s place ≡ map (λ name. place) (idle_names before s)
same_idle stands before place (stmt.NoItems kind names) h =
    ap (map (λ name. place)) (same_names kind (stands kind) before names (λ q k. h kind q (ap (λ b. b && has_name names q) (own_kind kind) ∙ k)))
same_idle stands before place _ h = refl

idle_front : (placed : List Placed) (i : ℕ) (p : Placed) → i < length placed → p ≡ get_or placed i p
    → idle_items (stmts_of (take i placed)) (stmts_of (drop i placed)) ≡ map (λ name. length (stmts_of (take i placed))) (idle_names (stmts_of (take i placed)) p.stmt) ++ idle_items (stmts_of (take (i + 1) placed)) (stmts_of (drop (i + 1) placed))
unfolding idle_items
idle_front placed i p h is =
    rw (stmts_more placed i p h is, add-one, drop-cons placed i p)
    (ap (λ (q : Placed). map (λ name. length (stmts_of (take i placed))) (idle_names (stmts_of (take i placed)) q.stmt) ++ idle_items (stmts_of (take i placed) ++ q.stmt ∷ []) (stmts_of (drop (suc i) placed))) (sym is))

-- what holds of the first statement, or of a later one, holds of one of those that are left
pub any_first : (test : Stmt → Bool) (placed : List Placed) (i : ℕ) (p : Placed) → i < length placed → p ≡ get_or placed i p → test p.stmt ≡ true → list_any (λ q. test q.stmt) (drop i placed) ≡ true
any_first test placed i p h is holds =
    rw (drop-cons placed i p) (ap (λ (q : Placed). test q.stmt || list_any (λ r. test r.stmt) (drop (suc i) placed)) (sym is) ∙ ap (λ b. b || list_any (λ r. test r.stmt) (drop (suc i) placed)) holds)

pub any_behind : (test : Stmt → Bool) (placed : List Placed) (i : ℕ) (p : Placed) → i < length placed → list_any (λ q. test q.stmt) (drop (i + 1) placed) ≡ true → list_any (λ q. test q.stmt) (drop i placed) ≡ true
any_behind test placed i p h later =
    rw (drop-cons placed i p) (ap (λ b. test (get_or placed i p).stmt || b) (rw add-one at later) ∙ or-true (test (get_or placed i p).stmt))

-- the places so far, and those of the statements that are left
pub idle_more : (placed : List Placed) (i : ℕ) (p : Placed) (stands : ItemKind → List ℕ → Bool) (now next all : List ℕ) → i < length placed → p ≡ get_or placed i p
    → ((kind : ItemKind) (q : List ℕ) → list_any (λ x. drops kind q x.stmt) (drop i placed) ≡ true → stands kind q ≡ takes_item kind q (stmts_of (take i placed)))
    → now ++ idle_items (stmts_of (take i placed)) (stmts_of (drop i placed)) ≡ all → next ≡ now ++ idle_of stands p.stmt i
    → next ++ idle_items (stmts_of (take (i + 1) placed)) (stmts_of (drop (i + 1) placed)) ≡ all
idle_more placed i p stands now next all h is known so_far new =
    let rest = idle_items (stmts_of (take (i + 1) placed)) (stmts_of (drop (i + 1) placed)) in
    let names = idle_names (stmts_of (take i placed)) p.stmt in
    let place : i ≡ length (stmts_of (take i placed)) = omega (arith, length-map (take i placed) (λ q. q.stmt), length-take-le i placed (omega arith)) in
    let here : idle_of stands p.stmt i ≡ map (λ name. length (stmts_of (take i placed))) names =
    same_idle stands (stmts_of (take i placed)) i p.stmt (λ kind q k. known kind q (any_first (drops kind q) placed i p h is k)) ∙ ap (λ n. map (λ name. n) names) place in
    ap (λ xs. xs ++ rest) (new ∙ ap (λ xs. now ++ xs) here)
    ∙ append_assoc now (map (λ name. length (stmts_of (take i placed))) names) rest ∙ ap (λ xs. now ++ xs) (sym (idle_front placed i p h is)) ∙ so_far

-- no statement is left
pub idle_ends : (placed : List Placed) (i : ℕ) (now all : List ℕ) → length placed ≤ i → now ++ idle_items (stmts_of (take i placed)) (stmts_of (drop i placed)) ≡ all → now ≡ all
unfolding idle_items
idle_ends placed i now all h so_far = let none : now ++ [] ≡ all = rw (drop_all i placed h) at so_far in sym (append-nil now) ∙ none
