-- The tokens of free statements change nothing of what a configuration means.
use Rattle.std.proofs.Common.{◌≡◌, ℕ, zero, suc, ◌+◌, ◌<◌, get_or, set, take, drop, arith, Bool, false, cond, Option, List, [], ◌∷◌, ◌++◌, length, map, refl, ap, sym, ◌∙◌, ◌≤◌, subst}
use Rattle.std.specs.Prelude.{not, ◌&&◌, ◌||◌, if◌then◌else◌, filter, filter_map, fold, count_by, option_map, Result, Ok, Err}
use Rattle.std.specs.List.{All, list_any, cons_option}
use Rattle.std.specs.Option.{option_map_or}
use Rattle.std.proofs.lemmas.List.{length-map, map-append}
use Rattle.std.proofs.lemmas.List.Elements.{All-cons, All-head, All-nil, All-tail}
use Rattle.cf_types.specs.declared.instance.Instance.{Instance}
use Rattle.cf_types.specs.declared.stmt.Expanded.{Expanded}
use Rattle.cf_types.specs.declared.stmt.ItemKind.{ItemKind}
use Rattle.cf_types.specs.declared.stmt.ItemKind.TheVariants as of_kind
use Rattle.cf_types.specs.declared.stmt.Piece.{Piece}
use Rattle.cf_types.specs.declared.stmt.Placed.{Placed}
use Rattle.cf_types.specs.declared.stmt.Stmt.{Stmt}
use Rattle.cf_types.specs.declared.stmt.Stmt.TheVariants as stmt
use Rattle.cf_types.specs.declared.tables.Tables.{Tables}
use Rattle.cf_types.specs.declared.tables.WarnKind.TheVariants as warns
use Rattle.config_rules.specs.Declared.{Declared, attr_name, attr_of, attach_of, declared, declared_with, device_name, device_of}
use Rattle.config_rules.specs.Fault.{code_of, fault_in, fault_of, first_code, is_instance, refusal, stmts_of}
use Rattle.config_rules.specs.Form.{◌or◌}
use Rattle.config_rules.specs.Joined.{join}
use Rattle.config_rules.specs.Meaning.{file_systems_in, idle, idle_names, if_joined, inst_of, instance_of, is_idle, makeoptions_in, options_in, orphan, pseudos_in, marked, surviving, tables_of, tables_with, warning, warnings}
use Rattle.config_rules.specs.Reading.{Reading}
use Rattle.config_rules.specs.Select.{RootedInsts, drops, has_name, item_names, kept_items, names, survives, takes_back, takes_item}
use Rattle.config_rules.specs.Written.{AreWritten, IsWritten}
use Rattle.cf_compile.specs.Meant.{Finds, IsMeant, read_from, reading_of}
use Rattle.cf_compile.specs.declared.stop.CompileStop.{CompileStop}
use Rattle.cf_compile.specs.declared.stop.CompileStop.TheVariants.{Refused, ReadFault, Memory}
use Rattle.cf_compile.specs.Emptied.{emptied, emptied_at}

-- ---- one statement

-- what does not look at these tokens is the same
same_of : {A : Type 0} (f : Stmt → A) → ((word : List ℕ) (rest : List Piece) → f (stmt.Free word []) ≡ f (stmt.Free word rest)) → (s : Stmt) → f (emptied s) ≡ f s
same_of f h (stmt.Free word rest) = h word rest
same_of f h _ = refl

-- ---- what a test, a count or a choice of each statement gives

any_same : (p q : Stmt → Bool) → ((s : Stmt) → q (emptied s) ≡ p s) → (xs : List Stmt) → list_any q (map emptied xs) ≡ list_any p xs
any_same p q h [] = refl
any_same p q h (x ∷ xs) = ap (λ b. b || list_any q (map emptied xs)) (h x) ∙ ap (λ b. p x || b) (any_same p q h xs)

abbrev counted : ℕ → List Stmt → ℕ
counted n xs = fold (λ a x. a + cond (is_instance x) 1 0) n xs

counted_same : (n : ℕ) (xs : List Stmt) → counted n (map emptied xs) ≡ counted n xs
counted_same n [] = refl
counted_same n (x ∷ xs) =
    ap (λ b. counted (n + cond b 1 0) (map emptied xs)) (same_of is_instance (λ word rest. refl) x) ∙ counted_same (n + cond (is_instance x) 1 0) xs

count_same : (xs : List Stmt) → count_by is_instance (map emptied xs) ≡ count_by is_instance xs
count_same xs = counted_same 0 xs

given_same : {A : Type 0} (f : Stmt → Option A) → ((s : Stmt) → f (emptied s) ≡ f s) → (xs : List Stmt) → filter_map f (map emptied xs) ≡ filter_map f xs
given_same f h [] = refl
given_same f h (x ∷ xs) = ap (λ o. cons_option o (filter_map f (map emptied xs))) (h x) ∙ ap (cons_option (f x)) (given_same f h xs)

-- ---- what is declared

attr_name_same : (s : Stmt) → attr_name (emptied s) ≡ attr_name s
attr_name_same = same_of attr_name (λ word rest. refl)

device_name_same : (s : Stmt) → device_name (emptied s) ≡ device_name s
device_name_same = same_of device_name (λ word rest. refl)

declared_parts : (attrs devices : List (List ℕ)) (xs : List Stmt) → declared_with attrs devices (map emptied xs) ≡ declared_with attrs devices xs
declared_parts attrs devices xs =
    let of_attrs : filter_map (attr_of attrs) (map emptied xs) ≡ filter_map (attr_of attrs) xs = given_same (attr_of attrs) (same_of (attr_of attrs) (λ word rest. refl)) xs in
    let of_devices : filter_map (device_of attrs) (map emptied xs) ≡ filter_map (device_of attrs) xs = given_same (device_of attrs) (same_of (device_of attrs) (λ word rest. refl)) xs in
    let of_attaches : filter_map (attach_of attrs devices) (map emptied xs) ≡ filter_map (attach_of attrs devices) xs =
    given_same (attach_of attrs devices) (same_of (attach_of attrs devices) (λ word rest. refl)) xs in
    rw (of_attrs, of_devices, of_attaches) refl

pub declared_same : (xs : List Stmt) → declared (map emptied xs) ≡ declared xs
unfolding declared
declared_same xs =
    ap (λ names. declared_with names (filter_map device_name (map emptied xs)) (map emptied xs)) (given_same attr_name attr_name_same xs)
    ∙ ap (λ names. declared_with (filter_map attr_name xs) names (map emptied xs)) (given_same device_name device_name_same xs)
    ∙ declared_parts (filter_map attr_name xs) (filter_map device_name xs) xs

-- ---- the first code

fault_same : (before : List Stmt) (s : Stmt) → fault_of (map emptied before) (emptied s) ≡ fault_of before s
unfolding fault_of
fault_same before s =
    ap (λ d. code_of d (count_by is_instance (map emptied before)) (emptied s)) (declared_same before)
    ∙ ap (λ n. code_of (declared before) n (emptied s)) (count_same before)
    ∙ same_of (code_of (declared before) (count_by is_instance before)) (λ word rest. refl) s

-- statements before, with one more
before_same : (before : List Stmt) (s : Stmt) → map emptied before ++ emptied s ∷ [] ≡ map emptied (before ++ s ∷ [])
before_same before s = sym (map-append emptied before (s ∷ []))

pub first_code_same : (files : List (List ℕ)) (before : List Stmt) (placed : List Placed) → first_code files (map emptied before) (map emptied_at placed) ≡ first_code files before placed
first_code_same files before [] = refl
first_code_same files before (p ∷ placed) =
    ap (λ code. option_map (refusal files p) code or first_code files (map emptied before ++ emptied p.stmt ∷ []) (map emptied_at placed)) (fault_same before p.stmt)
    ∙ ap (λ later. option_map (refusal files p) (fault_of before p.stmt) or first_code files later (map emptied_at placed)) (before_same before p.stmt)
    ∙ ap (λ rest. option_map (refusal files p) (fault_of before p.stmt) or rest) (first_code_same files (before ++ p.stmt ∷ []) placed)

-- ---- the instances that survive

free_not_named : (n : Stmt) (word : List ℕ) (rest : List Piece) → names n (stmt.Free word rest) ≡ false
free_not_named (stmt.NoInst base mark at) word rest = refl
free_not_named (stmt.NoDevice at) word rest = refl
free_not_named _ word rest = refl

names_same : (n s : Stmt) → names (emptied n) (emptied s) ≡ names n s
names_same n s =
    same_of (λ m. names m (emptied s)) (λ word rest. refl) n
    ∙ same_of (names n) (λ word rest. free_not_named n word [] ∙ sym (free_not_named n word rest)) s

survives_same : (s : Stmt) (later : List Stmt) → survives (emptied s) (map emptied later) ≡ survives s later
survives_same s later =
    ap (λ b. b && not (list_any (λ n. names n (emptied s)) (map emptied later))) (same_of is_instance (λ word rest. refl) s)
    ∙ ap (λ b. is_instance s && not b) (any_same (λ n. names n s) (λ n. names n (emptied s)) (λ n. names_same n s) later)

instance_of_all : (before : List Stmt) (s : Stmt) → instance_of (map emptied before) s ≡ instance_of before s
instance_of_all before (stmt.Inst base mark at pairs flags) =
    ap (λ n. if_joined n mark flags (join (declared (map emptied before)) base at pairs)) (length-map before emptied)
    ∙ ap (λ d. if_joined (length before) mark flags (join d base at pairs)) (declared_same before)
instance_of_all before _ = refl

instance_same : (before : List Stmt) (s : Stmt) → instance_of (map emptied before) (emptied s) ≡ instance_of before s
instance_same before s = same_of (instance_of (map emptied before)) (λ word rest. refl) s ∙ instance_of_all before s

pub surviving_same : (before later : List Stmt) → surviving (map emptied before) (map emptied later) ≡ surviving before later
unfolding surviving
surviving_same before [] = refl
surviving_same before (s ∷ later) =
    ap (λ b. (if b then option_map_or (λ i. i ∷ []) (instance_of (map emptied before) (emptied s)) [] else []) ++ surviving (map emptied before ++ emptied s ∷ []) (map emptied later)) (survives_same s later)
    ∙ ap (λ i. (if survives s later then option_map_or (λ i. i ∷ []) i [] else []) ++ surviving (map emptied before ++ emptied s ∷ []) (map emptied later)) (instance_same before s)
    ∙ ap (λ b. (if survives s later then option_map_or (λ i. i ∷ []) (instance_of before s) [] else []) ++ surviving b (map emptied later)) (before_same before s)
    ∙ ap (λ rest. (if survives s later then option_map_or (λ i. i ∷ []) (instance_of before s) [] else []) ++ rest) (surviving_same (before ++ s ∷ []) later)

-- ---- the items

pub kept_same : {A : Type 0} (kind : ItemKind) (items_of : Stmt → List A) (name_of : A → List ℕ) → ((s : Stmt) → items_of (emptied s) ≡ items_of s)
    → (xs : List Stmt) → kept_items kind items_of name_of (map emptied xs) ≡ kept_items kind items_of name_of xs
unfolding kept_items
kept_same kind items_of name_of h [] = refl
kept_same {A = A} kind items_of name_of h (s ∷ later) =
    ap (λ items. filter (λ x. not (list_any (drops kind (name_of x)) (map emptied later))) items ++ kept_items kind items_of name_of (map emptied later)) (h s)
    ∙ ap (λ rest. rest ++ kept_items kind items_of name_of (map emptied later)) (filter_same (items_of s))
    ∙ ap (λ rest. filter (λ x. not (list_any (drops kind (name_of x)) later)) (items_of s) ++ rest) (kept_same kind items_of name_of h later)
  where
    drops_same : (name : List ℕ) → list_any (drops kind name) (map emptied later) ≡ list_any (drops kind name) later
    drops_same name = any_same (drops kind name) (drops kind name) (same_of (drops kind name) (λ word rest. refl)) later

    filter_same : (items : List A) → filter (λ x. not (list_any (drops kind (name_of x)) (map emptied later))) items ≡ filter (λ x. not (list_any (drops kind (name_of x)) later)) items
    filter_same [] = refl
    filter_same (x ∷ items) = rw (drops_same (name_of x), filter_same items) refl

-- ---- the warnings

takes_back_same : (n : Stmt) (before : List Stmt) → takes_back n (map emptied before) ≡ takes_back n before
unfolding takes_back
takes_back_same n [] = refl
takes_back_same n (s ∷ between) =
    ap (λ b. (b && not (list_any (λ m. names m (emptied s)) (map emptied between))) || takes_back n (map emptied between)) (named s)
    ∙ ap (λ b. (names n s && not b) || takes_back n (map emptied between)) (any_same (λ m. names m s) (λ m. names m (emptied s)) (λ m. names_same m s) between)
    ∙ ap (λ b. (names n s && not (list_any (λ m. names m s) between)) || b) (takes_back_same n between)
  where
    named : (s : Stmt) → names n (emptied s) ≡ names n s
    named = same_of (names n) (λ word rest. free_not_named n word [] ∙ sym (free_not_named n word rest))

idle_in : (before : List Stmt) (s : Stmt) → is_idle (map emptied before) s ≡ is_idle before s
idle_in before (stmt.NoInst base mark at) = ap not (takes_back_same (stmt.NoInst base mark at) before)
idle_in before (stmt.NoDevice at) = ap not (takes_back_same (stmt.NoDevice at) before)
idle_in before _ = refl

item_names_same : (kind : ItemKind) (s : Stmt) → item_names kind (emptied s) ≡ item_names kind s
item_names_same of_kind.Options s = same_of (item_names of_kind.Options) (λ word rest. refl) s
item_names_same of_kind.MakeOptions s = same_of (item_names of_kind.MakeOptions) (λ word rest. refl) s
item_names_same of_kind.PseudoDevice s = same_of (item_names of_kind.PseudoDevice) (λ word rest. refl) s
item_names_same of_kind.FileSystem s = same_of (item_names of_kind.FileSystem) (λ word rest. refl) s

takes_item_same : (kind : ItemKind) (name : List ℕ) (before : List Stmt) → takes_item kind name (map emptied before) ≡ takes_item kind name before
unfolding takes_item
takes_item_same kind name [] = refl
takes_item_same kind name (s ∷ between) =
    ap (λ named. (has_name named name && not (list_any (drops kind name) (map emptied between))) || takes_item kind name (map emptied between)) (item_names_same kind s)
    ∙ ap (λ b. (has_name (item_names kind s) name && not b) || takes_item kind name (map emptied between))
    (any_same (drops kind name) (drops kind name) (same_of (drops kind name) (λ word rest. refl)) between)
    ∙ ap (λ b. (has_name (item_names kind s) name && not (list_any (drops kind name) between)) || b) (takes_item_same kind name between)

idle_names_in : (before : List Stmt) (s : Stmt) → idle_names (map emptied before) s ≡ idle_names before s
idle_names_in before (stmt.NoItems kind wanted) = left wanted
  where
    left : (ns : List (List ℕ)) → filter (λ name. not (takes_item kind name (map emptied before))) ns ≡ filter (λ name. not (takes_item kind name before)) ns
    left [] = refl
    left (n ∷ ns) = rw (takes_item_same kind n before, left ns) refl
idle_names_in before _ = refl

idle_same : (before : List Stmt) (s : Stmt) → idle (map emptied before) (emptied s) ≡ idle before s
idle_same before s =
    same_of (idle (map emptied before)) (λ word rest. refl) s
    ∙ ap (λ b. (if b then warns.Nothing ∷ [] else []) ++ map (λ name. warns.Nothing) (idle_names (map emptied before) s)) (idle_in before s)
    ∙ ap (λ ns. (if is_idle before s then warns.Nothing ∷ [] else []) ++ map (λ name. warns.Nothing) ns) (idle_names_in before s)

warnings_same : (files : List (List ℕ)) (orphans : List Instance) (before : List Stmt) (placed : List Placed)
    → warnings files orphans (map emptied before) (map emptied_at placed) ≡ warnings files orphans before placed
unfolding warnings
warnings_same files orphans before [] = refl
warnings_same files orphans before (p ∷ placed) =
    ap (λ kinds. map (warning files p) (kinds ++ orphan orphans (length (map emptied before))) ++ warnings files orphans (map emptied before ++ emptied p.stmt ∷ []) (map emptied_at placed)) (idle_same before p.stmt)
    ∙ ap (λ n. map (warning files p) (idle before p.stmt ++ orphan orphans n) ++ warnings files orphans (map emptied before ++ emptied p.stmt ∷ []) (map emptied_at placed)) (length-map before emptied)
    ∙ ap (λ later. map (warning files p) (idle before p.stmt ++ orphan orphans (length before)) ++ warnings files orphans later (map emptied_at placed)) (before_same before p.stmt)
    ∙ ap (λ rest. map (warning files p) (idle before p.stmt ++ orphan orphans (length before)) ++ rest) (warnings_same files orphans (before ++ p.stmt ∷ []) placed)

-- ---- the whole

-- the statements of what is placed
pub stmts_same : (placed : List Placed) → stmts_of (map emptied_at placed) ≡ map emptied (stmts_of placed)
stmts_same [] = refl
stmts_same (p ∷ placed) = ap (λ later. emptied p.stmt ∷ later) (stmts_same placed)

pub tables_same : (r : Reading) (marks : List Bool) → tables_of (record r { placed = map emptied_at r.placed }) marks ≡ tables_of r marks
tables_same r marks =
    let stmts = stmts_of r.placed in
    let d = declared stmts in
    let insts = surviving [] stmts in
    let emptied_r : Reading = record r { placed = map emptied_at r.placed } in
    ap (λ ss. tables_with emptied_r ss (declared ss) (surviving [] ss) marks) (stmts_same r.placed)
    ∙ ap (λ x. tables_with emptied_r (map emptied stmts) x (surviving [] (map emptied stmts)) marks) (declared_same stmts)
    ∙ ap (λ x. tables_with emptied_r (map emptied stmts) d x marks) (surviving_same [] stmts)
    ∙ rw (
      kept_same of_kind.PseudoDevice pseudos_in (λ p. p.name) (same_of pseudos_in (λ word rest. refl)) stmts,
      kept_same of_kind.Options options_in (λ i. i.name) (same_of options_in (λ word rest. refl)) stmts,
      kept_same of_kind.MakeOptions makeoptions_in (λ i. i.name) (same_of makeoptions_in (λ word rest. refl)) stmts,
      kept_same of_kind.FileSystem file_systems_in (λ n. n) (same_of file_systems_in (λ word rest. refl)) stmts,
      warnings_same r.files (marked false insts marks) [] r.placed,
    ) refl

-- ---- statement by statement

-- the first statements are emptied, the others are as they were read
abbrev pub emptied_to : ℕ → List Placed → List Placed
emptied_to n placed = map emptied_at (take n placed) ++ drop n placed

-- the next one is as it was read
pub next_read : (n : ℕ) (placed : List Placed) (d : Placed) → get_or (emptied_to n placed) n d ≡ get_or placed n d
next_read zero placed d = refl
next_read (suc n) [] d = refl
next_read (suc n) (p ∷ placed) d = next_read n placed d

-- one more
pub next_emptied : (n : ℕ) (placed : List Placed) (d : Placed) → n < length placed → set (emptied_to n placed) n (emptied_at (get_or placed n d)) ≡ emptied_to (suc n) placed
next_emptied n [] d lt = absurd (omega arith)
next_emptied zero (p ∷ placed) d lt = refl
next_emptied (suc n) (p ∷ placed) d lt = ap (λ later. emptied_at p ∷ later) (next_emptied n placed d (omega arith))

-- all of them
pub all_emptied : (placed : List Placed) → emptied_to (length placed) placed ≡ map emptied_at placed
all_emptied [] = refl
all_emptied (p ∷ placed) = ap (λ later. emptied_at p ∷ later) (all_emptied placed)

-- a statement is emptied in its place
pub step_emptied : (n : ℕ) (kept placed : List Placed) (now new : Placed) → kept ≡ emptied_to n placed → n < length placed → now ≡ get_or kept n now → new ≡ emptied_at now
    → set kept n new ≡ emptied_to (n + 1) placed
step_emptied n kept placed now new is lt here emptied_now =
    let read : now ≡ get_or placed n now = here ∙ ap (λ (xs : List Placed). get_or xs n now) is ∙ next_read n placed now in
    let more : suc n ≡ n + 1 = omega arith in
    ap (λ (xs : List Placed). set xs n new) is
    ∙ ap (set (emptied_to n placed) n) (emptied_now ∙ ap emptied_at read)
    ∙ next_emptied n placed now lt
    ∙ ap (λ m. emptied_to m placed) more

-- ---- what is found

first_same : (files : List (List ℕ)) (placed : List Placed) → first_code files [] (map emptied_at placed) ≡ first_code files [] placed
first_same files placed = first_code_same files [] placed

fault_in_same : (r : Reading) → fault_in (record r { placed = map emptied_at r.placed }) ≡ fault_in r
unfolding fault_in
fault_in_same r = ap (λ code. code or r.fault) (first_same r.files r.placed)

declared_read : (placed : List Placed) → declared (stmts_of (map emptied_at placed)) ≡ declared (stmts_of placed)
declared_read placed = ap declared (stmts_same placed) ∙ declared_same (stmts_of placed)

surviving_read : (placed : List Placed) → surviving [] (stmts_of (map emptied_at placed)) ≡ surviving [] (stmts_of placed)
surviving_read placed = ap (surviving []) (stmts_same placed) ∙ surviving_same [] (stmts_of placed)

-- tables of emptied statements are those of the statements that were read
meant_same : (files : List (List ℕ)) (placed : List Placed) (tables : Tables) → IsMeant files (map emptied_at placed) tables → IsMeant files placed tables
meant_same files placed tables meant = record {
  marks = meant.marks;
  rooted = subst (λ (insts : List Instance). RootedInsts (declared (stmts_of placed)) (map inst_of insts) meant.marks) (surviving_read placed)
      (subst (λ (d : Declared). RootedInsts d (map inst_of (surviving [] (stmts_of (map emptied_at placed)))) meant.marks) (declared_read placed) meant.rooted);
  shown = meant.shown ∙ tables_same (read_from files placed) meant.marks;
  formed = meant.formed;
}

-- what is found in emptied statements is found in those that were read
finds_same : (r : Reading) (result : Result Tables CompileStop) → Finds (record r { placed = map emptied_at r.placed }) result → Finds r result
finds_same r (Ok tables) found = (sym (fault_in_same r) ∙ found.0, meant_same r.files r.placed tables found.1)
finds_same r (Err (Refused refusal)) found = sym (fault_in_same r) ∙ found
finds_same r (Err ReadFault) found = found
finds_same r (Err Memory) found = found

-- and they keep the limits
pub written_same : (placed : List Placed) → AreWritten placed → AreWritten (map emptied_at placed)
written_same placed written = record {
  few = subst (λ n. n ≤ 65536) (sym (length-map placed emptied_at)) written.few;
  each = all_written placed written.each;
}
  where
    one : (s : Stmt) → IsWritten s → IsWritten (emptied s)
    one (stmt.Free word rest) h = h
    one (stmt.Include path optional) h = h
    one (stmt.Prefix path) h = h
    one (stmt.Cond word name) h = h
    one (stmt.Define name locs needs) h = h
    one (stmt.Class name) h = h
    one (stmt.DefPseudo name locs needs) h = h
    one (stmt.Device name locs needs) h = h
    one (stmt.Attach device places name needs) h = h
    one (stmt.Inst base mark at pairs flags) h = h
    one _ h = h

    all_written : (xs : List Placed) → All (λ p. IsWritten p.stmt) xs → All (λ p. IsWritten p.stmt) (map emptied_at xs)
    all_written [] h = All-nil (λ p. IsWritten p.stmt)
    all_written (p ∷ xs) h =
        All-cons (λ p. IsWritten p.stmt) (emptied_at p) (map emptied_at xs) (one p.stmt (All-head (λ p. IsWritten p.stmt) p xs h)) (all_written xs (All-tail (λ p. IsWritten p.stmt) p xs h))

-- what is found in what was read, once its statements are emptied
pub found_read : (read : Expanded) (files : List (List ℕ)) (placed : List Placed) (result : Result Tables CompileStop) → files ≡ read.files → placed ≡ map emptied_at read.placed
    → Finds (record (read_from files placed) { fault = read.fault }) result → Finds (reading_of read) result
found_read read files placed result same emptied found =
    finds_same (reading_of read) result
    (subst (λ (ps : List Placed). Finds (record (read_from read.files ps) { fault = read.fault }) result) emptied
    (subst (λ (fs : List (List ℕ)). Finds (record (read_from fs placed) { fault = read.fault }) result) same found))
