-- One more name in the set of those that are declared.
use Rattle.std.proofs.Common.{◌≡◌, ℕ, ◌-◌, ◌||◌, Bool, true, false, Option, Some, List, [], ◌∷◌, length, take, drop, refl, ap, sym, ◌∙◌, arith, length-drop}
use Rattle.std.proofs.lemmas.List.{take-append-drop, take_all}
use Rattle.std.proofs.lemmas.List.Folds.{list_any-append}
use Rattle.cf_types.specs.declared.stmt.Placed.{Placed}
use Rattle.std.specs.Option.{option_map_or}
use Rattle.std.specs.List.{list_any}
use Rattle.std.specs.Str.{bytes_eq}
use Rattle.std.specs.BTreeSet.{BTreeSet, insert_key}
use Rattle.std.specs.Cmp.Lexicographic.{slice_cmp}
use Rattle.std.specs.Ordering.{is_eq, match_ordering, nat_cmp}
use Rattle.std.specs.declared.cmp.Ordering.{Ordering}
use Rattle.std.specs.declared.cmp.Ordering.TheVariants.{Less, Equal, Greater}
use Rattle.std.proofs.Math.Bool.{or-false}
use Rattle.cf_types.proofs.KeyLemmas.{Key, is_key, key_cmp, key_is, same_text}
use Rattle.cf_types.specs.declared.stmt.Stmt.{Stmt}
use Rattle.cf_types.specs.declared.stmt.Stmt.TheVariants as stmt
use Rattle.config_rules.specs.Reading.{declares, is_declared}
use Rattle.cf_expand.specs.Names.{AreNamesOf, declared_name, has}

moved : (a b : Bool) → (a || b) ≡ (b || a)
moved true true = refl
moved true false = refl
moved false true = refl
moved false false = refl

twice : (a b : Bool) → (a || b) ≡ ((a || b) || a)
twice true b = refl
twice false true = refl
twice false false = refl

grouped : (a b c : Bool) → (a || (b || c)) ≡ ((a || b) || c)
grouped true b c = refl
grouped false b c = refl

key_added : (name : List ℕ) (keys : List Key) (k : Key) → list_any (is_key name) (insert_key key_cmp keys k) ≡ (list_any (is_key name) keys || is_key name k)
key_added name [] k = or-false (is_key name k)
key_added name (x ∷ xs) k = by_order (key_cmp k x) refl (key_added name xs k)
  where
    by_order : (o : Ordering) → key_cmp k x ≡ o → list_any (is_key name) (insert_key key_cmp xs k) ≡ (list_any (is_key name) xs || is_key name k)
        → list_any (is_key name) (match_ordering o (k ∷ x ∷ xs) (x ∷ xs) (x ∷ insert_key key_cmp xs k)) ≡ ((is_key name x || list_any (is_key name) xs) || is_key name k)
    by_order Less e h = moved (is_key name k) (is_key name x || list_any (is_key name) xs)
    by_order Equal e h =
        let same : is_key name k ≡ is_key name x = ap (λ (t : List ℕ). is_eq (slice_cmp nat_cmp name t)) (same_text k.items x.items (ap is_eq e)) in
        twice (is_key name x) (list_any (is_key name) xs) ∙ ap (λ b. (is_key name x || list_any (is_key name) xs) || b) (sym same)
    by_order Greater e h = ap (λ b. is_key name x || b) h ∙ grouped (is_key name x) (list_any (is_key name) xs) (is_key name k)

declares_by : (name : List ℕ) (s : Stmt) → declares name s ≡ option_map_or (λ n. bytes_eq n name) (declared_name s) false
declares_by name (stmt.Include a b) = refl
declares_by name (stmt.Prefix a) = refl
declares_by name (stmt.Cond a b) = refl
declares_by name (stmt.Define a b c) = refl
declares_by name (stmt.Class a) = refl
declares_by name (stmt.DefPseudo a b c) = refl
declares_by name (stmt.Device a b c) = refl
declares_by name (stmt.Attach a b c d) = refl
declares_by name (stmt.Inst a b c d e) = refl
declares_by name (stmt.NoInst a b c) = refl
declares_by name (stmt.NoDevice a) = refl
declares_by name (stmt.NoItems a b) = refl
declares_by name (stmt.Options a) = refl
declares_by name (stmt.MakeOptions a) = refl
declares_by name (stmt.FileSystems a) = refl
declares_by name (stmt.PseudoDevice a b) = refl
declares_by name (stmt.Checked a) = refl
declares_by name (stmt.Free a b) = refl

-- a statement that declares a name
pub name_noted : (old new : BTreeSet Key) (k : Key) (name n : List ℕ) (s : Stmt) → new.keys ≡ insert_key key_cmp old.keys k → k.items ≡ n → declared_name s ≡ Some n → has new name ≡ (has old name || declares name s)
name_noted old new k name n s e i d =
    let one : declares name s ≡ bytes_eq n name = declares_by name s ∙ ap (λ (o : Option (List ℕ)). option_map_or (λ m. bytes_eq m name) o false) d in
    ap (list_any (is_key name)) e ∙ key_added name old.keys k ∙ ap (λ b. has old name || b) (key_is name n k i ∙ sym one)

-- the names in the set are those of the first statements: what is not among them is declared by the others, or not at all
declared_apart : (placed : List Placed) (names : BTreeSet Key) (n : ℕ) (name : List ℕ) → AreNamesOf (take n placed) names → is_declared placed name ≡ (has names name || is_declared (drop n placed) name)
declared_apart placed names n name all =
    ap (λ ps. is_declared ps name) (sym (take-append-drop n placed))
    ∙ list_any-append (λ p. declares name p.stmt) (take n placed) (drop n placed)
    ∙ ap (λ b. b || is_declared (drop n placed) name) (sym (all name))

pub in_set : (placed : List Placed) (names : BTreeSet Key) (n : ℕ) (name : List ℕ) (found : Bool) → AreNamesOf (take n placed) names → found ≡ has names name → found ≡ true → found ≡ is_declared placed name
in_set placed names n name found all e t =
    t ∙ sym (declared_apart placed names n name all ∙ ap (λ b. b || is_declared (drop n placed) name) (sym e ∙ t))

pub past_set : (placed : List Placed) (names : BTreeSet Key) (n : ℕ) (name : List ℕ) (found later : Bool) → AreNamesOf (take n placed) names → found ≡ has names name → found ≡ false
    → later ≡ is_declared (take (length placed - n) (drop n placed)) name → later ≡ is_declared placed name
past_set placed names n name found later all e f rest =
    rest ∙ ap (λ ps. is_declared ps name) (take_all (length placed - n) (drop n placed) (omega (arith, length-drop n placed)))
    ∙ sym (declared_apart placed names n name all ∙ ap (λ b. b || is_declared (drop n placed) name) (sym e ∙ f))
