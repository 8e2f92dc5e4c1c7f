-- The last negation of a name, with one more name and one more statement.
use Rattle.std.proofs.Common.{◌≡◌, ℕ, ◌+◌, ◌<◌, ◌≤◌, ◌||◌, Bool, true, false, cond, Option, Some, None, List, [], ◌∷◌, length, get_or, take, drop, refl, ap, sym, ◌∙◌, arith, inl, inr}
use Rattle.std.specs.Prelude.{bytes_eq, nat_lt}
use Rattle.std.specs.List.{list_any}
use Rattle.std.proofs.lemmas.Bool.{cases_lt, lt-ltb, le-ltb}
use Rattle.std.proofs.lemmas.List.{drop_all, take_more, length-take-le, drop-append-le}
use Rattle.std.proofs.lemmas.List.Folds.{list_any-append}
use Rattle.std.proofs.Math.Bool.{or-false, or-true}
use Rattle.config_rules.specs.Select.{has_name}
use Rattle.cf_types.specs.declared.stmt.ItemKind.{ItemKind}
use Rattle.cf_types.specs.declared.stmt.ItemKind.TheVariants as of_kind
use Rattle.cf_types.specs.declared.stmt.Placed.{Placed}
use Rattle.cf_options.specs.declared.last.Negations.{Negations}
use Rattle.cf_options.specs.Last.{AreNegations, is_behind, is_dropped, is_negated_behind, last_of}
use Rattle.std.specs.HashMap.{HashMap, hash_map_len}
use Rattle.std.specs.Map.{lookup}
use denote.Ref.{Bor}

pub cond_or : {X : Type 0} (a b : Bool) (x y : X) → cond b x (cond a x y) ≡ cond (a || (b || false)) x y
cond_or true true x y = refl
cond_or true false x y = refl
cond_or false true x y = refl
cond_or false false x y = refl

-- one more name
pub names_more : {X : Type 0} (names : List (List ℕ)) (i : ℕ) (name q : List ℕ) (value old now next : X) → i < length names → name ≡ get_or names i name
    → now ≡ cond (has_name (take i names) q) value old → next ≡ cond (bytes_eq name q) value now → next ≡ cond (has_name (take (i + 1) names) q) value old
names_more names i name q value old now next h is so_far new =
    let more : has_name (take (i + 1) names) q ≡ (has_name (take i names) q || (bytes_eq (get_or names i name) q || false)) =
    ap (λ ns. has_name ns q) (take_more names i name h) ∙ list_any-append (λ n. bytes_eq n q) (take i names) (get_or names i name ∷ []) in
    new ∙ ap (λ o. cond (bytes_eq name q) value o) so_far ∙ cond_or (has_name (take i names) q) (bytes_eq name q) value old
    ∙ ap (λ n. cond (has_name (take i names) q || (bytes_eq n q || false)) value old) is ∙ ap (λ b. cond b value old) (sym more)

behind_more : (i n : ℕ) (old : Option ℕ) (t a : Bool) → nat_lt i n ≡ true → is_behind i old ≡ a → is_behind i (cond t (Some n) old) ≡ (a || (t || false))
behind_more i n old true a h e = h ∙ sym (or-true a)
behind_more i n old false a h e = e ∙ sym (or-false a)

behind_none : (i n : ℕ) (old : Option ℕ) (t : Bool) → nat_lt i n ≡ false → is_behind i old ≡ false → is_behind i (cond t (Some n) old) ≡ false
behind_none i n old true h e = h
behind_none i n old false h e = e

-- one more statement
pub last_more : {X : Type 0} (test : X → Bool) (placed : List X) (n : ℕ) (p : X) (i : ℕ) (old new : Option ℕ) → n < length placed → p ≡ get_or placed n p
    → is_behind i old ≡ list_any test (drop (i + 1) (take n placed)) → new ≡ cond (test p) (Some n) old → is_behind i new ≡ list_any test (drop (i + 1) (take (n + 1) placed))
last_more test placed n p i old new h is so_far e =
    let size : length (take n placed) ≡ n = length-take-le n placed (omega arith) in
    let size_more : length (take (n + 1) placed) ≡ n + 1 = length-take-le (n + 1) placed (omega arith) in
    elim (cases_lt i n) [
      | inl less ↦ (
          let front : i + 1 ≤ length (take n placed) = omega arith in
          let more : list_any test (drop (i + 1) (take (n + 1) placed)) ≡ (list_any test (drop (i + 1) (take n placed)) || (test p || false)) =
          ap (λ xs. list_any test (drop (i + 1) xs)) (take_more placed n p h) ∙ ap (list_any test) (drop-append-le (i + 1) (take n placed) (get_or placed n p ∷ []) front)
          ∙ list_any-append test (drop (i + 1) (take n placed)) (get_or placed n p ∷ []) ∙ ap (λ x. list_any test (drop (i + 1) (take n placed)) || (test x || false)) (sym is) in
          ap (is_behind i) e ∙ behind_more i n old (test p) (list_any test (drop (i + 1) (take n placed))) (lt-ltb i n less) so_far ∙ sym more)
      | inr past ↦ (
          let k : length (take n placed) ≤ i + 1 = omega arith in
          let m : length (take (n + 1) placed) ≤ i + 1 = omega arith in
          ap (is_behind i) e ∙ behind_none i n old (test p) (le-ltb i n (omega arith)) (so_far ∙ ap (list_any test) (drop_all (i + 1) (take n placed) k))
          ∙ sym (ap (list_any test) (drop_all (i + 1) (take (n + 1) placed) m)))
    ]

-- no statement
pub last_none : {X : Type 0} (test : X → Bool) (i : ℕ) (o : Option ℕ) → o ≡ None → is_behind i o ≡ list_any test (drop (i + 1) [])
last_none test i o e =
    let k : 0 ≤ i + 1 = omega arith in
    ap (is_behind i) e ∙ sym (ap (list_any test) (drop_all (i + 1) [] k))

-- where no name is negated none is dropped
pub none_dropped : {S : Type 0} (last : HashMap (Bor (List ℕ)) ℕ S) (place : ℕ) (name : List ℕ) → hash_map_len last ≡ 0 → false ≡ is_dropped last place name
none_dropped last place name h = by_entries last.entries h
  where
    by_entries : (es : List (Bor (List ℕ) × ℕ)) → length es ≡ 0 → false ≡ is_behind place (lookup (λ k. bytes_eq name k.now) es)
    by_entries [] h = refl
    by_entries (e ∷ es) h = absurd (omega (arith, h))

-- what is kept of the negations tells of each kind
pub negated_behind : (placed : List Placed) (last : Negations) → AreNegations placed last → (kind : ItemKind) (place : ℕ) (name : List ℕ) → is_behind place (last_of last kind name) ≡ is_negated_behind placed kind place name
negated_behind placed last h of_kind.Options place name = h.options place name
negated_behind placed last h of_kind.MakeOptions place name = h.makeoptions place name
negated_behind placed last h of_kind.PseudoDevice place name = h.pseudos place name
negated_behind placed last h of_kind.FileSystem place name = h.file_systems place name
