-- Which keys name an instance, and lists of places with one more instance, and with those of one key taken away.
use Rattle.std.proofs.Common.{◌⊎◌, inl, inr, ◌≡◌, ℕ, ◌+◌, ◌<◌, ◌&&◌, ◌||◌, ◌==◌, Bool, true, false, not, cond, zero, suc, List, [], ◌∷◌, ◌++◌, length, get_or, refl, ap, sym, ◌∙◌, arith, subst, take, Bor, ℤ}
use Rattle.std.specs.Prelude.{All, Option, Some, None, bytes_eq, slice_get}
use Rattle.std.specs.List.{list_any}
use Rattle.std.specs.Option.{option_eq, option_map_or}
use Rattle.std.specs.HashMap.{HashMap}
use Rattle.std.proofs.lemmas.Bool.Decides.{nat_tests}
use Rattle.cf_types.specs.Gather.{is_in}
use Rattle.cf_types.specs.declared.stmt.AtSpec.{AtSpec}
use Rattle.cf_types.specs.declared.stmt.GivenLoc.{GivenLoc}
use Rattle.cf_types.specs.declared.stmt.Stmt.{Stmt}
use Rattle.cf_types.specs.declared.stmt.Stmt.TheVariants as stmt
use Rattle.cf_types.specs.declared.stmt.UnitMark.{UnitMark}
use Rattle.config_rules.specs.Select.{names, same_at, same_mark}
use Rattle.cf_select.specs.contracts.named.AttachmentPartialEq.TheImpl as attached_block
use Rattle.cf_select.specs.contracts.named.NamedPartialEq.TheImpl as block
use Rattle.cf_select.specs.Naming.{AreListed, AreShort, TakesBack, at_of, is_listed, mark_of, names_at, negation_of}
use Rattle.cf_select.specs.Places.{list_at}
use Rattle.cf_select.specs.Selected.{is_negation, names_one, without}
use Rattle.cf_select.specs.declared.named.Attachment.{Attachment}
use Rattle.cf_select.specs.declared.named.Attachment.TheVariants as attached
use Rattle.cf_select.specs.declared.named.Named.{Named}
use Rattle.cf_select.specs.declared.named.Named.TheVariants as named
use Rattle.std.proofs.lemmas.List.{length-append, length-map, length-take-le}
use Rattle.cf_types.specs.declared.stmt.Placed.{Placed}
use Rattle.config_rules.specs.Fault.{stmts_of}
use Rattle.config_rules.proofs.PlacedLaws.{stmts_more}
use Rattle.std.proofs.lemmas.Option.{slice_get_past}
use Rattle.std.proofs.Math.Bool.{or-false, or-true}
use Rattle.std.proofs.lemmas.Bool.{cases_Bool}
use Rattle.cf_types.proofs.TestLemmas.{equal_turned, equal_itself}
use Rattle.cf_select.proofs.WantLemmas.{at_append}
use Rattle.cf_select.proofs.ReachedLemmas.{all_below, is_in_push}

-- ---- the keys that name an instance

bytes_sym : (xs ys : List ℕ) → bytes_eq xs ys ≡ bytes_eq ys xs
bytes_sym [] [] = refl
bytes_sym [] (y ∷ ys) = refl
bytes_sym (x ∷ xs) [] = refl
bytes_sym (x ∷ xs) (y ∷ ys) = ap (λ b. b && bytes_eq xs ys) (equal_turned x y) ∙ ap (λ b. (y == x) && b) (bytes_sym xs ys)

same_units : (u v : Option ℕ) → option_eq (λ x y. x == y) u v ≡ same_mark (mark_of v) (mark_of u)
same_units None None = refl
same_units None (Some v) = refl
same_units (Some u) None = refl
same_units (Some u) (Some v) = equal_turned u v

numbers_sym : (u v : Option ℕ) → option_eq (λ x y. x == y) u v ≡ option_eq (λ x y. x == y) v u
numbers_sym None None = refl
numbers_sym None (Some v) = refl
numbers_sym (Some u) None = refl
numbers_sym (Some u) (Some v) = equal_turned u v

both : (a b c d : Bool) → a ≡ c → b ≡ d → (a && b) ≡ (c && d)
both a b c d e f = ap (λ x. x && b) e ∙ ap (λ x. c && x) f

same_attachments : (a b : Attachment) → attached_block.ghosts.eq a b ≡ same_at (at_of b) (at_of a)
same_attachments attached.Root attached.Root = refl
same_attachments attached.Root (attached.Named b v) = refl
same_attachments (attached.Named a u) attached.Root = refl
same_attachments (attached.Named a u) (attached.Named b v) = both (bytes_eq a.now b.now) (option_eq (λ x y. x == y) u v) (bytes_eq b.now a.now) (option_eq (λ x y. x == y) v u) (bytes_sym a.now b.now) (numbers_sym u v)

first_alone : (a b : Bool) → ((a && b) || (false || false)) ≡ ((a && b) && true)
first_alone true true = refl
first_alone true false = refl
first_alone false b = refl

middle_alone : (a b c : Bool) → (false || ((a && (b && c)) || false)) ≡ ((a && b) && c)
middle_alone true true true = refl
middle_alone true true false = refl
middle_alone true false c = refl
middle_alone false b c = refl

key_names : (base : Bor (List ℕ)) (u : Option ℕ) (at : Attachment) (pairs : List GivenLoc) (flags : ℤ) (q : Named)
    → (block.ghosts.eq (named.Unit base u) q || (block.ghosts.eq (named.UnitAt base u at) q || block.ghosts.eq (named.At at) q)) ≡ names (negation_of q) (stmt.Inst base.now (mark_of u) (at_of at) pairs flags)
key_names base u at pairs flags (named.Unit b v) =
    first_alone (bytes_eq base.now b.now) (option_eq (λ x y. x == y) u v)
    ∙ ap (λ x. x && true) (both (bytes_eq base.now b.now) (option_eq (λ x y. x == y) u v) (bytes_eq b.now base.now) (same_mark (mark_of v) (mark_of u)) (bytes_sym base.now b.now) (same_units u v))
key_names base u at pairs flags (named.UnitAt b v a) =
    middle_alone (bytes_eq base.now b.now) (option_eq (λ x y. x == y) u v) (attached_block.ghosts.eq at a)
    ∙ both (bytes_eq base.now b.now && option_eq (λ x y. x == y) u v) (attached_block.ghosts.eq at a) (bytes_eq b.now base.now && same_mark (mark_of v) (mark_of u)) (same_at (at_of a) (at_of at))
    (both (bytes_eq base.now b.now) (option_eq (λ x y. x == y) u v) (bytes_eq b.now base.now) (same_mark (mark_of v) (mark_of u)) (bytes_sym base.now b.now) (same_units u v)) (same_attachments at a)
key_names base u at pairs flags (named.At a) = same_attachments at a

-- ---- one more instance

listed_more : (b : Bool) (old next : List ℕ) (place x : ℕ) → next ≡ cond b (old ++ place ∷ []) old → is_in x next ≡ (is_in x old || (b && (place == x)))
listed_more true old next place x is = ap (is_in x) is ∙ is_in_push old place x
listed_more false old next place x is = ap (is_in x) is ∙ sym (or-false (is_in x old))

three : (o a b c h : Bool) → (((o || (a && h)) || (b && h)) || (c && h)) ≡ (o || ((a || (b || c)) && h))
three true a b c h = refl
three false true true true true = refl
three false true true true false = refl
three false true true false true = refl
three false true true false false = refl
three false true false true true = refl
three false true false true false = refl
three false true false false true = refl
three false true false false false = refl
three false false true true true = refl
three false false true true false = refl
three false false true false true = refl
three false false true false false = refl
three false false false c h = refl

pub listed_three : (a b c : Bool) (old first second third : List ℕ) (place x : ℕ) (named : Bool) → first ≡ cond a (old ++ place ∷ []) old → second ≡ cond b (first ++ place ∷ []) first → third ≡ cond c (second ++ place ∷ []) second
    → (a || (b || c)) ≡ named → is_in x third ≡ (is_in x old || (named && (place == x)))
listed_three a b c old first second third place x named is_first is_second is_third is =
    listed_more c second third place x is_third
    ∙ ap (λ t. t || (c && (place == x))) (listed_more b first second place x is_second ∙ ap (λ t. t || (b && (place == x))) (listed_more a old first place x is_first))
    ∙ three (is_in x old) a b c (place == x) ∙ ap (λ t. is_in x old || (t && (place == x))) is

pub instance_names : (s : Stmt) (base : Bor (List ℕ)) (u : Option ℕ) (at : Attachment) (b : List ℕ) (mark : UnitMark) (spec : AtSpec) (pairs : List GivenLoc) (flags : ℤ) (q : Named) → s ≡ stmt.Inst b mark spec pairs flags
    → base.now ≡ b → mark_of u ≡ mark → at_of at ≡ spec
    → (block.ghosts.eq (named.Unit base u) q || (block.ghosts.eq (named.UnitAt base u at) q || block.ghosts.eq (named.At at) q)) ≡ names (negation_of q) s
instance_names s base u at b mark spec pairs flags q is is_base is_mark is_at =
    key_names base u at pairs flags q
    ∙ ap (λ x. names (negation_of q) (stmt.Inst x (mark_of u) (at_of at) pairs flags)) is_base
    ∙ ap (λ x. names (negation_of q) (stmt.Inst b x (at_of at) pairs flags)) is_mark
    ∙ ap (λ x. names (negation_of q) (stmt.Inst b mark x pairs flags)) is_at
    ∙ ap (names (negation_of q)) (sym is)

-- ---- the list of a key taken away

is_and : (a b : Bool) → (a && not b) ≡ true → (a ≡ true) × (b ≡ false)
is_and true true h = absurd (cc)
is_and true false h = (refl, refl)
is_and false b h = absurd (cc)

-- each place that is listed is below n
pub listed_below : {S : Type 0} (lists : HashMap Named (List ℕ) S) (free : List Bool) (key : Named) (places : List ℕ) → AreShort lists free → places ≡ list_at block.ghosts.eq lists key → All (λ x. x < length free) places
listed_below lists free key places short is = all_below places (length free) (λ x e. short key x (ap (is_in x) (sym is) ∙ e))

pub short_without : {S : Type 0} (lists next : HashMap Named (List ℕ) S) (free free_new : List Bool) (key : Named) → AreShort lists free → length free_new ≡ length free
    → ((q : Named) → list_at block.ghosts.eq next q ≡ cond (block.ghosts.eq key q) [] (list_at block.ghosts.eq lists q)) → AreShort next free_new
short_without lists next free free_new key short size rest q x h = omega (arith, size, short q x (was (cases_Bool (block.ghosts.eq key q))))
  where
    was : (block.ghosts.eq key q ≡ true) ⊎ (block.ghosts.eq key q ≡ false) → is_listed lists q x ≡ true
    was (inl e) = let none : list_at block.ghosts.eq next q ≡ [] = rest q ∙ ap (λ b. cond b [] (list_at block.ghosts.eq lists q)) e in let no_way : false ≡ true = ap (is_in x) (sym none) ∙ h in absurd (cc)
    was (inr e) = let old : list_at block.ghosts.eq next q ≡ list_at block.ghosts.eq lists q = rest q ∙ ap (λ b. cond b [] (list_at block.ghosts.eq lists q)) e in ap (is_in x) (sym old) ∙ h

pub listed_without : {S : Type 0} (test : Named → ℕ → Bool) (lists next : HashMap Named (List ℕ) S) (free free_new : List Bool) (key : Named) (places : List ℕ)
    → ((q : Named) → list_at block.ghosts.eq next q ≡ cond (block.ghosts.eq key q) [] (list_at block.ghosts.eq lists q))
    → ((q : Named) → block.ghosts.eq key q ≡ true → list_at block.ghosts.eq lists q ≡ places)
    → ((x : ℕ) → get_or free_new x false ≡ (get_or free x false && not (is_in x places))) → AreListed test lists free → AreListed test next free_new
listed_without test lists next free free_new key places rest same left listed q x h =
    let both_say = is_and (get_or free x false) (is_in x places) (sym (left x) ∙ h) in
    kept both_say.1 (cases_Bool (block.ghosts.eq key q)) ∙ listed q x both_say.0
  where
    kept : is_in x places ≡ false → (block.ghosts.eq key q ≡ true) ⊎ (block.ghosts.eq key q ≡ false) → is_listed next q x ≡ is_listed lists q x
    kept not_there (inl e) =
        let none : list_at block.ghosts.eq next q ≡ [] = rest q ∙ ap (λ b. cond b [] (list_at block.ghosts.eq lists q)) e in
        ap (is_in x) none ∙ sym not_there ∙ sym (ap (is_in x) (same q e))
    kept not_there (inr e) = let old : list_at block.ghosts.eq next q ≡ list_at block.ghosts.eq lists q = rest q ∙ ap (λ b. cond b [] (list_at block.ghosts.eq lists q)) e in ap (is_in x) old

any_first : (f : ℕ → Bool) (y : ℕ) (xs : List ℕ) → (f y ≡ true) ⊎ (f y ≡ false) → list_any f (y ∷ xs) ≡ true → (list_any f xs ≡ true → (x : ℕ) × (f x ≡ true) × (is_in x xs ≡ true))
    → (x : ℕ) × (f x ≡ true) × (is_in x (y ∷ xs) ≡ true)
any_first f y xs (inl e) h later = (y, e, ap (λ b. b || is_in y xs) (equal_itself y))
any_first f y xs (inr e) h later = let more = later (sym (ap (λ b. b || list_any f xs) e) ∙ h) in (more.0, more.1, ap (λ b. (y == more.0) || b) more.2 ∙ or-true (y == more.0))

-- one of a list passes, with its number
any_at : (f : ℕ → Bool) (xs : List ℕ) → list_any f xs ≡ true → (x : ℕ) × (f x ≡ true) × (is_in x xs ≡ true)
any_at f [] h = absurd (cc)
any_at f (y ∷ xs) h = any_first f y xs (cases_Bool (f y)) h (λ e. any_at f xs e)

none_first : (f : ℕ → Bool) (y : ℕ) (xs : List ℕ) (x : ℕ) → (f y ≡ true) ⊎ (f y ≡ false) → ((y == x) ≡ true) ⊎ ((y == x) ≡ false) → list_any f (y ∷ xs) ≡ false → is_in x (y ∷ xs) ≡ true
    → (list_any f xs ≡ false → is_in x xs ≡ true → f x ≡ false) → f x ≡ false
none_first f y xs x (inl g) same h e later = let no_way : true ≡ false = sym (ap (λ b. b || list_any f xs) g) ∙ h in absurd (cc)
none_first f y xs x (inr g) (inl same) h e later = let is : y ≡ x = grind (arith, nat_tests) in ap f (sym is) ∙ g
none_first f y xs x (inr g) (inr apart) h e later = later (sym (ap (λ b. b || list_any f xs) g) ∙ h) (sym (ap (λ b. b || is_in x xs) apart) ∙ e)

-- none of a list passes
none_at : (f : ℕ → Bool) (xs : List ℕ) (x : ℕ) → list_any f xs ≡ false → is_in x xs ≡ true → f x ≡ false
none_at f [] x h e = absurd (cc)
none_at f (y ∷ xs) x h e = none_first f y xs x (cases_Bool (f y)) (cases_Bool (y == x)) h e (λ a b. none_at f xs x a b)

pub takes_listed : {S : Type 0} (test : Named → ℕ → Bool) (lists : HashMap Named (List ℕ) S) (free free_new : List Bool) (key : Named) (places : List ℕ) (found : Bool) → places ≡ list_at block.ghosts.eq lists key
    → ((x : ℕ) → get_or free_new x false ≡ (get_or free x false && not (is_in x places))) → found ≡ list_any (λ x. get_or free x false) places → AreListed test lists free → TakesBack (test key) free free_new found
takes_listed test lists free free_new key places found is left found_is listed = record {
  left = λ x. left x ∙ as_named x (cases_Bool (get_or free x false));
  some = λ e. let one = any_at (λ x. get_or free x false) places (sym found_is ∙ e) in (one.0, one.1, sym (listed key one.0 one.1) ∙ ap (is_in one.0) (sym is) ∙ one.2);
  none = λ e x here. none_named e x here (cases_Bool (is_in x places));
}
  where
    as_named : (x : ℕ) → (get_or free x false ≡ true) ⊎ (get_or free x false ≡ false) → (get_or free x false && not (is_in x places)) ≡ (get_or free x false && not (test key x))
    as_named x (inl e) = ap (λ b. get_or free x false && not b) (ap (is_in x) is ∙ listed key x e)
    as_named x (inr e) = ap (λ b. b && not (is_in x places)) e ∙ sym (ap (λ b. b && not (test key x)) e)

    none_named : found ≡ false → (x : ℕ) → get_or free x false ≡ true → (is_in x places ≡ true) ⊎ (is_in x places ≡ false) → test key x ≡ false
    none_named e x here (inl there) = let no : get_or free x false ≡ false = none_at (λ x. get_or free x false) places x (sym found_is ∙ e) there in absurd (cc)
    none_named e x here (inr not_there) = sym (listed key x here) ∙ ap (is_in x) (sym is) ∙ not_there

-- ---- what is left of the statements

pub key_of_negation : (b : Bool) (n s : Stmt) → Some n ≡ cond b (Some s) None → (b ≡ true) × (n ≡ s)
key_of_negation true n s e = (refl, cc (e))
key_of_negation false n s e = absurd (cc)

pub no_key : (b : Bool) (s : Stmt) → None ≡ cond b (Some s) None → b ≡ false
no_key true s e = absurd (cc)
no_key false s e = refl

pub left_without : (n : Stmt) (stmts : List Stmt) (free next : List Bool) → length free ≡ length stmts → length next ≡ length free
    → ((x : ℕ) → get_or next x false ≡ (get_or free x false && not (option_map_or (names n) (slice_get stmts x) false))) → next ≡ without n stmts free
unfolding without
left_without n [] [] [] size same left = refl
left_without n [] [] (b ∷ next) size same left = absurd (omega arith)
left_without n [] (m ∷ free) next size same left = absurd (omega arith)
left_without n (s ∷ stmts) [] next size same left = absurd (omega arith)
left_without n (s ∷ stmts) (m ∷ free) [] size same left = absurd (omega arith)
left_without n (s ∷ stmts) (m ∷ free) (b ∷ next) size same left =
    ap (λ bs. b ∷ bs) (left_without n stmts free next (omega arith) (omega arith) (λ x. left (suc x))) ∙ ap (λ c. c ∷ without n stmts free) (left zero)

one_named : (n : Stmt) (stmts : List Stmt) (free : List Bool) (x : ℕ) → get_or free x false ≡ true → option_map_or (names n) (slice_get stmts x) false ≡ true → names_one n stmts free ≡ true
unfolding names_one
one_named n [] free x h e = absurd (cc)
one_named n (s ∷ stmts) [] x h e = absurd (cc)
one_named n (s ∷ stmts) (m ∷ free) zero h e = ap (λ b. (b && m) || names_one n stmts free) e ∙ ap (λ b. b || names_one n stmts free) h
one_named n (s ∷ stmts) (m ∷ free) (suc x) h e = ap (λ b. (names n s && m) || b) (one_named n stmts free x h e) ∙ or-true (names n s && m)

none_named : (n : Stmt) (stmts : List Stmt) (free : List Bool) → ((x : ℕ) → get_or free x false ≡ true → option_map_or (names n) (slice_get stmts x) false ≡ false) → names_one n stmts free ≡ false
unfolding names_one
none_named n [] free h = refl
none_named n (s ∷ stmts) [] h = refl
none_named n (s ∷ stmts) (m ∷ free) h = ap (λ b. b || names_one n stmts free) (apart (names n s) m (h zero)) ∙ none_named n stmts free (λ x. h (suc x))
  where
    apart : (a m : Bool) → (m ≡ true → a ≡ false) → (a && m) ≡ false
    apart true true h = h refl
    apart true false h = refl
    apart false m h = refl

-- whether one is named is what the flag tells
pub named_flag : (n : Stmt) (stmts : List Stmt) (free : List Bool) (found : Bool) → (found ≡ true → (x : ℕ) × (get_or free x false ≡ true) × (option_map_or (names n) (slice_get stmts x) false ≡ true))
    → (found ≡ false → (x : ℕ) → get_or free x false ≡ true → option_map_or (names n) (slice_get stmts x) false ≡ false) → found ≡ names_one n stmts free
named_flag n stmts free true some none = let one = some refl in sym (one_named n stmts free one.0 one.1 one.2)
named_flag n stmts free false some none = sym (none_named n stmts free (none refl))

-- ---- one more statement

read_push : (free : List Bool) (x : ℕ) → get_or (free ++ true ∷ []) x false ≡ true → (get_or free x false ≡ true) ⊎ (length free ≡ x)
read_push [] zero h = inr refl
read_push [] (suc x) h = absurd (cc)
read_push (m ∷ free) zero h = inl h
read_push (m ∷ free) (suc x) h = elim (read_push free x h) [ inl e ↦ inl e | inr e ↦ inr (ap suc e) ]

pub statement_more : {S : Type 0} (stmts : List Stmt) (s : Stmt) (lists next : HashMap Named (List ℕ) S) (free free_new : List Bool) (place : ℕ) → AreShort lists free → AreListed (names_at stmts) lists free
    → length free ≡ place → length stmts ≡ place → ((q : Named) (x : ℕ) → is_listed next q x ≡ (is_listed lists q x || (names (negation_of q) s && (place == x)))) → free_new ≡ free ++ true ∷ []
    → AreListed (names_at (stmts ++ s ∷ [])) next free_new
statement_more stmts s lists next free free_new place short listed size as_many put is q x h =
    put q x ∙ elim (read_push free x (ap (λ bs. get_or bs x false) (sym is) ∙ h)) [
      | inl e ↦ ap (λ b. b || (names (negation_of q) s && (place == x))) (listed q x e)
      | inr e ↦ ap (λ b. b || (names (negation_of q) s && (place == x))) (not_yet (cases_Bool (is_listed lists q x)) e ∙ sym (ap (λ o. option_map_or (names (negation_of q)) o false) (slice_get_past stmts x (omega arith))))
    ]
    ∙ sym (at_append (names (negation_of q)) stmts s x ∙ ap (λ n. names_at stmts q x || (names (negation_of q) s && (n == x))) as_many)
  where
    not_yet : (is_listed lists q x ≡ true) ⊎ (is_listed lists q x ≡ false) → length free ≡ x → is_listed lists q x ≡ false
    not_yet (inl e) here = let below : x < length free = short q x e in absurd (omega arith)
    not_yet (inr e) here = e

pub short_more : {S : Type 0} (s : Stmt) (lists next : HashMap Named (List ℕ) S) (free free_new : List Bool) (place : ℕ) → AreShort lists free → length free ≡ place
    → ((q : Named) (x : ℕ) → is_listed next q x ≡ (is_listed lists q x || (names (negation_of q) s && (place == x)))) → free_new ≡ free ++ true ∷ [] → AreShort next free_new
short_more s lists next free free_new place short size put is q x h =
    let longer : length free_new ≡ length free + 1 = ap length is ∙ length-append free (true ∷ []) in
    elim (cases_Bool (is_listed lists q x)) [
      | inl e ↦ omega (arith, longer, short q x e)
      | inr e ↦ (let here : (names (negation_of q) s && (place == x)) ≡ true = ap (λ b. b || (names (negation_of q) s && (place == x))) (sym e) ∙ sym (put q x) ∙ h in
          let is : place ≡ x = at_end (names (negation_of q) s) here in omega (arith, longer, size))
    ]
  where
    at_end : (a : Bool) → (a && (place == x)) ≡ true → place ≡ x
    at_end true e = grind (arith, nat_tests)
    at_end false e = absurd (cc)

-- ---- what a negation leaves

pub free_left : (s : Stmt) (key : Named) (stmts : List Stmt) (free next : List Bool) (found : Bool) → negation_of key ≡ s → length free ≡ length stmts → length next ≡ length free → TakesBack (names_at stmts key) free next found → next ≡ without s stmts free
free_left s key stmts free next found is size same takes = left_without (negation_of key) stmts free next size same takes.left ∙ ap (λ n. without n stmts free) is

pub idle_flag : (s : Stmt) (key : Named) (stmts : List Stmt) (free next : List Bool) (found : Bool) → is_negation s ≡ true → negation_of key ≡ s → TakesBack (names_at stmts key) free next found
    → not found ≡ (is_negation s && not (names_one s stmts free))
idle_flag s key stmts free next found negates is takes =
    ap not (named_flag (negation_of key) stmts free found takes.some takes.none ∙ ap (λ n. names_one n stmts free) is) ∙ sym (ap (λ b. b && not (names_one s stmts free)) negates)

pub placed_more : {S : Type 0} (placed : List Placed) (i : ℕ) (p : Placed) (lists next : HashMap Named (List ℕ) S) (free free_new : List Bool) → i < length placed → p ≡ get_or placed i p → AreShort lists free
    → AreListed (names_at (stmts_of (take i placed))) lists free → length free ≡ length (stmts_of (take i placed)) → ((q : Named) (x : ℕ) → is_listed next q x ≡ (is_listed lists q x || (names (negation_of q) p.stmt && (i == x)))) → free_new ≡ free ++ true ∷ []
    → AreListed (names_at (stmts_of (take (i + 1) placed))) next free_new
placed_more placed i p lists next free free_new h is short listed size put new =
    let as_many : length (stmts_of (take i placed)) ≡ i = length-map (take i placed) (λ q. q.stmt) ∙ length-take-le i placed (omega arith) in
    let P : List Stmt → Type 0 = λ stmts. AreListed (names_at stmts) next free_new in
    subst P (sym (stmts_more placed i p h is)) (statement_more (stmts_of (take i placed)) p.stmt lists next free free_new i short listed (size ∙ as_many) as_many put new)
