-- A history that passes the test over all its names and callers is lawful.
use Rattle.std.proofs.Common.{◌≡◌, ◌≢◌, ◌⊎◌, ℕ, ◌==◌, Bool, true, false, cond, not, ◌&&◌, ◌||◌, List, [], ◌∷◌, ◌++◌, map, reverse, Option, Some, None, refl, sym, ◌∙◌, ap, subst, inl, inr, arith}
use Rattle.std.specs.Prelude.{bytes_eq, count_by, flat_map, nat_le, option_and_then, option_map, ℤ, pos, negsuc, ◌-ℤ◌}
use Rattle.std.specs.List.{AllByRecursion, list_all, list_any}
use Rattle.std.specs.Option.{option_map_or}
use Rattle.std.specs.Ordering.{int_eq}
use Rattle.std.proofs.lemmas.Bool.{eqb-true, leb-true, not-true, false_from_ne_true, cases_Bool, and_from, or_from}
use Rattle.std.proofs.lemmas.Bool.Decides.{Decides-int_eq}
use Rattle.std.proofs.lemmas.Slice.Eq.{bytes_eq-Decides}
use Rattle.std.proofs.lemmas.List.{reverse-append}
use Rattle.std.proofs.lemmas.List.Folds.{find-append, sum_by-zero}
use Rattle.run_rules.specs.declared.event.Event.{Event}
use Rattle.run_rules.specs.declared.event.Act.{Act}
use Rattle.run_rules.specs.declared.event.Act.TheVariants as act
use Rattle.run_rules.specs.World.{has, root_name}
use Rattle.run_rules.specs.Laws.{attached_name, attached_below, freed_name, slept_name, woken_name, is_name, is_ok, opens, returns, transfers, last_that, lives, parent_in, is_asleep_in, holds, opens_sole, sole_in, IsCount, IsLawfulNext, LawfulFrom, Lawful}
use Rattle.run_rules.proofs.Below.{and_both}
use Rattle.worked_runs.proofs.LawTest.{is_free_of, is_count, is_child, free_test, children_sleep, count_test, sole_test, transfer_test, is_below_awake, comes_test, is_lawful_here, lawful_test}

-- ---- the names of an event

abbrev pub names_in : Option (List ℕ) → List (List ℕ)
names_in None = []
names_in (Some x) = x ∷ []

abbrev pub names_of : Act → List (List ℕ)
names_of (act.Found parent spot got) = names_in (option_map (λ g. g.name) got)
names_of (act.Final device shown) = names_in (option_map (λ g. g.name) (option_and_then (λ s. s.got) shown))
names_of (act.Free x) = x ∷ []
names_of (act.Sleep x) = x ∷ []
names_of (act.Wake x) = x ∷ []
names_of (act.OpenDev x r) = x ∷ []
names_of (act.OpenSole x r) = x ∷ []
names_of (act.CloseDev x r) = x ∷ []
names_of (act.DropRef x) = x ∷ []
names_of (act.IoStart x v r) = x ∷ []
names_of (act.IoDone x a) = x ∷ []
names_of _ = []

abbrev pub is_among : List (List ℕ) → List ℕ → Bool
is_among names x = list_any (λ n. bytes_eq n x) names

-- the names and callers that are given have all of an event
abbrev pub covers : List (List ℕ) → List ℕ → Event → Bool
covers names callers e = list_all (λ n. is_among names n) (names_of e.act) && has callers e.caller

-- ---- small facts

same_bytes : (a b : List ℕ) → bytes_eq a b ≡ true → a ≡ b
same_bytes a b h = (bytes_eq-Decides a b).0 h

bytes_same : (a b : List ℕ) → a ≡ b → bytes_eq a b ≡ true
bytes_same a b e = (bytes_eq-Decides a b).1 e

at_name : (p : List ℕ → Bool) (names : List (List ℕ)) → list_all p names ≡ true → (x : List ℕ) → is_among names x ≡ true → p x ≡ true
at_name p [] h x a = absurd cc
at_name p (n ∷ ns) h x a =
    let both = and_both (p n) (list_all p ns) h in
    elim (cases_Bool (bytes_eq n x)) [
      | inl e ↦ subst (λ (y : List ℕ). p y ≡ true) (same_bytes n x e) both.0
      | inr e ↦ at_name p ns both.1 x (sym (ap (λ (b : Bool). b || is_among ns x) e) ∙ a)
    ]

pub at_number : (p : ℕ → Bool) (callers : List ℕ) → list_all p callers ≡ true → (k : ℕ) → has callers k ≡ true → p k ≡ true
at_number p [] h k a = absurd cc
at_number p (n ∷ ns) h k a =
    let both = and_both (p n) (list_all p ns) h in
    elim (cases_Bool (n == k)) [
      | inl e ↦ subst (λ (y : ℕ). p y ≡ true) (eqb-true n k e) both.0
      | inr e ↦ at_number p ns both.1 k (sym (ap (λ (b : Bool). b || has ns k) e) ∙ a)
    ]

among_all : (ns names : List (List ℕ)) (x : List ℕ) → list_all (λ n. is_among names n) ns ≡ true → is_among ns x ≡ true → is_among names x ≡ true
among_all ns names x h a = at_name (λ n. is_among names n) ns h x a

-- ---- a name that an event does not have

one : (y x : List ℕ) → bytes_eq y x ≡ true → is_among (y ∷ []) x ≡ true
one y x h = rw h refl

in_names : (o : Option (List ℕ)) (x : List ℕ) → is_name o x ≡ true → is_among (names_in o) x ≡ true
in_names None x h = absurd cc
in_names (Some y) x h = one y x h

attached_has : (a : Act) (x : List ℕ) → is_name (attached_name a) x ≡ true → is_among (names_of a) x ≡ true
attached_has (act.Found parent spot got) x h = in_names (option_map (λ g. g.name) got) x h
attached_has (act.Final device shown) x h = in_names (option_map (λ g. g.name) (option_and_then (λ s. s.got) shown)) x h
attached_has _ x h = absurd cc

freed_has : (a : Act) (x : List ℕ) → is_name (freed_name a) x ≡ true → is_among (names_of a) x ≡ true
freed_has (act.Free y) x h = one y x h
freed_has _ x h = absurd cc

slept_has : (a : Act) (x : List ℕ) → is_name (slept_name a) x ≡ true → is_among (names_of a) x ≡ true
slept_has (act.Sleep y) x h = one y x h
slept_has _ x h = absurd cc

woken_has : (a : Act) (x : List ℕ) → is_name (woken_name a) x ≡ true → is_among (names_of a) x ≡ true
woken_has (act.Wake y) x h = one y x h
woken_has _ x h = absurd cc

opens_has : (a : Act) (x : List ℕ) → opens a x ≡ true → is_among (names_of a) x ≡ true
opens_has (act.OpenDev y r) x h = one y x (and_both (is_ok r) (bytes_eq y x) h).1
opens_has (act.OpenSole y r) x h = one y x (and_both (is_ok r) (bytes_eq y x) h).1
opens_has _ x h = absurd cc

sole_has : (a : Act) (x : List ℕ) → opens_sole a x ≡ true → is_among (names_of a) x ≡ true
sole_has (act.OpenSole y r) x h = one y x (and_both (is_ok r) (bytes_eq y x) h).1
sole_has _ x h = absurd cc

returns_has : (a : Act) (x : List ℕ) → returns a x ≡ true → is_among (names_of a) x ≡ true
returns_has (act.CloseDev y r) x h = one y x (and_both (is_ok r) (bytes_eq y x) h).1
returns_has (act.DropRef y) x h = one y x h
returns_has _ x h = absurd cc

transfers_has : (a : Act) (x : List ℕ) → transfers a x ≡ true → is_among (names_of a) x ≡ true
transfers_has (act.IoStart y v r) x h = one y x (and_both (is_ok r) (bytes_eq y x) h).1
transfers_has (act.IoDone y r) x h = one y x h
transfers_has _ x h = absurd cc

clash : (b : Bool) → b ≡ true → b ≡ false → ⊥
clash b x y = cc

-- an event with no word of x
record IsQuiet (x : List ℕ) (e : Event) : Type 0 where
  attached : is_name (attached_name e.act) x ≡ false
  freed : is_name (freed_name e.act) x ≡ false
  opened : opens e.act x ≡ false
  opened_solely : opens_sole e.act x ≡ false
  returned : returns e.act x ≡ false

quiet_from : (names : List (List ℕ)) (callers : List ℕ) (e : Event) (x : List ℕ) → covers names callers e ≡ true → is_among names x ≡ false → IsQuiet x e
quiet_from names callers e x h n =
    let all : list_all (λ m. is_among names m) (names_of e.act) ≡ true = (and_both (list_all (λ m. is_among names m) (names_of e.act)) (has callers e.caller) h).0 in
    let never : is_among (names_of e.act) x ≡ true → ⊥ = λ a. clash (is_among names x) (among_all (names_of e.act) names x all a) n in
    record {
      attached = false_from_ne_true (is_name (attached_name e.act) x) (λ t. never (attached_has e.act x t));
      freed = false_from_ne_true (is_name (freed_name e.act) x) (λ t. never (freed_has e.act x t));
      opened = false_from_ne_true (opens e.act x) (λ t. never (opens_has e.act x t));
      opened_solely = false_from_ne_true (opens_sole e.act x) (λ t. never (sole_has e.act x t));
      returned = false_from_ne_true (returns e.act x) (λ t. never (returns_has e.act x t));
    }

all_imp : {A : Type 0} (P Q : A → Type 0) → ((x : A) → P x → Q x) → (xs : List A) → AllByRecursion P xs → AllByRecursion Q xs
all_imp P Q f [] h = tt
all_imp P Q f (x ∷ xs) h = (f x h.0, all_imp P Q f xs h.1)

-- ---- lists in which nothing passes a test

last_none : (p : Event → Bool) (es : List Event) → AllByRecursion (λ e. p e ≡ false) es → last_that p es ≡ None
last_none p [] all = refl
last_none p (e ∷ es) all = rw (reverse-append (e ∷ []) es, find-append p (reverse es) (e ∷ []), last_none p es all.1, all.0) refl

none_zero : (p : Event → Bool) (es : List Event) → AllByRecursion (λ e. p e ≡ false) es → list_all (λ e. cond (p e) 1 0 == 0) es ≡ true
none_zero p [] all = refl
none_zero p (e ∷ es) all = rw (all.0, none_zero p es all.1) refl

count_none : (p : Event → Bool) (es : List Event) → AllByRecursion (λ e. p e ≡ false) es → count_by p es ≡ 0
count_none p es all = eqb-true (count_by p es) 0 (sum_by-zero (λ e. cond (p e) 1 0) es ∙ none_zero p es all)

AreCovered : List (List ℕ) → List ℕ → List Event → Type 0
AreCovered names callers es = AllByRecursion (λ e. covers names callers e ≡ true) es

quiet_all : (names : List (List ℕ)) (callers : List ℕ) (es : List Event) (x : List ℕ) → AreCovered names callers es → is_among names x ≡ false → AllByRecursion (IsQuiet x) es
unfolding AreCovered
quiet_all names callers es x h n = all_imp (λ e. covers names callers e ≡ true) (IsQuiet x) (λ e c. quiet_from names callers e x c n) es h

-- ---- a name and a caller that no event has

lives_none : (es : List Event) (x : List ℕ) → AllByRecursion (IsQuiet x) es → lives es x ≡ false
unfolding lives
lives_none es x q =
    ap (λ (o : Option Event). option_map_or (λ e. is_name (attached_name e.act) x) o false)
    (last_none (λ e. is_name (attached_name e.act) x || is_name (freed_name e.act) x) es
    (all_imp (IsQuiet x) (λ e. (is_name (attached_name e.act) x || is_name (freed_name e.act) x) ≡ false) (λ e t. or_from (is_name (attached_name e.act) x) (is_name (freed_name e.act) x) t.attached t.freed) es q))

zero_less_zero : (a b : ℕ) → a ≡ 0 → b ≡ 0 → (pos a -ℤ pos b) ≡ pos 0
zero_less_zero a b x y = rw (x, y) refl

and_false : (a b : Bool) → b ≡ false → (a && b) ≡ false
and_false true b h = h
and_false false b h = refl

false_and : (a b : Bool) → a ≡ false → (a && b) ≡ false
false_and true b h = absurd cc
false_and false b h = refl

holds_none : (es : List Event) (k : ℕ) (x : List ℕ) → AllByRecursion (IsQuiet x) es → holds es k x ≡ pos 0
unfolding holds
holds_none es k x q =
    zero_less_zero (count_by (λ e. e.caller == k && opens e.act x) es) (count_by (λ e. e.caller == k && returns e.act x) es)
    (count_none (λ e. e.caller == k && opens e.act x) es
    (all_imp (IsQuiet x) (λ e. (e.caller == k && opens e.act x) ≡ false) (λ e t. and_false (e.caller == k) (opens e.act x) t.opened) es q))
    (count_none (λ e. e.caller == k && returns e.act x) es
    (all_imp (IsQuiet x) (λ e. (e.caller == k && returns e.act x) ≡ false) (λ e t. and_false (e.caller == k) (returns e.act x) t.returned) es q))

other_caller : (names : List (List ℕ)) (callers : List ℕ) (k : ℕ) (e : Event) → has callers k ≡ false → covers names callers e ≡ true → (e.caller == k) ≡ false
other_caller names callers k e n h =
    false_from_ne_true (e.caller == k) (λ t. clash (has callers k)
    (subst (λ (j : ℕ). has callers j ≡ true) (eqb-true e.caller k t) (and_both (list_all (λ m. is_among names m) (names_of e.act)) (has callers e.caller) h).1) n)

holds_nobody : (names : List (List ℕ)) (callers : List ℕ) (es : List Event) (k : ℕ) (x : List ℕ) → AreCovered names callers es → has callers k ≡ false → holds es k x ≡ pos 0
unfolding holds AreCovered
holds_nobody names callers es k x h n =
    zero_less_zero (count_by (λ e. e.caller == k && opens e.act x) es) (count_by (λ e. e.caller == k && returns e.act x) es)
    (count_none (λ e. e.caller == k && opens e.act x) es
    (all_imp (λ e. covers names callers e ≡ true) (λ e. (e.caller == k && opens e.act x) ≡ false) (λ e c. false_and (e.caller == k) (opens e.act x) (other_caller names callers k e n c)) es h))
    (count_none (λ e. e.caller == k && returns e.act x) es
    (all_imp (λ e. covers names callers e ≡ true) (λ e. (e.caller == k && returns e.act x) ≡ false) (λ e c. false_and (e.caller == k) (returns e.act x) (other_caller names callers k e n c)) es h))

sole_from : (es : List Event) (k : ℕ) (x : List ℕ) → AllByRecursion (λ e. (e.caller == k && (opens_sole e.act x || returns e.act x)) ≡ false) es → sole_in es k x ≡ false
unfolding sole_in
sole_from es k x none =
    ap (λ (o : Option Event). option_map_or (λ e. opens_sole e.act x) o false) (last_none (λ e. e.caller == k && (opens_sole e.act x || returns e.act x)) es none)

sole_none : (es : List Event) (k : ℕ) (x : List ℕ) → AllByRecursion (IsQuiet x) es → sole_in es k x ≡ false
sole_none es k x q =
    sole_from es k x (all_imp (IsQuiet x) (λ e. (e.caller == k && (opens_sole e.act x || returns e.act x)) ≡ false)
    (λ e t. and_false (e.caller == k) (opens_sole e.act x || returns e.act x) (or_from (opens_sole e.act x) (returns e.act x) t.opened_solely t.returned)) es q)

sole_nobody : (names : List (List ℕ)) (callers : List ℕ) (es : List Event) (k : ℕ) (x : List ℕ) → AreCovered names callers es → has callers k ≡ false → sole_in es k x ≡ false
unfolding AreCovered
sole_nobody names callers es k x h n =
    sole_from es k x (all_imp (λ e. covers names callers e ≡ true) (λ e. (e.caller == k && (opens_sole e.act x || returns e.act x)) ≡ false)
    (λ e c. false_and (e.caller == k) (opens_sole e.act x || returns e.act x) (other_caller names callers k e n c)) es h)

-- ---- one event

int_is : (a b : ℤ) → int_eq a b ≡ true → a ≡ b
int_is a b h = (Decides-int_eq a b).0 h

-- what a test of each caller and name says of any, where it says nothing of those that no event has
at_each : (p : ℕ → List ℕ → Bool) (names : List (List ℕ)) (callers : List ℕ) → list_all (λ k. list_all (p k) names) callers ≡ true
    → (k : ℕ) (x : List ℕ) → has callers k ≡ true → is_among names x ≡ true → p k x ≡ true
at_each p names callers h k x y z = at_name (p k) names (at_number (λ k. list_all (p k) names) callers h k y) x z

record IsMentioned (names : List (List ℕ)) (callers : List ℕ) (k : ℕ) (x : List ℕ) : Type 0 where
  caller : has callers k ≡ true
  name : is_among names x ≡ true

held_at : (names : List (List ℕ)) (callers : List ℕ) (g : List Event) → AreCovered names callers g
    → (k : ℕ) (x : List ℕ) → (holds g k x ≡ pos 0) ⊎ IsMentioned names callers k x
held_at names callers g c k x =
    elim (cases_Bool (has callers k)) [
      | inr n ↦ inl (holds_nobody names callers g k x c n)
      | inl y ↦ elim (cases_Bool (is_among names x)) [
        | inr n ↦ inl (holds_none g k x (quiet_all names callers g x c n))
        | inl z ↦ inr (record { caller = y; name = z })
      ]
    ]

sole_at : (names : List (List ℕ)) (callers : List ℕ) (g : List Event) → AreCovered names callers g
    → (k : ℕ) (x : List ℕ) → sole_in g k x ≡ true → IsMentioned names callers k x
sole_at names callers g c k x s =
    elim (cases_Bool (has callers k)) [
      | inr n ↦ absurd (clash (sole_in g k x) s (sole_nobody names callers g k x c n))
      | inl y ↦ elim (cases_Bool (is_among names x)) [
        | inr n ↦ absurd (clash (sole_in g k x) s (sole_none g k x (quiet_all names callers g x c n)))
        | inl z ↦ record { caller = y; name = z }
      ]
    ]

lives_known : (names : List (List ℕ)) (callers : List ℕ) (g : List Event) (x : List ℕ) → AreCovered names callers g → lives g x ≡ true → is_among names x ≡ true
lives_known names callers g x c l =
    elim (cases_Bool (is_among names x)) [
      | inl y ↦ y
      | inr n ↦ absurd (clash (lives g x) l (lives_none g x (quiet_all names callers g x c n)))
    ]

if_held : (a b : Bool) → (not a || b) ≡ true → a ≡ true → b ≡ true
if_held true b h e = h
if_held false b h e = absurd cc

or_is : (a b : Bool) → (a || b) ≡ true → (a ≡ true) ⊎ (b ≡ true)
or_is true b h = inl refl
or_is false b h = inr h

at_some : (f : List ℕ → Bool) (o : Option (List ℕ)) (x : List ℕ) → option_map_or f o true ≡ true → o ≡ Some x → f x ≡ true
at_some f o x h e = subst (λ (p : Option (List ℕ)). option_map_or f p true ≡ true) e h

asleep_lives : (g : List Event) (x : List ℕ) → is_asleep_in g x ≡ true → lives g x ≡ true
unfolding is_asleep_in
asleep_lives g x s = (and_both (lives g x) _ s).0

count_is : (least : ℕ) (z : ℤ) → is_count least z ≡ true → IsCount least z
count_is least (pos n) h =
    let both = and_both (nat_le least n) (nat_le n 15) h in
    record { count = n; many = leb-true least n both.0; few = leb-true n 15 both.1; is = refl }
count_is least (negsuc n) h = absurd cc

none_is_count : (z : ℤ) → z ≡ pos 0 → IsCount 0 z
none_is_count z e = record { count = 0; many = omega arith; few = omega arith; is = e }

-- nobody else, be it one of the callers or not
others_none : (names : List (List ℕ)) (callers : List ℕ) (g : List Event) (k : ℕ) (x : List ℕ) → AreCovered names callers g
    → list_all (λ j. j == k || is_free_of g j x) callers ≡ true → (j : ℕ) → j ≢ k → holds g j x ≡ pos 0
others_none names callers g k x c h j apart =
    elim (cases_Bool (has callers j)) [
      | inr n ↦ holds_nobody names callers g j x c n
      | inl y ↦ elim (or_is (j == k) (is_free_of g j x) (at_number (λ j. j == k || is_free_of g j x) callers h j y)) [
        | inl e ↦ absurd (apart (eqb-true j k e))
        | inr z ↦ int_is (holds g j x) (pos 0) z
      ]
    ]

lawful_here : (names : List (List ℕ)) (callers : List ℕ) (before : List Event) (e : Event) → AreCovered names callers (before ++ e ∷ [])
    → covers names callers e ≡ true → is_lawful_here names callers before e (before ++ e ∷ []) ≡ true → IsLawfulNext before e
lawful_here names callers before e c ce h =
    let g : List Event = before ++ e ∷ [] in
    let t1 : Bool = option_map_or (free_test names callers g) (freed_name e.act) true in
    let t2 : Bool = list_all (children_sleep names g) names in
    let t3 : Bool = list_all (λ k. list_all (count_test g k) names) callers in
    let t4 : Bool = list_all (λ k. list_all (sole_test callers g k) names) callers in
    let t5 : Bool = list_all (transfer_test e g) names in
    let t6 : Bool = option_map_or (comes_test before e) (attached_name e.act) true in
    let a = and_both t1 (t2 && (t3 && (t4 && (t5 && t6)))) h in
    let b = and_both t2 (t3 && (t4 && (t5 && t6))) a.1 in
    let d = and_both t3 (t4 && (t5 && t6)) b.1 in
    let f = and_both t4 (t5 && t6) d.1 in
    let i = and_both t5 t6 f.1 in
    let all : list_all (λ m. is_among names m) (names_of e.act) ≡ true = (and_both (list_all (λ m. is_among names m) (names_of e.act)) (has callers e.caller) ce).0 in
    let freed : (x : List ℕ) → freed_name e.act ≡ Some x → (list_all (λ k. is_free_of g k x) callers ≡ true) × (list_all (λ y. not (is_child g x y)) names ≡ true) =
    λ x is. and_both (list_all (λ k. is_free_of g k x) callers) (list_all (λ y. not (is_child g x y)) names) (at_some (free_test names callers g) (freed_name e.act) x a.0 is) in
    let came : (x : List ℕ) → attached_name e.act ≡ Some x → (not (lives before x) ≡ true) × (is_below_awake before (attached_below e.act) ≡ true) =
    λ x is. and_both (not (lives before x)) (is_below_awake before (attached_below e.act)) (at_some (comes_test before e) (attached_name e.act) x i.1 is) in
    let counted : (k : ℕ) (x : List ℕ) → IsMentioned names callers k x → (is_count 0 (holds g k x) ≡ true) × ((lives g x || is_free_of g k x) ≡ true) =
    λ k x m. and_both (is_count 0 (holds g k x)) (lives g x || is_free_of g k x) (at_each (count_test g) names callers d.0 k x m.caller m.name) in
    record {
      unreferred = λ x is k. elim (cases_Bool (has callers k)) [
        | inl y ↦ int_is (holds g k x) (pos 0) (at_number (λ k. is_free_of g k x) callers (freed x is).0 k y)
        | inr n ↦ holds_nobody names callers g k x c n
      ];
      childless = λ x y is l p.
          let none : not (is_child g x y) ≡ true = at_name (λ y. not (is_child g x y)) names (freed x is).1 y (lives_known names callers g y c l) in
          clash (is_child g x y) (and_from (lives g y) (is_name (parent_in g y) x) l (named (parent_in g y) x p)) (not-true (is_child g x y) none);
      sleeping = λ x y s l p.
          let below : list_all (λ y. not (is_child g x y) || is_asleep_in g y) names ≡ true =
          if_held (is_asleep_in g x) (list_all (λ y. not (is_child g x y) || is_asleep_in g y) names)
          (at_name (children_sleep names g) names b.0 x (lives_known names callers g x c (asleep_lives g x s))) s in
          if_held (is_child g x y) (is_asleep_in g y) (at_name (λ y. not (is_child g x y) || is_asleep_in g y) names below y (lives_known names callers g y c l))
          (and_from (lives g y) (is_name (parent_in g y) x) l (named (parent_in g y) x p));
      held = λ k x. elim (held_at names callers g c k x) [
        | inl z ↦ none_is_count (holds g k x) z
        | inr m ↦ count_is 0 (holds g k x) (counted k x m).0
      ];
      held_live = λ k x l. elim (held_at names callers g c k x) [
        | inl z ↦ z
        | inr m ↦ elim (or_is (lives g x) (is_free_of g k x) (counted k x m).1) [
          | inl y ↦ absurd (clash (lives g x) y l)
          | inr z ↦ int_is (holds g k x) (pos 0) z
        ]
      ];
      held_in_use = λ x t. count_is 1 (holds g e.caller x)
          (if_held (transfers e.act x) (is_count 1 (holds g e.caller x))
          (at_name (transfer_test e g) names i.0 x (among_all (names_of e.act) names x all (transfers_has e.act x t))) t);
      sole = λ k x s.
          let m : IsMentioned names callers k x = sole_at names callers g c k x s in
          let one = and_both (int_eq (holds g k x) (pos 1)) (list_all (λ j. j == k || is_free_of g j x) callers)
          (if_held (sole_in g k x) (int_eq (holds g k x) (pos 1) && list_all (λ j. j == k || is_free_of g j x) callers)
          (at_each (sole_test callers g) names callers f.0 k x m.caller m.name) s) in
          (int_is (holds g k x) (pos 1) one.0, others_none names callers g k x c one.1);
      fresh = λ x is. not-true (lives before x) (came x is).0;
      below_awake = λ x is.
          elim (or_is (bytes_eq (attached_below e.act) root_name) (lives before (attached_below e.act) && not (is_asleep_in before (attached_below e.act))) (came x is).1) [
            | inl r ↦ inl (same_bytes (attached_below e.act) root_name r)
            | inr r ↦ let both = and_both (lives before (attached_below e.act)) (not (is_asleep_in before (attached_below e.act))) r in
                inr (both.0, not-true (is_asleep_in before (attached_below e.act)) both.1)
          ];
    }
  where
    named : (o : Option (List ℕ)) (x : List ℕ) → o ≡ Some x → is_name o x ≡ true
    named None x h = absurd cc
    named (Some y) x h = bytes_same y x (some_is y x h)
      where
        some_is : (a b : List ℕ) → Some a ≡ Some b → a ≡ b
        some_is a b e = cc

-- ---- a whole history

snoc : (names : List (List ℕ)) (callers : List ℕ) (es : List Event) (e : Event) → AreCovered names callers es → covers names callers e ≡ true → AreCovered names callers (es ++ e ∷ [])
unfolding AreCovered
snoc names callers [] e h here = (here, tt)
snoc names callers (x ∷ xs) e h here = (h.0, snoc names callers xs e h.1 here)

lawful_on : (names : List (List ℕ)) (callers : List ℕ) (before es : List Event) → AreCovered names callers before
    → list_all (covers names callers) es ≡ true → lawful_test names callers before es ≡ true → LawfulFrom before es
lawful_on names callers before [] c h t = tt
lawful_on names callers before (e ∷ es) c h t =
    let both = and_both (covers names callers e) (list_all (covers names callers) es) h in
    let test = and_both (is_lawful_here names callers before e (before ++ e ∷ [])) (lawful_test names callers (before ++ e ∷ []) es) t in
    let on : AreCovered names callers (before ++ e ∷ []) = snoc names callers before e c both.0 in
    (lawful_here names callers before e on both.0 test.0, lawful_on names callers (before ++ e ∷ []) es on both.1 test.1)

-- ---- the test over the names and callers of the history itself

abbrev pub distinct_names : List (List ℕ) → List (List ℕ)
distinct_names [] = []
distinct_names (x ∷ xs) = let rest = distinct_names xs in cond (is_among rest x) rest (x ∷ rest)

abbrev pub distinct_numbers : List ℕ → List ℕ
distinct_numbers [] = []
distinct_numbers (k ∷ ks) = let rest = distinct_numbers ks in cond (has rest k) rest (k ∷ rest)

abbrev pub passes_laws : List (List ℕ) → List ℕ → List Event → Bool
passes_laws names callers h = list_all (covers names callers) h && lawful_test names callers [] h

unfoldable pub keeps_laws : List Event → Bool
unfolding root_name lives parent_in is_asleep_in holds sole_in
keeps_laws h = passes_laws (distinct_names (flat_map (λ e. names_of e.act) h)) (distinct_numbers (map (λ e. e.caller) h)) h

passing : (names : List (List ℕ)) (callers : List ℕ) (h : List Event) → passes_laws names callers h ≡ true → Lawful h
unfolding AreCovered
passing names callers h t =
    let both = and_both (list_all (covers names callers) h) (lawful_test names callers [] h) t in
    lawful_on names callers [] h tt both.0 both.1

pub lawful_from : (h : List Event) → keeps_laws h ≡ true → Lawful h
unfolding keeps_laws
lawful_from h t = passing (distinct_names (flat_map (λ e. names_of e.act) h)) (distinct_numbers (map (λ e. e.caller) h)) h t
