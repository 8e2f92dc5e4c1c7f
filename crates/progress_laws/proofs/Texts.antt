-- The test of a script, and what it says.
use Rattle.std.proofs.Common.{◌≡◌, ◌↔◌, ℕ, ◌+◌, ◌-◌, ◌&&◌, ◌||◌, not, Bool, true, false, cond, List, [], ◌∷◌, ◌++◌, bytes_eq, refl, sym, ap, ◌∙◌, subst, arith}
use Rattle.std.specs.Prelude.{count_by}
use Rattle.std.specs.List.{AllByRecursion, list_any}
use Rattle.std.proofs.lemmas.List.Sums.{sum_by-append, sum_by-cons}
use Rattle.cf_types.specs.declared.machine.Command.{Command}
use Rattle.cf_types.specs.declared.machine.Command.TheVariants as command
use Rattle.run_rules.specs.References.{without_first}
use Rattle.run_rules.specs.Sound.{is_empty}
use Rattle.run_rules.proofs.References.{as_many, one_fewer}
use Rattle.history_laws.proofs.Names.{bytes_same, same_bytes}
use Rattle.progress_laws.specs.Plain.{LetsGoFirst, SparingPass, count_after, count_behind, is_freeing, lets_go, lets_go_first, open_after}

abbrev pub one_if : Bool → ℕ
one_if b = cond b 1 0

-- ---- names that may be open, and how many

abbrev pub count_of : List (List ℕ) → List ℕ → ℕ
count_of names x = count_by (λ n. bytes_eq n x) names

count_more : (n : List ℕ) (names : List (List ℕ)) (x : List ℕ) → count_of (n ∷ names) x ≡ count_of names x + one_if (bytes_eq n x)
count_more n names x = omega (arith, sum_by-cons (λ (y : List ℕ). one_if (bytes_eq y x)) n names)

count_none : (names : List (List ℕ)) (x : List ℕ) → list_any (λ n. bytes_eq n x) names ≡ false → (count_of names x ≡ 0) × (without_first (λ n. bytes_eq n x) names ≡ names)
count_none [] x h = (refl, refl)
count_none (n ∷ ns) x h = cases (count_none ns x) (bytes_eq n x) refl h
  where
    cases : (list_any (λ n. bytes_eq n x) ns ≡ false → (count_of ns x ≡ 0) × (without_first (λ n. bytes_eq n x) ns ≡ ns)) → (b : Bool) → bytes_eq n x ≡ b → (b || list_any (λ n. bytes_eq n x) ns) ≡ false
        → (count_of (n ∷ ns) x ≡ 0) × (without_first (λ n. bytes_eq n x) (n ∷ ns) ≡ n ∷ ns)
    cases more true e g = absurd cc
    cases more false e g = let rest = more g in (omega (arith, count_more n ns x, ap one_if e, rest.0), rw e (ap (λ (l : List (List ℕ)). n ∷ l) rest.1))

count_less : (names : List (List ℕ)) (name x : List ℕ) → count_of (without_first (λ n. bytes_eq n name) names) x ≡ count_of names x - one_if (bytes_eq name x)
count_less names name x = cases (bytes_eq name x) refl
  where
    some : (b : Bool) → list_any (λ n. bytes_eq n x) names ≡ b → count_of (without_first (λ n. bytes_eq n x) names) x ≡ count_of names x - 1
    some true e = let fewer = one_fewer (λ n. bytes_eq n x) (λ n. bytes_eq n x) names (λ n h. h) e in omega (arith, fewer)
    some false e = let none = count_none names x e in rw none.1 (omega (arith, none.0))

    cases : (b : Bool) → bytes_eq name x ≡ b → count_of (without_first (λ n. bytes_eq n name) names) x ≡ count_of names x - one_if b
    cases true e =
        subst (λ (y : List ℕ). count_of (without_first (λ n. bytes_eq n y) names) x ≡ count_of names x - 1) (sym (bytes_same name x e)) (some (list_any (λ n. bytes_eq n x) names) refl)
    cases false e =
        let same = as_many (λ n. bytes_eq n name) (λ n. bytes_eq n x) names (λ n h. ap (λ (y : List ℕ). bytes_eq y x) (bytes_same n name h) ∙ e) in
        omega (arith, same)

count_last : (names : List (List ℕ)) (n x : List ℕ) → count_of (names ++ n ∷ []) x ≡ count_of names x + one_if (bytes_eq n x)
count_last names n x = omega (arith, sum_by-append (λ (y : List ℕ). one_if (bytes_eq y x)) names (n ∷ []))

counts_on : (names : List (List ℕ)) (c : Command) (x : List ℕ) → count_of (open_after names c) x ≡ count_after (count_of names x) c x
counts_on names (command.OpenDev name) x = count_last names name x
counts_on names (command.OpenSole name) x = count_last names name x
counts_on names (command.CloseDev name) x = count_less names name x
counts_on names said x = refl

-- a name that may be open counts
none_open : (names : List (List ℕ)) → ((x : List ℕ) → count_of names x ≡ 0) → is_empty names ≡ true
none_open [] h = refl
none_open (n ∷ ns) h = let own : one_if (bytes_eq n n) ≡ 1 = ap one_if (same_bytes n n refl) in absurd (omega (arith, h n, count_more n ns n, own))

none_counts : (names : List (List ℕ)) → is_empty names ≡ true → (x : List ℕ) → count_of names x ≡ 0
none_counts [] h x = refl
none_counts (n ∷ ns) h x = absurd cc

-- ---- the test, where these may be open before the script

abbrev LetsGo : List (List ℕ) → List Command → Type 0
LetsGo names script =
    (before rest : List Command) (c : Command) → script ≡ before ++ c ∷ rest → is_freeing c ≡ true → (x : List ℕ) → count_behind (count_of names x) before x ≡ 0

both : (a b : Bool) → (a && b) ≡ true → (a ≡ true) × (b ≡ true)
both true true h = (refl, refl)
both true false h = absurd cc
both false b h = absurd cc

must : (f n : Bool) → (not f || n) ≡ true → f ≡ true → n ≡ true
must true true h e = refl
must true false h e = absurd cc
must false n h e = absurd cc

may : (f n : Bool) → (f ≡ true → n ≡ true) → (not f || n) ≡ true
may true n h = h refl
may false n h = refl

no_split : (before rest : List Command) (c : Command) → [] ≡ before ++ c ∷ rest → ⊥
no_split [] rest c e = cc
no_split (b ∷ bs) rest c e = cc

head_is : (a b : Command) (xs ys : List Command) → a ∷ xs ≡ b ∷ ys → (a ≡ b) × (xs ≡ ys)
head_is a b xs ys e = (cc, cc)

passes : (names : List (List ℕ)) (script : List Command) → lets_go names script ≡ true → LetsGo names script
passes names [] h before rest c e frees x = absurd (no_split before rest c e)
passes names (s ∷ ss) h [] rest c e frees x =
    let parts = both (not (is_freeing s) || is_empty names) (lets_go (open_after names s) ss) h in
    let same = head_is s c ss rest e in
    none_counts names (must (is_freeing s) (is_empty names) parts.0 (ap is_freeing same.0 ∙ frees)) x
passes names (s ∷ ss) h (b ∷ bs) rest c e frees x =
    let parts = both (not (is_freeing s) || is_empty names) (lets_go (open_after names s) ss) h in
    let same = head_is s b ss (bs ++ c ∷ rest) e in
    ap (λ (n : ℕ). count_behind n bs x) (ap (λ (d : Command). count_after (count_of names x) d x) (sym same.0) ∙ sym (counts_on names s x))
    ∙ passes (open_after names s) ss parts.1 bs rest c same.1 frees x

comes_through : (names : List (List ℕ)) (script : List Command) → LetsGo names script → lets_go names script ≡ true
comes_through names [] h = refl
comes_through names (s ∷ ss) h =
    rw (may (is_freeing s) (is_empty names) (λ frees. none_open names (λ x. h [] ss s refl frees x)))
    (comes_through (open_after names s) ss (λ before rest c e frees x.
    ap (λ (n : ℕ). count_behind n before x) (counts_on names s x) ∙ h (s ∷ before) rest c (ap (λ (l : List Command). s ∷ l) e) frees x))

pub test_decides : (script : List Command) → (lets_go_first script ≡ true) ↔ LetsGoFirst script
test_decides script = (passes [] script, comes_through [] script)

-- ---- one command more

pub behind_one : (n : ℕ) (cs : List Command) (c : Command) (x : List ℕ) → count_behind n (cs ++ c ∷ []) x ≡ count_after (count_behind n cs x) c x
behind_one n [] c x = refl
behind_one n (d ∷ ds) c x = behind_one (count_after n d x) ds c x

-- a detach or an unplug opens and closes nothing
pub freeing_leaves : (n : ℕ) (c : Command) (x : List ℕ) → is_freeing c ≡ true → count_after n c x ≡ n
freeing_leaves n (command.Detach name) x h = refl
freeing_leaves n (command.Unplug name) x h = refl
freeing_leaves n said x h = absurd cc

-- what frees nothing is never refused
spares : (names : List (List ℕ)) (script : List Command) → AllByRecursion (λ c. is_freeing c ≡ false) script → lets_go names script ≡ true
spares names [] h = refl
spares names (c ∷ cs) h = rw (h.0, spares (open_after names c) cs h.1) refl

pub sparing_pass : SparingPass
sparing_pass script h = spares [] script h
