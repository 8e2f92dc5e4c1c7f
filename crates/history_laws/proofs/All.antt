-- References granted, less those that came back, stay those that are held.
use Rattle.std.proofs.Common.{◌≡◌, ℕ, ◌+◌, ◌==◌, Bool, true, false, ◌&&◌, ◌||◌, cond, List, [], ◌∷◌, ◌++◌, length, refl, ap, ◌∙◌, arith, eqb-true, length-append}
use Rattle.std.specs.Prelude.{count_by}
use Rattle.std.specs.List.{list_any}
use Rattle.std.proofs.lemmas.Bool.{and_parts}
use Rattle.std.proofs.lemmas.List.Sums.{sum_by-append}
use Rattle.run_rules.specs.declared.event.Event.{Event}
use Rattle.run_rules.specs.declared.world.Ref.{Ref}
use Rattle.run_rules.specs.World.{holds_in}
use Rattle.run_rules.specs.References.{given_back, is_of, without_first}
use Rattle.run_rules.proofs.CountsOn.{count_on}
use Rattle.run_rules.proofs.References.{as_many, one_fewer}
use Rattle.history_laws.specs.Counted.{AreAllCounted, gives_back, grants}
use Rattle.history_laws.proofs.Referring.{with_one}

abbrev one_if : Bool → ℕ
one_if b = cond b 1 0

and_on : (b : Bool) → (b && true) ≡ b
and_on true = refl
and_on false = refl

and_off : (b : Bool) → (b && false) ≡ false
and_off true = refl
and_off false = refl

-- what the event adds to the counts
record Adds (h : List Event) (e : Event) (grant return : Bool) : Type 0 where
  all_granted : count_by (λ e. grants e.act) (h ++ e ∷ []) ≡ count_by (λ e. grants e.act) h + one_if grant
  all_back : count_by (λ e. gives_back e.act) (h ++ e ∷ []) ≡ count_by (λ e. gives_back e.act) h + one_if return
  granted : (k : ℕ) → count_by (λ e. e.caller == k && grants e.act) (h ++ e ∷ []) ≡ count_by (λ e. e.caller == k && grants e.act) h + one_if (e.caller == k && grant)
  back : (k : ℕ) → count_by (λ e. e.caller == k && gives_back e.act) (h ++ e ∷ []) ≡ count_by (λ e. e.caller == k && gives_back e.act) h + one_if (e.caller == k && return)

adds : (h : List Event) (e : Event) (grant back : Bool) → grants e.act ≡ grant → gives_back e.act ≡ back → Adds h e grant back
adds h e grant back a b = record {
  all_granted = count_on (λ e. grants e.act) h e ∙ ap (λ (c : Bool). count_by (λ e. grants e.act) h + one_if c) a;
  all_back = count_on (λ e. gives_back e.act) h e ∙ ap (λ (c : Bool). count_by (λ e. gives_back e.act) h + one_if c) b;
  granted = λ k. count_on (λ e. e.caller == k && grants e.act) h e ∙ ap (λ (c : Bool). count_by (λ e. e.caller == k && grants e.act) h + one_if (e.caller == k && c)) a;
  back = λ k. count_on (λ e. e.caller == k && gives_back e.act) h e ∙ ap (λ (c : Bool). count_by (λ e. e.caller == k && gives_back e.act) h + one_if (e.caller == k && c)) b;
}

pub all_quiet : (h : List Event) (e : Event) (refs : List Ref) → grants e.act ≡ false → gives_back e.act ≡ false → AreAllCounted h refs → AreAllCounted (h ++ e ∷ []) refs
all_quiet h e refs a b t =
    let more = adds h e false false a b in
    record {
      each = λ k. omega (arith, more.granted k, more.back k, ap one_if (and_off (e.caller == k)), t.each k);
      all = omega (arith, more.all_granted, more.all_back, t.all);
    }

-- a granted reference is its caller's
caller_more : (refs : List Ref) (k s j : ℕ) → count_by (λ r. r.caller == j) (with_one refs k s) ≡ count_by (λ r. r.caller == j) refs + one_if (k == j)
caller_more refs k s j = omega (arith, sum_by-append (λ (r : Ref). one_if (r.caller == j)) refs (record { serial = s; caller = k } ∷ []))

pub all_granted : (h : List Event) (e : Event) (refs : List Ref) (s : ℕ) → grants e.act ≡ true → gives_back e.act ≡ false → AreAllCounted h refs → AreAllCounted (h ++ e ∷ []) (with_one refs e.caller s)
all_granted h e refs s a b t =
    let more = adds h e true false a b in
    record {
      each = λ k. omega (arith, more.granted k, more.back k, ap one_if (and_on (e.caller == k)), ap one_if (and_off (e.caller == k)), t.each k, caller_more refs e.caller s k);
      all = omega (arith, more.all_granted, more.all_back, t.all, length-append refs (record { serial = s; caller = e.caller } ∷ []));
    }

-- one fewer
length_less : {A : Type 0} (p : A → Bool) (xs : List A) → list_any p xs ≡ true → length (without_first p xs) + 1 ≡ length xs
length_less p [] some = absurd cc
length_less {A} p (x ∷ xs) some = cases (p x) some (length_less p xs)
  where
    cases : (b : Bool) → (b || list_any p xs) ≡ true → (list_any p xs ≡ true → length (without_first p xs) + 1 ≡ length xs) → length (cond b xs (x ∷ without_first p xs)) + 1 ≡ length (x ∷ xs)
    cases true some rest = omega arith
    cases false some rest = omega (arith, rest some)

caller_less : (refs : List Ref) (k s j : ℕ) → holds_in refs k s ≡ true → count_by (λ r. r.caller == j) (given_back refs k s) + one_if (k == j) ≡ count_by (λ r. r.caller == j) refs
caller_less refs k s j held = cases (k == j) refl
  where
    own : (r : Ref) → is_of k s r ≡ true → r.caller ≡ k
    own r is = eqb-true r.caller k (and_parts (r.serial == s) (r.caller == k) is).1

    cases : (b : Bool) → (k == j) ≡ b → count_by (λ r. r.caller == j) (given_back refs k s) + one_if b ≡ count_by (λ r. r.caller == j) refs
    cases true same = one_fewer (is_of k s) (λ (r : Ref). r.caller == j) refs (λ r is. rw (own r is) same) held
    cases false other = omega (arith, as_many (is_of k s) (λ (r : Ref). r.caller == j) refs (λ r is. rw (own r is) other))

pub all_returned : (h : List Event) (e : Event) (refs : List Ref) (s : ℕ) → grants e.act ≡ false → gives_back e.act ≡ true → holds_in refs e.caller s ≡ true → AreAllCounted h refs
    → AreAllCounted (h ++ e ∷ []) (given_back refs e.caller s)
all_returned h e refs s a b held t =
    let more = adds h e false true a b in
    record {
      each = λ k. omega (arith, more.granted k, more.back k, ap one_if (and_on (e.caller == k)), ap one_if (and_off (e.caller == k)), t.each k, caller_less refs e.caller s k held);
      all = omega (arith, more.all_granted, more.all_back, t.all, length_less (is_of e.caller s) refs held);
    }
